use Rattle.std.proofs.Common.{◌≡◌, take}
use Rattle.digits.specs.Fields.{Digits, field, Fits}
use Rattle.digits.proofs.digits_value.Given as goal

abbrev pub invariant-loop-byte : goal.invariant-loop-byte
invariant-loop-byte l = Fits l.byte-index l.figure × (Digits l.bytes → field l.byte-index l.figure ≡ take l.byte-index l.bytes)
