use Rattle.std.proofs.Common.{◌<◌, ◌^◌}
use Rattle.words.proofs.Decimal.{Summed}
use Rattle.words.proofs.figures.size.Given as goal

abbrev pub invariant-loop-byte : goal.invariant-loop-byte
invariant-loop-byte l = record { summed : Summed l.digits l.byte-index l.sum; fits : l.sum < 2 ^ 64 }
