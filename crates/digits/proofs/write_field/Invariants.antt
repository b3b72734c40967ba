use Rattle.std.proofs.Common.{◌≡◌, ◌++◌, length, drop}
use Rattle.digits.specs.Fields.{field}
use Rattle.digits.proofs.write_field.Given as goal

abbrev pub invariant-loop-at : goal.invariant-loop-at
invariant-loop-at l = field l.at l.rest ++ drop l.at l.place ≡ field (length l.place) l.figure
