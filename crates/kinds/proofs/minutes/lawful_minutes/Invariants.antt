use Rattle.std.proofs.Common.{◌≡◌, drop}
use Rattle.kinds.specs.Minutes.{lawful_from, lawful}
use Rattle.kinds.proofs.minutes.lawful_minutes.Given as goal

abbrev pub invariant-loop-minute : goal.invariant-loop-minute
invariant-loop-minute l = lawful_from l.last (drop l.minute-index l.minutes) ≡ lawful l.minutes
