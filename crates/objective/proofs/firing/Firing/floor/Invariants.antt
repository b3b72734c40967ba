use Rattle.std.proofs.Common.{◌≡◌, ◌*◌, ◌≤◌, length, drop, ◌+ℤ◌, nat_abs}
use Rattle.kinds.specs.Figures.{dot}
use Rattle.objective.specs.Objective.{crudes}
use Rattle.objective.proofs.firing.Firing.floor.Given as goal

abbrev pub invariant-loop-column : goal.invariant-loop-column
invariant-loop-column g l =
    (l.sum +ℤ dot (drop (length l.yielded) l.columns) (crudes (drop (length l.yielded) l.self.readings.now)) ≡ dot l.columns (crudes l.self.readings.now))
    × (nat_abs l.sum ≤ 20000000000000000 * length l.yielded)
