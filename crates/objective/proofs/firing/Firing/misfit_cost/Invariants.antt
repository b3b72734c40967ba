use Rattle.std.proofs.Common.{◌≡◌, ◌+◌, ◌*◌, ◌≤◌, length, drop}
use Rattle.objective.specs.Objective.{misfit_cost}
use Rattle.objective.proofs.firing.Firing.misfit_cost.Given as goal

abbrev pub invariant-loop-reading : goal.invariant-loop-reading
invariant-loop-reading g l =
    (l.sum + misfit_cost (g.M.Penalty.meaning l.self.kinds.now.misfit) (drop (length l.yielded) l.self.readings.now) (drop (length l.yielded) l.table) ≡ misfit_cost (g.M.Penalty.meaning l.self.kinds.now.misfit) l.self.readings.now l.table)
    × (l.sum ≤ 4000000000000 * length l.yielded)
