use Rattle.std.proofs.Common.{◌≡◌, ◌+◌, ◌*◌, ◌≤◌, drop, nat_abs}
use Rattle.objective.specs.Objective.{bend_cost}
use Rattle.objective.proofs.firing.Firing.bend_cost.Given as goal

abbrev pub invariant-loop-row : goal.invariant-loop-row
invariant-loop-row g l =
    (l.sum + bend_cost (g.B.Penalty.meaning l.self.kinds.now.bend) (nat_abs l.self.stiffness) (drop l.row-index l.rows) ≡ bend_cost (g.B.Penalty.meaning l.self.kinds.now.bend) (nat_abs l.self.stiffness) l.rows)
    × (l.sum ≤ 4000000000000 * l.row-index)
