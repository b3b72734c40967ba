use Rattle.std.proofs.Common.{get_or, pos, ap, ◌∙◌, arith}
use Rattle.kinds.specs.Penalty.{is_weight, is_residual}
use Rattle.kinds.proofs.Places.{size_at}
use Rattle.objective.proofs.Stored.{weight_back, row_back}
use Rattle.objective.proofs.Totals.{stiffness_weighs, small_residual}
use Rattle.objective.proofs.firing.Firing.bend_cost.Goals as goal

pub cost_at-sum-requires : goal.cost_at-sum-requires
cost_at-sum-requires g c =
    let rs = c.args.rows.now in
    let i = c.loop-row.row-index in
    let h = c.args.self.now.stiffness in
    let weight = stiffness_weighs h c.args.self.now.stiff in
    let row = small_residual (get_or rs i (pos 0)) (omega (arith, size_at rs i, c.requires.small)) in
    record {
      steep = c.args.self.now.bend_steep;
      weighs = ap is_weight (weight_back h weight) ∙ weight;
      small = ap is_residual (row_back (get_or rs i (pos 0)) row) ∙ row;
    }
