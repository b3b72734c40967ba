use Rattle.std.proofs.Common.{ℤ, nat_abs, ◌∙◌, ap₂}
use Rattle.objective.proofs.Noted.{weighs, crude_value}
use Rattle.objective.proofs.Stored.{weight_back, residual_back}
use Rattle.objective.proofs.firing.Firing.residual_cost.Goals as goal

pub returns-clause-value : goal.returns-clause-value
returns-clause-value g c =
    let p = g.M.Penalty.meaning c.args.self.now.kinds.now.misfit in
    let x = c.args.reading.now in
    c.cost_at.ensures.value
    ∙ ap₂ (λ (w : ℤ) (r : ℤ). p.cost (nat_abs w) r) (weight_back x.weight (weighs x c.requires.figures)) (residual_back c.args.value x.crude c.requires.value (crude_value x c.requires.figures))
