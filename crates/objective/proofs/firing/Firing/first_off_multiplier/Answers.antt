use Rattle.std.proofs.Common.{ℤ, not, nat_abs, ◌∙◌, rules, tests}
use Rattle.std.proofs.lemmas.Iterator.{YieldsList-from_slice}
use Rattle.std.proofs.lemmas.Iterator.Search.{position_from_yields_List}
use Rattle.objective.proofs.Searches.{position_off}
use Rattle.objective.proofs.firing.Firing.first_off_multiplier.Goals as goal

pub returns : goal.returns
returns g c =
    let self = c.args.self.now in
    let ms = c.args.multipliers.now in
    let allows = (g.B.Penalty.meaning self.kinds.now.bend).allows (nat_abs self.stiffness) (nat_abs c.args.denominator.value) in
    position_from_yields_List (λ (m : ℤ). not (allows m)) _ _ c.position.result c.position.ensures.ran (YieldsList-from_slice ms cc) (λ x b q k. search (rules, tests))
    ∙ position_off allows ms
