use Rattle.std.proofs.Common.{ℤ, not, ◌∙◌, rules, tests}
use Rattle.std.proofs.lemmas.Iterator.{YieldsList-from_slice}
use Rattle.std.proofs.lemmas.Iterator.Search.{position_from_yields_List}
use Rattle.objective.specs.Checks.{is_value}
use Rattle.objective.proofs.Searches.{position_off}
use Rattle.objective.proofs.tables.first_off_value.Goals as goal

pub returns : goal.returns
returns c =
    let vs = c.args.values.now in
    position_from_yields_List (λ (v : ℤ). not (is_value v)) _ _ c.position.result c.position.ensures.ran (YieldsList-from_slice vs cc) (λ x b q k. search (rules, tests))
    ∙ position_off is_value vs
