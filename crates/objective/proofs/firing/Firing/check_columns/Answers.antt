use Rattle.std.proofs.Common.{nat_abs, None, Option, ℕ, ap, ◌∙◌, rules, tests, arith}
use Rattle.std.proofs.lemmas.Iterator.{YieldsList-from_slice, YieldsList-from_zip}
use Rattle.std.proofs.lemmas.Iterator.Adapters.{serves_from_places}
use Rattle.std.proofs.lemmas.Iterator.Search.{position_from_yields_List}
use Rattle.kinds.specs.declared.refusal.Cause.TheVariants.{Column}
use Rattle.kinds.specs.Checks.{answer, located}
use Rattle.kinds.proofs.Places.{size_at}
use Rattle.objective.specs.Checks.{has_figures}
use Rattle.objective.proofs.Noted.{figures_at}
use Rattle.objective.proofs.Slopes.{column_off, position_column}
use Rattle.objective.proofs.Stored.{paired}
use Rattle.objective.proofs.firing.Firing.check_columns.Goals as goal

pub position-off-requires-clause-callable : goal.position-off-requires-clause-callable
position-off-requires-clause-callable g c =
    let cs = c.args.columns.now in
    let xs = c.args.self.now.readings.now in
    serves_from_places (YieldsList-from_zip (YieldsList-from_slice cs cc) (YieldsList-from_slice xs cc)) (λ x q r. search rules)
    (λ x k h e.
    let pair = paired cs xs k x.0.now x.1.now h e in
    (ap has_figures pair.reading ∙ figures_at 0 None xs c.args.self.now.noted k pair.below, omega (arith, ap nat_abs pair.figure, size_at cs k, c.requires.small)))

pub returns : goal.returns
returns g c =
    let cs = c.args.columns.now in
    let xs = c.args.self.now.readings.now in
    let p = g.M.Penalty.meaning c.args.self.now.kinds.now.misfit in
    let d = nat_abs c.args.denominator.value in
    let off =
    position_from_yields_List (column_off p d) c.position-off.new.self _ c.position-off.result c.position-off.ensures.ran (YieldsList-from_zip (YieldsList-from_slice cs cc) (YieldsList-from_slice xs cc)) (λ x b q k. search (rules, tests))
    ∙ position_column p d cs xs in
    c.check_found.ensures ∙ ap (λ (o : Option ℕ). answer (located Column o) tt) off
