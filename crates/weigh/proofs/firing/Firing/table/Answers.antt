use Rattle.std.proofs.Common.{length, Ok, ap, ap₂, ◌∙◌}
use Rattle.std.proofs.lemmas.Result.{err_from_is_err_and}
use Rattle.kinds.proofs.Passing.{passed}
use Rattle.weigh.specs.Answered.{table, kinds_of, noted, table_no}
use Rattle.weigh.proofs.Ways.{refused_said, passed_said, told_value, law_of, rows_again}
use Rattle.weigh.proofs.firing.Firing.table.Goals as goal

pub returns-in_err-cost-clause-answered : goal.returns-in_err-cost-clause-answered
returns-in_err-cost-clause-answered c =
    let checks = table_no c.args.self.now c.args.values.now (length c.args.place.now) in
    let p = err_from_is_err_and c.from_residual.result c.from_residual.ensures.1 in
    rw (p.1, p.2) (refused_said checks _ c.in_err-cost.field-0.0 _ c.in_err-cost.ensures.answered)

pub returns-clause-answered : goal.returns-clause-answered
returns-clause-answered c =
    let f = c.args.self.now in
    let vs = c.args.values.now in
    let before = c.args.place.now in
    let checks = table_no f vs (length before) in
    let told = c.in_ok-cost.ensures.answered in
    let rows = rows_again (kinds_of f) (law_of f.given.kinds.roughness) f.given.stiffness (noted f) vs before c.cost.new.place c.rows.result (passed checks _ _ told) c.in_ok-cost.ensures.place c.rows.ensures in
    ap Ok (ap₂ table (told_value checks c.in_ok-cost.cost _ told) rows) ∙ passed_said checks _ c.in_ok-cost.cost _ told
