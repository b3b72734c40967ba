use Rattle.std.proofs.Common.{length, List, ℤ, Some, ◌≡◌, ◌∙◌, w64}
use Rattle.std.proofs.lemmas.Int.{to_z-of_z}
use Rattle.std.proofs.lemmas.Result.{err_from_is_err_and}
use Rattle.kinds.specs.declared.reading.Reading.{Reading}
use Rattle.kinds.proofs.Bits.{from_bits}
use Rattle.objective.specs.Checks.{begun_no}
use Rattle.objective.specs.Objective.{three}
use Rattle.objective.specs.Promises.{WeighsTable}
use Rattle.objective.proofs.Weighing.{begun_table, moved, table_refused}
use Rattle.objective.proofs.weigh.weigh_table.Goals as goal

pub returns-in_err-new : goal.returns-in_err-new
returns-in_err-new g c =
    let k = three (g.R.Roughness.meaning c.args.kinds.now.roughness) (g.M.Penalty.meaning c.args.kinds.now.misfit) (g.B.Penalty.meaning c.args.kinds.now.bend) in
    let h = c.args.stiffness in
    let xs = c.args.readings.now in
    let p = err_from_is_err_and c.from_residual.result c.from_residual.ensures.1 in
    let no_because = from_bits (λ (h : ℤ). begun_no k h xs ≡ Some c.in_err-new.field-0.0) h c.ranges.stiffness c.in_err-new.ensures in
    rw (p.1, p.2) (table_refused k h xs c.args.table.now c.args.rows.now _ (begun_table k h xs c.args.table.now (length c.args.rows.now) _ no_because))

pub returns : goal.returns
returns g c =
    let h = c.args.stiffness in
    let same = c.in_ok-new.ensures in
    moved (λ k (h : ℤ) (xs : List Reading). WeighsTable (three (g.R.Roughness.meaning k.roughness) (g.M.Penalty.meaning k.misfit) (g.B.Penalty.meaning k.bend)) h xs c.args.table.now c.args.rows.now c.weigh_table.new.rows c.weigh_table.result)
    same.0 (same.1 ∙ to_z-of_z w64 h c.ranges.stiffness) same.2 c.weigh_table.ensures
