use Rattle.std.proofs.Common.{length, List, ℤ, Some, ◌≡◌, ◌∙◌, w64, to_z, of_z}
use Rattle.std.proofs.lemmas.Int.{to_z-of_z}
use Rattle.std.proofs.lemmas.Result.{err_from_is_err_and}
use Rattle.kinds.specs.declared.reading.Reading.{Reading}
use Rattle.kinds.proofs.Bits.{from_bits}
use Rattle.objective.specs.Checks.{begun_no}
use Rattle.objective.specs.Objective.{KindsLaws, three}
use Rattle.objective.specs.Promises.{WeighsMultipliers}
use Rattle.objective.proofs.Flooring.{floor_refused, stopped_before}
use Rattle.objective.proofs.Weighing.{begun_multipliers, moved}
use Rattle.objective.proofs.weigh.weigh_multipliers.Goals as goal

pub returns-in_err-new : goal.returns-in_err-new
returns-in_err-new g c =
    let kinds = c.args.kinds.now in
    let k = three (g.R.Roughness.meaning kinds.roughness) (g.M.Penalty.meaning kinds.misfit) (g.B.Penalty.meaning kinds.bend) in
    let law : KindsLaws k = record { roughness = g.met.R.Roughness.kept kinds.roughness; misfit = g.met.M.Penalty.kept kinds.misfit; bend = g.met.B.Penalty.kept kinds.bend } in
    let h = c.args.stiffness in
    let xs = c.args.readings.now in
    let d = c.args.denominator in
    let ms = c.args.multipliers.now in
    let before = c.args.columns.now in
    let p = err_from_is_err_and c.from_residual.result c.from_residual.ensures.1 in
    let no_because = from_bits (λ (h : ℤ). begun_no k h xs ≡ Some c.in_err-new.field-0.0) h c.ranges.stiffness c.in_err-new.ensures in
    rw (p.1, p.2) (floor_refused k law h xs d ms before _ (stopped_before k h xs d ms (length before) _ (begun_multipliers k h xs d ms (length before) _ no_because)))

pub returns : goal.returns
returns g c =
    let h = c.args.stiffness in
    let d = c.args.denominator in
    let same = c.in_ok-new.ensures in
    from_bits (λ (d : ℤ). WeighsMultipliers (three (g.R.Roughness.meaning c.args.kinds.now.roughness) (g.M.Penalty.meaning c.args.kinds.now.misfit) (g.B.Penalty.meaning c.args.kinds.now.bend)) h c.args.readings.now d c.args.multipliers.now c.args.columns.now c.weigh_multipliers.new.columns c.weigh_multipliers.result) d c.ranges.denominator
    (moved (λ k (h : ℤ) (xs : List Reading). WeighsMultipliers (three (g.R.Roughness.meaning k.roughness) (g.M.Penalty.meaning k.misfit) (g.B.Penalty.meaning k.bend)) h xs (to_z w64 (of_z w64 d)) c.args.multipliers.now c.args.columns.now c.weigh_multipliers.new.columns c.weigh_multipliers.result)
    same.0 (same.1 ∙ to_z-of_z w64 h c.ranges.stiffness) same.2 c.weigh_multipliers.ensures)
