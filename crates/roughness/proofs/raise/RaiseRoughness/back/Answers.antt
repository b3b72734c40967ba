use Rattle.std.proofs.Common.{length}
use Rattle.roughness.specs.Maps.{raised}
use Rattle.roughness.proofs.Layer.{back_passed, fits_below, lower_columns, handed_up}
use Rattle.roughness.proofs.raise.RaiseRoughness.back.Goals as goal

pub write_differences_back-requires : goal.write_differences_back-requires
write_differences_back-requires g c =
    let B = c.args.self.now.below in
    let k = g.R.Roughness.meaning B in
    let passed = back_passed (raised k) c.args.minutes.now c.args.multipliers.now (length c.args.columns.now) c.growth.ensures c.reach-reach.ensures c.in_ok-check_back.ensures in
    fits_below k (g.met.R.Roughness.kept B) (length c.args.columns.now) c.args.minutes.now c.args.multipliers.now passed

pub returns : goal.returns
returns g c =
    let B = c.args.self.now.below in
    let k = g.R.Roughness.meaning B in
    let passed = back_passed (raised k) c.args.minutes.now c.args.multipliers.now (length c.args.columns.now) c.growth.ensures c.reach-reach.ensures c.in_ok-check_back.ensures in
    let part = lower_columns k c.reach-reach.result (length c.args.columns.now) c.args.minutes.now c.args.multipliers.now c.write_differences_back.new.columns _ c.reach-reach.ensures passed c.write_differences_back.ensures in
    handed_up k (length c.args.columns.now) c.args.minutes.now c.args.multipliers.now _ _ _ _ passed part c.back.ensures
