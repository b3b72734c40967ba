use Rattle.std.proofs.Common.{◌∙◌}
use Rattle.std.proofs.lemmas.Int.{to_z-of_z}
use Rattle.objective.proofs.Slopes.{slope_or_false, denominator_fits}
use Rattle.objective.proofs.mild.slope_fits.Goals as goal

pub returns : goal.returns
returns g c =
    let fw = c.ranges.weight in
    let fd = denominator_fits c.args.denominator.value c.args.denominator.divides in
    let fs = c.ranges.slope in
    let told = simp to_z-of_z at c.allows.ensures in
    c.unwrap_or.ensures
    ∙ slope_or_false (g.P.Penalty.meaning c.args.penalty.now) (g.met.P.Penalty.kept c.args.penalty.now) c.requires.steep c.args.weight c.args.denominator.value c.args.slope c.allows.result told c.requires.weighs c.args.denominator.divides
