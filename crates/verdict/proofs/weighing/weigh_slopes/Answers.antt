use Rattle.std.proofs.Common.{◌≡◌, ◌+◌, refl, rules}
use Rattle.kinds.specs.declared.refusal.Cause.TheVariants.{Multiplier, Column}
use Rattle.objective.specs.Objective.{KindsLaws, three}
use Rattle.reader.specs.declared.fault.Layer.TheVariants as layer
use Rattle.reader.specs.Faults.{Least, found_by}
use Rattle.reader.specs.Readable.{figures_of}
use Rattle.verdict.specs.Stages.{Floored}
use Rattle.verdict.specs.Wrong.{lines_of, Wrong}
use Rattle.verdict.proofs.Refused.{faulted}
use Rattle.verdict.proofs.Weighed.{slopes_stop, floored, multipliers_weighed}
use Rattle.verdict.proofs.weighing.weigh_slopes.Goals as goal

pub returns : goal.returns
returns g c =
    let k = three (g.R.Roughness.meaning c.args.kinds.now.roughness) (g.M.Penalty.meaning c.args.kinds.now.misfit) (g.B.Penalty.meaning c.args.kinds.now.bend) in
    let law : KindsLaws k = record { roughness = g.met.R.Roughness.kept c.args.kinds.now.roughness; misfit = g.met.M.Penalty.kept c.args.kinds.now.misfit; bend = g.met.B.Penalty.kept c.args.kinds.now.bend } in
    let contents = c.args.contents.now in
    let figures = figures_of contents in
    let weighs = multipliers_weighed k contents _ _ c.weigh_multipliers.result c.requires.ready.given.head c.readings.ensures c.multipliers.ensures c.weigh_multipliers.ensures in
    faulted _ (Floored k figures) (Least (Wrong k figures)) _ _ c.weigh_multipliers.result c.map_err.result weighs.answered c.map_err.ensures.cases (floored k figures _ _ _ refl weighs) (λ e f off told.
    let multiplier : e.cause ≡ Multiplier → f ≡ found_by layer.Figures Multiplier ((lines_of figures).multipliers + e.place) = λ (h : e.cause ≡ Multiplier). search rules in
    let column : e.cause ≡ Column → f ≡ found_by layer.Figures Column ((lines_of figures).readings + e.place) = λ (h : e.cause ≡ Column). search rules in
    slopes_stop k figures c.requires.ready law c.requires.values e f multiplier column off)
