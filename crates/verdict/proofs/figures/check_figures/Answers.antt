use Rattle.std.proofs.Common.{w64, SFits, rules}
use Rattle.kinds.proofs.Bits.{to_bits}
use Rattle.objective.specs.Objective.{KindsLaws, three}
use Rattle.reader.specs.Readable.{figures_of}
use Rattle.verdict.specs.Stages.{Ready, Floored}
use Rattle.verdict.proofs.Passing.{figures_judged}
use Rattle.verdict.proofs.figures.check_figures.Goals as goal

pub returns : goal.returns
returns g c =
    let k = three (g.R.Roughness.meaning c.args.kinds.now.roughness) (g.M.Penalty.meaning c.args.kinds.now.misfit) (g.B.Penalty.meaning c.args.kinds.now.bend) in
    let law : KindsLaws k = record { roughness = g.met.R.Roughness.kept c.args.kinds.now.roughness; misfit = g.met.M.Penalty.kept c.args.kinds.now.misfit; bend = g.met.B.Penalty.kept c.args.kinds.now.bend } in
    let figures = figures_of c.args.contents.now in
    let ready : Ready k figures = record { kinds = c.requires.kinds; form = c.requires.form; given = c.in_ok-check_given.ensures } in
    let floor = c.in_ok-floor.floor in
    let fits : SFits w64 floor = search rules in
    figures_judged k figures law ready c.in_ok-cost.cost _ c.in_ok-cost.ensures (to_bits (Floored k figures) floor fits c.in_ok-floor.ensures) c.check_end.result c.check_end.ensures
