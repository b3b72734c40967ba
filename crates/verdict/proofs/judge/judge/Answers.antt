use Rattle.std.proofs.Common.{◌≡◌, ◌+◌, Some, None, Err, rules}
use Rattle.std.proofs.lemmas.Result.{err_from_is_err_and}
use Rattle.objective.specs.Checks.{kinds_no}
use Rattle.objective.specs.Objective.{KindsLaws, three}
use Rattle.reader.specs.declared.fault.Layer.TheVariants as layer
use Rattle.reader.specs.Faults.{found_by}
use Rattle.reader.specs.Readable.{figures_of}
use Rattle.reader.proofs.Same.{no_unreadable}
use Rattle.verdict.specs.Verdicts.{Judges}
use Rattle.verdict.proofs.Judging.{steep_judged, unread_judged, wrong_judged, right_judged}
use Rattle.verdict.proofs.Refused.{passed_on, refused_on}
use Rattle.verdict.proofs.judge.judge.Goals as goal

pub returns-in_err-map_err : goal.returns-in_err-map_err
returns-in_err-map_err g c =
    let k = three (g.R.Roughness.meaning c.args.kinds.now.roughness) (g.M.Penalty.meaning c.args.kinds.now.misfit) (g.B.Penalty.meaning c.args.kinds.now.bend) in
    let p = err_from_is_err_and c.from_residual.result c.from_residual.ensures.1 in
    rw (p.1, p.2)
    (refused_on _ (λ f. Judges k c.args.file.now (Err f)) (kinds_no k) tt _ c.check_kinds.result c.map_err.result c.check_kinds.ensures c.map_err.ensures.cases c.in_err-map_err.was (λ e f off told.
    let is : f ≡ found_by layer.Figures e.cause (0 + e.place) = search rules in
    rw is (steep_judged k c.args.file.now e off)))

pub returns-in_err-contents : goal.returns-in_err-contents
returns-in_err-contents g c =
    let k = three (g.R.Roughness.meaning c.args.kinds.now.roughness) (g.M.Penalty.meaning c.args.kinds.now.misfit) (g.B.Penalty.meaning c.args.kinds.now.bend) in
    let kinds : kinds_no k ≡ None = passed_on _ (kinds_no k) tt _ c.check_kinds.result c.map_err.result c.check_kinds.ensures c.map_err.ensures.cases c.in_ok-map_err.was in
    let read = c.in_err-contents.ensures in
    let p = err_from_is_err_and c.from_residual-in_err-contents.result c.from_residual-in_err-contents.ensures.1 in
    rw (p.1, p.2) (unread_judged k c.args.file.now kinds _ c.wanted_by.ensures _ read.answered read.back)

pub returns-in_err-check_figures : goal.returns-in_err-check_figures
returns-in_err-check_figures g c =
    let k = three (g.R.Roughness.meaning c.args.kinds.now.roughness) (g.M.Penalty.meaning c.args.kinds.now.misfit) (g.B.Penalty.meaning c.args.kinds.now.bend) in
    let law : KindsLaws k = record { roughness = g.met.R.Roughness.kept c.args.kinds.now.roughness; misfit = g.met.M.Penalty.kept c.args.kinds.now.misfit; bend = g.met.B.Penalty.kept c.args.kinds.now.bend } in
    let kinds : kinds_no k ≡ None = passed_on _ (kinds_no k) tt _ c.check_kinds.result c.map_err.result c.check_kinds.ensures c.map_err.ensures.cases c.in_ok-map_err.was in
    let read = c.in_ok-contents.ensures in
    let p = err_from_is_err_and c.from_residual-in_err-check_figures.result c.from_residual-in_err-check_figures.ensures.1 in
    rw (p.1, p.2) (wrong_judged k c.args.file.now kinds _ c.wanted_by.ensures c.in_ok-contents.contents read.answered.0 read.answered.1 read.back law (no_unreadable (Some c.wanted_by.result) (figures_of c.in_ok-contents.contents) read.answered.0 c.args.file.now read.answered.1) _ c.in_err-check_figures.ensures)

pub returns : goal.returns
returns g c =
    let k = three (g.R.Roughness.meaning c.args.kinds.now.roughness) (g.M.Penalty.meaning c.args.kinds.now.misfit) (g.B.Penalty.meaning c.args.kinds.now.bend) in
    let kinds : kinds_no k ≡ None = passed_on _ (kinds_no k) tt _ c.check_kinds.result c.map_err.result c.check_kinds.ensures c.map_err.ensures.cases c.in_ok-map_err.was in
    let read = c.in_ok-contents.ensures in
    let right = c.in_ok-check_figures.ensures in
    right_judged k c.args.file.now kinds _ c.wanted_by.ensures c.in_ok-contents.contents read.answered.0 read.answered.1 read.back right.0 right.1
