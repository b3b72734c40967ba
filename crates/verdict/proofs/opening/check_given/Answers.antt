use Rattle.std.proofs.Common.{List, ap, ◌∙◌, ◌≡◌, ◌+◌, None, arith, rules}
use Rattle.std.proofs.lemmas.Result.{err_from_is_err_and}
use Rattle.kinds.specs.declared.reading.Reading.{Reading}
use Rattle.kinds.specs.Checks.{answer}
use Rattle.objective.specs.Checks.{readings_no}
use Rattle.objective.specs.Objective.{KindsMeaning}
use Rattle.reader.specs.declared.fault.Layer.TheVariants as layer
use Rattle.reader.specs.Faults.{found_by, Least}
use Rattle.reader.specs.Readable.{figures_of}
use Rattle.verdict.specs.Stages.{head_no, InOrder}
use Rattle.verdict.specs.Wrong.{lines_of, Wrong}
use Rattle.verdict.proofs.Clear.{clear_head}
use Rattle.verdict.proofs.Held.{readings_held}
use Rattle.verdict.proofs.Refused.{faulted, passed_on, refused_on}
use Rattle.verdict.proofs.Stops.{settled, head_stops, readings_stop}
use Rattle.verdict.proofs.opening.check_given.Goals as goal

pub returns-in_err-map_err : goal.returns-in_err-map_err
returns-in_err-map_err c =
    let g = figures_of c.args.contents.now in
    let p = err_from_is_err_and c.from_residual.result c.from_residual.ensures.1 in
    rw (p.1, p.2)
    (λ k. refused_on _ (Least (Wrong k g)) (head_no g.head) tt _ c.check_head.result c.map_err.result c.check_head.ensures c.map_err.ensures.cases c.in_err-map_err.was (λ e f off told.
    let is : f ≡ found_by layer.Figures e.cause ((lines_of g).head + e.place) = search rules in
    rw is (head_stops k g e off)))

pub returns : goal.returns
returns c =
    let contents = c.args.contents.now in
    let g = figures_of contents in
    let head : head_no g.head ≡ None = passed_on _ (head_no g.head) tt _ c.check_head.result c.map_err.result c.check_head.ensures c.map_err.ensures.cases c.in_ok-map_err.was in
    let given : c.check_readings.result ≡ answer (readings_no g.readings) tt = c.check_readings.ensures ∙ ap (λ (xs : List Reading). answer (readings_no xs) tt) c.readings.ensures in
    faulted _ (λ _. InOrder g) (λ f. (k : KindsMeaning) → Least (Wrong k g) f) (readings_no g.readings) tt c.check_readings.result c.map_err-2.result given c.map_err-2.ensures.cases (λ noted. record { head = head; noted = noted }) (λ e f off told.
    let is : f ≡ found_by layer.Figures e.cause ((lines_of g).readings + e.place) = search rules in
    rw is (λ k. readings_stop k g (clear_head k g (settled g.head head)) (omega (arith, readings_held contents, contents.few)) e off))
