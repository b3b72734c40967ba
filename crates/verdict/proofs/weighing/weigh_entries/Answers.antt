use Rattle.std.proofs.Common.{◌≡◌, ◌+◌, List, ℤ, unsigned_abs, rules}
use Rattle.kinds.specs.declared.reading.Reading.{Reading}
use Rattle.kinds.specs.Checks.{answer}
use Rattle.objective.specs.Checks.{weigh_table_no}
use Rattle.objective.specs.Objective.{three, cost_of}
use Rattle.reader.specs.declared.fault.Layer.TheVariants as layer
use Rattle.reader.specs.Faults.{Least, found_by}
use Rattle.reader.specs.Readable.{figures_of}
use Rattle.verdict.specs.Stages.{Tabled}
use Rattle.verdict.specs.Wrong.{lines_of, Wrong}
use Rattle.verdict.proofs.Held.{table_handed}
use Rattle.verdict.proofs.Refused.{faulted}
use Rattle.verdict.proofs.Weighed.{tabled, table_stops}
use Rattle.verdict.proofs.weighing.weigh_entries.Goals as goal

pub returns : goal.returns
returns g c =
    let k = three (g.R.Roughness.meaning c.args.kinds.now.roughness) (g.M.Penalty.meaning c.args.kinds.now.misfit) (g.B.Penalty.meaning c.args.kinds.now.bend) in
    let contents = c.args.contents.now in
    let figures = figures_of contents in
    let answered = table_handed (λ (h : ℤ) (xs : List Reading) (vs : List ℤ). c.weigh_table.result ≡ answer (weigh_table_no k h xs vs 240) (cost_of k (unsigned_abs h) xs vs)) contents c.requires.given.head c.readings.ensures c.entries.ensures c.weigh_table.ensures.answered in
    faulted _ (Tabled k figures) (Least (Wrong k figures)) _ _ c.weigh_table.result c.map_err.result answered c.map_err.ensures.cases (tabled k figures c.requires) (λ e f off told.
    let is : f ≡ found_by layer.Figures e.cause ((lines_of figures).entries + e.place) = search rules in
    rw is (table_stops k figures c.requires e off))
