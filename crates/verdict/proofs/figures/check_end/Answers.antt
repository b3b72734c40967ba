use Rattle.std.proofs.Common.{◌≡◌, sym, ap, add-zero, w64, of_z, rules}
use Rattle.kinds.specs.declared.refusal.Cause.TheVariants.{Gap, Stated}
use Rattle.reader.specs.declared.fault.Layer.TheVariants as layer
use Rattle.reader.specs.Faults.{found_by}
use Rattle.reader.specs.Readable.{figures_of}
use Rattle.verdict.specs.Stages.{unstated, wide}
use Rattle.verdict.specs.Wrong.{end_line}
use Rattle.verdict.proofs.figures.check_end.Goals.{then-contents-cost-via-then-contents-cost, then-contents-cost-via-else-contents-cost+then-contents-floor}
use Rattle.verdict.proofs.figures.check_end.Goals as goal

pub returns-then-contents-cost : goal.returns-then-contents-cost
returns-then-contents-cost c =
    let is : c.fault_from.result ≡ found_by layer.Figures Stated (end_line (figures_of c.args.contents.now)) = search (rules, add-zero) in
    rw is
    (unstated (λ both. elim c.then-contents-cost.branch [ then-contents-cost-via-then-contents-cost w ↦ w.if-contents-cost.true both.0 | then-contents-cost-via-else-contents-cost+then-contents-floor w ↦ w.if-contents-floor.true (ap (of_z w64) both.1) ]))

pub returns-then-not-is_within : goal.returns-then-not-is_within
returns-then-not-is_within c =
    let is : c.fault_from-then-not-is_within.result ≡ found_by layer.Figures Gap (end_line (figures_of c.args.contents.now)) = search (rules, add-zero) in
    rw is (wide c.if-contents-cost.false (search rules) (sym c.if-not-is_within.ensures))
