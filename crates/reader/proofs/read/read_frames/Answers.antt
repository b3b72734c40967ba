use Rattle.std.proofs.Common.{Ok, Err, sym, ap, ◌∙◌, subst}
use Rattle.std.proofs.lemmas.Result.{err_from_is_err_and}
use Rattle.kinds.specs.declared.refusal.Cause.TheVariants.{Frame}
use Rattle.reader.specs.declared.fault.Layer.TheVariants as layer
use Rattle.reader.specs.Faults.{found_by}
use Rattle.reader.specs.Frames.{InTurn}
use Rattle.reader.specs.Lines.{pieces}
use Rattle.reader.specs.Shapes.{frame_text}
use Rattle.reader.specs.Steps.{Stepped}
use Rattle.reader.proofs.Cuts.{whole_known}
use Rattle.reader.proofs.Order.{Reached, turned, odd, refused, taken, missing, finished, long_fits}
use Rattle.reader.proofs.read.read_frames.Goals as goal

pub new-lines-requires : goal.new-lines-requires
new-lines-requires c = λ _. whole_known c.args.file.now c.requires

pub returns-in_err-frame : goal.returns-in_err-frame
returns-in_err-frame c =
    let ls = pieces c.args.file.now in
    let h = c.in_err-frame.ensures in
    let t = turned c.args.file.now c.loop-line.lines c.next_line.new.self c.in_ok-line.field-0 c.in-Some.line c.loop-line.invariant.0 c.in_ok-line.ensures c.in-Some.is in
    let p = err_from_is_err_and c.from_residual-in_err-frame.result c.from_residual-in_err-frame.ensures.1 in
    rw (p.1, p.2)
    (odd c.args.wanted ls c.loop-line.lines.taken c.loop-line.machine c.loop-line.invariant.1 _ (h.0 ∙ ap (found_by layer.Frames Frame) t.counts) (λ o. h.1 _ (subst (InTurn c.loop-line.machine.stage) t.here o)))

pub loop-line-preserved : goal.loop-line-preserved
loop-line-preserved c =
    let ls = pieces c.args.file.now in
    let t = turned c.args.file.now c.loop-line.lines c.next_line.new.self c.in_ok-line.field-0 c.in-Some.line c.loop-line.invariant.0 c.in_ok-line.ensures c.in-Some.is in
    let f = c.in_ok-frame.ensures in (
      t.upto,
      subst (λ n. Reached c.args.wanted ls n c.step.new.self) (sym t.counts)
          (taken c.args.wanted ls c.loop-line.lines.taken c.loop-line.machine c.step.new.self (frame_text c.in_ok-frame.frame) (t.here ∙ f) c.loop-line.invariant.1
          (subst (λ n. Stepped c.args.wanted (frame_text c.in_ok-frame.frame) n c.loop-line.machine c.step.new.self (Ok tt)) t.counts c.in_ok-step.ensures)),
    )

pub returns-in_err-step : goal.returns-in_err-step
returns-in_err-step c =
    let ls = pieces c.args.file.now in
    let t = turned c.args.file.now c.loop-line.lines c.next_line.new.self c.in_ok-line.field-0 c.in-Some.line c.loop-line.invariant.0 c.in_ok-line.ensures c.in-Some.is in
    let f = c.in_ok-frame.ensures in
    let p = err_from_is_err_and c.from_residual-in_err-step.result c.from_residual-in_err-step.ensures.1 in
    rw (p.1, p.2)
    (refused c.args.wanted ls c.loop-line.lines.taken c.loop-line.machine c.step.new.self (frame_text c.in_ok-frame.frame) (t.here ∙ f) c.loop-line.invariant.1 _
    (subst (λ n. Stepped c.args.wanted (frame_text c.in_ok-frame.frame) n c.loop-line.machine c.step.new.self (Err c.in_err-step.field-0.0)) t.counts c.in_err-step.ensures))

pub returns-in-Nothing : goal.returns-in-Nothing
returns-in-Nothing c =
    let x = c.loop-line.machine.contents in
    finished c.args.wanted c.args.file.now c.loop-line.lines c.next_line.new.self c.in_ok-line.field-0 c.loop-line.machine c.loop-line.invariant.0 c.in_ok-line.ensures c.in_default.is c.loop-line.invariant.1 c.in-Nothing.is x.cost_fits (long_fits x.floor x.floor_fits)

pub returns-in_default-stage : goal.returns-in_default-stage
returns-in_default-stage c =
    missing c.args.wanted c.args.file.now c.loop-line.lines c.next_line.new.self c.in_ok-line.field-0 c.loop-line.machine _ c.loop-line.invariant.0 c.in_ok-line.ensures c.in_default.is c.loop-line.invariant.1
    c.in_default-stage.not-Nothing c.disorder.ensures
