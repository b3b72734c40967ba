use Rattle.std.proofs.Common.{refl, subst, inr, arith}
use Rattle.std.proofs.lemmas.Result.{err_from_is_err_and}
use Rattle.reader.specs.declared.frames.Frame.TheVariants.{Head}
use Rattle.reader.specs.Frames.{HeadIs}
use Rattle.reader.specs.Shapes.{frame_text}
use Rattle.reader.proofs.Keeping.{head_is}
use Rattle.reader.proofs.machine.Machine.keep_head.Goals as goal

pub returns-in_err-count : goal.returns-in_err-count
returns-in_err-count c =
    let p = err_from_is_err_and c.from_residual.result c.from_residual.ensures.1 in
    let i = head_is c.args.fields c.figure.result c.from-head.result c.figure.ensures c.from-head.ensures in
    rw (p.1, p.2) (inr (c.figure.result, c.from-head.result, i, c.in_err-count.ensures))

pub returns : goal.returns
returns c =
    let i = head_is c.args.fields c.figure.result c.from-head.result c.figure.ensures c.from-head.ensures in
    let h = c.in_ok-count.ensures in
    record {
      head = subst (λ e. HeadIs (frame_text (Head c.args.fields)) e c.from-head.result) h.0.0 i;
      agrees = h.0.1;
      long = h.2;
      count = h.3;
      none = refl;
      running = record { waits = c.awaited-self.ensures; room = omega arith };
    }
