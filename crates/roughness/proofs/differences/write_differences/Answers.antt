use Rattle.std.proofs.Common.{◌+◌, ◌∙◌, arith}
use Rattle.std.proofs.lemmas.List.{set-get_or}
use borrow.Author.Differences.{ints}
use Rattle.kinds.proofs.Places.{written_more, written_all, size_at}
use Rattle.roughness.specs.Diffs.{differences_more, differences_all}
use Rattle.roughness.proofs.Windows.{window_more, window_none}
use Rattle.roughness.proofs.differences.write_differences.Goals as goal

pub overflow_sub-row : goal.overflow_sub-row
overflow_sub-row c =
    let vs = c.args.values.now in
    let k = c.loop-row.row-index in
    let s = c.in-Some.ensures.steps in
    let w = window_more c.loop-row.invariant.left c.in-Some.field-0.now _ _ (omega arith) s.0 s.1.0 s.1.1 s.1.2 in
    omega (arith, ints, w.first, w.second (omega arith), size_at vs k, size_at vs (k + 1))

pub loop-row-preserved : goal.loop-row-preserved
loop-row-preserved c =
    let vs = c.args.values.now in
    let k = c.loop-row.row-index in
    let s = c.in-Some.ensures.steps in
    let w = window_more c.loop-row.invariant.left c.in-Some.field-0.now _ _ (omega arith) s.0 s.1.0 s.1.1 s.1.2 in
    let long = w.long in
    record {
      written =
          written_more k _ _ _ _ _ c.loop-row.rows c.loop-row.invariant.written (omega arith)
          (differences_more vs k _ (omega arith) (omega (arith, ints, w.first, w.second (omega arith), size_at vs k, size_at vs (k + 1))));
      left = w.next;
    }

pub returns-in_default : goal.returns-in_default
returns-in_default c =
    let s = c.in_default.ensures.steps in
    let short = window_none c.loop-row.invariant.left s.1.0 in
    set-get_or c.loop-row.rows c.loop-row.row-index _
    ∙ written_all _ _ _ _ c.loop-row.rows c.loop-row.invariant.written (omega arith) (differences_all c.args.values.now _ (omega arith))

pub returns : goal.returns
returns c =
    written_all _ _ _ _ c.loop-row.rows c.loop-row.invariant.written (omega arith) (differences_all c.args.values.now _ (omega arith))
