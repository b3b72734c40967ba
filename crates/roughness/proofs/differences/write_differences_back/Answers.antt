use Rattle.std.proofs.Common.{◌≡◌, ◌∙◌, length, ap, sym, set, w64, to_z, arith}
use Rattle.std.proofs.lemmas.List.{length-drop}
use borrow.Author.Differences.{ints}
use Rattle.kinds.proofs.Places.{written_more, size_at}
use Rattle.roughness.specs.Diffs.{back_more, back_last}
use Rattle.roughness.proofs.Windows.{figure_more}
use Rattle.roughness.proofs.differences.write_differences_back.Goals as goal

pub overflow_sub-column : goal.overflow_sub-column
overflow_sub-column c =
    let ms = c.args.multipliers.now in
    let k = c.loop-column.column-index in
    let f = figure_more ms _ c.in-Some.field-0.now _ c.loop-column.invariant.rest c.in-Some.ensures.steps in
    omega (arith, ints, f.here, size_at ms k, c.loop-column.invariant.before_small)

pub loop-column-preserved : goal.loop-column-preserved
loop-column-preserved c =
    let ms = c.args.multipliers.now in
    let k = c.loop-column.column-index in
    let f = figure_more ms _ c.in-Some.field-0.now _ c.loop-column.invariant.rest c.in-Some.ensures.steps in
    let size = size_at ms k in
    let long = f.long in
    record {
      written =
          written_more k _ _ _ _ _ c.loop-column.columns c.loop-column.invariant.written (omega arith)
          (back_more ms k _ _ _ f.long (omega (arith, ints, f.here, c.loop-column.invariant.before_small)) (omega (arith, ints, f.here)));
      rest = f.next;
      within = omega arith;
      before_small = omega (arith, ints, f.here);
    }

pub returns-in_default : goal.returns-in_default
returns-in_default c =
    let ms = c.args.multipliers.now in
    let k = c.loop-column.column-index in
    let none = c.in_default.ensures.steps.0 in
    let left = ap length c.loop-column.invariant.rest in
    let count = length-drop k ms in
    let end : length ms ≡ k = omega (arith, c.loop-column.invariant.within) in
    ap (λ n. set c.loop-column.columns n (to_z w64 c.loop-column.before-bits)) (sym end)
    ∙ back_last ms k _ _ _ c.loop-column.columns c.loop-column.invariant.written (omega arith) end
