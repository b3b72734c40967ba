use Rattle.std.proofs.Common.{◌+◌, ◌≤◌, [], ◌∷◌, length, get_or, sym, ap, arith, length-append, rules}
use Rattle.std.proofs.lemmas.List.{take_all}
use Rattle.archive.specs.File.{line}
use Rattle.archive.specs.Writing.{fields_text}
use Rattle.archive.proofs.Fields.{fields_next, fields_reach, field_put, puts_all}
use Rattle.archive.proofs.Pasting.{puts_byte, puts_more, puts_same}
use Rattle.archive.proofs.put.put_line.Goals as goal

pub overflow_add-end : goal.overflow_add-end
overflow_add-end c =
    let reach = fields_reach c.args.fields.now c.loop-width.width-index (0, 0) c.loop-width-test.true c.args.part.now c.loop-width.part c.loop-width.at c.loop-width.invariant c.requires in
    search rules

pub slice_bounds-write_field-end : goal.slice_bounds-write_field-end
slice_bounds-write_field-end c =
    let reach = fields_reach c.args.fields.now c.loop-width.width-index (0, 0) c.loop-width-test.true c.args.part.now c.loop-width.part c.loop-width.at c.loop-width.invariant c.requires in
    search rules

pub loop-width-preserved : goal.loop-width-preserved
loop-width-preserved c =
    let next = get_or c.args.fields.now c.loop-width.width-index (0, 0) in
    let reach = fields_reach c.args.fields.now c.loop-width.width-index (0, 0) c.loop-width-test.true c.args.part.now c.loop-width.part c.loop-width.at c.loop-width.invariant c.requires in
    let within : c.loop-width.at + next.0 ≤ length c.loop-width.part = omega arith in
    let put = field_put c.loop-width.part c.write_field.new.place c.loop-width.at next.0 next.1 within c.write_field.ensures in
    puts_same (sym (fields_next c.args.fields.now c.loop-width.width-index (0, 0) c.loop-width-test.true)) (puts_more c.loop-width.invariant put)

pub returns : goal.returns
returns c =
    let all = puts_same (ap fields_text (take_all c.loop-width.width-index c.args.fields.now c.loop-width-test.false)) c.loop-width.invariant in
    let end = length-append (fields_text c.args.fields.now) (10 ∷ []) in
    let whole = puts_more all (puts_byte c.loop-width.part c.loop-width.at 10 (omega (arith, end))) in
    puts_all c.args.part.now _ _ (line (fields_text c.args.fields.now)) c.requires whole
