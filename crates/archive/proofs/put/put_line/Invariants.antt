use Rattle.std.proofs.Common.{take}
use Rattle.archive.specs.Writing.{Puts, fields_text}
use Rattle.archive.proofs.put.put_line.Given as goal

abbrev pub invariant-loop-width : goal.invariant-loop-width
invariant-loop-width l = Puts l.initial.part l.part 0 l.at (fields_text (take l.width-index l.fields))
