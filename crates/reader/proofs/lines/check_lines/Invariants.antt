use Rattle.std.proofs.Common.{length}
use Rattle.reader.proofs.Cuts.{Upto}
use Rattle.reader.proofs.lines.check_lines.Given as goal

abbrev pub invariant-loop-line : goal.invariant-loop-line
invariant-loop-line l = Upto l.file l.lines.rest.now l.lines.taken

abbrev pub decreases-loop-line : goal.decreases-loop-line
decreases-loop-line l = length l.lines.rest.now
