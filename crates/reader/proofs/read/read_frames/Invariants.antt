use Rattle.std.proofs.Common.{length}
use Rattle.reader.specs.Lines.{pieces}
use Rattle.reader.proofs.Cuts.{Upto}
use Rattle.reader.proofs.Order.{Reached}
use Rattle.reader.proofs.read.read_frames.Given as goal

abbrev pub invariant-loop-line : goal.invariant-loop-line
invariant-loop-line l = Upto l.file l.lines.rest.now l.lines.taken × Reached l.wanted (pieces l.file) l.lines.taken l.machine

abbrev pub decreases-loop-line : goal.decreases-loop-line
decreases-loop-line l = length l.lines.rest.now
