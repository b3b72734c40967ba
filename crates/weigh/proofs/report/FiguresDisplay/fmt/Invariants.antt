use Rattle.std.proofs.Common.{take}
use Rattle.std.specs.Fmt.{HasWritten, IsPlainFormatter}
use Rattle.weigh.specs.Printed.{figures_text}
use Rattle.weigh.proofs.report.FiguresDisplay.fmt.Given as goal

abbrev pub invariant-loop-figure : goal.invariant-loop-figure
invariant-loop-figure g l =
    IsPlainFormatter l.fn.f → HasWritten g.W.Write.write_str_gives l.fn.f (figures_text (take l.figure-index l.self.0.now)) l.f
