use Rattle.std.proofs.Common.{◌≡◌, max, drop}
use Rattle.kinds.specs.Figures.{largest}
use Rattle.kinds.proofs.minutes.largest_size.Given as goal

abbrev pub invariant-loop-figure : goal.invariant-loop-figure
invariant-loop-figure l = max l.most (largest (drop l.figure-index l.figures)) ≡ largest l.figures
