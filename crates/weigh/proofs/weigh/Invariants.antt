use Rattle.std.proofs.Common.{◌≡◌, length}
use Rattle.weigh.proofs.weigh.Given as goal

abbrev pub invariant-loop-before : goal.invariant-loop-before
invariant-loop-before l = (goal.iterator-loop-before).can_next l.before-iterator × (goal.iterator-loop-before).is_finite l.before-iterator × (length l.place ≡ 240)
