use Rattle.std.proofs.Common.{◌≡◌, ◌++◌, length, take}
use Rattle.std.specs.Slice.Iter.{iter_rest}
use Rattle.objective.specs.Objective.{minutes}
use Rattle.objective.proofs.firing.minutes_of.Given as goal

abbrev pub invariant-loop-slot : goal.invariant-loop-slot
invariant-loop-slot l = (take l.slot-index l.slot-items ++ minutes (iter_rest l.rest) ≡ minutes l.readings) × (length l.slot-items ≡ 240)
