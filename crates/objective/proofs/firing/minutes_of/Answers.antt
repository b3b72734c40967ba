use Rattle.std.proofs.Common.{arith}
use Rattle.std.specs.Slice.Iter.{iter_rest}
use Rattle.objective.proofs.Mapping.{cut_minutes, cut_before, full_left}
use Rattle.objective.proofs.firing.minutes_of.Goals as goal

pub returns-after-loop-slot : goal.returns-after-loop-slot
returns-after-loop-slot c =
    let xs = c.args.readings.now in
    let none = full_left c.loop-slot.slot-index (iter_rest c.loop-slot.rest) xs c.loop-slot.slot-items c.loop-slot.invariant.0 (omega arith) (omega arith) in
    cut_minutes c.loop-slot.slot-index (iter_rest c.loop-slot.rest) xs c.loop-slot.slot-items c.loop-slot.invariant.0 (omega arith) none

pub returns-in_default : goal.returns-in_default
returns-in_default c =
    cut_before c.loop-slot.slot-index (iter_rest c.loop-slot.rest) c.args.readings.now c.loop-slot.slot-items c.loop-slot.invariant.0 (omega arith) c.in_default.ensures.steps.0 _
