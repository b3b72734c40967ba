use Rattle.std.proofs.Common.{arith}
use Rattle.roughness.specs.Maps.{first, slope}
use Rattle.known.proofs.Marks.{raised_has}
use Rattle.known.proofs.roughness_kind.KnownRoughnessTryFromU64.try_from.Goals as goal

pub returns-in-257-to-260 : goal.returns-in-257-to-260
returns-in-257-to-260 c = rw c.ok_or.ensures.value (raised_has first 3 _ c.args.mark c.first.result c.first.ensures (omega arith) (omega arith) (omega arith))

pub returns-in-514-to-516 : goal.returns-in-514-to-516
returns-in-514-to-516 c = rw c.ok_or-in-514-to-516.ensures.value (raised_has slope 2 _ c.args.mark c.slope.result c.slope.ensures (omega arith) (omega arith) (omega arith))
