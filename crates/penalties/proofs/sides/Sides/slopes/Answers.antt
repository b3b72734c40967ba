use Rattle.std.proofs.Common.{◌≡◌, ◌≤◌, ◌&&◌, true, pos, ◌-ℤ◌, w64, to_z, of_z, ◌∙◌, arith}
use Rattle.std.specs.Prelude.{unsigned_abs}
use borrow.Author.Differences.{ints}
use Rattle.std.proofs.lemmas.Int.{to_z-of_z}
use Rattle.kinds.specs.Penalty.{is_weight, is_denominator}
use Rattle.penalties.specs.Sides.{lowest_slope}
use Rattle.kinds.proofs.Ring.{mul_most}
use Rattle.penalties.proofs.sides.Sides.slopes.Goals as goal
use Rattle.penalties.proofs.sides.Sides.slopes.Goals.{After-from-lowest}

pub overflow_mul-reach-2 : goal.overflow_mul-reach-2
overflow_mul-reach-2 c =
    let d : unsigned_abs (to_z w64 (of_z w64 c.args.denominator)) ≤ 1000 = grind (arith, ints) in
    let w : unsigned_abs (to_z w64 (of_z w64 c.args.weight)) ≤ 1000 = grind (arith, ints) in
    omega (arith, mul_most (mul_most d w) c.args.self.rises.1)

pub overflow_mul-reach-3 : goal.overflow_mul-reach-3
overflow_mul-reach-3 c =
    let d : unsigned_abs (to_z w64 (of_z w64 c.args.denominator)) ≤ 1000 = grind (arith, ints) in
    let w : unsigned_abs (to_z w64 (of_z w64 c.args.weight)) ≤ 1000 = grind (arith, ints) in
    omega (arith, mul_most (mul_most d w) c.args.self.falls.1)

figures : (c : After-from-lowest) → (is_weight c.args.weight && is_denominator c.args.denominator) ≡ true
figures c = grind (arith, ints)

lowest : (c : After-from-lowest) → to_z w64 (of_z w64 (pos 0 -ℤ to_z w64 (of_z w64 c.from-lowest.result))) ≡ lowest_slope c.args.self.fall (unsigned_abs c.args.weight) (unsigned_abs c.args.denominator)
lowest c = grind (arith, ints, to_z-of_z)

pub returns : goal.returns
returns c = (figures c.before, c.new-2.ensures.start ∙ lowest c.before, rw c.new-2.ensures.end (grind (arith, ints, to_z-of_z)), c.new-2.ensures.exhausted)
