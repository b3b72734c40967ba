use Rattle.std.proofs.Common.{◌≡◌, ℤ, arith}
use Rattle.std.specs.Prelude.{int_le}
use Rattle.std.specs.Ordering.{is_le, int_cmp}
use Rattle.std.specs.Cmp.{int_ranks}
use borrow.Author.Differences.{ints}
use Rattle.std.proofs.lemmas.Int.{to_z-of_z}
use Rattle.penalties.proofs.sides.Sides.allows.Goals as goal

cmp_le : (a b : ℤ) → is_le (int_cmp a b) ≡ int_le a b
cmp_le a b = let h = int_ranks a b in grind (arith, ints)

pub returns-then-unsigned_abs-gt-MOST_SLOPE : goal.returns-then-unsigned_abs-gt-MOST_SLOPE
returns-then-unsigned_abs-gt-MOST_SLOPE c = grind (arith, to_z-of_z)

pub returns : goal.returns
returns c =
    rw (c.contains.ensures.value, c.in_ok-slopes.ensures.1, c.in_ok-slopes.ensures.2, c.in_ok-slopes.ensures.3, cmp_le, cmp_le) (grind (arith, to_z-of_z))
