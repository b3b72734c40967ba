-- Signed numbers of 64 bits that were stored and are read again.
--     limit         a size below which every whole number fits 64 bits
use Rattle.std.proofs.Common.{◌≡◌, ℕ, ◌≤◌, ℤ, nat_abs, sym, subst, arith, w64, SFits, to_z, of_z}
use borrow.Author.Differences.{ints}
use Rattle.std.proofs.lemmas.Int.{to_z-of_z}

abbrev pub limit : ℕ
limit = 9000000000000000000

pub fits64 : (z : ℤ) → nat_abs z ≤ limit → SFits w64 z
fits64 z h = omega (arith, ints)

pub back64 : (z : ℤ) → nat_abs z ≤ limit → to_z w64 (of_z w64 z) ≡ z
back64 z h = omega (arith, ints)

pub size_back64 : (z : ℤ) {n : ℕ} → nat_abs z ≤ n → n ≤ limit → nat_abs (to_z w64 (of_z w64 z)) ≤ n
size_back64 z h k = omega (arith, ints)

-- what holds of a stored number holds of the number, and the other way
pub from_bits : (F : ℤ → Type 0) (z : ℤ) → SFits w64 z → F (to_z w64 (of_z w64 z)) → F z
from_bits F z f h = subst F (to_z-of_z w64 z f) h

pub to_bits : (F : ℤ → Type 0) (z : ℤ) → SFits w64 z → F z → F (to_z w64 (of_z w64 z))
to_bits F z f h = subst F (sym (to_z-of_z w64 z f)) h
