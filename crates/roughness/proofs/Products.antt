-- Sums, differences and products of two signed numbers of 64 bits.
--     Stored        an operation on two stored numbers fits 64 bits, and gives what it gives on the numbers themselves
use Rattle.std.proofs.Common.{◌≡◌, ◌≤◌, ℤ, nat_abs, ap, ◌∙◌, ap₂, w64, SFits, to_z, of_z}
use Rattle.std.proofs.lemmas.Int.{to_z-of_z}
use Rattle.kinds.proofs.Bits.{limit, fits64, back64}

pub record Stored (op : ℤ → ℤ → ℤ) (a b : ℤ) : Type 0 where
  pub fits : SFits w64 (op (to_z w64 (of_z w64 a)) (to_z w64 (of_z w64 b)))
  pub same : to_z w64 (of_z w64 (op (to_z w64 (of_z w64 a)) (to_z w64 (of_z w64 b)))) ≡ op a b

pub stored : (op : ℤ → ℤ → ℤ) (a b : ℤ) → SFits w64 a → SFits w64 b → nat_abs (op a b) ≤ limit → Stored op a b
stored op a b fa fb h =
    let is = ap₂ op (to_z-of_z w64 a fa) (to_z-of_z w64 b fb) in
    record { fits = rw is (fits64 (op a b) h); same = ap (λ (z : ℤ). to_z w64 (of_z w64 z)) is ∙ back64 (op a b) h }

-- the same where the first number has been read already
pub onto : (op : ℤ → ℤ → ℤ) (a b : ℤ) → nat_abs b ≤ limit → nat_abs (op a b) ≤ limit → SFits w64 (op a (to_z w64 (of_z w64 b))) × (to_z w64 (of_z w64 (op a (to_z w64 (of_z w64 b)))) ≡ op a b)
onto op a b hb h =
    let is = ap (op a) (back64 b hb) in
    (rw is (fits64 (op a b) h), ap (λ (z : ℤ). to_z w64 (of_z w64 z)) is ∙ back64 (op a b) h)
