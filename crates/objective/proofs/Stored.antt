-- Lawful figures, stored in 64 bits and read again, and the pairs that a loop over two lists takes.
use Rattle.std.proofs.Common.{◌≡◌, ℕ, ◌<◌, ◌≤◌, true, List, length, get_or, ℤ, pos, ◌-ℤ◌, nat_abs, ap, ◌∙◌, arith, w64, to_z, of_z}
use borrow.Author.Differences.{ints}
use Rattle.std.specs.List.{zip}
use Rattle.std.proofs.lemmas.List.{get_or_default}
use Rattle.std.proofs.lemmas.Slice.Zip.{length-zip, get_or-zip}
use Rattle.kinds.specs.declared.reading.Reading.{Reading}
use Rattle.kinds.specs.Penalty.{is_weight, is_residual}
use Rattle.kinds.proofs.Bits.{back64}
use Rattle.objective.specs.Checks.{is_value}
use Rattle.objective.proofs.Noted.{blank}

pub weight_back : (w : ℤ) → is_weight w ≡ true → to_z w64 (of_z w64 w) ≡ w
weight_back w e = back64 w (grind (arith, ints))

pub value_most : (v : ℤ) → is_value v ≡ true → nat_abs v ≤ 20000
value_most v e = grind (arith, ints)

pub value_back : (v : ℤ) → is_value v ≡ true → to_z w64 (of_z w64 v) ≡ v
value_back v e = back64 v (omega (arith, value_most v e))

-- a value less a crude value
pub residual_back : (v z : ℤ) → is_value v ≡ true → is_value z ≡ true → to_z w64 (of_z w64 (to_z w64 (of_z w64 v) -ℤ to_z w64 (of_z w64 z))) ≡ v -ℤ z
residual_back v z ev ez =
    let value = value_most v ev in
    let crude = value_most z ez in
    omega (arith, ints)

pub row_back : (r : ℤ) → is_residual r ≡ true → to_z w64 (of_z w64 r) ≡ r
row_back r e = back64 r (grind arith)

-- a figure and a reading that stand at one place
pub record Paired (cs : List ℤ) (xs : List Reading) (i : ℕ) (c : ℤ) (x : Reading) : Type 0 where
  pub below : i < length xs
  pub figure : c ≡ get_or cs i (pos 0)
  pub reading : x ≡ get_or xs i blank

pub paired : (cs : List ℤ) (xs : List Reading) (i : ℕ) (c : ℤ) (x : Reading) → i < length (zip cs xs) → ◌≡◌ {A = ℤ × Reading} (c, x) (get_or (zip cs xs) i (c, x)) → Paired cs xs i c x
paired cs xs i c x h e =
    let pairs = length-zip cs xs in
    let own : i < length cs = omega arith in
    let below : i < length xs = omega arith in
    let pair = e ∙ get_or-zip cs xs i (c, x) own below in
    record {
      below = below;
      figure = ap (λ (p : ℤ × Reading). p.0) pair ∙ get_or_default cs i c (pos 0) own;
      reading = ap (λ (p : ℤ × Reading). p.1) pair ∙ get_or_default xs i x blank below;
    }
