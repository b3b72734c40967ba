-- Slopes that a kind of penalty answers for.
use Rattle.std.proofs.Common.{◌≡◌, ℕ, ◌+◌, ◌<◌, ◌≤◌, Bool, true, false, not, List, [], ◌∷◌, ℤ, neg_ℤ, nat_abs, Some, None, Option, unwrap_or, refl, ◌∙◌, arith, w64, SFits}
use borrow.Author.Differences.{ints}
use Rattle.std.specs.List.{position, position_from, zip}
use Rattle.std.proofs.lemmas.Iterator.Adapters.{position_from-zero}
use Rattle.kinds.specs.declared.reading.Reading.{Reading}
use Rattle.kinds.specs.Penalty.{PenaltyMeaning, PenaltyLaws, Weight, Denominator, is_weight, is_denominator, allows_answer}
use Rattle.kinds.proofs.Ring.{mul_most}
use Rattle.objective.specs.Checks.{first_column_off}

pub weight_of : (w : ℤ) → is_weight w ≡ true → Weight (nat_abs w)
weight_of w e = grind (arith, ints)

pub denominator_of : (d : ℤ) → is_denominator d ≡ true → Denominator (nat_abs d)
denominator_of d e = (grind (arith, ints), grind (arith, ints))

slope_told : (p : PenaltyMeaning) (w d s : ℤ) (b : Bool) → Some b ≡ allows_answer p w d s → b ≡ p.allows (nat_abs w) (nat_abs d) s
slope_told p w d s b e = grind arith

-- a slope that is too large for an answer is not allowed
too_large : (p : PenaltyMeaning) (w d s : ℤ) → None ≡ allows_answer p w d s → is_weight w ≡ true → is_denominator d ≡ true → 1000000000000 < nat_abs s
too_large p w d s e hw hd = grind arith

pub allowed_most : (p : PenaltyMeaning) → PenaltyLaws p → p.steepness ≤ 100 → (w d : ℕ) → Weight w → Denominator d → (s : ℤ) → p.allows w d s ≡ true → nat_abs s ≤ 100000000
allowed_most p law steep w d hw hd s e =
    let size = law.slope_most w d hw hd s e in
    omega (arith, mul_most (mul_most steep hd.1) hw)

by_cases : (b : Bool) → (b ≡ true → ⊥) → false ≡ b
by_cases true n = absurd (n refl)
by_cases false n = refl

slope_untold : (p : PenaltyMeaning) → PenaltyLaws p → p.steepness ≤ 100 → (w d s : ℤ) → None ≡ allows_answer p w d s → is_weight w ≡ true → is_denominator d ≡ true → false ≡ p.allows (nat_abs w) (nat_abs d) s
slope_untold p law steep w d s e hw hd =
    let large = too_large p w d s e hw hd in
    by_cases (p.allows (nat_abs w) (nat_abs d) s) (λ a. omega (arith, allowed_most p law steep (nat_abs w) (nat_abs d) (weight_of w hw) (denominator_of d hd) s a))

-- what is answered for a slope, and false where nothing is
pub slope_or_false : (p : PenaltyMeaning) → PenaltyLaws p → p.steepness ≤ 100 → (w d s : ℤ) (o : Option Bool) → o ≡ allows_answer p w d s → is_weight w ≡ true → is_denominator d ≡ true → unwrap_or o false ≡ p.allows (nat_abs w) (nat_abs d) s
slope_or_false p law steep w d s None e hw hd = slope_untold p law steep w d s e hw hd
slope_or_false p law steep w d s (Some b) e hw hd = slope_told p w d s b e

pub denominator_fits : (d : ℤ) → is_denominator d ≡ true → SFits w64 d
denominator_fits d e = grind (arith, ints)

-- the search through the columns, as the library makes it
abbrev pub column_off : PenaltyMeaning → ℕ → ℤ × Reading → Bool
column_off p d pair = not (p.allows (nat_abs pair.1.weight) d (neg_ℤ pair.0))

column_off_from : (p : PenaltyMeaning) (d i : ℕ) (cs : List ℤ) (xs : List Reading) → position_from (column_off p d) i (zip cs xs) ≡ first_column_off p d i cs xs
column_off_from p d i [] xs = refl
column_off_from p d i (c ∷ cs) [] = refl
column_off_from p d i (c ∷ cs) (x ∷ xs) = let more = column_off_from p d (i + 1) cs xs in grind arith

pub position_column : (p : PenaltyMeaning) (d : ℕ) (cs : List ℤ) (xs : List Reading) → position (column_off p d) (zip cs xs) ≡ first_column_off p d 0 cs xs
position_column p d cs xs = position_from-zero (column_off p d) (zip cs xs) ∙ column_off_from p d 0 cs xs
