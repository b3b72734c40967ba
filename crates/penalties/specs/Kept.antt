-- Penalties with two sides keep the laws of penalties.
use Rattle.std.specs.Prelude.{◌≡◌, ℕ, zero, suc, ◌+◌, ◌*◌, ◌≤◌, max, true, ◌&&◌, ℤ, pos, negsuc, ◌*ℤ◌, neg_ℤ, ◌≤ℤ◌, int_le, unsigned_abs}
use Rattle.std.proofs.Common.{arith, mul-le-mul_right}
use Rattle.std.proofs.lemmas.Int.{ints}
use Rattle.kinds.specs.Penalty.{PenaltyLaws}
use Rattle.kinds.proofs.Ring.{neg_mul}
use Rattle.penalties.specs.Sides.{sided_cost, is_between, end_touched, sided, absolute, lopsided}

-- Slopes between two ends, the lower one below 0 and the upper one above.
between_high : (low high : ℕ) (n : ℕ) → (int_le (neg_ℤ (pos low)) (pos n) && int_le (pos n) (pos high)) ≡ true → n ≤ high
between_high low high n e = grind (arith, ints)

between_low : (low high : ℕ) (n : ℕ) → (int_le (neg_ℤ (pos low)) (negsuc n) && int_le (negsuc n) (pos high)) ≡ true → suc n ≤ low
between_low low high n e = grind (arith, ints)

high_between : (low high : ℕ) → (int_le (neg_ℤ (pos low)) (pos high) && int_le (pos high) (pos high)) ≡ true
high_between low high = grind (arith, ints)

low_between : (low high : ℕ) → (int_le (neg_ℤ (pos low)) (neg_ℤ (pos low)) && int_le (neg_ℤ (pos low)) (pos high)) ≡ true
low_between low high = grind (arith, ints)

pub sided_kept : (m rise fall : ℕ) → m ≤ 16777215 → PenaltyLaws (sided m rise fall)
sided_kept m rise fall h = record {
  slope = λ w d _ _. slope w d;
  touch_allowed = λ w d _ _. allowed w d;
  touch_reaches = λ w d _ _. reaches w d;
  cost_most = λ w _. cost_most w;
  slope_most = λ w d _ _. slope_most w d;
  mark_most = h;
}
  where
    rises : rise ≤ max rise fall
    rises = omega arith

    falls : fall ≤ max rise fall
    falls = omega arith

    slope : (w d : ℕ) (s r : ℤ) → is_between rise fall w d s ≡ true → (s *ℤ r) ≤ℤ pos (d * sided_cost rise fall w r)
    slope w d (pos m) (pos n) e = omega (arith, ints, mul-le-mul_right n (between_high (d * w * fall) (d * w * rise) m e))
    slope w d (pos m) (negsuc n) e = omega (arith, ints)
    slope w d (negsuc m) (pos n) e = omega (arith, ints)
    slope w d (negsuc m) (negsuc n) e = omega (arith, ints, mul-le-mul_right (suc n) (between_low (d * w * fall) (d * w * rise) m e))

    allowed : (w d : ℕ) (r : ℤ) → is_between rise fall w d (end_touched rise fall w d r) ≡ true
    allowed w d (pos zero) = grind (arith, ints)
    allowed w d (pos (suc n)) = high_between (d * w * fall) (d * w * rise)
    allowed w d (negsuc n) = low_between (d * w * fall) (d * w * rise)

    reaches : (w d : ℕ) (r : ℤ) → end_touched rise fall w d r *ℤ r ≡ pos (d * sided_cost rise fall w r)
    reaches w d (pos zero) = omega (arith, ints)
    reaches w d (pos (suc n)) = omega (arith, ints)
    reaches w d (negsuc n) = omega (arith, ints, neg_mul (pos (d * w * fall)) (negsuc n))

    cost_most : (w : ℕ) (r : ℤ) → sided_cost rise fall w r ≤ max rise fall * w * unsigned_abs r
    cost_most w (pos n) = omega (arith, mul-le-mul_right (w * n) rises)
    cost_most w (negsuc n) = omega (arith, mul-le-mul_right (w * suc n) falls)

    slope_most : (w d : ℕ) (s : ℤ) → is_between rise fall w d s ≡ true → unsigned_abs s ≤ max rise fall * d * w
    slope_most w d (pos n) e = omega (arith, between_high (d * w * fall) (d * w * rise) n e, mul-le-mul_right (d * w) rises)
    slope_most w d (negsuc n) e = omega (arith, between_low (d * w * fall) (d * w * rise) n e, mul-le-mul_right (d * w) falls)

pub absolute_kept : PenaltyLaws absolute
absolute_kept = sided_kept 0 1 1 (omega arith)

pub lopsided_kept : (rise fall : ℕ) → rise ≤ 100 → fall ≤ 100 → PenaltyLaws (lopsided rise fall)
lopsided_kept rise fall r f = sided_kept (65536 + 256 * rise + fall) rise fall (omega arith)
