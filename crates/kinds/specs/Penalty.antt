-- What a kind of penalty means, the laws that it keeps, and how it answers.
--     PenaltyMeaning        steepness, mark, cost, allowed slopes and a touching slope
--     PenaltyLaws           the slope law, the touch law and the bounds of cost and slopes
--     Weight, Denominator   the weights and denominators of which the laws speak
--     is_weight, is_denominator, is_residual, is_slope     whether a figure is within the limits of an answer
--     cost_answer, allows_answer, touch_answer     what a kind answers: its meaning within the limits, and none outside
-- Weights and denominators of the laws are naturals; an answer is given for weights from 0 and denominators from 1, so
-- `unsigned_abs` takes nothing away there.
use Rattle.std.specs.Prelude.{◌≡◌, ℕ, ◌*◌, ◌≤◌, Bool, true, cond, ◌&&◌, ℤ, pos, ◌*ℤ◌, ◌≤ℤ◌, Some, None, Option, int_le, nat_le, unsigned_abs}

pub record PenaltyMeaning : Type 0 where
  pub steepness : ℕ
  pub mark : ℕ
  -- of weight and residual
  pub cost : ℕ → ℤ → ℕ
  -- of weight, denominator and slope
  pub allows : ℕ → ℕ → ℤ → Bool
  -- of weight, denominator and residual
  pub touch : ℕ → ℕ → ℤ → ℤ

abbrev pub Weight : ℕ → Type 0
Weight w = w ≤ 1000

abbrev pub Denominator : ℕ → Type 0
Denominator d = (1 ≤ d) × (d ≤ 1000)

pub record PenaltyLaws (p : PenaltyMeaning) : Type 0 where
  pub slope : (w d : ℕ) → Weight w → Denominator d → (s r : ℤ) → p.allows w d s ≡ true → (s *ℤ r) ≤ℤ pos (d * p.cost w r)
  pub touch_allowed : (w d : ℕ) → Weight w → Denominator d → (r : ℤ) → p.allows w d (p.touch w d r) ≡ true
  pub touch_reaches : (w d : ℕ) → Weight w → Denominator d → (r : ℤ) → p.touch w d r *ℤ r ≡ pos (d * p.cost w r)
  pub cost_most : (w : ℕ) → Weight w → (r : ℤ) → p.cost w r ≤ p.steepness * w * unsigned_abs r
  pub slope_most : (w d : ℕ) → Weight w → Denominator d → (s : ℤ) → p.allows w d s ≡ true → unsigned_abs s ≤ p.steepness * d * w
  pub mark_most : p.mark ≤ 16777215

abbrev pub is_weight : ℤ → Bool
is_weight w = int_le (pos 0) w && int_le w (pos 1000)

abbrev pub is_denominator : ℤ → Bool
is_denominator d = int_le (pos 1) d && int_le d (pos 1000)

abbrev pub is_residual : ℤ → Bool
is_residual r = nat_le (unsigned_abs r) 40000000

abbrev pub is_slope : ℤ → Bool
is_slope s = nat_le (unsigned_abs s) 1000000000000

abbrev pub cost_answer : PenaltyMeaning → ℤ → ℤ → Option ℕ
cost_answer p w r = cond (is_weight w && is_residual r) (Some (p.cost (unsigned_abs w) r)) None

abbrev pub allows_answer : PenaltyMeaning → ℤ → ℤ → ℤ → Option Bool
allows_answer p w d s = cond (is_weight w && is_denominator d && is_slope s) (Some (p.allows (unsigned_abs w) (unsigned_abs d) s)) None

abbrev pub touch_answer : PenaltyMeaning → ℤ → ℤ → ℤ → Option ℤ
touch_answer p w d r = cond (is_weight w && is_denominator d && is_residual r) (Some (p.touch (unsigned_abs w) (unsigned_abs d) r)) None
