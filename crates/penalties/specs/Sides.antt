-- Penalties with two sides: a residual above 0 counts `rise` for each unit, and one below 0 counts `fall`.
--     sided_cost           what a residual costs at a weight
--     highest_slope     the upper end of the allowed slopes at a weight and a denominator
--     lowest_slope      their lower end
--     AllowedSlopes     the range between the two ends, none where the weight or the denominator is out of range
--     is_between        whether a slope is allowed: it lies between the two ends
--     end_touched       the touching slope: the end on the residual's side, and 0 at 0
--     sided             what such a penalty means, of its mark, rise and fall
--     absolute          both sides count 1
--     lopsided          the sides count rise and fall, which its mark tells
-- `negsuc n` is the whole number n + 1 below 0.
use Rattle.std.specs.Prelude.{◌≡◌, ℕ, zero, suc, ◌+◌, ◌*◌, max, Bool, true, false, ◌&&◌, ℤ, pos, negsuc, neg_ℤ, int_le, unsigned_abs, Some, None, Option}
use Rattle.std.specs.Range.{range_inclusive_start, range_inclusive_end, range_inclusive_exhausted}
use Rattle.std.specs.declared.ops.RangeInclusive.{RangeInclusive}
use Rattle.kinds.specs.Penalty.{PenaltyMeaning, is_weight, is_denominator}

-- of rise, fall, weight and residual
abbrev pub sided_cost : ℕ → ℕ → ℕ → ℤ → ℕ
sided_cost rise fall w (pos n) = w * rise * n
sided_cost rise fall w (negsuc n) = w * fall * suc n

abbrev pub highest_slope : ℕ → ℕ → ℕ → ℤ
highest_slope rise w d = pos (d * w * rise)

abbrev pub lowest_slope : ℕ → ℕ → ℕ → ℤ
lowest_slope fall w d = neg_ℤ (pos (d * w * fall))

-- of rise, fall, weight, denominator and the answer
abbrev pub AllowedSlopes : ℕ → ℕ → ℤ → ℤ → Option (RangeInclusive ℤ) → Type 0
AllowedSlopes rise fall w d None = (is_weight w && is_denominator d) ≡ false
AllowedSlopes rise fall w d (Some slopes) =
    ((is_weight w && is_denominator d) ≡ true)
    × (range_inclusive_start slopes ≡ lowest_slope fall (unsigned_abs w) (unsigned_abs d))
    × (range_inclusive_end slopes ≡ highest_slope rise (unsigned_abs w) (unsigned_abs d))
    × (range_inclusive_exhausted slopes ≡ false)

-- of rise, fall, weight, denominator and slope
abbrev pub is_between : ℕ → ℕ → ℕ → ℕ → ℤ → Bool
is_between rise fall w d s = int_le (lowest_slope fall w d) s && int_le s (highest_slope rise w d)

-- of rise, fall, weight, denominator and residual
abbrev pub end_touched : ℕ → ℕ → ℕ → ℕ → ℤ → ℤ
end_touched rise fall w d (pos zero) = pos 0
end_touched rise fall w d (pos (suc n)) = highest_slope rise w d
end_touched rise fall w d (negsuc n) = lowest_slope fall w d

abbrev pub sided : ℕ → ℕ → ℕ → PenaltyMeaning
sided m rise fall = record {
  steepness = max rise fall;
  mark = m;
  cost = sided_cost rise fall;
  allows = is_between rise fall;
  touch = end_touched rise fall;
}

abbrev pub absolute : PenaltyMeaning
absolute = sided 0 1 1

abbrev pub lopsided : ℕ → ℕ → PenaltyMeaning
lopsided rise fall = sided (65536 + 256 * rise + fall) rise fall
