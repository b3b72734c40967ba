-- The gap in numbers of 128 bits.
use Rattle.std.proofs.Common.{◌≡◌, ℕ, ◌*◌, ◌^◌, ◌≤◌, true, ℤ, pos, ◌-ℤ◌, nat_abs, int_le, None, Ok, Result, ap, ◌∙◌, ap₂, arith, w64, SFits, to_z, of_z}
use borrow.Author.Differences.{ints}
use mir.Syntax.{w128}
use Rattle.kinds.specs.declared.refusal.Refusal.{Refusal}
use Rattle.objective.specs.declared.gap.Gap.{Gap}
use Rattle.kinds.specs.Penalty.{is_denominator}
use Rattle.objective.specs.Checks.{is_allowance}
use Rattle.objective.specs.Gaps.{gap_no, gap_told}
use Rattle.objective.specs.Objective.{gap_of, within}

-- a scaled cost less a floor
stored_gap : (t : ℕ) (floor : ℤ) → t ≤ 1000 * 2 ^ 64 → SFits w64 floor → to_z w128 (of_z w128 (to_z w128 t -ℤ to_z w128 (of_z w128 (to_z w64 (of_z w64 floor))))) ≡ pos t -ℤ floor
stored_gap t floor h f = omega (arith, ints)

-- a scaled allowance less the gap
stored_spare : (a : ℕ) (gap : ℤ) → a ≤ 1000 * 2 ^ 64 → nat_abs gap ≤ 2000 * 2 ^ 64 → to_z w128 (of_z w128 (to_z w128 a -ℤ to_z w128 (of_z w128 gap))) ≡ pos a -ℤ gap
stored_spare a gap h k = omega (arith, ints)

gap_most : (t : ℕ) (floor : ℤ) → t ≤ 1000 * 2 ^ 64 → SFits w64 floor → nat_abs (pos t -ℤ floor) ≤ 2000 * 2 ^ 64
gap_most t floor h f = omega (arith, ints)

pub gap_passes : (d a : ℤ) → is_allowance a ≡ true → is_denominator d ≡ true → gap_no d a ≡ None
gap_passes d a ea ed = grind arith

scaled_is : (t cost d : ℕ) (floor : ℤ) → t ≤ 1000 * 2 ^ 64 → SFits w64 floor → t ≡ d * cost → to_z w128 (of_z w128 (to_z w128 t -ℤ to_z w128 (of_z w128 (to_z w64 (of_z w64 floor))))) ≡ gap_of d cost floor
scaled_is t cost d floor ht f et = stored_gap t floor ht f ∙ ap (λ (n : ℕ). pos n -ℤ floor) et

spare_is : (t a cost d g : ℕ) (floor : ℤ) → t ≤ 1000 * 2 ^ 64 → a ≤ 1000 * 2 ^ 64 → SFits w64 floor → t ≡ d * cost → a ≡ d * g → to_z w128 (of_z w128 (to_z w128 a -ℤ to_z w128 (of_z w128 (to_z w128 t -ℤ to_z w128 (of_z w128 (to_z w64 (of_z w64 floor))))))) ≡ pos (d * g) -ℤ gap_of d cost floor
spare_is t a cost d g floor ht ha f et ea =
    let inner : to_z w128 t -ℤ to_z w128 (of_z w128 (to_z w64 (of_z w64 floor))) ≡ pos t -ℤ floor = omega (arith, ints) in
    ap (λ (z : ℤ). to_z w128 (of_z w128 (to_z w128 a -ℤ to_z w128 (of_z w128 z)))) inner
    ∙ stored_spare a (pos t -ℤ floor) ha (gap_most t floor ht f)
    ∙ ap₂ (λ (m : ℕ) (n : ℕ). pos m -ℤ (pos n -ℤ floor)) ea et

-- what the code stores is the gap as it is told
pub gap_told_is : (t a cost d g : ℕ) (floor : ℤ) → t ≤ 1000 * 2 ^ 64 → a ≤ 1000 * 2 ^ 64 → SFits w64 floor → t ≡ d * cost → a ≡ d * g →
    ◌≡◌ {A = Result Gap Refusal}
    (Ok (record {
      scaled = to_z w128 (of_z w128 (to_z w128 t -ℤ to_z w128 (of_z w128 (to_z w64 (of_z w64 floor)))));
      spare = to_z w128 (of_z w128 (to_z w128 a -ℤ to_z w128 (of_z w128 (to_z w128 t -ℤ to_z w128 (of_z w128 (to_z w64 (of_z w64 floor)))))));
    }))
    (Ok (gap_told cost floor d g))
gap_told_is t a cost d g floor ht ha f et ea =
    let gap = scaled_is t cost d floor ht f et in
    let spare = spare_is t a cost d g floor ht ha f et ea in
    λ i. Ok (record { scaled = gap i; spare = spare i })

spare_tells : (gap allowed : ℤ) → int_le (pos 0) (allowed -ℤ gap) ≡ int_le gap allowed
spare_tells gap allowed = grind (arith, ints)

-- the spare of the gap says whether it is within the allowance
pub gap_within_is : (t a cost d g : ℕ) (floor : ℤ) → t ≤ 1000 * 2 ^ 64 → a ≤ 1000 * 2 ^ 64 → SFits w64 floor → t ≡ d * cost → a ≡ d * g → int_le (pos 0) (to_z w128 (of_z w128 (to_z w128 a -ℤ to_z w128 (of_z w128 (to_z w128 t -ℤ to_z w128 (of_z w128 (to_z w64 (of_z w64 floor)))))))) ≡ within d cost floor g
gap_within_is t a cost d g floor ht ha f et ea =
    ap (int_le (pos 0)) (spare_is t a cost d g floor ht ha f et ea) ∙ spare_tells (gap_of d cost floor) (pos (d * g))
