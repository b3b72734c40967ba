-- What a call answers and leaves, once it is known what its checks say, and the rows and columns that are read again.
use Rattle.std.proofs.Common.{◌≡◌, ℕ, ◌-◌, List, length, take, ℤ, Some, None, Ok, Err, Option, sym, ap, ◌∙◌}
use Rattle.kinds.specs.declared.reading.Reading.{Reading}
use Rattle.kinds.specs.declared.refusal.Refusal.{Refusal}
use Rattle.kinds.specs.Checks.{answer}
use Rattle.kinds.specs.Figures.{over}
use Rattle.kinds.specs.Roughness.{RoughnessLaws, told_reach, filled}
use Rattle.kinds.proofs.Passing.{passed, refused}
use Rattle.kinds.proofs.Places.{take_over}
use Rattle.known.specs.declared.roughness_kind.KnownRoughness.{KnownRoughness}
use Rattle.known.specs.declared.roughness_kind.KnownRoughness.TheVariants.{First, FirstOnce, FirstTwice, FirstThrice, Slope, SlopeOnce, SlopeTwice}
use Rattle.known.specs.Known.{roughness_meaning}
use Rattle.known.specs.Raised.{raised_times_kept}
use Rattle.objective.specs.Checks.{weigh_table_no}
use Rattle.objective.specs.Objective.{KindsMeaning, LawfulMultipliers, minutes, rows_of, columns_of}
use Rattle.objective.proofs.Duality.{length_minutes}
use Rattle.objective.proofs.Weighing.{weighable, cut_rows}
use Rattle.roughness.specs.Maps.{first as first_kind, slope as slope_kind}
use Rattle.roughness.specs.Kept.{first_kept, slope_kept}
use Rattle.weigh.specs.declared.answer.No.TheVariants.{Refused}
use Rattle.weigh.specs.Answered.{Told, said}

module _ {X : Type 0} (checks : Option Refusal) (x : X) where
  -- after checks that refuse
  pub refused_said : (r : Refusal) (a : Told) → Err r ≡ answer checks x → Err (Refused r) ≡ said checks a
  refused_said r a e = sym (ap (λ (c : Option Refusal). said c a) (refused checks x r e))

  -- after checks that pass
  pub passed_said : (y : X) (a : Told) → Ok y ≡ answer checks x → Ok a ≡ said checks a
  passed_said y a e = sym (ap (λ (c : Option Refusal). said c a) (passed checks x y e))

-- what a call told, as an answer
pub told_value : {X : Type 0} (checks : Option Refusal) (x v : X) → Ok x ≡ answer checks v → x ≡ v
told_value None x v e = cc
told_value (Some r) x v e = cc

pub law_of : (k : KnownRoughness) → RoughnessLaws (roughness_meaning k)
law_of (First k) = first_kept
law_of (FirstOnce k) = raised_times_kept 1 first_kind first_kept
law_of (FirstTwice k) = raised_times_kept 2 first_kind first_kept
law_of (FirstThrice k) = raised_times_kept 3 first_kind first_kept
law_of (Slope k) = slope_kept
law_of (SlopeOnce k) = raised_times_kept 1 slope_kind slope_kept
law_of (SlopeTwice k) = raised_times_kept 2 slope_kind slope_kept

pub place_filled : (checks : Option Refusal) (new before after : List ℤ) → checks ≡ None → after ≡ filled checks new before → after ≡ over new before
place_filled checks new before after e p = p ∙ ap (λ (c : Option Refusal). filled c new before) e

-- the rows of a table that passed, read again from the place
pub rows_again : (k : KindsMeaning) → RoughnessLaws k.roughness → (h : ℤ) (xs : List Reading) (vs before after : List ℤ) (count : ℕ) → weigh_table_no k h xs vs (length before) ≡ None → after ≡ filled (weigh_table_no k h xs vs (length before)) (rows_of k xs vs) before → count ≡ length xs - told_reach k.roughness → take count after ≡ rows_of k xs vs
rows_again k law h xs vs before after count e p n =
    let w = weighable k h xs vs (length before) e in
    cut_rows k law xs vs before after count w.noted w.offer (place_filled _ _ before after e p) n

pub columns_long : (k : KindsMeaning) → RoughnessLaws k.roughness → (h d : ℕ) (xs : List Reading) (ms : List ℤ) → LawfulMultipliers k h d xs ms → length (columns_of k xs ms) ≡ length xs
columns_long k law h d xs ms w = law.columns_length (minutes xs) ms (w.count ∙ sym (length_minutes xs)) ∙ length_minutes xs

-- the columns of lawful multipliers, read again from the place
pub columns_again : (k : KindsMeaning) → RoughnessLaws k.roughness → (h d : ℕ) (xs : List Reading) (ms before after : List ℤ) (count : ℕ) → LawfulMultipliers k h d xs ms → after ≡ over (columns_of k xs ms) before → count ≡ length xs → take count after ≡ columns_of k xs ms
columns_again k law h d xs ms before after count w p n =
    ap (take count) p ∙ take_over count (columns_of k xs ms) before (columns_long k law h d xs ms w ∙ sym n)
