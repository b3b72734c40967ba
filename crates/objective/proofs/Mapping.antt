-- The two maps of a roughness, on readings that have passed their checks.
--     Mappable          what the readings and the kind are by then
use Rattle.std.proofs.Common.{◌≡◌, ℕ, ◌-◌, ◌<◌, ◌≤◌, List, [], ◌∷◌, ◌++◌, length, take, set, ℤ, None, Ok, Option, Result, refl, sym, ap, ◌∙◌, subst, arith, length-take}
use Rattle.std.proofs.lemmas.List.{append-nil, length-append, length-take-le, take-set, take_all}
use Rattle.kinds.specs.declared.reading.Reading.{Reading}
use Rattle.kinds.specs.declared.refusal.Refusal.{Refusal}
use Rattle.kinds.specs.Checks.{answer}
use Rattle.kinds.specs.Figures.{largest, over}
use Rattle.kinds.specs.Roughness.{RoughnessMeaning, told_reach, told_growth, map_no, filled, Fills, Forwards, Backs}
use Rattle.kinds.proofs.Passing.{mapped_none}
use Rattle.kinds.proofs.Ring.{mul_most}
use Rattle.objective.specs.Checks.{readings_no}
use Rattle.objective.specs.Objective.{minutes}
use Rattle.objective.proofs.Duality.{length_minutes}
use Rattle.objective.proofs.Noted.{few, lawful_noted}

-- minutes that are written one after the other: what is cut once none is left, whatever the next place then gets
none_left : (rest : List Reading) → length rest ≡ 0 → minutes rest ≡ []
none_left [] e = refl
none_left (x ∷ rest) e = absurd (omega arith)

module _ (k : ℕ) (rest xs : List Reading) (place : List ℤ) (inv : take k place ++ minutes rest ≡ minutes xs) (h : k ≤ length place) (none : length rest ≡ 0) where
  front : take k place ≡ minutes xs
  front = sym (append-nil (take k place)) ∙ ap (λ (l : List ℤ). take k place ++ l) (sym (none_left rest none)) ∙ inv

  long : length xs ≡ k
  long = sym (length_minutes xs) ∙ ap length (sym front) ∙ length-take-le k place h

  pub cut_minutes : take (length xs) place ≡ minutes xs
  cut_minutes = ap (λ (n : ℕ). take n place) long ∙ front

  pub cut_before : (x : ℤ) → take (length xs) (set place k x) ≡ minutes xs
  cut_before x = ap (λ (n : ℕ). take n (set place k x)) long ∙ take-set place k x ∙ front

-- once the place is full
pub full_left : (k : ℕ) (rest xs : List Reading) (place : List ℤ) → take k place ++ minutes rest ≡ minutes xs → length place ≤ k → length xs ≤ length place → length rest ≡ 0
full_left k rest xs place inv full few =
    omega (arith, ap length inv, length-append (take k place) (minutes rest), ap length (take_all k place full), length_minutes rest, length_minutes xs)

-- such an array has room for them
pub cut_fits : (xs : List Reading) (place : List ℤ) → take (length xs) place ≡ minutes xs → length xs ≤ length place
cut_fits xs place e = omega (arith, length-take (length xs) place, ap length e, length_minutes xs)

pub record Mappable (k : RoughnessMeaning) (xs : List Reading) : Type 0 where
  pub noted : readings_no xs ≡ None
  pub grows : k.growth ≤ 2000
  pub reaches : told_reach k < length xs

-- a map does not refuse an input of the right length whose figures are small enough
module _ (k : RoughnessMeaning) (xs : List Reading) (m : Mappable k xs) (input : List ℤ) (small : largest input ≤ 500000000) where
  passes : (wanted needed room : ℕ) → length input ≡ wanted → needed ≤ room → map_no k (minutes xs) input wanted needed room ≡ None
  passes wanted needed room long fits =
      let same = length_minutes xs in
      let most = few 0 None xs m.noted (omega arith) in
      let growth : told_growth k ≤ 2000 = omega (arith, m.grows) in
      mapped_none (told_growth k) (told_reach k) (minutes xs) input wanted needed room (record {
        grows = growth;
        reaches = omega (arith, m.reaches);
        few = omega arith;
        long = long;
        fits = fits;
        law = lawful_noted 0 None xs m.noted;
        small = omega (arith, mul_most growth small);
      })

  done : (checks : List ℤ → Option Refusal) (map : List ℤ → List ℤ) (ts before after : List ℤ) (r : Result (Unit {0}) Refusal) → ts ≡ minutes xs → checks (minutes xs) ≡ None → Fills (checks ts) (map ts) before after r → (r ≡ Ok tt) × (after ≡ over (map (minutes xs)) before)
  done checks map ts before after r cut none f =
      let F : List ℤ → Type 0 = λ l. Fills (checks l) (map l) before after r in
      let f' = subst F cut f in
      (f'.answered ∙ ap (λ (c : Option Refusal). answer c tt) none, f'.place ∙ ap (λ (c : Option Refusal). filled c (map (minutes xs)) before) none)

  pub forwarded : (ts before after : List ℤ) (r : Result (Unit {0}) Refusal) → ts ≡ minutes xs → length input ≡ length xs → length xs - told_reach k ≤ length before → Forwards k ts input before after r → (r ≡ Ok tt) × (after ≡ over (k.rows (minutes xs) input) before)
  forwarded ts before after r cut long fits f =
      let same = length_minutes xs in
      done (λ l. map_no k l input (length l) (length l - told_reach k) (length before)) (λ l. k.rows l input) ts before after r cut
      (passes (length (minutes xs)) (length (minutes xs) - told_reach k) (length before) (omega arith) (omega arith)) f

  pub backed : (ts before after : List ℤ) (r : Result (Unit {0}) Refusal) → ts ≡ minutes xs → length input ≡ length xs - told_reach k → length xs ≤ length before → Backs k ts input before after r → (r ≡ Ok tt) × (after ≡ over (k.columns (minutes xs) input) before)
  backed ts before after r cut long fits f =
      let same = length_minutes xs in
      done (λ l. map_no k l input (length l - told_reach k) (length l) (length before)) (λ l. k.columns l input) ts before after r cut
      (passes (length (minutes xs) - told_reach k) (length (minutes xs)) (length before) (omega arith) (omega arith)) f
