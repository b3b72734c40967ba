-- Readings that pass their checks, one after the other.
--     blank         what stands past the last reading
use Rattle.std.proofs.Common.{◌≡◌, ℕ, zero, suc, ◌+◌, ◌<◌, ◌≤◌, true, List, [], ◌∷◌, length, get_or, drop, ℤ, pos, nat_abs, Some, None, Option, sym, refl, ap, ◌∙◌, arith}
use borrow.Author.Differences.{ints}
use Rattle.std.proofs.lemmas.List.{at_drop_more}
use Rattle.kinds.specs.declared.reading.Reading.{Reading}
use Rattle.kinds.specs.declared.refusal.Refusal.{Refusal}
use Rattle.kinds.specs.Checks.{or_else}
use Rattle.kinds.specs.Minutes.{lawful_from}
use Rattle.kinds.specs.Penalty.{is_weight}
use Rattle.objective.specs.Checks.{is_value, has_figures, reading_no, readings_no_from}
use Rattle.objective.specs.Objective.{minutes}

abbrev pub blank : Reading
blank = record { minute = pos 0; crude = pos 0; weight = pos 0 }

module _ (i : ℕ) (last : Option ℤ) (xs : List Reading) (all : Option Refusal) (h : i < length xs) (inv : readings_no_from i last (drop i xs) ≡ all) where
  here : or_else (reading_no i i last (get_or xs i blank)) (readings_no_from (i + 1) (Some (get_or xs i blank).minute) (drop (i + 1) xs)) ≡ all
  here = sym (at_drop_more (readings_no_from i last) xs i blank h) ∙ inv

  pub noted_stop : (r : Refusal) → reading_no i i last (get_or xs i blank) ≡ Some r → all ≡ Some r
  noted_stop r e = sym here ∙ ap (λ (c : Option Refusal). or_else c (readings_no_from (i + 1) (Some (get_or xs i blank).minute) (drop (i + 1) xs))) e

-- what readings that pass are at each place
pub figures_at : (i : ℕ) (last : Option ℤ) (xs : List Reading) → readings_no_from i last xs ≡ None → (k : ℕ) → k < length xs → has_figures (get_or xs k blank) ≡ true
figures_at i last [] e k h = absurd (omega arith)
figures_at i last (x ∷ xs) e zero h = grind arith
figures_at i last (x ∷ xs) e (suc k) h = figures_at (i + 1) (Some x.minute) xs (grind arith) k (omega arith)

pub crude_value : (x : Reading) → has_figures x ≡ true → is_value x.crude ≡ true
crude_value x e = grind arith

pub crude_most : (x : Reading) → has_figures x ≡ true → nat_abs x.crude ≤ 20000
crude_most x e = grind (arith, ints)

pub weighs : (x : Reading) → has_figures x ≡ true → is_weight x.weight ≡ true
weighs x e = grind (arith, ints)

pub weight_most : (x : Reading) → has_figures x ≡ true → nat_abs x.weight ≤ 100
weight_most x e = grind (arith, ints)

pub few : (i : ℕ) (last : Option ℤ) (xs : List Reading) → readings_no_from i last xs ≡ None → i ≤ 240 → i + length xs ≤ 240
few i last [] e h = omega arith
few i last (x ∷ xs) e h =
    let room : i < 240 = grind arith in
    omega (arith, few (i + 1) (Some x.minute) xs (grind arith) (omega arith))

pub lawful_noted : (i : ℕ) (last : Option ℤ) (xs : List Reading) → readings_no_from i last xs ≡ None → lawful_from last (minutes xs) ≡ true
lawful_noted i last [] e = refl
lawful_noted i last (x ∷ xs) e =
    let more = lawful_noted (i + 1) (Some x.minute) xs (grind arith) in
    grind arith
