-- What the searches through readings, entries, multipliers and columns say, place by place.
--     Stops           of n places, the first at which a test fails
--     Found           the same, for a search whose first place is i
--     last_before     the minute before a place, where `last` stands before the first
--     is_fine         whether a reading may stand after a minute
use Rattle.std.proofs.Common.{◌≡◌, ℕ, zero, suc, ◌+◌, ◌<◌, ◌≤◌, Bool, true, false, cond, ◌&&◌, List, [], ◌∷◌, length, get_or, ℤ, pos, neg_ℤ, nat_abs, Some, None, Option, sym, refl, ◌∙◌, subst, arith}
use Rattle.kinds.specs.declared.reading.Reading.{Reading}
use Rattle.kinds.specs.declared.refusal.Cause.{Cause}
use Rattle.kinds.specs.declared.refusal.Cause.TheVariants.{Figure, Minute}
use Rattle.kinds.specs.declared.refusal.Refusal.{Refusal}
use Rattle.kinds.specs.Checks.{at, first_off_from}
use Rattle.kinds.specs.Minutes.{may_come}
use Rattle.kinds.specs.Penalty.{PenaltyMeaning}
use Rattle.objective.specs.Checks.{has_figures, readings_no_from, first_column_off}
use Rattle.verdict.specs.Wrong.{no_reading, minute_before}

pub record Stops (holds : ℕ → Bool) (n place : ℕ) : Type 0 where
  pub within : place < n
  pub fails : holds place ≡ false
  pub before : (j : ℕ) → j < place → holds j ≡ true

pub record Found (holds : ℕ → Bool) (n i found : ℕ) : Type 0 where
  pub place : ℕ
  pub is : found ≡ i + place
  pub stops : Stops holds n place

found_now : (holds : ℕ → Bool) (n i : ℕ) → holds 0 ≡ false → Found holds (suc n) i i
found_now holds n i e = record { place = 0; is = omega arith; stops = record { within = omega arith; fails = e; before = λ j h. absurd (omega arith) } }

found_more : (holds more : ℕ → Bool) (n i found : ℕ) → holds 0 ≡ true → ((j : ℕ) → holds (suc j) ≡ more j) → Found more n (i + 1) found → Found holds (suc n) i found
found_more holds more n i found e same f = record {
  place = suc f.place;
  is = omega (arith, f.is);
  stops = record { within = omega (arith, f.stops.within); fails = same f.place ∙ f.stops.fails; before = upto };
}
  where
    upto : (j : ℕ) → j < suc f.place → holds j ≡ true
    upto zero h = e
    upto (suc j) h = same j ∙ f.stops.before j (omega arith)

-- one place of a search: it goes on, or has found its place
search_step : (holds more : ℕ → Bool) (n i found : ℕ) → ((j : ℕ) → holds (suc j) ≡ more j) → (holds 0 ≡ true → Found more n (i + 1) found) → (holds 0 ≡ false → i ≡ found) → (b : Bool) → holds 0 ≡ b → Found holds (suc n) i found
search_step holds more n i found same on here true e = found_more holds more n i found e same (on e)
search_step holds more n i found same on here false e = subst (Found holds (suc n) i) (here e) (found_now holds n i e)

-- a search through a list
pub off_some : {X : Type 0} (test : X → Bool) (d : X) (i : ℕ) (xs : List X) (found : ℕ) → first_off_from test i xs ≡ Some found → Found (λ j. test (get_or xs j d)) (length xs) i found
off_some test d i [] found e = absurd (let z : ◌≡◌ {A = ℕ} 0 1 = cc in omega arith)
off_some test d i (x ∷ xs) found e =
    search_step (λ j. test (get_or (x ∷ xs) j d)) (λ j. test (get_or xs j d)) (length xs) i found (λ j. refl)
    (λ t. off_some test d (i + 1) xs found (grind arith)) (λ t. grind arith) (test x) refl

-- a search through columns
abbrev pub column_allowed : PenaltyMeaning → ℕ → List ℤ → List Reading → ℕ → Bool
column_allowed p d cs xs j = p.allows (nat_abs (get_or xs j no_reading).weight) d (neg_ℤ (get_or cs j (pos 0)))

pub column_none : (p : PenaltyMeaning) (d i : ℕ) (cs : List ℤ) (xs : List Reading) → length cs ≡ length xs → first_column_off p d i cs xs ≡ None → (j : ℕ) → j < length xs → column_allowed p d cs xs j ≡ true
column_none p d i [] [] same e j h = absurd (omega arith)
column_none p d i [] (x ∷ xs) same e j h = absurd (omega arith)
column_none p d i (c ∷ cs) [] same e j h = absurd (omega arith)
column_none p d i (c ∷ cs) (x ∷ xs) same e zero h = grind arith
column_none p d i (c ∷ cs) (x ∷ xs) same e (suc j) h = column_none p d (i + 1) cs xs (omega arith) (grind arith) j (omega arith)

pub column_some : (p : PenaltyMeaning) (d i : ℕ) (cs : List ℤ) (xs : List Reading) (found : ℕ) → length cs ≡ length xs → first_column_off p d i cs xs ≡ Some found → Found (column_allowed p d cs xs) (length xs) i found
column_some p d i [] xs found same e = absurd (let z : ◌≡◌ {A = ℕ} 0 1 = cc in omega arith)
column_some p d i (c ∷ cs) [] found same e = absurd (omega arith)
column_some p d i (c ∷ cs) (x ∷ xs) found same e =
    search_step (column_allowed p d (c ∷ cs) (x ∷ xs)) (column_allowed p d cs xs) (length xs) i found (λ j. refl)
    (λ t. column_some p d (i + 1) cs xs found (omega arith) (grind arith)) (λ t. grind arith) (column_allowed p d (c ∷ cs) (x ∷ xs) 0) refl

-- readings one after the other
abbrev pub last_before : Option ℤ → List Reading → ℕ → Option ℤ
last_before last xs zero = last
last_before last xs (suc j) = Some (get_or xs j no_reading).minute

abbrev pub is_fine : Option ℤ → Reading → Bool
is_fine last x = has_figures x && may_come last x.minute

abbrev pub fine_at : Option ℤ → List Reading → ℕ → Bool
fine_at last xs j = is_fine (last_before last xs j) (get_or xs j no_reading)

fine_more : (last : Option ℤ) (x : Reading) (xs : List Reading) (j : ℕ) → fine_at last (x ∷ xs) (suc j) ≡ fine_at (Some x.minute) xs j
fine_more last x xs zero = refl
fine_more last x xs (suc j) = refl

pub first_before : (xs : List Reading) (j : ℕ) → last_before None xs j ≡ minute_before xs j
first_before xs zero = refl
first_before xs (suc j) = refl

pub fine_none : (i : ℕ) (last : Option ℤ) (xs : List Reading) → readings_no_from i last xs ≡ None → (j : ℕ) → j < length xs → fine_at last xs j ≡ true
fine_none i last [] e j h = absurd (omega arith)
fine_none i last (x ∷ xs) e zero h = grind arith
fine_none i last (x ∷ xs) e (suc j) h = fine_more last x xs j ∙ fine_none (i + 1) (Some x.minute) xs (grind arith) j (omega arith)

pub record RefusedAt (last : Option ℤ) (xs : List Reading) (i : ℕ) (r : Refusal) : Type 0 where
  pub found : Found (fine_at last xs) (length xs) i r.place
  pub cause : r.cause ≡ cond (has_figures (get_or xs found.place no_reading)) Minute Figure

pub fine_some : (i : ℕ) (last : Option ℤ) (xs : List Reading) (r : Refusal) → i + length xs ≤ 240 → readings_no_from i last xs ≡ Some r → RefusedAt last xs i r
unfolding found_now found_more
fine_some i last [] r few e = absurd (let z : ◌≡◌ {A = ℕ} 0 1 = cc in omega arith)
fine_some i last (x ∷ xs) r few e =
    by_tests (has_figures x) (may_come last x.minute) refl refl (λ rest. fine_some (i + 1) (Some x.minute) xs r (omega arith) rest)
  where
    here : (c : Cause) → r ≡ at c i → is_fine last x ≡ false → c ≡ cond (has_figures x) Minute Figure → RefusedAt last (x ∷ xs) i r
    here c is t e = subst (RefusedAt last (x ∷ xs) i) (sym is) (record { found = found_now (fine_at last (x ∷ xs)) (length xs) i t; cause = e })

    by_tests : (f m : Bool) → has_figures x ≡ f → may_come last x.minute ≡ m → (readings_no_from (i + 1) (Some x.minute) xs ≡ Some r → RefusedAt (Some x.minute) xs (i + 1) r) → RefusedAt last (x ∷ xs) i r
    by_tests false m ef em on = here Figure (grind arith) (grind arith) (grind arith)
    by_tests true false ef em on = here Minute (grind arith) (grind arith) (grind arith)
    by_tests true true ef em on =
        let rest = on (grind arith) in
        record { found = found_more (fine_at last (x ∷ xs)) (fine_at (Some x.minute) xs) (length xs) i r.place (grind arith) (fine_more last x xs) rest.found; cause = rest.cause }
