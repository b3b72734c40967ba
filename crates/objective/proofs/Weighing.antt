-- From checks that pass to what the weighing calls promise.
--     Offered           what a table that passes its checks is
use Rattle.std.proofs.Common.{◌≡◌, ℕ, ◌+◌, ◌-◌, ◌<◌, ◌≤◌, true, ◌&&◌, eqb, ltb, leb, List, [], ◌∷◌, length, take, ℤ, nat_abs, Some, None, Ok, Err, Option, sym, refl, ap, ◌∙◌, subst, arith}
use Rattle.kinds.specs.declared.reading.Reading.{Reading}
use Rattle.kinds.specs.declared.refusal.Cause.{Cause}
use Rattle.kinds.specs.declared.refusal.Cause.TheVariants.{Length, Value, Denominator as BadDenominator, Multiplier, Short}
use Rattle.kinds.specs.declared.refusal.Refusal.{Refusal}
use Rattle.kinds.specs.Checks.{at, unless, located, or_else, first_of, first_off, first_off_from}
use Rattle.kinds.specs.Penalty.{is_denominator}
use Rattle.kinds.specs.Figures.{largest, over}
use Rattle.kinds.specs.Roughness.{RoughnessLaws, told_reach, filled}
use Rattle.kinds.proofs.Passing.{says_no, says_so}
use Rattle.kinds.proofs.Places.{take_over}
use Rattle.kinds.proofs.Ring.{mul_most}
use Rattle.objective.specs.Checks.{is_value, is_stiffness, stiffness_no, readings_no, kinds_no, begun_no, table_no, weigh_table_no, before_columns_no}
use Rattle.objective.specs.Objective.{KindsMeaning, minutes, rows_of, cost_of}
use Rattle.objective.specs.Promises.{WeighsTable}
use Rattle.objective.proofs.Duality.{length_minutes}
use Rattle.objective.proofs.Noted.{few, lawful_noted}
use Rattle.objective.proofs.Stored.{value_most}

pub nothing_located : (c : Cause) (o : Option ℕ) → located c o ≡ None → o ≡ None
nothing_located c None e = refl
nothing_located c (Some p) e = cc

pub record Offered (k : KindsMeaning) (n : ℕ) (vs : List ℤ) (room : ℕ) : Type 0 where
  pub grows : k.roughness.growth ≤ 2000
  pub reaches : told_reach k.roughness < n
  pub long : length vs ≡ n
  pub fits : n - told_reach k.roughness ≤ room
  pub values : first_off is_value vs ≡ None

pub offered : (k : KindsMeaning) (n : ℕ) (vs : List ℤ) (room : ℕ) → table_no k n vs room ≡ None → Offered k n vs room
offered k n vs room e = record {
  grows = grind arith;
  reaches = grind arith;
  long = grind arith;
  fits = grind arith;
  values = nothing_located Value (first_off is_value vs) (grind arith);
}

pub values_most : (i : ℕ) (vs : List ℤ) → first_off_from is_value i vs ≡ None → largest vs ≤ 20000
values_most i [] e = omega arith
values_most i (v ∷ vs) e =
    let here = value_most v (grind arith) in
    let more = values_most (i + 1) vs (grind arith) in
    omega arith

pub table_refused : (k : KindsMeaning) (h : ℤ) (xs : List Reading) (vs before : List ℤ) (r : Refusal) → weigh_table_no k h xs vs (length before) ≡ Some r → WeighsTable k h xs vs before before (Err r)
table_refused k h xs vs before r e = record { answered = says_no _ _ r e; place = sym (ap (λ (c : Option Refusal). filled c (rows_of k xs vs) before) e) }

pub table_weighed : (k : KindsMeaning) (h : ℤ) (xs : List Reading) (vs before after : List ℤ) (cost : ℕ) → weigh_table_no k h xs vs (length before) ≡ None → after ≡ over (rows_of k xs vs) before → cost ≡ cost_of k (nat_abs h) xs vs → WeighsTable k h xs vs before after (Ok cost)
table_weighed k h xs vs before after cost e a c = record {
  answered = ap (λ (n : ℕ). Ok n) c ∙ says_so _ _ e;
  place = a ∙ sym (ap (λ (o : Option Refusal). filled o (rows_of k xs vs) before) e);
}

-- the rows of a table that passes
pub record Rowed (k : KindsMeaning) (xs : List Reading) (rows : List ℤ) : Type 0 where
  pub long : length rows ≡ length xs - told_reach k.roughness
  pub few : length rows ≤ 240
  pub small : largest rows ≤ 40000000

pub rowed : (k : KindsMeaning) → RoughnessLaws k.roughness → (xs : List Reading) (vs : List ℤ) (room : ℕ) → readings_no xs ≡ None → Offered k (length xs) vs room → Rowed k xs (rows_of k xs vs)
rowed k law xs vs room noted o =
    let long = length_minutes xs in
    let most = few 0 None xs noted (omega arith) in
    let reaches = o.reaches in
    let rows = law.rows_length (minutes xs) vs (omega (arith, o.long)) in
    let grown = law.rows_growth (minutes xs) vs (lawful_noted 0 None xs noted) (omega (arith, o.long)) in
    record {
      long = omega arith;
      few = omega arith;
      small = omega (arith, mul_most o.grows (values_most 0 vs o.values));
    }

pub both_none : (a b : Option Refusal) → or_else a b ≡ None → (a ≡ None) × (b ≡ None)
both_none None b e = (refl, e)
both_none (Some r) b e = absurd (let z : ◌≡◌ {A = ℕ} 0 1 = cc in omega arith)

-- what passes all checks of a table
pub record Weighable (k : KindsMeaning) (h : ℤ) (xs : List Reading) (vs : List ℤ) (room : ℕ) : Type 0 where
  pub noted : readings_no xs ≡ None
  pub offer : Offered k (length xs) vs room

pub is_stiff : (h : ℤ) → stiffness_no h ≡ None → is_stiffness h ≡ true
is_stiff h e = grind arith

pub weighable : (k : KindsMeaning) (h : ℤ) (xs : List Reading) (vs : List ℤ) (room : ℕ) → weigh_table_no k h xs vs room ≡ None → Weighable k h xs vs room
weighable k h xs vs room e =
    let a = both_none (stiffness_no h) _ e in
    let b = both_none (readings_no xs) _ a.1 in
    let c = both_none (table_no k (length xs) vs room) None b.1 in
    record { noted = b.0; offer = offered k (length xs) vs room c.0 }

-- the rows that are read again from the caller's place
pub cut_rows : (k : KindsMeaning) → RoughnessLaws k.roughness → (xs : List Reading) (vs before after : List ℤ) (count : ℕ) → readings_no xs ≡ None → Offered k (length xs) vs (length before) → after ≡ over (rows_of k xs vs) before → count ≡ length xs - told_reach k.roughness → take count after ≡ rows_of k xs vs
cut_rows k law xs vs before after count noted o a e =
    let long = (rowed k law xs vs (length before) noted o).long in
    ap (take count) a ∙ take_over count (rows_of k xs vs) before (omega arith)

-- the checks that a table and multipliers begin with
begun_stops : (a b c d rest : Option Refusal) (r : Refusal) → or_else a (or_else b (or_else c (or_else d None))) ≡ Some r → or_else a (or_else b (or_else (or_else c (or_else d rest)) None)) ≡ Some r
begun_stops (Some x) b c d rest r e = e
begun_stops None (Some x) c d rest r e = e
begun_stops None None (Some x) d rest r e = e
begun_stops None None None (Some x) rest r e = e
begun_stops None None None None rest r e = cc

short_no : KindsMeaning → List Reading → Option Refusal
short_no k xs = unless (ltb (told_reach k.roughness) (length xs)) (at Short 0)

pub begun_table : (k : KindsMeaning) (h : ℤ) (xs : List Reading) (vs : List ℤ) (room : ℕ) (r : Refusal) → begun_no k h xs ≡ Some r → weigh_table_no k h xs vs room ≡ Some r
unfolding short_no
begun_table k h xs vs room r =
    begun_stops (stiffness_no h) (readings_no xs) (kinds_no k) (short_no k xs)
    (first_of (unless (eqb (length vs) (length xs) && leb (length xs - told_reach k.roughness) room) (at Length 0) ∷ located Value (first_off is_value vs) ∷ [])) r

pub begun_multipliers : (k : KindsMeaning) (h : ℤ) (xs : List Reading) (d : ℤ) (ms : List ℤ) (room : ℕ) (r : Refusal) → begun_no k h xs ≡ Some r → before_columns_no k h xs d ms room ≡ Some r
unfolding short_no
begun_multipliers k h xs d ms room r =
    begun_stops (stiffness_no h) (readings_no xs) (kinds_no k) (short_no k xs)
    (first_of (
    unless (eqb (length ms) (length xs - told_reach k.roughness) && leb (length xs) room) (at Length 0)
    ∷ unless (is_denominator d) (at BadDenominator 0)
    ∷ located Multiplier (first_off (k.bend.allows (nat_abs h) (nat_abs d)) ms)
    ∷ [])) r

-- what holds of a firing holds of what it was made of
pub moved : {K : Type 0} (P : K → ℤ → List Reading → Type 0) {k k' : K} {h h' : ℤ} {xs xs' : List Reading} → k ≡ k' → h ≡ h' → xs ≡ xs' → P k h xs → P k' h' xs'
moved P {k'} {h} {h'} {xs} ek eh ex p =
    subst (P k' h') ex (subst (λ (z : ℤ). P k' z xs) eh (subst (λ k. P k h xs) ek p))
