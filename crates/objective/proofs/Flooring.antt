-- From the checks of multipliers to their floor and what it says.
--     Floorable         what multipliers that pass all checks but that of the columns are
use Rattle.std.proofs.Common.{◌≡◌, ℕ, ◌+◌, ◌-◌, ◌<◌, ◌≤◌, true, ◌&&◌, eqb, ltb, leb, List, [], ◌∷◌, length, take, ℤ, nat_abs, Some, None, Err, Option, Result, sym, refl, ap, ◌∙◌, arith}
use Rattle.kinds.specs.declared.reading.Reading.{Reading}
use Rattle.kinds.specs.declared.refusal.Cause.TheVariants.{Length, Denominator as BadDenominator, Multiplier, Column, Short}
use Rattle.kinds.specs.declared.refusal.Refusal.{Refusal}
use Rattle.kinds.specs.Checks.{at, unless, located, or_else, first_off, first_off_from, answer}
use Rattle.kinds.specs.Figures.{dot, largest, over}
use Rattle.kinds.specs.Penalty.{PenaltyMeaning, PenaltyLaws, Weight, Denominator, is_denominator}
use Rattle.kinds.specs.Roughness.{RoughnessLaws, told_reach, filled}
use Rattle.kinds.proofs.Passing.{says_no}
use Rattle.kinds.proofs.Places.{take_over}
use Rattle.kinds.proofs.Ring.{mul_most}
use Rattle.objective.specs.Checks.{is_stiffness, has_figures, stiffness_no, readings_no, kinds_no, readings_no_from, multipliers_no, first_column_off, columns_no, before_columns_no, weigh_multipliers_no}
use Rattle.objective.specs.Objective.{KindsMeaning, KindsLaws, LawfulMultipliers, BendsAllow, MisfitsAllow, minutes, crudes, columns_of, floor_of}
use Rattle.objective.specs.Promises.{NoTableBeats, Given, WeighsMultipliers}
use Rattle.objective.proofs.Duality.{Weights, length_minutes, floor_holds, near_best}
use Rattle.objective.proofs.Noted.{few, lawful_noted, weight_most}
use Rattle.objective.proofs.Slopes.{allowed_most, weight_of, denominator_of}
use Rattle.objective.proofs.Totals.{stiffness_weighs}
use Rattle.objective.proofs.Weighing.{both_none, is_stiff, nothing_located}

pub record Floorable (k : KindsMeaning) (h : ℤ) (xs : List Reading) (d : ℤ) (ms : List ℤ) (room : ℕ) : Type 0 where
  pub stiff : is_stiffness h ≡ true
  pub noted : readings_no xs ≡ None
  pub grows : k.roughness.growth ≤ 2000
  pub bend_steep : k.bend.steepness ≤ 100
  pub reaches : told_reach k.roughness < length xs
  pub long : length ms ≡ length xs - told_reach k.roughness
  pub fits : length xs ≤ room
  pub divides : is_denominator d ≡ true
  pub slopes : first_off (k.bend.allows (nat_abs h) (nat_abs d)) ms ≡ None

pub floorable : (k : KindsMeaning) (h : ℤ) (xs : List Reading) (d : ℤ) (ms : List ℤ) (room : ℕ) → before_columns_no k h xs d ms room ≡ None → Floorable k h xs d ms room
floorable k h xs d ms room e =
    let a = both_none (stiffness_no h) _ e in
    let b = both_none (readings_no xs) _ a.1 in
    let c = (both_none (multipliers_no k (nat_abs h) (length xs) d ms room) None b.1).0 in
    record {
      stiff = is_stiff h a.0;
      noted = b.0;
      grows = grind (arith, c);
      bend_steep = grind (arith, c);
      reaches = grind (arith, c);
      long = grind (arith, c);
      fits = grind (arith, c);
      divides = grind (arith, c);
      slopes = nothing_located Multiplier (first_off (k.bend.allows (nat_abs h) (nat_abs d)) ms) (grind (arith, c));
    }

slopes_most : (p : PenaltyMeaning) → PenaltyLaws p → p.steepness ≤ 100 → (h d : ℕ) → Weight h → Denominator d → (i : ℕ) (ms : List ℤ) → first_off_from (p.allows h d) i ms ≡ None → largest ms ≤ 100000000
slopes_most p law steep h d hw hd i [] e = omega arith
slopes_most p law steep h d hw hd i (m ∷ ms) e =
    let here = allowed_most p law steep h d hw hd m (grind arith) in
    let more = slopes_most p law steep h d hw hd (i + 1) ms (grind arith) in
    omega arith

pub multipliers_most : (k : KindsMeaning) → PenaltyLaws k.bend → (h : ℤ) (xs : List Reading) (d : ℤ) (ms : List ℤ) (room : ℕ) → Floorable k h xs d ms room → largest ms ≤ 100000000
multipliers_most k law h xs d ms room f =
    slopes_most k.bend law f.bend_steep (nat_abs h) (nat_abs d) (weight_of h (stiffness_weighs h f.stiff)) (denominator_of d f.divides) 0 ms f.slopes

-- the columns of such multipliers
pub record Columned (k : KindsMeaning) (xs : List Reading) (columns : List ℤ) : Type 0 where
  pub long : length columns ≡ length xs
  pub small : largest columns ≤ 1000000000000

pub columned : (k : KindsMeaning) → RoughnessLaws k.roughness → (h : ℤ) (xs : List Reading) (d : ℤ) (ms : List ℤ) (room : ℕ) → Floorable k h xs d ms room → largest ms ≤ 100000000 → Columned k xs (columns_of k xs ms)
columned k law h xs d ms room f small =
    let same = length_minutes xs in
    let most = few 0 None xs f.noted (omega arith) in
    let reaches = f.reaches in
    let count : length ms + k.roughness.reach ≡ length (minutes xs) = omega (arith, f.long) in
    let long = law.columns_length (minutes xs) ms count in
    let grown = law.columns_growth (minutes xs) ms (lawful_noted 0 None xs f.noted) count in
    record { long = omega arith; small = omega (arith, mul_most f.grows small) }

pub cut_columns : (k : KindsMeaning) (xs : List Reading) (ms place old : List ℤ) → Columned k xs (columns_of k xs ms) → place ≡ over (columns_of k xs ms) old → take (length xs) place ≡ columns_of k xs ms
cut_columns k xs ms place old c e =
    ap (take (length xs)) e ∙ take_over (length xs) (columns_of k xs ms) old c.long

-- multipliers and columns that passed are lawful
bends_allow : (p : PenaltyMeaning) (h d i : ℕ) (ms : List ℤ) → first_off_from (p.allows h d) i ms ≡ None → BendsAllow p h d ms
bends_allow p h d i [] e = tt
bends_allow p h d i (m ∷ ms) e = (grind arith, bends_allow p h d (i + 1) ms (grind arith))

misfits_allow : (p : PenaltyMeaning) (d i : ℕ) (cs : List ℤ) (xs : List Reading) → first_column_off p d i cs xs ≡ None → MisfitsAllow p d cs xs
misfits_allow p d i [] xs e = tt
misfits_allow p d i (c ∷ cs) [] e = tt
misfits_allow p d i (c ∷ cs) (x ∷ xs) e = (grind arith, misfits_allow p d (i + 1) cs xs (grind arith))

weights : (i : ℕ) (last : Option ℤ) (xs : List Reading) → readings_no_from i last xs ≡ None → Weights xs
weights i last [] e = tt
weights i last (x ∷ xs) e =
    let fine : has_figures x ≡ true = grind arith in
    (omega (arith, weight_most x fine), weights (i + 1) (Some x.minute) xs (grind arith))

pub lawful_multipliers : (k : KindsMeaning) (h : ℤ) (xs : List Reading) (d : ℤ) (ms : List ℤ) (room : ℕ) → weigh_multipliers_no k h xs d ms room ≡ None → Given h xs d × LawfulMultipliers k (nat_abs h) (nat_abs d) xs ms
lawful_multipliers k h xs d ms room e =
    let a = both_none (before_columns_no k h xs d ms room) _ e in
    let f = floorable k h xs d ms room a.0 in
    let most = few 0 None xs f.noted (omega arith) in
    let reaches = f.reaches in (
      record { stiff = f.stiff; noted = f.noted; divides = f.divides },
      record {
        count = omega (arith, f.long);
        multipliers = bends_allow k.bend (nat_abs h) (nat_abs d) 0 ms f.slopes;
        columns = misfits_allow k.misfit (nat_abs d) 0 (columns_of k xs ms) xs (nothing_located Column _ a.1);
      },
    )

-- lawful multipliers pass
and_none : (a b : Option Refusal) → a ≡ None → b ≡ None → or_else a b ≡ None
and_none a b e f = ap (λ (c : Option Refusal). or_else c b) e ∙ f

none_off : (p : PenaltyMeaning) (h d i : ℕ) (ms : List ℤ) → BendsAllow p h d ms → first_off_from (p.allows h d) i ms ≡ None
none_off p h d i [] a = refl
none_off p h d i (m ∷ ms) a = let more = none_off p h d (i + 1) ms a.1 in grind (arith, a.0)

no_column_off : (p : PenaltyMeaning) (d i : ℕ) (cs : List ℤ) (xs : List Reading) → MisfitsAllow p d cs xs → first_column_off p d i cs xs ≡ None
no_column_off p d i [] xs a = refl
no_column_off p d i (c ∷ cs) [] a = refl
no_column_off p d i (c ∷ cs) (x ∷ xs) a = let more = no_column_off p d (i + 1) cs xs a.1 in grind (arith, a.0)

pub accepted : (k : KindsMeaning) (h : ℤ) (xs : List Reading) (d : ℤ) (ms : List ℤ) (room : ℕ) → Given h xs d → LawfulMultipliers k (nat_abs h) (nat_abs d) xs ms → kinds_no k ≡ None → told_reach k.roughness < length xs → length xs ≤ room → weigh_multipliers_no k h xs d ms room ≡ None
accepted k h xs d ms room given m kinds reaches fits =
    let most = few 0 None xs given.noted (omega arith) in
    let count = m.count in
    let stiff : stiffness_no h ≡ None = grind (arith, given.stiff) in
    let short : unless (ltb (told_reach k.roughness) (length xs)) (at Short 0) ≡ None = grind arith in
    let long : unless (eqb (length ms) (length xs - told_reach k.roughness) && leb (length xs) room) (at Length 0) ≡ None = grind arith in
    let divides : unless (is_denominator d) (at BadDenominator 0) ≡ None = grind (arith, given.divides) in
    let slopes = ap (located Multiplier) (none_off k.bend (nat_abs h) (nat_abs d) 0 ms m.multipliers) in
    let own : multipliers_no k (nat_abs h) (length xs) d ms room ≡ None = and_none _ _ kinds (and_none _ _ short (and_none _ _ long (and_none _ _ divides (and_none _ _ slopes refl)))) in
    let before : before_columns_no k h xs d ms room ≡ None = and_none _ _ stiff (and_none _ _ given.noted (and_none _ _ own refl)) in
    ap (λ (c : Option Refusal). or_else c (columns_no k.misfit (nat_abs d) (columns_of k xs ms) xs)) before
    ∙ ap (located Column) (no_column_off k.misfit (nat_abs d) 0 (columns_of k xs ms) xs m.columns)

pub floored : (k : KindsMeaning) → KindsLaws k → (h : ℤ) (xs : List Reading) (d : ℤ) (ms before after : List ℤ) (r : Result ℤ Refusal) → r ≡ answer (weigh_multipliers_no k h xs d ms (length before)) (floor_of k xs ms) → after ≡ filled (weigh_multipliers_no k h xs d ms (length before)) (columns_of k xs ms) before → WeighsMultipliers k h xs d ms before after r
floored k law h xs d ms before after r a p = record {
  answered = a;
  place = p;
  lawful = lawful_multipliers k h xs d ms (length before);
  accepted = accepted k h xs d ms (length before);
  floor_holds = below;
  near_best = λ given m. near_best k (nat_abs h) (nat_abs d) (denominator_of d given.divides).0 xs (floor_of k xs ms) (below given m);
}
  where
    below : Given h xs d → LawfulMultipliers k (nat_abs h) (nat_abs d) xs ms → NoTableBeats k (nat_abs h) xs (nat_abs d) (floor_of k xs ms)
    below given m =
        floor_holds k law (nat_abs h) (nat_abs d) (weight_of h (stiffness_weighs h given.stiff)) (denominator_of d given.divides) xs ms (weights 0 None xs given.noted) m

pub floor_refused : (k : KindsMeaning) → KindsLaws k → (h : ℤ) (xs : List Reading) (d : ℤ) (ms before : List ℤ) (r : Refusal) → weigh_multipliers_no k h xs d ms (length before) ≡ Some r → WeighsMultipliers k h xs d ms before before (Err r)
floor_refused k law h xs d ms before r e =
    floored k law h xs d ms before before (Err r) (says_no _ _ r e) (sym (ap (λ (c : Option Refusal). filled c (columns_of k xs ms) before) e))

-- where the last check decides
pub floor_settled : (k : KindsMeaning) → KindsLaws k → (h : ℤ) (xs : List Reading) (d : ℤ) (ms before after columns : List ℤ) (r : Result ℤ Refusal) → columns ≡ columns_of k xs ms → before_columns_no k h xs d ms (length before) ≡ None → r ≡ answer (columns_no k.misfit (nat_abs d) columns xs) (dot columns (crudes xs)) → after ≡ filled (columns_no k.misfit (nat_abs d) columns xs) columns before → WeighsMultipliers k h xs d ms before after r
floor_settled k law h xs d ms before after columns r cut none value place =
    let last = ap (λ (c : Option Refusal). or_else c (columns_no k.misfit (nat_abs d) (columns_of k xs ms) xs)) none in
    floored k law h xs d ms before after r
    (value ∙ ap (λ (l : List ℤ). answer (columns_no k.misfit (nat_abs d) l xs) (dot l (crudes xs))) cut ∙ sym (ap (λ (c : Option Refusal). answer c (floor_of k xs ms)) last))
    (place ∙ ap (λ (l : List ℤ). filled (columns_no k.misfit (nat_abs d) l xs) l before) cut ∙ sym (ap (λ (c : Option Refusal). filled c (columns_of k xs ms) before) last))

-- where an earlier check decides
pub stopped_before : (k : KindsMeaning) (h : ℤ) (xs : List Reading) (d : ℤ) (ms : List ℤ) (room : ℕ) (r : Refusal) → before_columns_no k h xs d ms room ≡ Some r → weigh_multipliers_no k h xs d ms room ≡ Some r
stopped_before k h xs d ms room r e = ap (λ (c : Option Refusal). or_else c (columns_no k.misfit (nat_abs d) (columns_of k xs ms) xs)) e
