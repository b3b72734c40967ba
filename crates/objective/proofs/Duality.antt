-- Weak duality: a floor of lawful multipliers holds for every table, for any kinds that keep their laws.
use Rattle.std.proofs.Common.{◌≡◌, ℕ, suc, ◌*◌, ◌≤◌, List, [], ◌∷◌, length, ℤ, pos, ◌+ℤ◌, ◌-ℤ◌, neg_ℤ, nat_abs, ◌≤ℤ◌, refl, ap, mul-add, arith}
use native.Mathlib.Nat.{le_of_mul-le-mul_left}
use borrow.Author.Differences.{ints, le_out, at_most_in, le-true}
use Rattle.kinds.specs.declared.reading.Reading.{Reading}
use Rattle.kinds.specs.Figures.{dot}
use Rattle.kinds.specs.Penalty.{PenaltyMeaning, PenaltyLaws, Weight, Denominator}
use Rattle.kinds.proofs.Ring.{ring, linear}
use Rattle.objective.specs.Objective.{KindsMeaning, KindsLaws, LawfulMultipliers, BendsAllow, MisfitsAllow, minutes, crudes, misfit_cost, bend_cost, rows_of, columns_of, cost_of, floor_of}
use Rattle.objective.specs.Promises.{NoTableBeats, NearBest}

-- every weight is one of which the laws speak
abbrev pub Weights : List Reading → Type 0
Weights [] = Unit {0}
Weights (x ∷ xs) = Weight (nat_abs x.weight) × Weights xs

pub length_minutes : (xs : List Reading) → length (minutes xs) ≡ length xs
length_minutes [] = refl
length_minutes (x ∷ xs) = ap suc (length_minutes xs)

-- multipliers against rows stay below the cost of the bends
pub bends_above : (p : PenaltyMeaning) → PenaltyLaws p → (h d : ℕ) → Weight h → Denominator d → (ms rs : List ℤ) → BendsAllow p h d ms → dot ms rs ≤ℤ pos (d * bend_cost p h rs)
bends_above p law h d hw hd [] rs a = omega (arith, ints)
bends_above p law h d hw hd (m ∷ ms) [] a = omega (arith, ints)
bends_above p law h d hw hd (m ∷ ms) (r ∷ rs) a =
    let one = law.slope h d hw hd m r a.0 in
    let more = bends_above p law h d hw hd ms rs a.1 in
    omega (arith, linear, le_out, at_most_in)

-- the floor exceeds columns against values by no more than the cost of the misfit
pub misfits_above : (p : PenaltyMeaning) → PenaltyLaws p → (d : ℕ) → Denominator d → (cs : List ℤ) (xs : List Reading) (vs : List ℤ) → Weights xs → length vs ≡ length xs → MisfitsAllow p d cs xs → dot cs (crudes xs) ≤ℤ (pos (d * misfit_cost p xs vs) +ℤ dot cs vs)
misfits_above p law d hd [] xs vs w e a = omega (arith, ints)
misfits_above p law d hd (c ∷ cs) [] [] w e a = omega (arith, ints)
misfits_above p law d hd (c ∷ cs) [] (v ∷ vs) w e a = absurd (omega arith)
misfits_above p law d hd (c ∷ cs) (x ∷ xs) [] w e a = absurd (omega arith)
misfits_above p law d hd (c ∷ cs) (x ∷ xs) (v ∷ vs) w e a =
    let one = simp ring at (law.slope (nat_abs x.weight) d w.0 hd (neg_ℤ c) (v -ℤ x.crude) a.0) in
    let more = misfits_above p law d hd cs xs vs w.1 (omega arith) a.1 in
    omega (arith, linear, le_out, at_most_in)

pub floor_holds : (k : KindsMeaning) → KindsLaws k → (h d : ℕ) → Weight h → Denominator d → (xs : List Reading) (ms : List ℤ) → Weights xs → LawfulMultipliers k h d xs ms → NoTableBeats k h xs d (floor_of k xs ms)
floor_holds k law h d hw hd xs ms w m vs e =
    let long = length_minutes xs in
    let count = m.count in
    let same = law.roughness.adjoint (minutes xs) vs ms (omega arith) (omega arith) in
    let misfit = misfits_above k.misfit law.misfit d hd (columns_of k xs ms) xs vs w e m.columns in
    let bend = bends_above k.bend law.bend h d hw hd ms (rows_of k xs vs) m.multipliers in
    omega (arith, linear, le_out, at_most_in)

pub near_best : (k : KindsMeaning) (h d : ℕ) → 1 ≤ d → (xs : List Reading) (floor : ℤ) → NoTableBeats k h xs d floor → NearBest k h xs d floor
near_best k h d one xs floor holds g table vs et ev w =
    le_of_mul-le-mul_left {k = d}
    (omega (arith, linear, le_out, le-true, holds vs ev, mul-add d (cost_of k h xs vs) g)) one
