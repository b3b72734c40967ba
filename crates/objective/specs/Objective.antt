-- Cost, floor and gap, for any three kinds and for tables of whole numbers of any size.
--     KindsMeaning      a roughness, the penalty of the misfit and the penalty of the bends; `three` puts them together
--     KindsLaws         that the three keep their laws
--     minutes, crudes   the minutes and the crude values of readings
--     misfit_cost       what the residuals cost: table value minus crude value, at the reading's weight
--     bend_cost         what rows cost at a stiffness
--     rows_of, columns_of     the rows of a table, the columns of multipliers
--     cost_of           the cost of a table
--     floor_of          the floor of multipliers: the sum of column times crude value
--     LawfulMultipliers      each multiplier is an allowed slope of the bends at the stiffness, and each column, negated, an
--                       allowed slope of the misfit at its reading's weight
--     BendsAllow, MisfitsAllow        the two parts of that, of multipliers and of columns
--     gap_of            D times the cost, less the floor
--     within            whether the gap is at most D times the allowance
-- A lawful weight, stiffness or denominator is no negative number, so `unsigned_abs` takes nothing away from it.
use Rattle.std.specs.Prelude.{◌≡◌, ℕ, ◌+◌, ◌*◌, Bool, true, List, [], ◌∷◌, length, ℤ, pos, ◌-ℤ◌, neg_ℤ, int_le, unsigned_abs}
use Rattle.kinds.specs.declared.reading.Reading.{Reading}
use Rattle.kinds.specs.Figures.{dot}
use Rattle.kinds.specs.Penalty.{PenaltyMeaning, PenaltyLaws}
use Rattle.kinds.specs.Roughness.{RoughnessMeaning, RoughnessLaws}

pub record KindsMeaning : Type 0 where
  pub roughness : RoughnessMeaning
  pub misfit : PenaltyMeaning
  pub bend : PenaltyMeaning

abbrev pub three : RoughnessMeaning → PenaltyMeaning → PenaltyMeaning → KindsMeaning
three r m b = record { roughness = r; misfit = m; bend = b }

pub record KindsLaws (k : KindsMeaning) : Type 0 where
  pub roughness : RoughnessLaws k.roughness
  pub misfit : PenaltyLaws k.misfit
  pub bend : PenaltyLaws k.bend

abbrev pub minutes : List Reading → List ℤ
minutes [] = []
minutes (x ∷ xs) = x.minute ∷ minutes xs

abbrev pub crudes : List Reading → List ℤ
crudes [] = []
crudes (x ∷ xs) = x.crude ∷ crudes xs

abbrev pub misfit_cost : PenaltyMeaning → List Reading → List ℤ → ℕ
misfit_cost p [] vs = 0
misfit_cost p (x ∷ xs) [] = 0
misfit_cost p (x ∷ xs) (v ∷ vs) = p.cost (unsigned_abs x.weight) (v -ℤ x.crude) + misfit_cost p xs vs

abbrev pub bend_cost : PenaltyMeaning → ℕ → List ℤ → ℕ
bend_cost p h [] = 0
bend_cost p h (r ∷ rs) = p.cost h r + bend_cost p h rs

abbrev pub rows_of : KindsMeaning → List Reading → List ℤ → List ℤ
rows_of k xs vs = k.roughness.rows (minutes xs) vs

abbrev pub columns_of : KindsMeaning → List Reading → List ℤ → List ℤ
columns_of k xs ms = k.roughness.columns (minutes xs) ms

abbrev pub cost_of : KindsMeaning → ℕ → List Reading → List ℤ → ℕ
cost_of k h xs vs = misfit_cost k.misfit xs vs + bend_cost k.bend h (rows_of k xs vs)

abbrev pub floor_of : KindsMeaning → List Reading → List ℤ → ℤ
floor_of k xs ms = dot (columns_of k xs ms) (crudes xs)

abbrev pub BendsAllow : PenaltyMeaning → ℕ → ℕ → List ℤ → Type 0
BendsAllow p h d [] = Unit {0}
BendsAllow p h d (m ∷ ms) = (p.allows h d m ≡ true) × BendsAllow p h d ms

abbrev pub MisfitsAllow : PenaltyMeaning → ℕ → List ℤ → List Reading → Type 0
MisfitsAllow p d [] xs = Unit {0}
MisfitsAllow p d (c ∷ cs) [] = Unit {0}
MisfitsAllow p d (c ∷ cs) (x ∷ xs) = (p.allows (unsigned_abs x.weight) d (neg_ℤ c) ≡ true) × MisfitsAllow p d cs xs

pub record LawfulMultipliers (k : KindsMeaning) (h d : ℕ) (xs : List Reading) (ms : List ℤ) : Type 0 where
  pub count : length ms + k.roughness.reach ≡ length xs
  pub multipliers : BendsAllow k.bend h d ms
  pub columns : MisfitsAllow k.misfit d (columns_of k xs ms) xs

abbrev pub gap_of : ℕ → ℕ → ℤ → ℤ
gap_of d cost floor = pos (d * cost) -ℤ floor

abbrev pub within : ℕ → ℕ → ℤ → ℕ → Bool
within d cost floor allowance = int_le (gap_of d cost floor) (pos (d * allowance))
