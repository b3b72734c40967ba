-- What the two weighing calls promise.
--     WeighsTable           the cost of a table, and its rows in the caller's place
--     NoTableBeats          a floor holds for every table: D times its cost is at least the floor
--     NearBest              a table whose gap is within an allowance costs at most that much more than any other
--     Given                 a stiffness, readings and a denominator that are in order
--     WeighsMultipliers    the floor of multipliers and their columns in the caller's place; that those which are accepted are
--                           lawful, and lawful ones accepted; and what the floor of lawful ones says of every table
use Rattle.std.specs.Prelude.{◌≡◌, ℕ, ◌+◌, ◌*◌, ◌<◌, ◌≤◌, true, List, length, ℤ, pos, ◌≤ℤ◌, None, Result, unsigned_abs}
use Rattle.kinds.specs.declared.reading.Reading.{Reading}
use Rattle.kinds.specs.declared.refusal.Refusal.{Refusal}
use Rattle.kinds.specs.Checks.{answer}
use Rattle.kinds.specs.Penalty.{is_denominator}
use Rattle.kinds.specs.Roughness.{told_reach, filled}
use Rattle.objective.specs.Objective.{KindsMeaning, LawfulMultipliers, rows_of, columns_of, cost_of, floor_of, within}
use Rattle.objective.specs.Checks.{is_stiffness, readings_no, kinds_no, weigh_table_no, weigh_multipliers_no}

pub record WeighsTable (k : KindsMeaning) (h : ℤ) (xs : List Reading) (vs before after : List ℤ) (r : Result ℕ Refusal) : Type 0 where
  pub answered : r ≡ answer (weigh_table_no k h xs vs (length before)) (cost_of k (unsigned_abs h) xs vs)
  pub place : after ≡ filled (weigh_table_no k h xs vs (length before)) (rows_of k xs vs) before

abbrev pub NoTableBeats : KindsMeaning → ℕ → List Reading → ℕ → ℤ → Type 0
NoTableBeats k h xs d floor = (vs : List ℤ) → length vs ≡ length xs → floor ≤ℤ pos (d * cost_of k h xs vs)

abbrev pub NearBest : KindsMeaning → ℕ → List Reading → ℕ → ℤ → Type 0
NearBest k h xs d floor =
    (allowance : ℕ) (table vs : List ℤ)
    → length table ≡ length xs
    → length vs ≡ length xs
    → within d (cost_of k h xs table) floor allowance ≡ true
    → cost_of k h xs table ≤ cost_of k h xs vs + allowance

pub record Given (h : ℤ) (xs : List Reading) (d : ℤ) : Type 0 where
  pub stiff : is_stiffness h ≡ true
  pub noted : readings_no xs ≡ None
  pub divides : is_denominator d ≡ true

pub record WeighsMultipliers (k : KindsMeaning) (h : ℤ) (xs : List Reading) (d : ℤ) (ms before after : List ℤ) (r : Result ℤ Refusal) : Type 0 where
  pub answered : r ≡ answer (weigh_multipliers_no k h xs d ms (length before)) (floor_of k xs ms)
  pub place : after ≡ filled (weigh_multipliers_no k h xs d ms (length before)) (columns_of k xs ms) before
  pub lawful : weigh_multipliers_no k h xs d ms (length before) ≡ None → Given h xs d × LawfulMultipliers k (unsigned_abs h) (unsigned_abs d) xs ms
  pub accepted : Given h xs d → LawfulMultipliers k (unsigned_abs h) (unsigned_abs d) xs ms → kinds_no k ≡ None → told_reach k.roughness < length xs → length xs ≤ length before → weigh_multipliers_no k h xs d ms (length before) ≡ None
  pub floor_holds : Given h xs d → LawfulMultipliers k (unsigned_abs h) (unsigned_abs d) xs ms → NoTableBeats k (unsigned_abs h) xs (unsigned_abs d) (floor_of k xs ms)
  pub near_best : Given h xs d → LawfulMultipliers k (unsigned_abs h) (unsigned_abs d) xs ms → NearBest k (unsigned_abs h) xs (unsigned_abs d) (floor_of k xs ms)
