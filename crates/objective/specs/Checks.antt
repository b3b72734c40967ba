-- The checks of settings, readings, tables and multipliers, in their order: settings, then readings one after the other,
-- then what concerns the table or the multipliers.
--     in_range          whether a figure lies between two bounds
--     is_stiffness, is_allowance, is_value, has_figures     the ranges of settings, of values, and of a reading's figures
--     settings_no       stiffness 1 to 1,000 and allowance 0 to 10^12
--     reading_no        a reading that comes after `count` others, the last of them at `last`; `place` is named in the refusal
--     readings_no       readings one after the other, each refused at its own place; `readings_no_from` begins at a place
--     kinds_no          growth at most 2,000, steepness at most 100
--     table_no          a table for n readings, and a place of `room` figures for its rows
--     multipliers_no    multipliers for n readings, and a place of `room` figures for their columns; all but the columns
--     columns_no        the columns; `first_column_off` is the first that is not allowed
--     stiffness_no      a stiffness alone
--     begun_no          the checks that tables and multipliers share: of a stiffness, readings and kinds
--     before_columns_no all checks of multipliers on readings and a stiffness, but for the columns
--     weigh_table_no, weigh_multipliers_no      all checks of a table, of multipliers, on readings and a stiffness
use Rattle.std.specs.Prelude.{ℕ, ◌+◌, ◌-◌, Bool, cond, ◌&&◌, List, [], ◌∷◌, length, ℤ, pos, neg_ℤ, Some, None, Option, ◌==◌, int_le, nat_le, nat_lt, unsigned_abs}
use Rattle.kinds.specs.declared.reading.Reading.{Reading}
use Rattle.kinds.specs.declared.refusal.Cause.TheVariants.{Figure, Minute, Setting, Length, Value, Denominator, Multiplier, Column, Full, Steep, Short}
use Rattle.kinds.specs.declared.refusal.Refusal.{Refusal}
use Rattle.kinds.specs.Checks.{at, unless, located, or_else, first_of, first_off}
use Rattle.kinds.specs.Minutes.{may_come}
use Rattle.kinds.specs.Penalty.{PenaltyMeaning, is_denominator}
use Rattle.kinds.specs.Roughness.{told_reach}
use Rattle.objective.specs.Objective.{KindsMeaning, columns_of}

abbrev pub in_range : ℤ → ℤ → ℤ → Bool
in_range low high x = int_le low x && int_le x high

abbrev pub is_stiffness : ℤ → Bool
is_stiffness h = in_range (pos 1) (pos 1000) h

abbrev pub is_allowance : ℤ → Bool
is_allowance g = in_range (pos 0) (pos 1000000000000) g

abbrev pub is_value : ℤ → Bool
is_value v = in_range (pos 0) (pos 20000) v

abbrev pub has_figures : Reading → Bool
has_figures x = is_value x.crude && in_range (pos 0) (pos 100) x.weight

abbrev pub settings_no : ℤ → ℤ → Option Refusal
settings_no h g = unless (is_stiffness h && is_allowance g) (at Setting 0)

abbrev pub reading_no : ℕ → ℕ → Option ℤ → Reading → Option Refusal
reading_no count place last x =
    first_of (
    unless (nat_lt count 240) (at Full place)
    ∷ unless (has_figures x) (at Figure place)
    ∷ unless (may_come last x.minute) (at Minute place)
    ∷ [])

-- the first of these readings stands at place i
abbrev pub readings_no_from : ℕ → Option ℤ → List Reading → Option Refusal
readings_no_from i last [] = None
readings_no_from i last (x ∷ xs) = or_else (reading_no i i last x) (readings_no_from (i + 1) (Some x.minute) xs)

abbrev pub readings_no : List Reading → Option Refusal
readings_no xs = readings_no_from 0 None xs

abbrev pub kinds_no : KindsMeaning → Option Refusal
kinds_no k = unless (nat_le k.roughness.growth 2000 && nat_le k.misfit.steepness 100 && nat_le k.bend.steepness 100) (at Steep 0)

abbrev pub table_no : KindsMeaning → ℕ → List ℤ → ℕ → Option Refusal
table_no k n vs room =
    first_of (
    kinds_no k
    ∷ unless (nat_lt (told_reach k.roughness) n) (at Short 0)
    ∷ unless (length vs == n && nat_le (n - told_reach k.roughness) room) (at Length 0)
    ∷ located Value (first_off is_value vs)
    ∷ [])

abbrev pub multipliers_no : KindsMeaning → ℕ → ℕ → ℤ → List ℤ → ℕ → Option Refusal
multipliers_no k h n d ms room =
    first_of (
    kinds_no k
    ∷ unless (nat_lt (told_reach k.roughness) n) (at Short 0)
    ∷ unless (length ms == n - told_reach k.roughness && nat_le n room) (at Length 0)
    ∷ unless (is_denominator d) (at Denominator 0)
    ∷ located Multiplier (first_off (k.bend.allows h (unsigned_abs d)) ms)
    ∷ [])

-- the first of these columns stands at place i
abbrev pub first_column_off : PenaltyMeaning → ℕ → ℕ → List ℤ → List Reading → Option ℕ
first_column_off p d i [] xs = None
first_column_off p d i (c ∷ cs) [] = None
first_column_off p d i (c ∷ cs) (x ∷ xs) = cond (p.allows (unsigned_abs x.weight) d (neg_ℤ c)) (first_column_off p d (i + 1) cs xs) (Some i)

abbrev pub columns_no : PenaltyMeaning → ℕ → List ℤ → List Reading → Option Refusal
columns_no p d cs xs = located Column (first_column_off p d 0 cs xs)

abbrev pub stiffness_no : ℤ → Option Refusal
stiffness_no h = unless (is_stiffness h) (at Setting 0)

abbrev pub begun_no : KindsMeaning → ℤ → List Reading → Option Refusal
begun_no k h xs =
    first_of (
    stiffness_no h
    ∷ readings_no xs
    ∷ kinds_no k
    ∷ unless (nat_lt (told_reach k.roughness) (length xs)) (at Short 0)
    ∷ [])

abbrev pub weigh_table_no : KindsMeaning → ℤ → List Reading → List ℤ → ℕ → Option Refusal
weigh_table_no k h xs vs room = first_of (stiffness_no h ∷ readings_no xs ∷ table_no k (length xs) vs room ∷ [])

abbrev pub before_columns_no : KindsMeaning → ℤ → List Reading → ℤ → List ℤ → ℕ → Option Refusal
before_columns_no k h xs d ms room = first_of (stiffness_no h ∷ readings_no xs ∷ multipliers_no k (unsigned_abs h) (length xs) d ms room ∷ [])

abbrev pub weigh_multipliers_no : KindsMeaning → ℤ → List Reading → ℤ → List ℤ → ℕ → Option Refusal
weigh_multipliers_no k h xs d ms room =
    or_else (before_columns_no k h xs d ms room) (columns_no k.misfit (unsigned_abs d) (columns_of k xs ms) xs)
