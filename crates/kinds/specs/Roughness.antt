-- What a kind of roughness means, the laws that it keeps, and how its two maps answer.
--     RoughnessMeaning     reach, growth, mark, and the two maps: values to rows (forward), multipliers to columns (back)
--     RoughnessLaws         the adjoint identity, the growth law, and how long rows and columns are
--     told_reach, told_growth     what the kind tells: its reach up to 241, its growth up to 2,001
--     told_no         the checks of a map, from the growth and reach that a kind tells
--     map_no          the checks of forward and of back, of a kind
--     filled          what a place holds after a call that was to write `new` into it
--     Fills           a call answers by its checks, and fills the start of its place only if they pass
--     Forwards, Backs       what forward and back do: of minutes, input, the place before and after, and the answer
use Rattle.std.specs.Prelude.{◌≡◌, ℕ, ◌+◌, ◌-◌, ◌*◌, ◌≤◌, min, true, ◌&&◌, List, [], ◌∷◌, length, ℤ, Some, None, Option, Result, ◌==◌, nat_le, nat_lt}
use Rattle.kinds.specs.declared.refusal.Cause.TheVariants.{Minute, Length, Value, Steep, Short}
use Rattle.kinds.specs.declared.refusal.Refusal.{Refusal}
use Rattle.kinds.specs.Checks.{at, unless, first_of, answer}
use Rattle.kinds.specs.Figures.{dot, largest, over}
use Rattle.kinds.specs.Minutes.{lawful}

pub record RoughnessMeaning : Type 0 where
  pub reach : ℕ
  pub growth : ℕ
  pub mark : ℕ
  -- of minutes and values
  pub rows : List ℤ → List ℤ → List ℤ
  -- of minutes and multipliers
  pub columns : List ℤ → List ℤ → List ℤ

pub record RoughnessLaws (k : RoughnessMeaning) : Type 0 where
  pub rows_length : (ts vs : List ℤ) → length vs ≡ length ts → length (k.rows ts vs) ≡ length ts - k.reach
  pub columns_length : (ts ms : List ℤ) → length ms + k.reach ≡ length ts → length (k.columns ts ms) ≡ length ts
  pub adjoint : (ts vs ms : List ℤ) → length vs ≡ length ts → length ms + k.reach ≡ length ts → dot ms (k.rows ts vs) ≡ dot (k.columns ts ms) vs
  pub rows_growth : (ts vs : List ℤ) → lawful ts ≡ true → length vs ≡ length ts → largest (k.rows ts vs) ≤ k.growth * largest vs
  pub columns_growth : (ts ms : List ℤ) → lawful ts ≡ true → length ms + k.reach ≡ length ts → largest (k.columns ts ms) ≤ k.growth * largest ms
  pub growth_least : 1 ≤ k.growth
  pub mark_most : k.mark ≤ 65535

abbrev pub told_reach : RoughnessMeaning → ℕ
told_reach k = min k.reach 241

abbrev pub told_growth : RoughnessMeaning → ℕ
told_growth k = min k.growth 2001

-- of the told growth and reach, the minutes, the input, how long the input and the place must be, and how long the place is
abbrev pub told_no : ℕ → ℕ → List ℤ → List ℤ → ℕ → ℕ → ℕ → Option Refusal
told_no growth reach ts xs wanted needed room =
    first_of (
    unless (nat_le growth 2000) (at Steep 0)
    ∷ unless (nat_lt reach (length ts)) (at Short 0)
    ∷ unless (nat_le (length ts) 240 && length xs == wanted && nat_le needed room) (at Length 0)
    ∷ unless (lawful ts) (at Minute 0)
    ∷ unless (nat_le (growth * largest xs) 1000000000000) (at Value 0)
    ∷ [])

abbrev pub map_no : RoughnessMeaning → List ℤ → List ℤ → ℕ → ℕ → ℕ → Option Refusal
map_no k = told_no (told_growth k) (told_reach k)

abbrev pub filled : Option Refusal → List ℤ → List ℤ → List ℤ
filled None new old = over new old
filled (Some r) new old = old

pub record Fills (no_because : Option Refusal) (new before after : List ℤ) (r : Result (Unit {0}) Refusal) : Type 0 where
  pub answered : r ≡ answer no_because tt
  pub place : after ≡ filled no_because new before

abbrev pub Forwards : RoughnessMeaning → List ℤ → List ℤ → List ℤ → List ℤ → Result (Unit {0}) Refusal → Type 0
Forwards k ts vs before after r = Fills (map_no k ts vs (length ts) (length ts - told_reach k) (length before)) (k.rows ts vs) before after r

abbrev pub Backs : RoughnessMeaning → List ℤ → List ℤ → List ℤ → List ℤ → Result (Unit {0}) Refusal → Type 0
Backs k ts ms before after r = Fills (map_no k ts ms (length ts - told_reach k) (length ts) (length before)) (k.columns ts ms) before after r
