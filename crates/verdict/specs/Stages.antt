-- The checks of the figures, stage by stage.
--     head_no         the settings and the denominator of a head
--     InOrder         a head and readings that are in order
--     Ready           figures in form, under kinds that are in order, whose head and readings are in order
--     Tabled          the cost of entries that are in range
--     Floored         the floor of multipliers that pass all their checks, and what it says of every table
--     EndFine         cost and floor are those that are stated, and the gap is within the allowance
--     EndOff          the first fault of the end, where they are not
use Rattle.std.specs.Prelude.{◌≡◌, ℕ, true, false, [], ◌∷◌, ℤ, pos, None, Option}
use Rattle.kinds.specs.declared.refusal.Cause.TheVariants.{Denominator, Gap, Stated}
use Rattle.kinds.specs.declared.refusal.Refusal.{Refusal}
use Rattle.kinds.specs.Checks.{at, unless, first_of, first_off}
use Rattle.kinds.specs.Penalty.{is_denominator}
use Rattle.objective.specs.Checks.{is_value, kinds_no, settings_no, readings_no, weigh_multipliers_no}
use Rattle.objective.specs.Objective.{KindsMeaning, cost_of, floor_of, within}
use Rattle.objective.specs.Promises.{NearBest}
use Rattle.archive.specs.declared.figures.Head.{Head}
use Rattle.archive.specs.File.{Figures}
use Rattle.reader.specs.declared.fault.Fault.{Fault}
use Rattle.reader.specs.declared.fault.Layer.TheVariants as layer
use Rattle.reader.specs.Faults.{found_by}
use Rattle.reader.specs.Readable.{InForm}
use Rattle.verdict.specs.Lawful.{wanted_of}
use Rattle.verdict.specs.Wrong.{end_line}

abbrev pub head_no : Head → Option Refusal
head_no h =
    first_of (
    settings_no (pos h.stiffness) (pos h.allowance)
    ∷ unless (is_denominator (pos h.denominator)) (at Denominator 0)
    ∷ [])

pub record InOrder (g : Figures) : Type 0 where
  pub head : head_no g.head ≡ None
  pub noted : readings_no g.readings ≡ None

pub record Ready (k : KindsMeaning) (g : Figures) : Type 0 where
  pub kinds : kinds_no k ≡ None
  pub form : InForm (wanted_of k) g
  pub given : InOrder g

pub record Tabled (k : KindsMeaning) (g : Figures) (cost : ℕ) : Type 0 where
  pub values : first_off is_value g.entries ≡ None
  pub value : cost ≡ cost_of k g.head.stiffness g.readings g.entries

pub record Floored (k : KindsMeaning) (g : Figures) (floor : ℤ) : Type 0 where
  pub passes : weigh_multipliers_no k (pos g.head.stiffness) g.readings (pos g.head.denominator) g.multipliers 240 ≡ None
  pub value : floor ≡ floor_of k g.readings g.multipliers
  pub near : NearBest k g.head.stiffness g.readings g.head.denominator floor

pub record EndFine (g : Figures) (cost : ℕ) (floor : ℤ) : Type 0 where
  pub cost_stated : g.cost ≡ cost
  pub floor_stated : g.floor ≡ floor
  pub gap : within g.head.denominator g.cost g.floor g.head.allowance ≡ true

pub data EndOff (g : Figures) (cost : ℕ) (floor : ℤ) : Fault → Type 0 where
  unstated : ((g.cost ≡ cost) × (g.floor ≡ floor) → ⊥) → EndOff g cost floor (found_by layer.Figures Stated (end_line g))
  wide : g.cost ≡ cost → g.floor ≡ floor → within g.head.denominator g.cost g.floor g.head.allowance ≡ false → EndOff g cost floor (found_by layer.Figures Gap (end_line g))
