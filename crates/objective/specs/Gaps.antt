-- The gap of a cost to a floor, as it is told.
--     gap_no          the checks of an allowance and a denominator
--     gap_told        the gap, and what the allowance leaves of it
use Rattle.std.specs.Prelude.{ℕ, ◌*◌, [], ◌∷◌, ℤ, pos, ◌-ℤ◌, Option}
use Rattle.kinds.specs.declared.refusal.Cause.TheVariants.{Setting, Denominator}
use Rattle.kinds.specs.declared.refusal.Refusal.{Refusal}
use Rattle.kinds.specs.Checks.{at, unless, first_of}
use Rattle.kinds.specs.Penalty.{is_denominator}
use Rattle.objective.specs.declared.gap.Gap.{Gap}
use Rattle.objective.specs.Checks.{is_allowance}
use Rattle.objective.specs.Objective.{gap_of}

abbrev pub gap_no : ℤ → ℤ → Option Refusal
gap_no d allowance = first_of (unless (is_allowance allowance) (at Setting 0) ∷ unless (is_denominator d) (at Denominator 0) ∷ [])

-- of cost, floor, denominator and allowance
abbrev pub gap_told : ℕ → ℤ → ℕ → ℕ → Gap
gap_told cost floor d allowance = record {
  scaled = gap_of d cost floor;
  spare = pos (d * allowance) -ℤ gap_of d cost floor;
}
