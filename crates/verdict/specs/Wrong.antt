-- The faults of figures that could be read.
--     minute_before   the minute of the reading before a place, none for the first
--     end_line        the line of the end, counted from 1
--     lines_of        the first line of each part
--     Wrong           the faults of figures under three kinds, at their ranks
-- Line 1 is the head; then come n readings, n entries, the multipliers and the end.
use Rattle.std.specs.Prelude.{◌≡◌, ℕ, zero, suc, ◌+◌, ◌<◌, false, ◌&&◌, List, length, get_or, ℤ, pos, neg_ℤ, Some, None, Option, slice_index_or, unsigned_abs}
use Rattle.kinds.specs.declared.reading.Reading.{Reading}
use Rattle.kinds.specs.declared.refusal.Cause.{Cause}
use Rattle.kinds.specs.declared.refusal.Cause.TheVariants.{Figure, Minute, Setting, Value, Denominator, Multiplier, Column, Gap, Stated}
use Rattle.kinds.specs.Minutes.{may_come}
use Rattle.kinds.specs.Penalty.{is_denominator}
use Rattle.objective.specs.Checks.{is_stiffness, is_allowance, is_value, has_figures}
use Rattle.objective.specs.Objective.{KindsMeaning, columns_of, cost_of, floor_of, within}
use Rattle.archive.specs.File.{Figures}
use Rattle.reader.specs.Faults.{Rank, rank}
use Rattle.verdict.specs.declared.lines.Lines.{Lines}
pub use Rattle.reader.specs.Steps.{no_reading}

abbrev pub minute_before : List Reading → ℕ → Option ℤ
minute_before xs zero = None
minute_before xs (suc j) = Some (get_or xs j no_reading).minute

abbrev pub end_line : Figures → ℕ
end_line g = length g.readings + length g.entries + length g.multipliers + 2

abbrev pub lines_of : Figures → Lines
lines_of g = record {
  head = 1;
  readings = 2;
  entries = length g.readings + 2;
  multipliers = length g.readings + length g.entries + 2;
  end = end_line g;
}

pub data Wrong (k : KindsMeaning) (g : Figures) : Rank → Cause → Type 0 where
  -- stiffness or allowance out of range
  setting : (is_stiffness (pos g.head.stiffness) && is_allowance (pos g.head.allowance)) ≡ false → Wrong k g (rank 3 1 0) Setting
  denominator : is_denominator (pos g.head.denominator) ≡ false → Wrong k g (rank 3 1 1) Denominator
  -- a reading's crude value or weight out of range
  figure : (j : ℕ) → j < length g.readings → has_figures (slice_index_or g.readings j no_reading) ≡ false → Wrong k g (rank 4 (j + 2) 0) Figure
  -- its minute may not come after the one before it
  minute : (j : ℕ) → j < length g.readings → may_come (minute_before g.readings j) (get_or g.readings j no_reading).minute ≡ false → Wrong k g (rank 4 (j + 2) 1) Minute
  -- an entry out of range
  value : (j : ℕ) → j < length g.entries → is_value (slice_index_or g.entries j (pos 0)) ≡ false → Wrong k g (rank 5 (length g.readings + j + 2) 0) Value
  -- a multiplier that is no allowed slope of the bends
  multiplier : (j : ℕ) → j < length g.multipliers → k.bend.allows g.head.stiffness g.head.denominator (slice_index_or g.multipliers j (pos 0)) ≡ false → Wrong k g (rank 6 (length g.readings + length g.entries + j + 2) 0) Multiplier
  -- a column that, negated, is no allowed slope of the misfit, at its reading
  column : (j : ℕ) → j < length g.readings → k.misfit.allows (unsigned_abs (get_or g.readings j no_reading).weight) g.head.denominator (neg_ℤ (slice_index_or (columns_of k g.readings g.multipliers) j (pos 0))) ≡ false → Wrong k g (rank 7 (j + 2) 0) Column
  -- the stated cost or floor is another
  stated : ((g.cost ≡ cost_of k g.head.stiffness g.readings g.entries) × (g.floor ≡ floor_of k g.readings g.multipliers) → ⊥) → Wrong k g (rank 8 (end_line g) 0) Stated
  -- the gap is above the allowance
  gap : within g.head.denominator g.cost g.floor g.head.allowance ≡ false → Wrong k g (rank 8 (end_line g) 1) Gap
