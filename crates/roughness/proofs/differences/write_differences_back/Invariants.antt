use Rattle.std.proofs.Common.{◌≡◌, ◌≤◌, length, drop, nat_abs}
use Rattle.std.specs.Slice.Iter.{iter_rest}
use Rattle.kinds.specs.Figures.{largest}
use Rattle.kinds.proofs.Places.{Written}
use Rattle.roughness.specs.Maps.{differences_back_from, differences_back}
use Rattle.roughness.proofs.differences.write_differences_back.Given as goal

abbrev pub invariant-loop-column : goal.invariant-loop-column
invariant-loop-column l = record {
  written : Written l.column-index (differences_back_from l.before (drop l.column-index l.multipliers)) (differences_back l.multipliers) l.initial.columns l.columns;
  rest : iter_rest l.rest ≡ drop l.column-index l.multipliers;
  within : l.column-index ≤ length l.multipliers;
  before_small : nat_abs l.before ≤ largest l.multipliers;
}
