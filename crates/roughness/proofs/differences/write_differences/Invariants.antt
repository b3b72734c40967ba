use Rattle.std.proofs.Common.{drop}
use Rattle.std.specs.Slice.Iter.{windows_rest, windows_size}
use Rattle.std.specs.Slice.ArrayWindows.{array_windows_parts}
use Rattle.kinds.proofs.Places.{Written}
use Rattle.roughness.specs.Maps.{differences}
use Rattle.roughness.proofs.Windows.{Before}
use Rattle.roughness.proofs.differences.write_differences.Given as goal

abbrev pub invariant-loop-row : goal.invariant-loop-row
invariant-loop-row l =
    let left = array_windows_parts l.windows in record {
      written : Written l.row-index (differences (drop l.row-index l.values)) (differences l.values) l.initial.rows l.rows;
      left : Before 2 l.row-index l.values (windows_size left) (windows_rest left);
    }
