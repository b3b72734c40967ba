use Rattle.std.proofs.Common.{drop}
use Rattle.std.specs.Slice.Iter.{windows_rest, windows_size}
use Rattle.std.specs.Slice.ArrayWindows.{array_windows_parts}
use Rattle.std.specs.Iterator.Adapters.{zip_first, zip_second}
use Rattle.kinds.proofs.Places.{Written}
use Rattle.roughness.specs.Maps.{bends}
use Rattle.roughness.proofs.Windows.{Before}
use Rattle.roughness.proofs.bends.write_bends.Given as goal

abbrev pub invariant-loop-row : goal.invariant-loop-row
invariant-loop-row l =
    let k = l.row-index in
    let minutes = array_windows_parts (zip_first l.windows) in
    let values = array_windows_parts (zip_second l.windows) in record {
      written : Written k (bends (drop k l.minutes) (drop k l.values)) (bends l.minutes l.values) l.initial.rows l.rows;
      minutes : Before 3 k l.minutes (windows_size minutes) (windows_rest minutes);
      values : Before 3 k l.values (windows_size values) (windows_rest values);
    }
