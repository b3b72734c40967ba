use Rattle.std.proofs.Common.{◌≡◌, ◌≤◌, ◌++◌, length, drop, nat_abs}
use Rattle.std.specs.Slice.Iter.{iter_rest, windows_rest, windows_size}
use Rattle.std.specs.Slice.ArrayWindows.{array_windows_parts}
use Rattle.std.specs.Iterator.Adapters.{zip_first, zip_second}
use Rattle.kinds.proofs.Places.{Written}
use Rattle.roughness.specs.Maps.{bends_back_from, bends_back}
use Rattle.roughness.proofs.Windows.{Before}
use Rattle.roughness.proofs.bends.write_bends_back.Given as goal

abbrev pub invariant-loop-column : goal.invariant-loop-column
invariant-loop-column l =
    let k = l.column-index in
    let minutes = array_windows_parts (zip_first l.windows) in
    let columns = l.column-items ++ drop (length l.multipliers) l.fn.columns in record {
      written : Written k (bends_back_from l.here l.next (drop k l.minutes) (drop k l.multipliers)) (bends_back l.minutes l.multipliers) l.fn.columns columns;
      minutes : Before 3 k l.minutes (windows_size minutes) (windows_rest minutes);
      multipliers : iter_rest (zip_second l.windows) ≡ drop k l.multipliers;
      here_small : nat_abs l.here ≤ 240000000000000;
      next_small : nat_abs l.next ≤ 120000000000000;
    }
