-- The three kinds keep the laws of a kind of roughness, the layer if the kind below does.
use Rattle.std.proofs.Common.{◌∙◌, arith, mul-le-mul_left}
use Rattle.std.specs.Prelude.{pos}
use Rattle.kinds.specs.Roughness.{RoughnessMeaning, RoughnessLaws}
use Rattle.roughness.specs.Maps.{differences_back, first, slope, raised}
use Rattle.roughness.specs.Diffs.{differences_adjoint, length_differences, length_differences_back, largest_differences, largest_differences_back}
use Rattle.roughness.specs.Bending.{bends_adjoint, length_bends, length_bends_back, largest_bends, largest_bends_back}

pub first_kept : RoughnessLaws first
first_kept = record {
  rows_length = λ ts vs e. omega (arith, length_differences vs);
  columns_length = λ ts ms e. omega (arith, length_differences_back (pos 0) ms);
  adjoint = λ ts vs ms e f. differences_adjoint vs ms (omega arith);
  rows_growth = λ ts vs l e. largest_differences vs;
  columns_growth = λ ts ms l e. largest_differences_back ms;
  growth_least = omega arith;
  mark_most = omega arith;
}

pub raised_kept : (below : RoughnessMeaning) → RoughnessLaws below → RoughnessLaws (raised below)
raised_kept below kept = record {
  rows_length = λ ts vs e. omega (arith, length_differences (below.rows ts vs), kept.rows_length ts vs e);
  columns_length = λ ts ms e. kept.columns_length ts (differences_back ms) (omega (arith, length_differences_back (pos 0) ms));
  adjoint = λ ts vs ms e f.
      differences_adjoint (below.rows ts vs) ms (omega (arith, kept.rows_length ts vs e))
      ∙ kept.adjoint ts vs (differences_back ms) e (omega (arith, length_differences_back (pos 0) ms));
  rows_growth = λ ts vs l e. omega (arith, largest_differences (below.rows ts vs), kept.rows_growth ts vs l e);
  columns_growth = λ ts ms l e.
      omega (arith, kept.columns_growth ts (differences_back ms) l (omega (arith, length_differences_back (pos 0) ms)), mul-le-mul_left below.growth (largest_differences_back ms));
  growth_least = omega (arith, kept.growth_least);
  mark_most = omega arith;
}

pub slope_kept : RoughnessLaws slope
slope_kept = record {
  rows_length = length_bends;
  columns_length = length_bends_back (pos 0) (pos 0);
  adjoint = bends_adjoint;
  rows_growth = λ ts vs l e. largest_bends ts vs l;
  columns_growth = λ ts ms l e. largest_bends_back ts ms l;
  growth_least = omega arith;
  mark_most = omega arith;
}
