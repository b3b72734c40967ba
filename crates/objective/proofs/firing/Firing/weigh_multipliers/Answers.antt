use Rattle.std.proofs.Common.{◌≡◌, ℕ, ◌≤◌, ◌++◌, List, length, take, drop, ℤ, nat_abs, Some, None, Ok, Option, sym, ap, ◌∙◌, ap₂, subst, arith, w64, SFits}
use Rattle.std.proofs.lemmas.Int.{to_z-of_z}
use Rattle.std.proofs.lemmas.List.{length-take-le}
use Rattle.std.proofs.lemmas.Result.{err_from_is_err_and}
use Rattle.kinds.specs.declared.refusal.Refusal.{Refusal}
use Rattle.kinds.specs.Figures.{largest}
use Rattle.kinds.specs.Roughness.{filled}
use Rattle.kinds.proofs.Bits.{from_bits}
use Rattle.kinds.proofs.Passing.{passed, refused, says_no, says_so}
use Rattle.objective.specs.declared.trio.Kinds.{Kinds}
use Rattle.objective.specs.Checks.{before_columns_no, columns_no}
use Rattle.objective.specs.Objective.{KindsMeaning, KindsLaws, three, columns_of}
use Rattle.objective.proofs.Flooring.{Floorable, floorable, multipliers_most, Columned, columned, cut_columns, floor_refused, floor_settled, stopped_before}
use Rattle.objective.proofs.Noted.{few}
use Rattle.objective.proofs.firing.Firing.weigh_multipliers.Given.{Over}
use Rattle.objective.proofs.firing.Firing.weigh_multipliers.Goals as goal
use Rattle.objective.proofs.firing.Firing.weigh_multipliers.Goals.{In_ok-denominator, In_ok-fill_columns}

-- the three kinds, as the contracts see them
abbrev meaning : (g : Over) → Kinds g.row.R.Denot g.row.M.Denot g.row.B.Denot → KindsMeaning
meaning g k = three (g.R.Roughness.meaning k.roughness) (g.M.Penalty.meaning k.misfit) (g.B.Penalty.meaning k.bend)

law : (g : Over) (k : Kinds g.row.R.Denot g.row.M.Denot g.row.B.Denot) → KindsLaws (meaning g k)
law g k = record { roughness = g.met.R.Roughness.kept k.roughness; misfit = g.met.M.Penalty.kept k.misfit; bend = g.met.B.Penalty.kept k.bend }

-- what has passed the checks but that of the columns
fine : (g : Over) (c : In_ok-denominator g) → before_columns_no (meaning g c.args.self.now.kinds.now) c.args.self.now.stiffness c.args.self.now.readings.now c.args.denominator c.args.multipliers.now (length c.args.columns.now) ≡ None
fine g c =
    let self = c.args.self.now in
    from_bits (λ (d : ℤ). before_columns_no (meaning g self.kinds.now) self.stiffness self.readings.now d c.args.multipliers.now (length c.args.columns.now) ≡ None) c.args.denominator c.ranges.denominator c.in_ok-denominator.ensures.1

settled : (g : Over) (c : In_ok-denominator g) → Floorable (meaning g c.args.self.now.kinds.now) c.args.self.now.stiffness c.args.self.now.readings.now c.args.denominator c.args.multipliers.now (length c.args.columns.now)
settled g c =
    floorable (meaning g c.args.self.now.kinds.now) c.args.self.now.stiffness c.args.self.now.readings.now c.args.denominator c.args.multipliers.now (length c.args.columns.now) (fine g c)

most : (g : Over) (c : In_ok-denominator g) → largest c.args.multipliers.now ≤ 100000000
most g c =
    let self = c.args.self.now in
    multipliers_most (meaning g self.kinds.now) (law g self.kinds.now).bend self.stiffness self.readings.now c.args.denominator c.args.multipliers.now (length c.args.columns.now) (settled g c)

-- the columns, and that they are read again
columns : (g : Over) (c : In_ok-denominator g) → Columned (meaning g c.args.self.now.kinds.now) c.args.self.now.readings.now (columns_of (meaning g c.args.self.now.kinds.now) c.args.self.now.readings.now c.args.multipliers.now)
columns g c =
    let self = c.args.self.now in
    columned (meaning g self.kinds.now) (law g self.kinds.now).roughness self.stiffness self.readings.now c.args.denominator c.args.multipliers.now (length c.args.columns.now) (settled g c) (most g c)

cut : (g : Over) (c : In_ok-fill_columns g) → take (length c.args.self.now.readings.now) c.fill_columns.new.columns ≡ columns_of (meaning g c.args.self.now.kinds.now) c.args.self.now.readings.now c.args.multipliers.now
cut g c =
    cut_columns (meaning g c.args.self.now.kinds.now) c.args.self.now.readings.now c.args.multipliers.now c.fill_columns.new.columns _ (columns g (goal.at.In_ok-fill_columns g c).In_ok-denominator) c.fill_columns.ensures.place

long : (g : Over) (c : In_ok-fill_columns g) → length (take (length c.args.self.now.readings.now) c.fill_columns.new.columns) ≡ length c.args.self.now.readings.now
long g c = ap length (cut g c) ∙ (columns g (goal.at.In_ok-fill_columns g c).In_ok-denominator).long

small : (g : Over) (c : In_ok-fill_columns g) → largest (take (length c.args.self.now.readings.now) c.fill_columns.new.columns) ≤ 1000000000000
small g c =
    subst (λ (l : List ℤ). largest l ≤ 1000000000000) (sym (cut g c)) (columns g (goal.at.In_ok-fill_columns g c).In_ok-denominator).small

pub returns-in_err-denominator : goal.returns-in_err-denominator
returns-in_err-denominator g c =
    let self = c.args.self.now in
    let k = meaning g self.kinds.now in
    let d = c.args.denominator in
    let ms = c.args.multipliers.now in
    let before = c.args.columns.now in
    let p = err_from_is_err_and c.from_residual.result c.from_residual.ensures.1 in
    let no_because = from_bits (λ (d : ℤ). before_columns_no k self.stiffness self.readings.now d ms (length before) ≡ Some c.in_err-denominator.field-0.0) d c.ranges.denominator c.in_err-denominator.ensures in
    rw (p.1, p.2) (floor_refused k (law g self.kinds.now) self.stiffness self.readings.now d ms before _ (stopped_before k self.stiffness self.readings.now d ms (length before) _ no_because))

pub fill_columns-requires : goal.fill_columns-requires
fill_columns-requires g c =
    let at = (goal.at.fill_columns-requires g c).In_ok-denominator in
    record { long = (settled g at).long; small = most g at; room = omega (arith, few 0 None c.args.self.now.readings.now c.args.self.now.noted (omega arith)) }

pub slice_bounds-place-end : goal.slice_bounds-place-end
slice_bounds-place-end g c = omega (arith, few 0 None c.args.self.now.readings.now c.args.self.now.noted (omega arith), c.fill_columns.auto.columns)

pub slice_bounds-found-end : goal.slice_bounds-found-end
slice_bounds-found-end g c = sym (long g (goal.at.slice_bounds-found-end g c).In_ok-fill_columns)

pub check_columns-requires : goal.check_columns-requires
check_columns-requires g c =
    let at = (goal.at.check_columns-requires g c).In_ok-fill_columns in
    record { small = small g at; long = long g at }

pub returns-in_err-check_columns : goal.returns-in_err-check_columns
returns-in_err-check_columns g c =
    let self = c.args.self.now in
    let k = meaning g self.kinds.now in
    let xs = self.readings.now in
    let d = c.args.denominator in
    let before = c.args.columns.now in
    let found = take (length xs) c.fill_columns.new.columns in
    let at = goal.at.returns-in_err-check_columns g c in
    let is = c.in_ok-denominator.ensures.0 ∙ to_z-of_z w64 d c.ranges.denominator in
    let p = err_from_is_err_and c.from_residual-in_err-check_columns.result c.from_residual-in_err-check_columns.ensures.1 in
    let no_because = ap (λ (d : ℤ). columns_no k.misfit (nat_abs d) found xs) (sym is) ∙ refused _ _ _ c.in_err-check_columns.ensures in
    rw (p.1, p.2) (floor_settled k (law g self.kinds.now) self.stiffness xs d c.args.multipliers.now before before found _ (cut g at.In_ok-fill_columns) (fine g at.In_ok-denominator)
    (says_no _ _ _ no_because) (sym (ap (λ (o : Option Refusal). filled o found before) no_because)))

pub copy_from_slice-requires : goal.copy_from_slice-requires
copy_from_slice-requires g c =
    let at = goal.at.copy_from_slice-requires g c in
    length-take-le (length c.args.self.now.readings.now) c.args.columns.now (settled g at.In_ok-denominator).fits ∙ sym (long g at.In_ok-fill_columns)

pub floor-requires : goal.floor-requires
floor-requires g c =
    let at = (goal.at.floor-requires g c).In_ok-fill_columns in
    record { small = small g at; long = long g at }

pub returns : goal.returns
returns g c =
    let self = c.args.self.now in
    let k = meaning g self.kinds.now in
    let xs = self.readings.now in
    let d = c.args.denominator in
    let before = c.args.columns.now in
    let found = take (length xs) c.fill_columns.new.columns in
    let at = goal.at.returns g c in
    let is = c.in_ok-denominator.ensures.0 ∙ to_z-of_z w64 d c.ranges.denominator in
    let fits : SFits w64 c.floor.result = record { sfits = c.floor.type_inv } in
    let no = ap (λ (d : ℤ). columns_no k.misfit (nat_abs d) found xs) (sym is) ∙ passed _ _ _ c.in_ok-check_columns.ensures in
    floor_settled k (law g self.kinds.now) self.stiffness xs d c.args.multipliers.now before _ found _ (cut g at.In_ok-fill_columns) (fine g at.In_ok-denominator)
    (ap Ok (to_z-of_z w64 c.floor.result fits ∙ c.floor.ensures) ∙ says_so _ _ no)
    (ap₂ (λ (l : List ℤ) (n : ℕ). l ++ drop n before) c.copy_from_slice.ensures.after (sym (long g at.In_ok-fill_columns)) ∙ sym (ap (λ (o : Option Refusal). filled o found before) no))
