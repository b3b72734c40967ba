use Rattle.std.proofs.Common.{◌≡◌, ◌+◌, ◌≤◌, List, length, take, ℤ, nat_abs, sym, ap, ◌∙◌, ap₂, subst}
use Rattle.std.proofs.lemmas.Result.{err_from_is_err_and}
use Rattle.kinds.specs.Figures.{largest}
use Rattle.kinds.proofs.Passing.{passed, refused}
use Rattle.objective.specs.declared.trio.Kinds.{Kinds}
use Rattle.objective.specs.Objective.{KindsMeaning, three, bend_cost, rows_of}
use Rattle.objective.proofs.Weighing.{Weighable, weighable, values_most, rowed, cut_rows, table_refused, table_weighed}
use Rattle.objective.proofs.firing.Firing.weigh_table.Given.{Over}
use Rattle.objective.proofs.firing.Firing.weigh_table.Goals as goal
use Rattle.objective.proofs.firing.Firing.weigh_table.Goals.{In_ok-check_table, After-rows-count}

-- the three kinds, as the contracts see them
abbrev meaning : (g : Over) → Kinds g.row.R.Denot g.row.M.Denot g.row.B.Denot → KindsMeaning
meaning g k = three (g.R.Roughness.meaning k.roughness) (g.M.Penalty.meaning k.misfit) (g.B.Penalty.meaning k.bend)

-- what has passed the checks
fine : (g : Over) (c : In_ok-check_table g) → Weighable (meaning g c.args.self.now.kinds.now) c.args.self.now.stiffness c.args.self.now.readings.now c.args.table.now (length c.args.rows.now)
fine g c =
    weighable (meaning g c.args.self.now.kinds.now) c.args.self.now.stiffness c.args.self.now.readings.now c.args.table.now (length c.args.rows.now) (passed _ _ _ c.in_ok-check_table.ensures)

-- the rows that are read again
cut : (g : Over) (c : After-rows-count g) → take c.rows-count.result c.fill_rows.new.rows ≡ rows_of (meaning g c.args.self.now.kinds.now) c.args.self.now.readings.now c.args.table.now
cut g c =
    let w = fine g (goal.at.After-rows-count g c).In_ok-check_table in
    cut_rows (meaning g c.args.self.now.kinds.now) (g.met.R.Roughness.kept c.args.self.now.kinds.now.roughness) c.args.self.now.readings.now c.args.table.now c.args.rows.now c.fill_rows.new.rows c.rows-count.result w.noted w.offer c.fill_rows.ensures.place c.rows-count.ensures

pub returns-in_err-check_table : goal.returns-in_err-check_table
returns-in_err-check_table g c =
    let self = c.args.self.now in
    let p = err_from_is_err_and c.from_residual.result c.from_residual.ensures.1 in
    rw (p.1, p.2) (table_refused (meaning g self.kinds.now) self.stiffness self.readings.now c.args.table.now c.args.rows.now _ (refused _ _ _ c.in_err-check_table.ensures))

pub fill_rows-requires-clause-small : goal.fill_rows-requires-clause-small
fill_rows-requires-clause-small g c =
    let offer = (fine g (goal.at.fill_rows-requires-clause-small g c).In_ok-check_table).offer in
    values_most 0 c.args.table.now offer.values

pub bend_cost-requires : goal.bend_cost-requires
bend_cost-requires g c =
    let self = c.args.self.now in
    let w = fine g (goal.at.bend_cost-requires g c).In_ok-check_table in
    let same = sym (cut g (goal.at.bend_cost-requires g c).After-rows-count) in
    let r = rowed (meaning g self.kinds.now) (g.met.R.Roughness.kept self.kinds.now.roughness) self.readings.now c.args.table.now (length c.args.rows.now) w.noted w.offer in
    record {
      small = subst (λ (l : List ℤ). largest l ≤ 40000000) same r.small;
      few = subst (λ (l : List ℤ). length l ≤ 240) same r.few;
    }

pub returns : goal.returns
returns g c =
    let self = c.args.self.now in
    let k = meaning g self.kinds.now in
    table_weighed k self.stiffness self.readings.now c.args.table.now c.args.rows.now c.fill_rows.new.rows _ (passed _ _ _ c.in_ok-check_table.ensures) c.fill_rows.ensures.place
    (ap₂ ◌+◌ c.misfit_cost.ensures.value (c.bend_cost.ensures.value ∙ ap (bend_cost k.bend (nat_abs self.stiffness)) (cut g (goal.at.returns g c).After-rows-count)))
