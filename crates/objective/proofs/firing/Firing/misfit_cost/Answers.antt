use Rattle.std.proofs.Common.{◌≡◌, true, length, ℤ, pos, ◌-ℤ◌, nat_abs, None, ap, ◌∙◌, ap₂, arith}
use Rattle.std.proofs.lemmas.List.{length_push}
use Rattle.std.proofs.lemmas.Slice.Zip.{zip_turn, zip_end}
use Rattle.kinds.specs.declared.reading.Reading.{Reading}
use Rattle.objective.specs.Checks.{is_value, has_figures}
use Rattle.objective.proofs.Noted.{blank, figures_at, few}
use Rattle.objective.proofs.Searches.{off_none}
use Rattle.objective.proofs.Stored.{Paired, value_back}
use Rattle.objective.proofs.Totals.{misfit_more, misfit_all}
use Rattle.objective.proofs.firing.Firing.misfit_cost.Given.{Over}
use Rattle.objective.proofs.firing.Firing.misfit_cost.Goals as goal
use Rattle.objective.proofs.firing.Firing.misfit_cost.Goals.{In-Some}

-- where the pair of this turn stands
here : (g : Over) (c : In-Some g) → Paired c.args.table.now c.args.self.now.readings.now (length c.loop-reading.yielded) c.in-Some.value.now c.in-Some.reading.now
here g c =
    let t = zip_turn c.args.self.now.readings.now c.args.table.now c.loop-reading.yielded c.into_iter-reading-iterator.result c.loop-reading.reading-iterator c.next.new.self c.next.result (cc) (cc) c.loop-reading.yielded_by (c.in-Some.reading, c.in-Some.value) c.in-Some.is c.next.ensures.steps in
    record { below = t.0; figure = t.3 (pos 0); reading = t.2 blank }

value : (g : Over) (c : In-Some g) → is_value c.in-Some.value.now ≡ true
value g c =
    let pair = here g c in
    ap is_value pair.figure ∙ off_none is_value 0 c.args.table.now c.requires.values (length c.loop-reading.yielded) (pos 0) (omega (arith, pair.below, c.requires.long))

pub residual_cost-sum-requires : goal.residual_cost-sum-requires
residual_cost-sum-requires g c =
    let at = (goal.at.residual_cost-sum-requires g c).In-Some in
    let pair = here g at in
    let fine = value g at in
    record {
      figures = ap has_figures pair.reading ∙ figures_at 0 None c.args.self.now.readings.now c.args.self.now.noted (length c.loop-reading.yielded) pair.below;
      value = ap is_value (value_back c.in-Some.value.now fine) ∙ fine;
    }

pub overflow_add-sum : goal.overflow_add-sum
overflow_add-sum g c =
    let pair = here g (goal.at.overflow_add-sum g c).In-Some in
    omega (arith, c.loop-reading.invariant.1, c.residual_cost-sum.ensures.bound, pair.below, few 0 None c.args.self.now.readings.now c.args.self.now.noted (omega arith))

pub loop-reading-preserved : goal.loop-reading-preserved
loop-reading-preserved g c =
    let at = (goal.at.loop-reading-preserved g c).In-Some in
    let pair = here g at in
    let p = g.M.Penalty.meaning c.args.self.now.kinds.now.misfit in
    let is =
    c.residual_cost-sum.ensures.value
    ∙ ap₂ (λ (x : Reading) (v : ℤ). p.cost (nat_abs x.weight) (v -ℤ x.crude)) pair.reading (value_back c.in-Some.value.now (value g at) ∙ pair.figure) in
    let step = misfit_more p c.args.self.now.readings.now c.args.table.now (length c.loop-reading.yielded) pair.below c.requires.long in
    rw (length_push c.loop-reading.yielded (c.in-Some.reading, c.in-Some.value)) (omega (arith, is, step, c.loop-reading.invariant.0), omega (arith, c.loop-reading.invariant.1, c.residual_cost-sum.ensures.bound))

pub returns : goal.returns
returns g c =
    let xs = c.args.self.now.readings.now in
    let vs = c.args.table.now in
    let end = zip_end xs vs c.loop-reading.yielded c.into_iter-reading-iterator.result c.loop-reading.reading-iterator c.next.new.self c.next.result (cc) (cc) c.loop-reading.yielded_by c.in-None.is c.next.ensures.steps in
    let all = misfit_all (g.M.Penalty.meaning c.args.self.now.kinds.now.misfit) xs vs (length c.loop-reading.yielded) (omega (arith, end, c.requires.long)) in
    record {
      value = omega (arith, all, c.loop-reading.invariant.0);
      bound = omega (arith, end, c.loop-reading.invariant.1, few 0 None xs c.args.self.now.noted (omega arith));
    }
