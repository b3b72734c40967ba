use Rattle.std.proofs.Common.{◌+◌, ◌≤◌, length, get_or, drop, ℤ, pos, ◌+ℤ◌, ◌*ℤ◌, nat_abs, None, sym, ap, ◌∙◌, ap₂, arith}
use borrow.Author.Differences.{ints}
use Rattle.std.proofs.lemmas.List.{length_push}
use Rattle.std.proofs.lemmas.Slice.Zip.{zip_turn, zip_end}
use Rattle.kinds.specs.declared.reading.Reading.{Reading}
use Rattle.kinds.specs.Figures.{dot}
use Rattle.objective.specs.Objective.{crudes}
use Rattle.kinds.proofs.Bits.{back64, size_back64}
use Rattle.kinds.proofs.Places.{size_at}
use Rattle.kinds.proofs.Ring.{linear}
use Rattle.objective.proofs.Noted.{blank, figures_at, crude_most, few}
use Rattle.objective.proofs.Stored.{Paired}
use Rattle.objective.proofs.Totals.{floor_more, floor_all, floor_again}
use Rattle.objective.proofs.firing.Firing.floor.Given.{Over}
use Rattle.objective.proofs.firing.Firing.floor.Goals as goal
use Rattle.objective.proofs.firing.Firing.floor.Goals.{In-Some}

-- where the pair of this turn stands
here : (g : Over) (c : In-Some g) → Paired c.args.columns.now c.args.self.now.readings.now (length c.loop-column.yielded) c.in-Some.column.now c.in-Some.reading.now
here g c =
    let t = zip_turn c.args.columns.now c.args.self.now.readings.now c.loop-column.yielded c.into_iter-column-iterator.result c.loop-column.column-iterator c.next.new.self c.next.result (cc) (cc) c.loop-column.yielded_by (c.in-Some.column, c.in-Some.reading) c.in-Some.is c.next.ensures.steps in
    record { below = t.1; figure = t.2 (pos 0); reading = t.3 blank }

column : (g : Over) (c : In-Some g) → nat_abs c.in-Some.column.now ≤ 1000000000000
column g c = omega (arith, ap nat_abs (here g c).figure, size_at c.args.columns.now (length c.loop-column.yielded), c.requires.small)

crude : (g : Over) (c : In-Some g) → nat_abs c.in-Some.reading.now.crude ≤ 20000
crude g c =
    let pair = here g c in
    omega (arith, ap (λ (x : Reading). nat_abs x.crude) pair.reading, crude_most (get_or c.args.self.now.readings.now (length c.loop-column.yielded) blank) (figures_at 0 None c.args.self.now.readings.now c.args.self.now.noted (length c.loop-column.yielded) pair.below))

pub product_of-sum-requires : goal.product_of-sum-requires
product_of-sum-requires g c =
    let at = (goal.at.product_of-sum-requires g c).In-Some in
    record { small = size_back64 c.in-Some.column.now (column g at) (omega arith); crudes = size_back64 c.in-Some.reading.now.crude (crude g at) (omega arith) }

pub overflow_add-sum : goal.overflow_add-sum
overflow_add-sum g c =
    let inv = c.loop-column.invariant.1 in
    let most = few 0 None c.args.self.now.readings.now c.args.self.now.noted (omega arith) in
    let below = (here g (goal.at.overflow_add-sum g c).In-Some).below in
    let bound = c.product_of-sum.ensures.bound in
    omega (arith, ints)

pub loop-column-preserved : goal.loop-column-preserved
loop-column-preserved g c =
    let xs = c.args.self.now.readings.now in
    let cs = c.args.columns.now in
    let i = length c.loop-column.yielded in
    let at = (goal.at.loop-column-preserved g c).In-Some in
    let pair = here g at in
    let is =
    c.product_of-sum.ensures.value
    ∙ ap₂ ◌*ℤ◌ (back64 c.in-Some.column.now (omega (arith, column g at)) ∙ pair.figure) (back64 c.in-Some.reading.now.crude (omega (arith, crude g at)) ∙ ap (λ (x : Reading). x.crude) pair.reading) in
    let step = floor_more cs xs i pair.below c.requires.long ∙ ap (λ (z : ℤ). z +ℤ dot (drop (i + 1) cs) (crudes (drop (i + 1) xs))) (sym is) in
    let most = few 0 None xs c.args.self.now.noted (omega arith) in
    rw (length_push c.loop-column.yielded (c.in-Some.column, c.in-Some.reading))
    (floor_again _ c.product_of-sum.result _ _ _ i c.loop-column.invariant.0 c.loop-column.invariant.1 step (omega (arith, pair.below, most)) c.product_of-sum.ensures.bound)

pub returns : goal.returns
returns g c =
    let xs = c.args.self.now.readings.now in
    let cs = c.args.columns.now in
    let i = length c.loop-column.yielded in
    let end = zip_end cs xs c.loop-column.yielded c.into_iter-column-iterator.result c.loop-column.column-iterator c.next.new.self c.next.result (cc) (cc) c.loop-column.yielded_by c.in-None.is c.next.ensures.steps in
    let all = floor_all cs xs i (omega (arith, end, c.requires.long)) in
    let inv = c.loop-column.invariant.0 in
    omega (arith, linear)
