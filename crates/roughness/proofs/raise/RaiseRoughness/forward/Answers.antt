use Rattle.std.proofs.Common.{List, length, ℤ, ap, ◌∙◌, arith}
use Rattle.kinds.specs.Figures.{over}
use Rattle.roughness.specs.Maps.{differences, raised}
use Rattle.roughness.proofs.Calls.{forward_checks, fills_done}
use Rattle.roughness.proofs.Layer.{ForwardPassed, forward_passed, never_refused, below_forward, lower_rows}
use Rattle.roughness.proofs.raise.RaiseRoughness.forward.Given as given
use Rattle.roughness.proofs.raise.RaiseRoughness.forward.Goals as goal
use Rattle.roughness.proofs.raise.RaiseRoughness.forward.Goals.{After-forward}

-- the layer's own checks have passed
ours : (g : given.Over) (c : After-forward g) → ForwardPassed (raised (g.R.Roughness.meaning c.args.self.now.below)) c.args.minutes.now c.args.values.now (length c.args.rows.now)
ours g c =
    forward_passed (raised (g.R.Roughness.meaning c.args.self.now.below)) c.args.minutes.now c.args.values.now (length c.args.rows.now)
    c.growth.ensures c.reach-reach.ensures c.in_ok-check_forward.ensures

pub returns-in_err-forward : goal.returns-in_err-forward
returns-in_err-forward g c =
    let k = g.R.Roughness.meaning c.args.self.now.below in
    let passed = ours g (goal.at.returns-in_err-forward g c).After-forward in
    absurd (never_refused _ tt c.in_err-forward.field-0.0 (below_forward k (length c.args.rows.now) c.args.minutes.now c.args.values.now passed) c.in_err-forward.ensures.answered)

pub write_differences-requires : goal.write_differences-requires
write_differences-requires g c =
    let B = c.args.self.now.below in
    let passed = ours g (goal.at.write_differences-requires g c).After-forward in
    let low = lower_rows (g.R.Roughness.meaning B) (g.met.R.Roughness.kept B) c.reach-reach.result (length c.args.rows.now) c.args.minutes.now c.args.values.now c.forward.new.rows _ c.reach-reach.ensures passed c.in_ok-forward.ensures.place in
    rw low.cut (low.small, (omega (arith, low.long, passed.reaches, c.reach-reach.ensures), omega (arith, low.long, passed.fits, passed.reaches, c.reach-reach.ensures)))

pub returns : goal.returns
returns g c =
    let B = c.args.self.now.below in
    let k = g.R.Roughness.meaning B in
    let passed = ours g (goal.at.returns g c).After-forward in
    let low = lower_rows k (g.met.R.Roughness.kept B) c.reach-reach.result (length c.args.rows.now) c.args.minutes.now c.args.values.now c.forward.new.rows _ c.reach-reach.ensures passed c.in_ok-forward.ensures.place in
    fills_done (raised k) (forward_checks c.args.minutes.now c.args.values.now (length c.args.rows.now))
    c.growth.ensures c.reach-reach.ensures c.in_ok-check_forward.ensures
    (c.write_differences.ensures ∙ ap (λ (l : List ℤ). over (differences l) c.args.rows.now) low.cut)
