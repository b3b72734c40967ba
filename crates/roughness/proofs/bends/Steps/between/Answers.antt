use Rattle.std.proofs.Common.{◌≡◌, ◌≤◌, ℤ, ◌-ℤ◌, true, nat_abs, get_or, pos, w64, SFits, arith, rules}
use Rattle.kinds.specs.Minutes.{may_follow}
use Rattle.roughness.specs.Maps.{step}
use Rattle.roughness.specs.Steps.{size_step}
use Rattle.roughness.proofs.Bent.{kept}
use Rattle.roughness.proofs.Products.{stored}
use Rattle.roughness.proofs.bends.Steps.between.Goals as goal

apart : (s t : ℤ) → may_follow s t ≡ true → SFits w64 s → SFits w64 t → (kept (kept t -ℤ kept s) ≡ step s t) × (nat_abs (kept (kept t -ℤ kept s)) ≤ 60)
apart s t e f g =
    let is = stored ◌-ℤ◌ t s g f (omega (arith, size_step s t e)) in
    (is.same, rw is.same (size_step s t e))

pub invariant_of-result : goal.invariant_of-result
invariant_of-result c =
    let ts = c.args.minutes.now in
    let one = (apart (get_or ts 0 (pos 0)) (get_or ts 1 (pos 0)) c.requires.0 (search rules) (search rules)).1 in
    let other = (apart (get_or ts 1 (pos 0)) (get_or ts 2 (pos 0)) c.requires.1 (search rules) (search rules)).1 in
    record { short = (omega arith, omega arith) }

pub returns : goal.returns
returns c =
    let ts = c.args.minutes.now in
    let before = apart (get_or ts 0 (pos 0)) (get_or ts 1 (pos 0)) c.requires.0 (search rules) (search rules) in
    let after = apart (get_or ts 1 (pos 0)) (get_or ts 2 (pos 0)) c.requires.1 (search rules) (search rules) in
    (before.0, after.0)
