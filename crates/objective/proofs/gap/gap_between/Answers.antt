use Rattle.std.proofs.Common.{◌≡◌, ℕ, ◌*◌, true, ℤ, nat_abs, sym, ap, ◌∙◌, ap₂}
use Rattle.std.proofs.lemmas.Int.{to_z-of_z}
use Rattle.kinds.proofs.Passing.{says_so}
use Rattle.kinds.specs.Penalty.{is_denominator}
use Rattle.objective.specs.Checks.{is_allowance}
use Rattle.objective.proofs.Margins.{gap_passes, gap_told_is, gap_within_is}
use Rattle.objective.proofs.gap.gap_between.Goals as goal

pub returns-clause-told : goal.returns-clause-told
returns-clause-told c =
    let fd = c.ranges.denominator in
    let fa = c.ranges.allowance in
    let is : c.in_ok-denominator.denominator.value ≡ c.args.denominator = simp to_z-of_z at c.in_ok-denominator.ensures in
    let abs : c.unsigned_abs.result ≡ nat_abs c.args.allowance = simp to_z-of_z at c.unsigned_abs.ensures.value in
    let cost = c.times.ensures.value ∙ ap (λ (z : ℤ). nat_abs z * c.args.cost) is in
    let allowed = c.times-allowed.ensures.value ∙ ap₂ (λ (z : ℤ) (n : ℕ). nat_abs z * n) is abs in
    let allow : is_allowance c.args.allowance ≡ true = simp to_z-of_z at (sym c.is_allowance.ensures ∙ c.if-not-is_allowance.false) in
    let divides = ap is_denominator (sym is) ∙ c.in_ok-denominator.denominator.divides in
    gap_told_is c.times.result c.times-allowed.result c.args.cost (nat_abs c.args.denominator) (nat_abs c.args.allowance) c.args.floor c.times.ensures.bound c.times-allowed.ensures.bound c.ranges.floor cost allowed
    ∙ says_so _ _ (gap_passes c.args.denominator c.args.allowance allow divides)

pub returns-clause-within : goal.returns-clause-within
returns-clause-within c =
    let fd = c.ranges.denominator in
    let fa = c.ranges.allowance in
    let is : c.in_ok-denominator.denominator.value ≡ c.args.denominator = simp to_z-of_z at c.in_ok-denominator.ensures in
    let abs : c.unsigned_abs.result ≡ nat_abs c.args.allowance = simp to_z-of_z at c.unsigned_abs.ensures.value in
    let cost = c.times.ensures.value ∙ ap (λ (z : ℤ). nat_abs z * c.args.cost) is in
    let allowed = c.times-allowed.ensures.value ∙ ap₂ (λ (z : ℤ) (n : ℕ). nat_abs z * n) is abs in
    gap_within_is c.times.result c.times-allowed.result c.args.cost (nat_abs c.args.denominator) (nat_abs c.args.allowance) c.args.floor c.times.ensures.bound c.times-allowed.ensures.bound c.ranges.floor cost allowed
