use Rattle.std.proofs.Common.{ℤ, List, ◌≤◌, subst, sym}
use Rattle.kinds.specs.Figures.{largest}
use Rattle.roughness.proofs.Bent.{shared, largest_shares}
use Rattle.roughness.proofs.bends.Steps.shares.Goals as goal

pub overflow_mul-result : goal.overflow_mul-result
overflow_mul-result c = (shared c.args.self.before c.args.self.after c.args.multiplier c.args.self.short.0 c.args.self.short.1 c.requires).near

pub overflow_mul-result-2 : goal.overflow_mul-result-2
overflow_mul-result-2 c = (shared c.args.self.before c.args.self.after c.args.multiplier c.args.self.short.0 c.args.self.short.1 c.requires).middle

pub overflow_mul-result-3 : goal.overflow_mul-result-3
overflow_mul-result-3 c = (shared c.args.self.before c.args.self.after c.args.multiplier c.args.self.short.0 c.args.self.short.1 c.requires).far

pub returns-clause-value : goal.returns-clause-value
returns-clause-value c = (shared c.args.self.before c.args.self.after c.args.multiplier c.args.self.short.0 c.args.self.short.1 c.requires).value

pub returns-clause-small : goal.returns-clause-small
returns-clause-small c =
    let is = (shared c.args.self.before c.args.self.after c.args.multiplier c.args.self.short.0 c.args.self.short.1 c.requires).value in
    subst (λ (l : List ℤ). largest l ≤ 120000000000000) (sym is) (largest_shares c.args.self.before c.args.self.after c.args.multiplier c.args.self.short.0 c.args.self.short.1 c.requires)
