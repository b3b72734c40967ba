use Rattle.roughness.proofs.Bent.{bent_of}
use Rattle.roughness.proofs.bends.Steps.bend.Goals as goal

pub overflow_mul-result : goal.overflow_mul-result
overflow_mul-result c = (bent_of c.args.self.before c.args.self.after c.args.values.now c.args.self.short.0 c.args.self.short.1 c.requires).near

pub overflow_mul-result-2 : goal.overflow_mul-result-2
overflow_mul-result-2 c = (bent_of c.args.self.before c.args.self.after c.args.values.now c.args.self.short.0 c.args.self.short.1 c.requires).middle

pub overflow_sub-result : goal.overflow_sub-result
overflow_sub-result c = (bent_of c.args.self.before c.args.self.after c.args.values.now c.args.self.short.0 c.args.self.short.1 c.requires).less

pub overflow_mul-result-3 : goal.overflow_mul-result-3
overflow_mul-result-3 c = (bent_of c.args.self.before c.args.self.after c.args.values.now c.args.self.short.0 c.args.self.short.1 c.requires).far

pub overflow_add-result-2 : goal.overflow_add-result-2
overflow_add-result-2 c = (bent_of c.args.self.before c.args.self.after c.args.values.now c.args.self.short.0 c.args.self.short.1 c.requires).whole

pub returns : goal.returns
returns c = (bent_of c.args.self.before c.args.self.after c.args.values.now c.args.self.short.0 c.args.self.short.1 c.requires).value
