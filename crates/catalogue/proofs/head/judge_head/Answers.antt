use Rattle.std.proofs.Common.{subst}
use Rattle.catalogue.specs.declared.marks.Marks.{Marks}
use Rattle.catalogue.specs.Judged.{Judged}
use Rattle.catalogue.proofs.Headless.{headless_down}
use Rattle.catalogue.proofs.head.judge_head.Goals as goal

pub returns-in-Some : goal.returns-in-Some
returns-in-Some c = record {
  headed = λ e h is. subst (λ (m : Marks). Judged m c.args.file.now c.judge_marks.result) (c.in-Some.ensures e h is) c.judge_marks.ensures;
  headless = λ none. headless_down c.args.file.now none c.judge_marks.result c.judge_marks.ensures;
}
