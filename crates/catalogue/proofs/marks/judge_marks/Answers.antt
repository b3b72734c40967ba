use Rattle.std.proofs.Common.{subst}
use Rattle.objective.specs.Objective.{KindsMeaning}
use Rattle.verdict.specs.Verdicts.{Judges}
use Rattle.catalogue.specs.Judged.Judged.{known}
use Rattle.catalogue.proofs.Marking.{same_kinds}
use Rattle.catalogue.proofs.marks.judge_marks.Goals as goal

pub returns-in-Ok : goal.returns-in-Ok
returns-in-Ok c =
    known _ c.in-Ok.ensures (λ j at. subst (λ (k : KindsMeaning). Judges k c.args.file.now c.judge.result) (same_kinds c.in-Ok.ensures at) c.judge.ensures)
