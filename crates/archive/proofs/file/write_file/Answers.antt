use Rattle.std.proofs.lemmas.Result.{err_from_is_err_and}
use Rattle.archive.specs.Writing.{gathered}
use Rattle.archive.proofs.Passing.{refused}
use Rattle.archive.proofs.Running.{every_run_writes}
use Rattle.archive.proofs.Whole.{writes_refused}
use Rattle.archive.proofs.file.write_file.Goals as goal

pub returns-in_err-check : goal.returns-in_err-check
returns-in_err-check c =
    let p = err_from_is_err_and c.from_residual.result c.from_residual.ensures.1 in
    rw (p.1, p.2) (record { writes = writes_refused (gathered c.args.figures.now) c.args.place.now _ (refused _ _ _ c.in_err-check.ensures); runs = every_run_writes })

pub returns : goal.returns
returns c = record { writes = c.write.ensures; runs = every_run_writes }
