use Rattle.std.proofs.lemmas.Result.{err_from_is_err_and}
use Rattle.kinds.proofs.Passing.{refused, says_no}
use Rattle.objective.proofs.Noted.{noted_stop}
use Rattle.objective.proofs.checks.check_readings.Goals as goal

pub returns-in_err-check_reading : goal.returns-in_err-check_reading
returns-in_err-check_reading c =
    let p = err_from_is_err_and c.from_residual.result c.from_residual.ensures.1 in
    rw (p.1, p.2) (says_no _ _ _ (noted_stop c.loop-place.place c.loop-place.last c.args.readings.now _ c.loop-place-test.true c.loop-place.invariant _ (refused _ _ _ c.in_err-check_reading.ensures)))
