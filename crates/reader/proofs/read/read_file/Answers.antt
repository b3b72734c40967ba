use Rattle.std.proofs.Common.{Err}
use Rattle.std.proofs.lemmas.Result.{err_from_is_err_and}
use Rattle.reader.proofs.Reading.{least_broken, read_as, comes_back}
use Rattle.reader.proofs.read.read_file.Goals as goal

pub returns-in_err-check_lines : goal.returns-in_err-check_lines
returns-in_err-check_lines c =
    let bs = c.args.file.now in
    let p = err_from_is_err_and c.from_residual.result c.from_residual.ensures.1 in
    let least = least_broken c.args.wanted bs _ c.in_err-check_lines.ensures in
    rw (p.1, p.2) (record { answered = least; back = comes_back c.args.wanted bs (Err _) least })

pub returns : goal.returns
returns c =
    let bs = c.args.file.now in
    let read = read_as c.args.wanted bs c.in_ok-check_lines.ensures c.read_frames.result c.read_frames.ensures in
    record { answered = read; back = comes_back c.args.wanted bs c.read_frames.result read }
