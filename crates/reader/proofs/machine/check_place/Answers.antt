use Rattle.std.proofs.Common.{sym}
use Rattle.digits.proofs.Fields.{number_is, number_written}
use Rattle.reader.proofs.machine.check_place.Goals as goal

pub returns-then-figure-k : goal.returns-then-figure-k
returns-then-figure-k c = (
  c.disorder.ensures,
  λ n. let s = c.args.place.bytes.now in
      let w = number_written 4 s c.args.k c.args.place.sized n in
      c.if-figure-k.true (number_is 4 s c.figure.result c.args.k (sym w.1) w.0 c.figure.ensures),
)
