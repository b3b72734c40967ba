use Rattle.std.proofs.Common.{◌<◌, length, arith}
use Rattle.reader.proofs.Cuts.{start_open, start_other, start_sized}
use Rattle.reader.proofs.lines.Lines.next_line.Goals as goal
use Rattle.reader.proofs.lines.Lines.next_line.Goals.{then-end-self-via-then-end-self, then-end-self-via-else-end-self+then-self-end-ne10, then-end-self-via-else-end-self+else-self-end-ne10+then-end-lt2, then-end-self-via-else-end-self+else-self-end-ne10+else-end-lt2+then-end-gt60}

pub returns-then-end-self : goal.returns-then-end-self
returns-then-end-self c =
    let s = c.args.self.now.rest.now in
    let e = c.leading_digits-end.result in
    let found = c.leading_digits-end.ensures in
    let some : 0 < length s = grind arith in (
      c.found_by.ensures,
      elim c.then-end-self.branch [
        | then-end-self-via-then-end-self w ↦ start_open s e found.within found.digits w.if-end-self.true some
        | then-end-self-via-else-end-self+then-self-end-ne10 w ↦
            let lt : e < length s = omega (arith, found.within, w.if-end-self.false) in
            start_other s e found.within found.digits lt (found.stops lt) w.if-self-end-ne10.true
        | then-end-self-via-else-end-self+else-self-end-ne10+then-end-lt2 w ↦
            start_sized s e found.within found.digits (omega (arith, found.within, w.if-end-self.false)) w.if-self-end-ne10.false (λ least _. omega (arith, least, w.if-end-lt2.true))
        | then-end-self-via-else-end-self+else-self-end-ne10+else-end-lt2+then-end-gt60 w ↦
            start_sized s e found.within found.digits (omega (arith, found.within, w.if-end-self.false)) w.if-self-end-ne10.false (λ _ most. omega (arith, most, w.if-end-gt60.true))
      ],
    )
