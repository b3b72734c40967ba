use Rattle.std.proofs.Common.{true, Some, None, Ok, sym, ap, ◌∙◌, arith}
use Rattle.std.proofs.lemmas.Result.{err_from_is_err_and}
use Rattle.reader.specs.Turns.{Next}
use Rattle.reader.proofs.Cuts.{upto_more, upto_broken, upto_all, upto_empty}
use Rattle.reader.proofs.lines.check_lines.Goals as goal

pub returns-in_err-_line : goal.returns-in_err-_line
returns-in_err-_line c =
    let h = c.in_err-_line.ensures in
    let p = err_from_is_err_and c.from_residual.result c.from_residual.ensures.1 in
    rw (p.1, p.2) (upto_broken c.args.file.now c.loop-line.lines.rest.now c.loop-line.lines.taken c.loop-line.invariant _ h.0 h.1)

turn : (c : goal.In-Some) → Next c.loop-line.lines c.next_line.new.self (Ok (Some c.in-Some._line))
turn c = rw c.in-Some.is at c.in_ok-_line.ensures

pub loop-line-preserved : goal.loop-line-preserved
loop-line-preserved c =
    let n = turn c in
    rw n.1 (upto_more c.args.file.now c.loop-line.lines.rest.now c.in-Some._line.now c.next_line.new.self.rest.now c.loop-line.lines.taken c.loop-line.invariant n.0 n.2)

pub returns-then-lines-eq0 : goal.returns-then-lines-eq0
returns-then-lines-eq0 c =
    let n : Next c.loop-line.lines c.next_line.new.self (Ok None) = rw c.in_default.is at c.in_ok-_line.ensures in
    upto_empty c.args.file.now c.loop-line.lines.rest.now _ c.loop-line.invariant n.0 (ap (λ l. l.taken) (sym n.1) ∙ c.if-lines-eq0.true) _ c.found_by.ensures

pub returns : goal.returns
returns c =
    let n : Next c.loop-line.lines c.next_line.new.self (Ok None) = rw c.in_default.is at c.in_ok-_line.ensures in
    upto_all c.args.file.now c.loop-line.lines.rest.now _ c.loop-line.invariant n.0 (λ z. omega (arith, z, ap (λ l. l.taken) n.1, c.if-lines-eq0.false))
