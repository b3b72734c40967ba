use Rattle.std.proofs.Common.{ap, ◌∙◌, arith, w64, SFits, of_z, rules}
use Rattle.std.proofs.lemmas.Int.{to_z-of_z}
use Rattle.archive.specs.File.{end_text}
use Rattle.reader.specs.declared.stage.Stage.TheVariants.{End}
use Rattle.reader.proofs.Keeping.{SameHead, at_end, written, put_end, kept}
use Rattle.reader.proofs.machine.Machine.keep_end.Goals as goal

pub returns : goal.returns
unfolding end_text
returns c =
    let m = c.args.self.now in
    let m' = c.advance.new.self in
    let e = c.advance.ensures.contents in
    let at = at_end m c.requires in
    let fits : SFits w64 c.long_signed-self.result = search rules in
    let one = written 16 c.args.cost.bytes.now c.figure-self.result c.args.cost.sized c.figure-self.ensures in
    let two = written 16 c.args.floor.bytes.now (of_z w64 c.long_signed-self.result) c.args.floor.sized c.long_signed-self.ensures in
    let cost = ap (λ x. x.cost) e in
    let floor = ap (λ x. x.floor) e ∙ to_z-of_z w64 c.long_signed-self.result fits in
    let h : SameHead m.contents m'.contents = record { head = ap (λ x. x.head) e; count = ap (λ x. x.count) e } in
    kept _ m m' End c.requires h
    (put_end m.contents m'.contents h 0 _ (ap (λ x. x.readings) e) (ap (λ x. x.entries) e) (ap (λ x. x.multipliers) e) (rw (cost, floor, one, two)))
    (omega (arith, at)) c.advance.ensures.taken c.advance.ensures.stage
