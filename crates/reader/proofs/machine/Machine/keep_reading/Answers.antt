use Rattle.std.proofs.Common.{refl, ◌<◌, ◌++◌, set, nat_abs, ap, ◌∙◌, arith, w64, SFits, rules}
use Rattle.std.proofs.lemmas.Result.{err_from_is_err_and}
use Rattle.archive.specs.File.{reading_text}
use Rattle.kinds.specs.declared.reading.Reading.{Reading as NotedReading}
use Rattle.reader.specs.declared.stage.Stage.TheVariants.{Reading}
use Rattle.reader.proofs.Keeping.{SameHead, at_reading, misplaced, written, fits_read, stored, put_reading, kept}
use Rattle.reader.proofs.machine.Machine.keep_reading.Goals as goal

pub returns-in_err-check_place : goal.returns-in_err-check_place
returns-in_err-check_place c =
    let m = c.args.self.now in
    let k = c.args.k in
    let p = err_from_is_err_and c.from_residual.result c.from_residual.ensures.1 in
    let h = c.in_err-check_place.ensures in
    let few : k < 240 = omega (arith, (at_reading m k c.requires).1, m.contents.few) in
    rw (p.1, p.2) (h.0, misplaced m (Reading k) k 48 50 c.args.place.bytes.now (c.args.minute.bytes.now ++ (c.args.crude.bytes.now ++ c.args.weight.bytes.now)) c.requires refl c.args.place.sized few h.1)

pub returns : goal.returns
unfolding reading_text
returns c =
    let m = c.args.self.now in
    let m' = c.advance.new.self in
    let e = c.advance.ensures.contents in
    let at = at_reading m c.args.k c.requires in
    let fits1 : SFits w64 c.unsigned.result = search rules in
    let fits2 : SFits w64 c.unsigned-2.result = search rules in
    let fits3 : SFits w64 c.unsigned-3.result = search rules in
    let r : NotedReading = record { minute = c.unsigned.result; crude = c.unsigned-2.result; weight = c.unsigned-3.result } in
    let one = written 4 c.args.place.bytes.now c.args.k c.args.place.sized c.in_ok-check_place.ensures in
    let two = written 8 c.args.minute.bytes.now (nat_abs c.unsigned.result) c.args.minute.sized c.unsigned.ensures.value in
    let three = written 4 c.args.crude.bytes.now (nat_abs c.unsigned-2.result) c.args.crude.sized c.unsigned-2.ensures.value in
    let four = written 4 c.args.weight.bytes.now (nat_abs c.unsigned-3.result) c.args.weight.sized c.unsigned-3.ensures.value in
    let ok1 = fits_read 8 c.args.minute.bytes.now c.unsigned.result c.args.minute.sized c.unsigned.ensures.value c.unsigned.ensures.sign in
    let ok2 = fits_read 4 c.args.crude.bytes.now c.unsigned-2.result c.args.crude.sized c.unsigned-2.ensures.value c.unsigned-2.ensures.sign in
    let ok3 = fits_read 4 c.args.weight.bytes.now c.unsigned-3.result c.args.weight.sized c.unsigned-3.ensures.value c.unsigned-3.ensures.sign in
    let h : SameHead m.contents m'.contents = record { head = ap (λ x. x.head) e; count = ap (λ x. x.count) e } in
    kept _ m m' (Reading c.args.k) c.requires h
    (put_reading m.contents m'.contents h c.args.k _ r (ap (λ x. x.readings) e ∙ ap (set m.contents.readings c.args.k) (stored c.unsigned.result c.unsigned-2.result c.unsigned-3.result fits1 fits2 fits3))
    (ap (λ x. x.entries) e) (ap (λ x. x.multipliers) e) (ap (λ x. x.cost) e, ap (λ x. x.floor) e)
    at.1 (omega (arith, at.1, m.contents.few, m.contents.places.0)) (rw (one, two, three, four)) (rw (ok1, ok2, ok3)))
    (omega (arith, at.0, at.1)) c.advance.ensures.taken c.advance.ensures.stage
