use Rattle.std.proofs.Common.{refl, ◌<◌, set, nat_abs, ap, ◌∙◌, arith, w64, SFits, rules}
use Rattle.std.proofs.lemmas.Int.{to_z-of_z}
use Rattle.std.proofs.lemmas.Result.{err_from_is_err_and}
use Rattle.archive.specs.File.{entry_text}
use Rattle.reader.specs.declared.stage.Stage.TheVariants.{Entry}
use Rattle.reader.proofs.Keeping.{SameHead, at_entry, misplaced, written, fits_read, put_entry, kept}
use Rattle.reader.proofs.machine.Machine.keep_entry.Goals as goal

pub returns-in_err-check_place : goal.returns-in_err-check_place
returns-in_err-check_place c =
    let m = c.args.self.now in
    let k = c.args.k in
    let p = err_from_is_err_and c.from_residual.result c.from_residual.ensures.1 in
    let h = c.in_err-check_place.ensures in
    let few : k < 240 = omega (arith, (at_entry m k c.requires).1, m.contents.few) in
    rw (p.1, p.2) (h.0, misplaced m (Entry k) k 48 51 c.args.place.bytes.now c.args.value.bytes.now c.requires refl c.args.place.sized few h.1)

pub returns : goal.returns
unfolding entry_text
returns c =
    let m = c.args.self.now in
    let m' = c.advance.new.self in
    let e = c.advance.ensures.contents in
    let at = at_entry m c.args.k c.requires in
    let fits : SFits w64 c.unsigned.result = search rules in
    let one = written 4 c.args.place.bytes.now c.args.k c.args.place.sized c.in_ok-check_place.ensures in
    let two = written 4 c.args.value.bytes.now (nat_abs c.unsigned.result) c.args.value.sized c.unsigned.ensures.value in
    let h : SameHead m.contents m'.contents = record { head = ap (λ x. x.head) e; count = ap (λ x. x.count) e } in
    kept _ m m' (Entry c.args.k) c.requires h
    (put_entry m.contents m'.contents h c.args.k _ c.unsigned.result (ap (λ x. x.readings) e) (ap (λ x. x.entries) e ∙ ap (set m.contents.entries c.args.k) (to_z-of_z w64 c.unsigned.result fits)) (ap (λ x. x.multipliers) e)
    (ap (λ x. x.cost) e, ap (λ x. x.floor) e)
    at.1 (omega (arith, at.1, m.contents.few, m.contents.places.1)) (rw (one, two)) (fits_read 4 c.args.value.bytes.now c.unsigned.result c.args.value.sized c.unsigned.ensures.value c.unsigned.ensures.sign))
    (omega (arith, at.0, at.1)) c.advance.ensures.taken c.advance.ensures.stage
