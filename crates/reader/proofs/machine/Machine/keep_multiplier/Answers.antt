use Rattle.std.proofs.Common.{refl, ◌<◌, set, ap, ◌∙◌, arith, w32, w64, SFits, of_z, rules}
use Rattle.std.proofs.lemmas.Int.{to_z-of_z}
use Rattle.std.proofs.lemmas.Result.{err_from_is_err_and}
use Rattle.archive.specs.File.{multiplier_text}
use Rattle.reader.specs.declared.stage.Stage.TheVariants.{Multiplier}
use Rattle.reader.proofs.Keeping.{SameHead, at_multiplier, misplaced, written, put_multiplier, kept}
use Rattle.reader.proofs.machine.Machine.keep_multiplier.Goals as goal

pub returns-in_err-check_place : goal.returns-in_err-check_place
returns-in_err-check_place c =
    let m = c.args.self.now in
    let k = c.args.k in
    let p = err_from_is_err_and c.from_residual.result c.from_residual.ensures.1 in
    let h = c.in_err-check_place.ensures in
    let few : k < 240 = omega (arith, (at_multiplier m k c.requires).1, m.contents.fewer) in
    rw (p.1, p.2) (h.0, misplaced m (Multiplier k) k 48 52 c.args.place.bytes.now c.args.value.bytes.now c.requires refl c.args.place.sized few h.1)

pub returns : goal.returns
unfolding multiplier_text
returns c =
    let m = c.args.self.now in
    let m' = c.advance.new.self in
    let e = c.advance.ensures.contents in
    let at = at_multiplier m c.args.k c.requires in
    let fits : SFits w64 c.short_signed.result = search rules in
    let one = written 4 c.args.place.bytes.now c.args.k c.args.place.sized c.in_ok-check_place.ensures in
    let two = written 8 c.args.value.bytes.now (of_z w32 c.short_signed.result) c.args.value.sized c.short_signed.ensures.value in
    let h : SameHead m.contents m'.contents = record { head = ap (λ x. x.head) e; count = ap (λ x. x.count) e } in
    kept _ m m' (Multiplier c.args.k) c.requires h
    (put_multiplier m.contents m'.contents h c.args.k _ c.short_signed.result (ap (λ x. x.readings) e) (ap (λ x. x.entries) e) (ap (λ x. x.multipliers) e ∙ ap (set m.contents.multipliers c.args.k) (to_z-of_z w64 c.short_signed.result fits))
    (ap (λ x. x.cost) e, ap (λ x. x.floor) e)
    at.1 (omega (arith, at.1, m.contents.fewer, m.contents.places.2)) (rw (one, two)) c.short_signed.ensures.fits)
    (omega (arith, at.0, at.1)) c.advance.ensures.taken c.advance.ensures.stage
