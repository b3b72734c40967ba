use Rattle.std.proofs.Common.{◌≡◌, ◌+◌, ◌-◌, length, sym, ap, ◌∙◌, append-nil, arith, length-set}
use Rattle.std.proofs.lemmas.List.{drop_all}
use Rattle.digits.specs.Fields.{field}
use Rattle.digits.proofs.Fields.{put_more, put_all}
use Rattle.digits.proofs.write_field.Goals as goal

pub loop-at-init : goal.loop-at-init
loop-at-init c = rw (drop_all (length c.args.place.now) c.args.place.now (omega arith)) (append-nil (field (length c.args.place.now) c.args.figure))

pub loop-at-preserved : goal.loop-at-preserved
loop-at-preserved c =
    let next : c.loop-at.at - 1 + 1 ≡ c.loop-at.at = omega arith in
    let step = put_more c.loop-at.place (c.loop-at.at - 1) c.loop-at.rest c.digit_of.result (omega arith) c.digit_of.ensures in
    (rw next at step) ∙ c.loop-at.invariant ∙ ap (λ n. field n c.args.figure) (sym (length-set c.loop-at.place (c.loop-at.at - 1) c.digit_of.result))

pub returns : goal.returns
returns c = put_all c.loop-at.place _ c.loop-at.at c.loop-at.rest (omega arith) c.loop-at.invariant ∙ ap (λ n. field n c.args.figure) c.loop-at.auto.place
