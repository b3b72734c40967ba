use Rattle.std.proofs.Common.{◌≡◌, true, refl, arith}
use Rattle.std.proofs.ByRecursion.{All-get_or}
use Rattle.std.proofs.lemmas.List.{take_more}
use Rattle.digits.specs.Fields.{is_digit, field}
use Rattle.digits.proofs.Fields.{field_more, fits_more, fits_word}
use Rattle.digits.proofs.digits_value.Goals as goal

pub loop-byte-init : goal.loop-byte-init
unfolding field
loop-byte-init c = (omega arith, λ _. refl)

pub overflow_mul-figure : goal.overflow_mul-figure
overflow_mul-figure c = omega (arith, fits_word _ _ (omega arith) (fits_more c.loop-byte.byte-index c.loop-byte.figure 0 (omega arith) c.loop-byte.invariant.0))

pub overflow_add-figure : goal.overflow_add-figure
overflow_add-figure c = omega (arith, fits_word _ _ (omega arith) (fits_more c.loop-byte.byte-index c.loop-byte.figure c.value_of.result c.value_of.ensures.small c.loop-byte.invariant.0))

pub loop-byte-preserved : goal.loop-byte-preserved
loop-byte-preserved c = (
  fits_more c.loop-byte.byte-index c.loop-byte.figure c.value_of.result c.value_of.ensures.small c.loop-byte.invariant.0,
  λ all.
      let more = take_more c.args.bytes.now c.loop-byte.byte-index 0 (omega arith) in
      let text = field_more c.loop-byte.byte-index c.loop-byte.figure c.value_of.result c.value_of.ensures.small in
      let stands = c.value_of.ensures.stands (All-get_or (λ b. is_digit b ≡ true) c.args.bytes.now c.loop-byte.byte-index 0 (omega arith) all) in
      let before = c.loop-byte.invariant.1 all in
      cc,
)
