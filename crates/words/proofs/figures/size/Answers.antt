use Rattle.std.proofs.Common.{◌≡◌, ◌<◌, ◌+◌, ◌*◌, ◌-◌, ◌∙◌, length, get_or, arith, rules}
use Rattle.std.proofs.lemmas.Bool.Decides.{nat_tests}
use Rattle.words.proofs.Decimal.{summed_none, summed_more, summed_least, size_not_digit, size_all, size_large}
use Rattle.words.proofs.figures.size.Goals as goal

pub loop-byte-init : goal.loop-byte-init
loop-byte-init c = record { summed = summed_none _; fits = omega arith }

pub returns-then-not-is_ascii_digit : goal.returns-then-not-is_ascii_digit
returns-then-not-is_ascii_digit c = size_not_digit _ _ _ c.loop-byte.invariant.summed _ c.loop-byte-test.true (search rules)

pub returns-in_err-checked_mul : goal.returns-in_err-checked_mul
returns-in_err-checked_mul c =
    let more = summed_more _ _ _ c.loop-byte.invariant.summed c.loop-byte-test.true (search rules) in
    c.from_residual.ensures ∙ size_large _ c.args.digits.now (omega (arith, c.in_err-checked_mul.ensures, summed_least _ _ _ more))

pub returns-in_err-sum : goal.returns-in_err-sum
returns-in_err-sum c =
    let more = summed_more _ _ _ c.loop-byte.invariant.summed c.loop-byte-test.true (search rules) in
    c.from_residual-in_err-sum.ensures ∙ size_large _ c.args.digits.now (omega (arith, c.in_err-sum.ensures, c.in_ok-checked_mul.ensures, summed_least _ _ _ more))

pub loop-byte-preserved : goal.loop-byte-preserved
loop-byte-preserved c =
    let e : c.in_ok-sum.sum ≡ c.loop-byte.sum * 10 + (get_or c.args.digits.now c.loop-byte.byte-index 0 - 48) = omega (arith, c.in_ok-sum.ensures, c.in_ok-checked_mul.ensures) in
    record { summed = rw e (summed_more _ _ _ c.loop-byte.invariant.summed c.loop-byte-test.true (search rules)); fits = omega (arith, c.in_ok-sum.ensures) }

pub returns : goal.returns
returns c =
    let some : 0 < length c.args.digits.now = grind (arith, nat_tests) in
    size_all _ _ _ c.loop-byte.invariant.summed _ some c.loop-byte-test.false (omega arith)
