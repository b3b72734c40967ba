use Rattle.std.proofs.Common.{◌≡◌, ◌^◌, ◌-◌, true, false, drop, Some, None, ◌∙◌, arith}
use Rattle.std.proofs.lemmas.List.{take_rest}
use Rattle.words.specs.Words.{begins}
use Rattle.words.specs.Figures.{size_of}
use Rattle.words.proofs.Decimal.{begins_is, begins_not, minus_none, minus_some, plain_none, plain_some}
use Rattle.words.proofs.figures.figure.Goals as goal

pub returns-in_err-size-in-45 : goal.returns-in_err-size-in-45
returns-in_err-size-in-45 c =
    let w = c.args.word.now in
    let b : begins 45 w ≡ true = begins_is 45 w (omega arith) (omega arith) in
    let none : None ≡ size_of (2 ^ 64 - 1) (drop 1 w) = rw (take_rest w 1) at c.in_err-size-in-45.ensures in
    c.from_residual.ensures ∙ minus_none w b none

pub returns-in_ok-size-in-45 : goal.returns-in_ok-size-in-45
returns-in_ok-size-in-45 c =
    let w = c.args.word.now in
    let b : begins 45 w ≡ true = begins_is 45 w (omega arith) (omega arith) in
    let some : Some c.in_ok-size-in-45.field-0 ≡ size_of (2 ^ 64 - 1) (drop 1 w) = rw (take_rest w 1) at c.in_ok-size-in-45.ensures in
    minus_some w b _ _ some c.checked_sub_unsigned.ensures

pub returns-in_err-size-in_default : goal.returns-in_err-size-in_default
returns-in_err-size-in_default c =
    let b : begins 45 c.args.word.now ≡ false = begins_not 45 c.args.word.now (λ h. grind arith) in
    c.from_residual-in_err-size-in_default.ensures ∙ plain_none _ b c.in_err-size-in_default.ensures

pub returns-in_ok-size-in_default : goal.returns-in_ok-size-in_default
returns-in_ok-size-in_default c =
    let b : begins 45 c.args.word.now ≡ false = begins_not 45 c.args.word.now (λ h. grind arith) in
    plain_some _ b _ _ c.in_ok-size-in_default.ensures c.checked_add_unsigned.ensures
