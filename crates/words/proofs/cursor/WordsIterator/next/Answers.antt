use Rattle.std.proofs.Common.{◌≡◌, ◌<◌, length, ap, ◌∙◌, arith}
use Rattle.std.proofs.lemmas.Bool.Decides.{nat_tests}
use Rattle.words.proofs.Cutting.{cut_shorter, words_first, words_gap, words_none}
use Rattle.words.proofs.cursor.WordsIterator.next.Goals as goal

pub returns-then-not-is_empty-clause-steps : goal.returns-then-not-is_empty-clause-steps
returns-then-not-is_empty-clause-steps c =
    let some : 0 < length c.cut.result.0.now = grind (arith, nat_tests) in
    c.loop-word.invariant ∙ words_first _ _ _ c.cut.ensures some

pub returns-then-not-is_empty-clause-goes : goal.returns-then-not-is_empty-clause-goes
returns-then-not-is_empty-clause-goes c =
    let some : 0 < length c.cut.result.0.now = grind (arith, nat_tests) in
    let first = c.loop-word.invariant ∙ words_first _ _ _ c.cut.ensures some in
    record { on = λ _. (tt, tt, omega (arith, ap length first)); keeps = tt; rests = λ _. tt }

pub loop-word-smaller : goal.loop-word-smaller
loop-word-smaller c =
    let some : 0 < length c.loop-word.self.rest.now = grind (arith, nat_tests) in
    cut_shorter _ _ _ _ c.cut.ensures some

pub loop-word-preserved : goal.loop-word-preserved
loop-word-preserved c =
    let none : length c.cut.result.0.now ≡ 0 = grind (arith, nat_tests) in
    c.loop-word.invariant ∙ words_gap _ _ _ c.cut.ensures none

pub returns-clause-steps : goal.returns-clause-steps
returns-clause-steps c =
    let empty : length c.loop-word.self.rest.now ≡ 0 = grind (arith, nat_tests) in
    let none = words_none c.loop-word.self.rest.now empty in
    (c.loop-word.invariant ∙ none, none)
