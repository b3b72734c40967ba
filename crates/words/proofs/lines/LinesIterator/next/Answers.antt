use Rattle.std.proofs.Common.{◌<◌, length, arith}
use Rattle.std.proofs.lemmas.Bool.Decides.{nat_tests}
use Rattle.words.proofs.Cutting.{cut_shorter}
use Rattle.words.proofs.lines.LinesIterator.next.Goals as goal

pub returns-clause-steps : goal.returns-clause-steps
returns-clause-steps c =
    let some : 0 < length c.args.self.now.rest.now = grind (arith, nat_tests) in
    (c.cut.ensures.front_is, c.cut.ensures.back_is, cut_shorter _ _ _ _ c.cut.ensures some)

pub returns-clause-goes : goal.returns-clause-goes
returns-clause-goes c =
    let some : 0 < length c.args.self.now.rest.now = grind (arith, nat_tests) in
    let shorter = cut_shorter _ _ _ _ c.cut.ensures some in
    record { on = λ _. (tt, tt, shorter); keeps = tt; rests = λ _. tt }
