use Rattle.std.proofs.Common.{◌≡◌, ◌+◌, sym, ◌∙◌, rules, tests}
use Rattle.std.proofs.lemmas.Iterator.{YieldsList-from_slice}
use Rattle.std.proofs.lemmas.Iterator.Search.{position_from_yields_List}
use Rattle.std.proofs.lemmas.List.{take_rest}
use Rattle.words.proofs.Cutting.{mark_in, first_mark, cut_found, cut_missed}
use Rattle.words.proofs.cursor.cut.Goals as goal

pub returns-in-Some : goal.returns-in-Some
returns-in-Some c =
    let found : c.position.result ≡ first_mark c.args.marks.now c.args.text.now =
    position_from_yields_List (mark_in c.args.marks.now) _ _ c.position.result c.position.ensures.ran (YieldsList-from_slice _ c.iter.ensures.rest) (λ x b q k. search (rules, tests)) in
    rw (take_rest c.args.text.now (c.in-Some.i + 1)) (cut_found _ _ _ (sym found ∙ c.in-Some.is))

pub returns-in-None : goal.returns-in-None
returns-in-None c =
    let found : c.position.result ≡ first_mark c.args.marks.now c.args.text.now =
    position_from_yields_List (mark_in c.args.marks.now) _ _ c.position.result c.position.ensures.ran (YieldsList-from_slice _ c.iter.ensures.rest) (λ x b q k. search (rules, tests)) in
    cut_missed _ _ (sym found ∙ c.in-None.is)
