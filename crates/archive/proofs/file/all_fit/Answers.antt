use Rattle.std.proofs.Common.{rules, tests}
use Rattle.std.proofs.lemmas.Iterator.{YieldsList-from_slice}
use Rattle.std.proofs.lemmas.Iterator.Search.{all_from_yields_List}
use Rattle.archive.proofs.file.all_fit.Goals as goal

pub returns : goal.returns
returns g c =
    all_from_yields_List g.S.ListStage.test _ _ _ c.all.ensures.ran (YieldsList-from_slice c.args.figures.now cc) (λ x b q k. search (rules, tests))
