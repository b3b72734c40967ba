use Rattle.std.proofs.Common.{true, ◌≡◌, ◌&&◌, fold, sym, ◌∙◌, arith}
use Rattle.std.proofs.lemmas.Grind.{common_steps}
use Rattle.reader.specs.Lines.{is_known}
use Rattle.reader.proofs.Cuts.{fold_known}
use Rattle.reader.proofs.lines.all_known.Goals as goal

pub returns : goal.returns
returns c =
    let folds : c.fold.result ≡ fold (λ known b. known && is_known b) true c.args.bytes.now = grind (arith, common_steps) in
    λ on. (fold_known c.args.bytes.now true (sym folds ∙ on)).1
