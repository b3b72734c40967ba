use Rattle.std.proofs.Common.{◌∙◌}
use Rattle.words.specs.Arguments.{figures_of}
use Rattle.words.specs.Cursor.{words_left}
use Rattle.words.proofs.Listing.{written_listed, place_kept}
use Rattle.words.proofs.arguments.list_figures.Goals as goal

pub returns-in_err-count : goal.returns-in_err-count
returns-in_err-count c =
    let none = c.in_err-count.ensures in
    record { count = c.from_residual.ensures ∙ none; place = place_kept (figures_of (words_left c.args.words)) _ none }

pub returns : goal.returns
returns c =
    let counted = c.in_ok-count.ensures in
    record { count = counted; place = c.write_figures.ensures ∙ written_listed (words_left c.args.words) _ _ counted }
