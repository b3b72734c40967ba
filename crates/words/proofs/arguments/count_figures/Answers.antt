use Rattle.std.proofs.Common.{length, ap, ◌∙◌, arith}
use Rattle.words.proofs.Cutting.{words_few}
use Rattle.words.proofs.Listing.{counted_none, counted_more, counted_no_figure, counted_all}
use Rattle.words.proofs.arguments.count_figures.Goals as goal

pub loop-word-init : goal.loop-word-init
loop-word-init c = rw c.into_iter-word-iterator.ensures.into_iter_gives (record { counts = counted_none _; few = omega (arith, words_few c.args.words.rest.now) })

pub returns-in_err-figure : goal.returns-in_err-figure
returns-in_err-figure c =
    c.from_residual.ensures ∙ counted_no_figure _ _ _ _ c.in-Some.ensures.steps c.in_err-figure.ensures ∙ c.loop-word.invariant.counts

pub loop-word-preserved : goal.loop-word-preserved
loop-word-preserved c =
    let split = c.in-Some.ensures.steps in
    record {
      counts = counted_more _ _ _ _ split _ c.in_ok-figure.ensures ∙ c.loop-word.invariant.counts;
      few = omega (arith, ap length split, c.loop-word.invariant.few);
    }

pub returns : goal.returns
returns c = counted_all _ _ c.in-None.ensures.steps.0 ∙ c.loop-word.invariant.counts
