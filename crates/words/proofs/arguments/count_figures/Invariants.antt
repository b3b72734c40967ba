use Rattle.std.proofs.Common.{◌≡◌, ◌+◌, ◌≤◌, length}
use Rattle.words.specs.Arguments.{figures_of, count_of}
use Rattle.words.specs.Cursor.{words_left}
use Rattle.words.proofs.Listing.{counted}
use Rattle.words.proofs.arguments.count_figures.Given as goal

abbrev pub invariant-loop-word : goal.invariant-loop-word
invariant-loop-word l = record {
  counts : counted l.count (figures_of (words_left l.word-iterator)) ≡ count_of (figures_of (words_left l.fn.words));
  few : l.count + length (words_left l.word-iterator) ≤ length l.fn.words.rest.now;
}
