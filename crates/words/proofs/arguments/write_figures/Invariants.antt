use Rattle.words.specs.Cursor.{words_left}
use Rattle.words.proofs.Listing.{Written}
use Rattle.words.proofs.arguments.write_figures.Given as goal

abbrev pub invariant-loop-slot : goal.invariant-loop-slot
invariant-loop-slot l =
    Written (words_left l.initial.words) (words_left l.words) l.initial.place l.place l.slot-index
