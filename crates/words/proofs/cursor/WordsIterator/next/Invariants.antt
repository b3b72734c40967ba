use Rattle.std.proofs.Common.{◌≡◌, length}
use Rattle.words.specs.Words.{words_of}
use Rattle.words.proofs.cursor.WordsIterator.next.Given as goal

abbrev pub invariant-loop-word : goal.invariant-loop-word
invariant-loop-word l = words_of l.initial.self.rest.now ≡ words_of l.self.rest.now

abbrev pub decreases-loop-word : goal.decreases-loop-word
decreases-loop-word l = length l.self.rest.now
