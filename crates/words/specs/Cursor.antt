-- The words that a cursor on a line has not handed out yet.
--     words_left      these words
use Rattle.std.specs.Prelude.{ℕ, List}
use Rattle.words.specs.declared.cursor.Words.{Words}
use Rattle.words.specs.Words.{words_of}

abbrev pub words_left : Words → List (List ℕ)
words_left words = words_of words.rest.now
