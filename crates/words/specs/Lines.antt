-- The lines of a text.
--     line_end        the mark that ends a line
--     NextLine        a line is taken off the front of a text: none is left, or it is what stands before the first line end,
--                     and what stands after it is left
use Rattle.std.specs.Prelude.{◌≡◌, ℕ, ◌<◌, List, [], ◌∷◌, length, Some, None, Option}
use Rattle.std.specs.Borrow.{Bor}
use Rattle.words.specs.Words.{before, after}

abbrev pub line_end : List ℕ
line_end = 10 ∷ []

abbrev pub NextLine : List ℕ → Option (Bor (List ℕ)) → List ℕ → Type 0
NextLine text None left = (text ≡ []) × (left ≡ [])
NextLine text (Some l) left = (l.now ≡ before line_end text) × (left ≡ after line_end text) × (length left < length text)
