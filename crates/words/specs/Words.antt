-- How a text is cut.
--     is_in           whether a byte is one of the marks
--     begins          whether a byte is the first of a text
--     before, after   what stands before the first mark in a text (all of it, if there is none), and after it (nothing)
--     Cut             a text is cut at the first mark into what stands before and after it
--     longer_first    the pieces with a byte put before the first of them
--     pieces          what stands before, between and after the marks of a text, in order
--     gaps            the marks between words: a space, a tab, a carriage return
--     not_empty       whether a text has any bytes
--     words_of        the words of a line: its pieces at gaps that are not empty
--     NextWord        a word is taken off the front of a text: none is left, or it is the first, and the others stay
use Rattle.std.specs.Prelude.{◌≡◌, ℕ, Bool, true, false, cond, ◌||◌, List, [], ◌∷◌, filter, Option, ◌==◌}
use Rattle.std.specs.Borrow.{Bor}
use Rattle.std.specs.Iterator.{YieldsFirstRef}

abbrev pub is_in : List ℕ → ℕ → Bool
is_in [] b = false
is_in (m ∷ ms) b = m == b || is_in ms b

abbrev pub begins : ℕ → List ℕ → Bool
begins c [] = false
begins c (b ∷ bs) = b == c

abbrev pub before : List ℕ → List ℕ → List ℕ
before marks [] = []
before marks (b ∷ bs) = cond (is_in marks b) [] (b ∷ before marks bs)

abbrev pub after : List ℕ → List ℕ → List ℕ
after marks [] = []
after marks (b ∷ bs) = cond (is_in marks b) bs (after marks bs)

pub record Cut (marks text front back : List ℕ) : Type 0 where
  pub front_is : front ≡ before marks text
  pub back_is : back ≡ after marks text

abbrev pub longer_first : ℕ → List (List ℕ) → List (List ℕ)
longer_first b [] = (b ∷ []) ∷ []
longer_first b (p ∷ ps) = (b ∷ p) ∷ ps

abbrev pub pieces : List ℕ → List ℕ → List (List ℕ)
pieces marks [] = [] ∷ []
pieces marks (b ∷ bs) = cond (is_in marks b) ([] ∷ pieces marks bs) (longer_first b (pieces marks bs))

abbrev pub gaps : List ℕ
gaps = 32 ∷ (9 ∷ (13 ∷ []))

abbrev pub not_empty : List ℕ → Bool
not_empty [] = false
not_empty (b ∷ bs) = true

unfoldable pub words_of : List ℕ → List (List ℕ)
words_of bs = filter not_empty (pieces gaps bs)

abbrev pub NextWord : List ℕ → Option (Bor (List ℕ)) → List ℕ → Type 0
NextWord = YieldsFirstRef words_of
