-- The words that stand behind the name of a call.
--     and_then        goes on with what was read, if something was
--     first_as        what the first of some words is read as, if there is one and it can be read so
--     behind          the words behind the first
--     figures_of      the figures of some words, if each of them is one
--     count_of        how many figures were read
--     front_if        a figure before others, if one was read, else nothing
--     leading         the figures at the front of some words, up to a word that is none
--     written         a place for figures, once some are written at its start as far as they fit; the rest of it stays
--     place_after     a place once figures that were read are written at its start; it stays if none were read
use Rattle.std.specs.Prelude.{ℕ, List, [], ◌∷◌, ◌++◌, length, take, drop, ℤ, Some, None, Option}
use Rattle.words.specs.Figures.{figure_of}

abbrev pub and_then : {A B : Type 0} → Option A → (A → Option B) → Option B
and_then None on = None
and_then (Some a) on = on a

abbrev pub first_as : {A : Type 0} → (List ℕ → Option A) → List (List ℕ) → Option A
first_as read [] = None
first_as read (w ∷ ws) = read w

abbrev pub behind : List (List ℕ) → List (List ℕ)
behind [] = []
behind (w ∷ ws) = ws

unfoldable pub figures_of : List (List ℕ) → Option (List ℤ)
figures_of [] = Some []
figures_of (w ∷ ws) = and_then (figure_of w) (λ f. and_then (figures_of ws) (λ fs. Some (f ∷ fs)))

abbrev pub count_of : Option (List ℤ) → Option ℕ
count_of None = None
count_of (Some fs) = Some (length fs)

abbrev pub front_if : Option ℤ → List ℤ → List ℤ
front_if None fs = []
front_if (Some f) fs = f ∷ fs

abbrev pub leading : List (List ℕ) → List ℤ
leading [] = []
leading (w ∷ ws) = front_if (figure_of w) (leading ws)

abbrev pub written : List ℤ → List ℤ → List ℤ
written fs place = take (length place) fs ++ drop (length fs) place

abbrev pub place_after : Option (List ℤ) → List ℤ → List ℤ
place_after None place = place
place_after (Some fs) place = written fs place
