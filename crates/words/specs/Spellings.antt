-- The words that name a kind of roughness or a kind of penalty.
--     named           what a word stands for, by a list of spellings, if it is one of them
--     roughness_of    the roughness that a word names, if it names one
--     colon           the mark between the parts of a lopsided penalty
--     lopsided_of     the lopsided penalty with two figures, if both were read
--     sides_of        the same, from their text: a figure, a colon and a figure
--     penalty_of      the penalty that a word names, if it names one: `absolute`, or `lopsided`, a colon and two sides
use Rattle.std.specs.Prelude.{ℕ, cond, List, [], ◌∷◌, ℤ, Some, None, codes, Option}
use Rattle.std.specs.Str.{bytes_eq}
use Rattle.words.specs.declared.spellings.RoughnessWord.{RoughnessWord}
use Rattle.words.specs.declared.spellings.RoughnessWord.TheVariants.{First, Slope}
use Rattle.words.specs.declared.spellings.PenaltyWord.{PenaltyWord}
use Rattle.words.specs.declared.spellings.PenaltyWord.TheVariants.{Absolute, Lopsided}
use Rattle.words.specs.Words.{before, after}
use Rattle.words.specs.Figures.{figure_of}

abbrev pub named : {A : Type 0} → List (List ℕ × A) → List ℕ → Option A
named [] w = None
named (e ∷ es) w = cond (bytes_eq w e.0) (Some e.1) (named es w)

abbrev pub roughness_of : List ℕ → Option RoughnessWord
roughness_of =
    named ((codes "first", First 0) ∷ (codes "first+1", First 1) ∷ (codes "first+2", First 2) ∷ (codes "first+3", First 3)
    ∷ (codes "slope", Slope 0) ∷ (codes "slope+1", Slope 1) ∷ (codes "slope+2", Slope 2) ∷ [])

abbrev pub colon : List ℕ
colon = 58 ∷ []

abbrev pub lopsided_of : Option ℤ → Option ℤ → Option PenaltyWord
lopsided_of None fall = None
lopsided_of (Some rise) None = None
lopsided_of (Some rise) (Some fall) = Some (Lopsided rise fall)

abbrev pub sides_of : List ℕ → Option PenaltyWord
sides_of sides = lopsided_of (figure_of (before colon sides)) (figure_of (after colon sides))

unfoldable pub penalty_of : List ℕ → Option PenaltyWord
penalty_of w =
    cond (bytes_eq w (codes "absolute")) (Some Absolute) (cond (bytes_eq (before colon w) (codes "lopsided")) (sides_of (after colon w)) None)
