-- What a line says, by its first word and the words behind it.
use Rattle.std.proofs.Common.{◌≡◌, ℕ, true, false, List, [], ◌∷◌, ℤ, Option, None, Some, sym, refl, ap, ◌∙◌}
use Rattle.std.specs.Option.{unwrap_or}
use Rattle.words.specs.declared.grammar.Line.{Line}
use Rattle.words.specs.declared.grammar.Line.TheVariants.{Blank, Unknown}
use Rattle.words.specs.Words.{words_of, begins}
use Rattle.words.specs.Arguments.{place_after}
use Rattle.words.specs.Grammar.{or_unknown, call_line, call_listed, line_of, listed_of}

or_unknown_is : (r : Option Line) → unwrap_or r Unknown ≡ or_unknown r
or_unknown_is None = refl
or_unknown_is (Some said) = refl

abbrev SaysNothing : List ℕ → Type 0
SaysNothing bs = (Blank ≡ line_of bs) × ((place : List ℤ) → place ≡ place_after (listed_of bs) place)

pub no_words : (bs : List ℕ) → words_of bs ≡ [] → SaysNothing bs
unfolding line_of listed_of
no_words bs e = (rw e refl, λ place. rw e refl)

module _ (bs : List ℕ) (name : List ℕ) (ws : List (List ℕ)) (e : words_of bs ≡ name ∷ ws) where
  pub comment : true ≡ begins 35 name → SaysNothing bs
  unfolding line_of listed_of
  comment b = (rw (e, sym b) refl, λ place. rw (e, sym b) refl)

  module _ (b : false ≡ begins 35 name) where
    pub said_line : (r : Option Line) → r ≡ call_line name ws → unwrap_or r Unknown ≡ line_of bs
    unfolding line_of
    said_line r h = or_unknown_is r ∙ ap or_unknown h ∙ rw (e, sym b) refl

    pub said_place : (old new : List ℤ) → new ≡ place_after (call_listed name ws) old → new ≡ place_after (listed_of bs) old
    unfolding listed_of
    said_place old new h = h ∙ rw (e, sym b) refl
