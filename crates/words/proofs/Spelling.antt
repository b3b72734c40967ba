-- How a text begins, and texts that are spelt out.
use Rattle.std.proofs.Common.{◌≡◌, ℕ, List, [], ◌∷◌, length, take, eqb, sym, refl, ap, ◌∙◌, arith}
use Rattle.std.proofs.lemmas.Bool.Decides.{nat_tests}
use Rattle.std.proofs.lemmas.Slice.Eq.{HasBytesAt, text_from_reads}
use Rattle.std.specs.Cmp.Lexicographic.{pointwise}
use Rattle.words.specs.Words.{begins}

-- what f says of a spelling it says of a text with its bytes
pub at_spelling : {A : Type 0} (f : List ℕ → A) (text spelling : List ℕ) → length text ≡ length spelling → HasBytesAt text 0 spelling
    → (said : A) → said ≡ f spelling → said ≡ f text
at_spelling f text spelling long bytes said e = e ∙ ap f (sym (text_from_reads text spelling long bytes))

-- `starts_with`, where the prefix is one byte
pub starts_begins : (c : ℕ) (text : List ℕ) → pointwise eqb (c ∷ []) (take 1 text) ≡ begins c text
starts_begins c [] = refl
starts_begins c (b ∷ bs) = grind (arith, nat_tests)
