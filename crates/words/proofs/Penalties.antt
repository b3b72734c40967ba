-- The penalty that a word names, by what its spelling begins with.
use Rattle.std.proofs.Common.{◌≡◌, ◌≢◌, ℕ, Bool, true, false, cond, List, [], ◌∷◌, ◌++◌, ◌⊎◌, inl, inr, Some, None, Option, codes, sym, refl, ap, ◌∙◌, arith}
use Rattle.std.proofs.lemmas.Bool.Decides.{nat_tests}
use Rattle.std.proofs.lemmas.Slice.Eq.{bytes_eq-Decides}
use Rattle.std.specs.Str.{bytes_eq}
use Rattle.words.specs.declared.spellings.PenaltyWord.{PenaltyWord}
use Rattle.words.specs.declared.spellings.PenaltyWord.TheVariants.{Absolute}
use Rattle.words.specs.Words.{is_in, before, after}
use Rattle.words.specs.Figures.{figure_of}
use Rattle.words.specs.Spellings.{colon, sides_of, penalty_of}

-- a text has no colon, or is what stands before the first, the colon, and what stands after it
around_colon : (w : List ℕ) → (after colon w ≡ []) ⊎ (w ≡ before colon w ++ 58 ∷ after colon w)
around_colon [] = inl refl
around_colon (b ∷ bs) = go (is_in colon b) refl (around_colon bs)
  where
    go : (t : Bool) → is_in colon b ≡ t → (after colon bs ≡ []) ⊎ (bs ≡ before colon bs ++ 58 ∷ after colon bs)
        → (cond t bs (after colon bs) ≡ []) ⊎ (b ∷ bs ≡ cond t [] (b ∷ before colon bs) ++ 58 ∷ cond t bs (after colon bs))
    go true e rest = let is : b ≡ 58 = grind (arith, nat_tests) in inr (ap (λ x. x ∷ bs) is)
    go false e (inl none) = inl none
    go false e (inr cut) = inr (ap (λ xs. b ∷ xs) cut)

pub penalty_absolute : (w : List ℕ) → true ≡ bytes_eq w (codes "absolute") → Some Absolute ≡ penalty_of w
unfolding penalty_of
penalty_absolute w e = rw (sym e) refl

pub penalty_lopsided : (w sides : List ℕ) → w ≡ codes "lopsided:" ++ sides → sides_of sides ≡ penalty_of w
unfolding penalty_of
penalty_lopsided w sides e = rw e refl

pub penalty_other : (w : List ℕ) → false ≡ bytes_eq w (codes "absolute") → ((sides : List ℕ) → w ≢ codes "lopsided:" ++ sides) → None ≡ penalty_of w
unfolding penalty_of figure_of
penalty_other w a other = rw (sym a) (go (bytes_eq (before colon w) (codes "lopsided")) refl)
  where
    go : (t : Bool) → bytes_eq (before colon w) (codes "lopsided") ≡ t → ◌≡◌ {A = Option PenaltyWord} None (cond t (sides_of (after colon w)) None)
    go false e = refl
    go true e =
        let named : before colon w ≡ codes "lopsided" = (bytes_eq-Decides (before colon w) (codes "lopsided")).0 e in
        elim (around_colon w) [
          | inl none ↦ rw none refl
          | inr cut ↦ absurd (other (after colon w) (cut ∙ ap (λ kind. kind ++ 58 ∷ after colon w) named))
        ]
