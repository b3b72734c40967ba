-- Counting the figures of some words, and writing them into a place.
use Rattle.std.proofs.Common.{◌≡◌, ℕ, ◌+◌, List, [], ◌∷◌, ◌++◌, length, take, drop, ℤ, Some, None, Option, sym, refl, ap, arith}
use Rattle.words.specs.Figures.{figure_of}
use Rattle.words.specs.Arguments.{and_then, figures_of, count_of, leading, written, place_after}

-- n figures, and then those that were read
abbrev pub counted : ℕ → Option (List ℤ) → Option ℕ
counted n None = None
counted n (Some fs) = Some (n + length fs)

pub counted_none : (o : Option (List ℤ)) → counted 0 o ≡ count_of o
counted_none None = refl
counted_none (Some fs) = ap Some (omega arith)

counted_first : (n : ℕ) (f : ℤ) (o : Option (List ℤ)) → counted n (and_then o (λ fs. Some (f ∷ fs))) ≡ counted (n + 1) o
counted_first n f None = refl
counted_first n f (Some fs) = ap Some (omega arith)

module _ (n : ℕ) (ws left : List (List ℕ)) (w : List ℕ) (split : ws ≡ w ∷ left) where
  pub counted_more : (f : ℤ) → Some f ≡ figure_of w → counted (n + 1) (figures_of left) ≡ counted n (figures_of ws)
  unfolding figures_of
  counted_more f e = rw (split, sym e) (sym (counted_first n f (figures_of left)))

  pub counted_no_figure : None ≡ figure_of w → None ≡ counted n (figures_of ws)
  unfolding figures_of
  counted_no_figure e = rw (split, sym e) refl

pub counted_all : (n : ℕ) (ws : List (List ℕ)) → ws ≡ [] → Some n ≡ counted n (figures_of ws)
unfolding figures_of
counted_all n ws e = rw e (ap Some (omega arith))

-- i figures of the words are written into a place, and the words ws are left
pub record Written (all ws : List (List ℕ)) (old at : List ℤ) (i : ℕ) : Type 0 where
  pub front : take i at ++ leading ws ≡ leading all
  pub rest : drop i at ≡ drop i old

listed_step : (o : Option ℤ) (p : Option (List ℤ)) (fs : List ℤ) → and_then o (λ f. and_then p (λ hs. Some (f ∷ hs))) ≡ Some fs
    → (f : ℤ) × (hs : List ℤ) × (o ≡ Some f) × (p ≡ Some hs) × (f ∷ hs ≡ fs)
listed_step None p fs e = absurd cc
listed_step (Some f) None fs e = absurd cc
listed_step (Some f) (Some hs) fs e = (f, hs, refl, refl, cc)

-- where each word is a figure, those at the front are all of them
leading_all : (ws : List (List ℕ)) (fs : List ℤ) → figures_of ws ≡ Some fs → leading ws ≡ fs
unfolding figures_of
leading_all [] fs e = cc
leading_all (w ∷ ws) fs e =
    let s = listed_step (figure_of w) (figures_of ws) fs e in
    rw (s.2, leading_all ws s.1 s.3) s.4

pub written_listed : (ws : List (List ℕ)) (place : List ℤ) (n : ℕ) → Some n ≡ count_of (figures_of ws) → written (leading ws) place ≡ place_after (figures_of ws) place
written_listed ws place n e = go (figures_of ws) refl e
  where
    go : (o : Option (List ℤ)) → figures_of ws ≡ o → Some n ≡ count_of o → written (leading ws) place ≡ place_after o place
    go None is c = absurd cc
    go (Some fs) is c = ap (λ gs. written gs place) (leading_all ws fs is)

pub place_kept : (o : Option (List ℤ)) (place : List ℤ) → None ≡ count_of o → place ≡ place_after o place
place_kept None place e = refl
place_kept (Some fs) place e = absurd cc
