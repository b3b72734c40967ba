-- Loops that write a list of figures at the start of a place, and the sizes of what stands in a list.
--     Written       k figures of `new` are written, `rest` are still to come, and what stood after them in `old` is untouched
use Rattle.std.proofs.Common.{◌≡◌, ℕ, zero, suc, ◌+◌, ◌<◌, ◌≤◌, List, [], ◌∷◌, ◌++◌, length, get_or, take, drop, set, ℤ, pos, nat_abs, sym, refl, ap, ◌∙◌, arith}
use Rattle.std.proofs.lemmas.List.{append_assoc, append-nil, take_more_set, drop-set-lt, drop-drop, take-append-drop, length-take-le, take_at}
use Rattle.kinds.specs.Figures.{largest, over}

pub record Written (k : ℕ) (rest new old place : List ℤ) : Type 0 where
  pub front : take k place ++ rest ≡ new
  pub back : drop k place ≡ drop k old

pub written_none : (new old : List ℤ) → Written 0 new new old old
written_none new old = record { front = refl; back = refl }

pub written_more : (k : ℕ) (x : ℤ) (was rest new old place : List ℤ) → Written k was new old place → k < length place → was ≡ x ∷ rest → Written (k + 1) rest new old (set place k x)
written_more k x was rest new old place w h e = record {
  front =
      ap (λ (l : List ℤ). l ++ rest) (take_more_set place k x h)
      ∙ append_assoc (take k place) (x ∷ []) rest
      ∙ ap (λ (l : List ℤ). take k place ++ l) (sym e)
      ∙ w.front;
  back =
      let lt : k < k + 1 = omega arith in
      drop-set-lt (k + 1) place k x lt ∙ sym (drop-drop 1 k place) ∙ ap (drop 1) w.back ∙ drop-drop 1 k old;
}

pub written_all : (k : ℕ) (rest new old place : List ℤ) → Written k rest new old place → k ≤ length place → rest ≡ [] → place ≡ over new old
written_all k rest new old place w h e =
    let front : take k place ≡ new = sym (append-nil (take k place)) ∙ ap (λ (l : List ℤ). take k place ++ l) (sym e) ∙ w.front in
    let long : length new ≡ k = ap length (sym front) ∙ length-take-le k place h in
    sym (take-append-drop k place)
    ∙ ap (λ (l : List ℤ). l ++ drop k place) front
    ∙ ap (λ (l : List ℤ). new ++ l) w.back
    ∙ ap (λ (n : ℕ). new ++ drop n old) (sym long)

-- what was written, read again
pub take_over : (n : ℕ) (new old : List ℤ) → length new ≡ n → take n (over new old) ≡ new
take_over n new old e = take_at new (drop (length new) old) n e

pub size_at : (xs : List ℤ) (k : ℕ) → nat_abs (get_or xs k (pos 0)) ≤ largest xs
size_at [] k = omega arith
size_at (x ∷ xs) zero = omega arith
size_at (x ∷ xs) (suc k) = omega (arith, size_at xs k)
