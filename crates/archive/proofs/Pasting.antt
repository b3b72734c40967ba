-- Bytes put into a place, one piece behind the other.
--     puts_byte, puts_part    one byte, and a part that is written anew
--     puts_same               the same bytes under another name
--     puts_more               two pieces, the second where the first stops
use Rattle.std.proofs.Common.{◌≡◌, ℕ, ◌+◌, ◌<◌, ◌≤◌, List, [], ◌∷◌, ◌++◌, length, take, drop, set, sym, ap, ◌∙◌, subst, append_assoc, add-one, arith, length-append, length-drop}
use borrow.Rule.Slice.PartMut.{put_mid}
use Rattle.std.proofs.lemmas.List.{set_split, take_at, drop_at, drop-drop, length-take-le}
use Rattle.archive.specs.Writing.{Puts}

pub puts_byte : (a : List ℕ) (i b : ℕ) → i < length a → Puts a (set a i b) i (i + 1) (b ∷ [])
puts_byte a i b h = record { stops = omega arith; within = omega arith; is = rw add-one (set_split a i b h) }

pub puts_part : (a t : List ℕ) (i j k : ℕ) → j ≡ i + length t → k ≡ length t → j ≤ length a → Puts a (put_mid i k a t) i j t
puts_part a t i j k e q h = record {
  stops = e;
  within = h;
  is = ap (λ d. take i a ++ (t ++ d)) (drop-drop k i a ∙ ap (λ n. drop n a) (omega arith));
}

pub puts_same : {a b : List ℕ} {i j : ℕ} {t u : List ℕ} → t ≡ u → Puts a b i j t → Puts a b i j u
puts_same {a = a} {b = b} {i = i} {j = j} e p = subst (Puts a b i j) e p

module _ {a b c : List ℕ} {i j k : ℕ} {t u : List ℕ} (p : Puts a b i j t) (q : Puts b c j k u) where
  front : length (take i a ++ t) ≡ j
  front =
      let start = length-take-le i a (omega (arith, p.stops, p.within)) in
      simp length-append (omega (arith, start, p.stops))

  middle : b ≡ (take i a ++ t) ++ drop j a
  middle = p.is ∙ sym (append_assoc (take i a) t (drop j a))

  same_length : length b ≡ length a
  same_length = ap length middle ∙ simp (length-append (take i a ++ t) (drop j a), length-drop) (omega (arith, front, p.within))

  behind : drop k b ≡ drop k a
  behind =
      let e : k ≡ j + length u = q.stops in
      let d : drop j b ≡ drop j a = ap (drop j) middle ∙ drop_at (take i a ++ t) (drop j a) j front in
      ap (λ n. drop n b) e ∙ sym (drop-drop (length u) j b) ∙ ap (drop (length u)) d ∙ drop-drop (length u) j a ∙ ap (λ n. drop n a) (sym e)

  pub puts_more : Puts a c i k (t ++ u)
  puts_more = record {
    stops = q.stops ∙ simp length-append (omega (arith, p.stops));
    within = omega (arith, q.within, same_length);
    is =
        q.is
        ∙ ap (λ x. x ++ (u ++ drop k b)) (ap (take j) middle ∙ take_at (take i a ++ t) (drop j a) j front)
        ∙ ap (λ x. (take i a ++ t) ++ (u ++ x)) behind
        ∙ append_assoc (take i a) t (u ++ drop k a)
        ∙ ap (λ x. take i a ++ x) (sym (append_assoc t u (drop k a)));
  }
