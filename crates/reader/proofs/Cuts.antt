-- How bytes fall into lines.
--     NoEnd           bytes without an end byte
--     Upto            t lines of bytes were good, and the rest is left
--     whole_known     where no line is broken, all bytes are digits or end bytes
use Rattle.std.proofs.Common.{◌≡◌, ℕ, zero, suc, ◌+◌, ◌<◌, ◌≤◌, Bool, true, false, ◌&&◌, cond, eqb, List, [], ◌∷◌, ◌++◌, length, get_or, take, drop, sym, refl, ap, ◌∙◌, subst, inl, inr, ⊎_elim, add-zero, arith, length-append, length-drop, below_more, fold}
use Rattle.std.proofs.ByRecursion.{All-get_or, All-from_get_or}
use Rattle.std.proofs.lemmas.List.{take-append-drop, drop_more, get_or-take, drop-drop, get_or-drop, get_or_past, length-take-le}
use Rattle.std.proofs.lemmas.Bool.{and_parts, ne_eqb, cases_lt, cases_Bool, or_left, or_right, both_ways}
use Rattle.kinds.specs.declared.refusal.Cause.TheVariants.{Line}
use Rattle.digits.specs.Fields.{is_digit, Digits}
use Rattle.reader.specs.declared.fault.Fault.{Fault}
use Rattle.reader.specs.declared.fault.Layer.TheVariants as layer
use Rattle.reader.specs.Faults.{found_by}
use Rattle.reader.specs.Lines.{Good, pieces, before_first, Broken, Whole, is_known, Known, FirstBroken}
use Rattle.reader.specs.Turns.{BadStart}

abbrev pub NoEnd : List ℕ → Type 0
NoEnd l = (k : ℕ) → k < length l → get_or l k 0 ≡ 10 → ⊥

abbrev IsDigit : ℕ → Type 0
IsDigit b = is_digit b ≡ true

end_no_digit : (b : ℕ) → is_digit b ≡ true → b ≡ 10 → ⊥
end_no_digit b h e = both_ways (is_digit 10) refl (sym (ap is_digit e) ∙ h)

pub digits_no_end : (l : List ℕ) → Digits l → NoEnd l
digits_no_end l h k lt e = end_no_digit (get_or l k 0) (All-get_or IsDigit l k 0 lt h) e

no_end_tail : (b : ℕ) (l : List ℕ) → NoEnd (b ∷ l) → NoEnd l
no_end_tail b l h k lt e = h (suc k) (omega arith) e

pub pieces_line : (l m : List ℕ) → NoEnd l → pieces (l ++ (10 ∷ m)) ≡ l ∷ pieces m
unfolding pieces
pieces_line [] m h = refl
pieces_line (b ∷ l) m h =
    let other : eqb b 10 ≡ false = ne_eqb b 10 (h 0 (omega arith)) in
    rw (other, pieces_line l m (no_end_tail b l h))

pub pieces_last : (l : List ℕ) → NoEnd l → pieces l ≡ l ∷ []
unfolding pieces
pieces_last [] h = refl
pieces_last (b ∷ l) h =
    let other : eqb b 10 ≡ false = ne_eqb b 10 (h 0 (omega arith)) in
    rw (other, pieces_last l (no_end_tail b l h))

before_some : (b : ℕ) (ps : List (List ℕ)) → 0 < length (before_first b ps)
before_some b [] = omega arith
before_some b (p ∷ ps) = omega arith

pub pieces_some : (s : List ℕ) → 0 < length (pieces s)
unfolding pieces
pieces_some [] = omega arith
pieces_some (b ∷ s) =
    elim (eqb b 10) as (λ t. 0 < length (cond t ([] ∷ pieces s) (before_first b (pieces s)))) [ true ↦ omega arith | false ↦ before_some b (pieces s) ]

before_first_is : (b : ℕ) (ps : List (List ℕ)) → get_or (before_first b ps) 0 [] ≡ b ∷ get_or ps 0 []
before_first_is b [] = refl
before_first_is b (p ∷ ps) = refl

-- a byte that no end byte stands before is in the first piece
first_has : (s : List ℕ) (i : ℕ) → i < length s → ((k : ℕ) → k < suc i → get_or s k 0 ≡ 10 → ⊥) → (i < length (get_or (pieces s) 0 [])) × (get_or (get_or (pieces s) 0 []) i 0 ≡ get_or s i 0)
unfolding pieces
first_has [] i lt h = absurd (omega arith)
first_has (b ∷ s) zero lt h =
    let other : eqb b 10 ≡ false = ne_eqb b 10 (h 0 (omega arith)) in
    let first = before_first_is b (pieces s) in
    rw other (omega (arith, ap length first), ap (λ p. get_or p 0 0) first)
first_has (b ∷ s) (suc i) lt h =
    let other : eqb b 10 ≡ false = ne_eqb b 10 (h 0 (omega arith)) in
    let more = first_has s i (omega arith) (λ k le e. h (suc k) (omega arith) e) in
    let first = before_first_is b (pieces s) in
    rw other (omega (arith, ap length first, more.0), ap (λ p. get_or p (suc i) 0) first ∙ more.1)

-- a line that cannot be other than good is good
good_from : (l : List ℕ) → ((Good l → ⊥) → ⊥) → Good l
good_from l h = record {
  least = ⊎_elim (λ lt. absurd (h (λ g. omega (arith, lt, g.least)))) (λ ge. omega (arith, ge)) (cases_lt (length l) 2);
  most = ⊎_elim (λ lt. absurd (h (λ g. omega (arith, lt, g.most)))) (λ ge. omega (arith, ge)) (cases_lt 60 (length l));
  digits = All-from_get_or IsDigit l 0 (λ i lt. ⊎_elim (λ on. on) (λ off. absurd (h (λ g. both_ways _ off (All-get_or IsDigit l i 0 lt g.digits)))) (cases_Bool (is_digit (get_or l i 0))));
}

-- a fold that asks of each byte whether it is known
pub fold_known : (bs : List ℕ) (known : Bool) → fold (λ k b. k && is_known b) known bs ≡ true → (known ≡ true) × Known bs
fold_known [] known on = (on, tt)
fold_known (b ∷ bs) known on =
    let more = fold_known bs (known && is_known b) on in
    let here = and_parts _ _ more.0 in
    (here.0, (here.1, more.1))

by_first : (P : ℕ → Type 0) → P 0 → ((j : ℕ) → P (suc j)) → (j : ℕ) → P j
by_first P first others zero = first
by_first P first others (suc j) = others j

before_other_is : (b j : ℕ) (ps : List (List ℕ)) → get_or (before_first b ps) (suc j) [] ≡ get_or ps (suc j) []
before_other_is b j [] = refl
before_other_is b j (p ∷ ps) = refl

-- bytes whose pieces are all of digits
pieces_known : (s : List ℕ) → ((j : ℕ) → Digits (get_or (pieces s) j [])) → Known s
unfolding pieces
pieces_known [] h = tt
pieces_known (b ∷ s) h = ⊎_elim
    (λ e.
    let p : pieces (b ∷ s) ≡ [] ∷ pieces s = rw e in
    (or_right (is_digit b) (eqb b 10) e, pieces_known s (λ j. subst Digits (ap (λ ps. get_or ps (suc j) []) p) (h (suc j)))))
    (λ e.
    let p : pieces (b ∷ s) ≡ before_first b (pieces s) = rw e in
    let first : Digits (b ∷ get_or (pieces s) 0 []) = subst Digits (ap (λ ps. get_or ps 0 []) p ∙ before_first_is b (pieces s)) (h 0) in
    let others : (j : ℕ) → Digits (get_or (pieces s) (suc j) []) = λ j. subst Digits (ap (λ ps. get_or ps (suc j) []) p ∙ before_other_is b j (pieces s)) (h (suc j)) in
    (or_left (is_digit b) (eqb b 10) first.0, pieces_known s (by_first (λ j. Digits (get_or (pieces s) j [])) first.1 others)))
    (cases_Bool (eqb b 10))

-- the last piece of a file without broken lines is empty, and there are none behind it
pub whole_known : (s : List ℕ) → Whole s → Known s
whole_known s whole = pieces_known s (λ j. ⊎_elim
    (λ lt. (good_from (get_or (pieces s) j []) (λ off. whole j (inl (omega (arith, lt), off)))).digits)
    (λ ge. All-from_get_or IsDigit (get_or (pieces s) j []) 0 (λ i lt. absurd (⊎_elim
    (λ last. omega (arith, lt, ap length (get_or_past (pieces s) j [] (omega (arith, last)))))
    (λ here. whole j (inr (omega (arith, ge, here), inr (λ z. omega (arith, lt, ap length z)))))
    (cases_lt (length (pieces s)) (suc j)))))
    (cases_lt (suc j) (length (pieces s))))

-- where the digits at the start end
module _ (s : List ℕ) (e : ℕ) (le : e ≤ length s) (digits : Digits (take e s)) where
  no_end_before : (k : ℕ) → k < e → get_or s k 0 ≡ 10 → ⊥
  no_end_before k lt q = digits_no_end (take e s) digits k (omega (arith, length-take-le e s le)) (get_or-take e s k 0 lt ∙ q)

  -- nothing but digits
  pub start_open : e ≡ length s → 0 < length s → BadStart s
  start_open q some =
      let p : pieces s ≡ s ∷ [] = pieces_last s (λ k lt. no_end_before k (omega arith)) in
      inr (sym (ap length p), λ z. omega (arith, ap length (sym (ap (λ ps. get_or ps 0 []) p) ∙ z)))

  -- a byte that is neither a digit nor an end byte
  pub start_other : e < length s → is_digit (get_or s e 0) ≡ false → (get_or s e 0 ≡ 10 → ⊥) → BadStart s
  start_other lt off ne =
      let has = first_has s e lt (λ k h q. ⊎_elim (λ b. no_end_before k b q) (λ a. ne (sym (ap (λ i. get_or s i 0) (let z : k ≡ e = omega arith in z)) ∙ q)) (cases_lt k e)) in
      ⊎_elim
      (λ more. inl (more, λ g. both_ways _ (ap is_digit has.1 ∙ off) (All-get_or IsDigit (get_or (pieces s) 0 []) e 0 has.0 g.digits)))
      (λ one. inr (omega (arith, pieces_some s), λ z. omega (arith, has.0, ap length z)))
      (cases_lt 1 (length (pieces s)))

  cut : e < length s → get_or s e 0 ≡ 10 → s ≡ take e s ++ (10 ∷ drop (e + 1) s)
  cut lt q = sym (take-append-drop e s) ∙ ap (λ t. take e s ++ t) (drop_more s e 0 lt ∙ ap (λ b. b ∷ drop (e + 1) s) q)

  -- too few digits or too many
  pub start_sized : e < length s → get_or s e 0 ≡ 10 → (2 ≤ e → e ≤ 60 → ⊥) → BadStart s
  start_sized lt q bad =
      let p : pieces s ≡ take e s ∷ pieces (drop (e + 1) s) = ap pieces (cut lt q) ∙ pieces_line (take e s) (drop (e + 1) s) (digits_no_end (take e s) digits) in
      let l : length (take e s) ≡ e = length-take-le e s le in
      inl (omega (arith, ap length p, pieces_some (drop (e + 1) s)), λ g. let g' : Good (take e s) = subst Good (ap (λ ps. get_or ps 0 []) p) g in bad (omega (arith, g'.least, l)) (omega (arith, g'.most, l)))

pub good_no_end : (l : List ℕ) → Good l → NoEnd l
good_no_end l g = digits_no_end l g.digits

pub record Upto (bs r : List ℕ) (t : ℕ) : Type 0 where
  pub left : drop t (pieces bs) ≡ pieces r
  pub room : t + length r ≤ length bs
  pub good : (j : ℕ) → j < t → Good (get_or (pieces bs) j [])

module _ (bs r l r' : List ℕ) (t : ℕ) (u : Upto bs r t) (e : r ≡ l ++ (10 ∷ r')) (g : Good l) where
  upto_pieces : drop t (pieces bs) ≡ l ∷ pieces r'
  upto_pieces = u.left ∙ ap pieces e ∙ pieces_line l r' (good_no_end l g)

  pub upto_line : get_or (pieces bs) t [] ≡ l
  upto_line = ap (λ n. get_or (pieces bs) n []) (sym (add-zero t)) ∙ sym (get_or-drop t (pieces bs) 0 []) ∙ ap (λ ps. get_or ps 0 []) upto_pieces

  pub upto_more : Upto bs r' (t + 1)
  upto_more = record {
    left = sym (drop-drop 1 t (pieces bs)) ∙ ap (drop 1) upto_pieces;
    room = omega (arith, u.room, simp length-append at (ap length e));
    good = below_more (λ j. Good (get_or (pieces bs) j [])) t u.good (rw upto_line g);
  }

module _ (bs r : List ℕ) (t : ℕ) (u : Upto bs r t) where
  upto_first : get_or (pieces bs) t [] ≡ get_or (pieces r) 0 []
  upto_first = ap (λ n. get_or (pieces bs) n []) (sym (add-zero t)) ∙ sym (get_or-drop t (pieces bs) 0 []) ∙ ap (λ ps. get_or ps 0 []) u.left

  upto_length : length (pieces bs) ≡ t + length (pieces r)
  upto_length = omega (arith, sym (length-drop t (pieces bs)) ∙ ap length u.left, pieces_some r)

  upto_sound : (j : ℕ) → j < t → Broken bs j → ⊥
  upto_sound j h (inl b) = b.1 (u.good j h)
  upto_sound j h (inr b) = omega (arith, upto_length, pieces_some r, b.0)

  pub upto_broken : (f : Fault) → f ≡ found_by layer.Lines Line (t + 1) → BadStart r → FirstBroken bs f
  upto_broken f is b = record { at = t; is = is ∙ ap (found_by layer.Lines Line) (omega arith); broken = go b; before = upto_sound }
    where
      go : BadStart r → Broken bs t
      go (inl p) = inl (omega (arith, upto_length, p.0), λ g. p.1 (rw upto_first at g))
      go (inr p) = inr (omega (arith, upto_length, p.0), inr (λ z. p.1 (sym upto_first ∙ z)))

  module _ (e : r ≡ []) where
    last_piece : pieces r ≡ [] ∷ []
    last_piece = ap pieces e ∙ pieces_last [] (λ k lt _. absurd (omega arith))

    pub upto_count : length (pieces bs) ≡ t + 1
    upto_count = upto_length ∙ ap (λ ps. t + length ps) last_piece

    pub upto_past : (j : ℕ) → t ≤ j → get_or (pieces bs) j [] ≡ []
    upto_past j h = ⊎_elim
        (λ lt. let q : j ≡ t = omega arith in ap (λ k. get_or (pieces bs) k []) q ∙ upto_first ∙ ap (λ ps. get_or ps 0 []) last_piece)
        (λ ge. get_or_past (pieces bs) j [] (omega (arith, upto_count)))
        (cases_lt j (t + 1))

    pub upto_all : (t ≡ 0 → ⊥) → Whole bs
    upto_all ne j b = ⊎_elim (λ lt. upto_sound j lt b) (λ ge. go (omega (arith, ge)) b) (cases_lt j t)
      where
        go : t ≤ j → Broken bs j → ⊥
        go ge (inl x) = omega (arith, upto_count, x.0, ge)
        go ge (inr x) =
            let q : j ≡ t = omega (arith, upto_count, x.0, ge) in
            ⊎_elim (λ z. ne (sym q ∙ z)) (λ z. z (upto_past j ge)) x.1

    pub upto_empty : t ≡ 0 → (f : Fault) → f ≡ found_by layer.Lines Line 1 → FirstBroken bs f
    upto_empty z f is = record { at = 0; is = is; broken = inr (omega (arith, upto_count), inl refl); before = λ j h. absurd (omega arith) }
