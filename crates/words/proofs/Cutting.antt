-- Cutting a text at the first of some marks, and the words that this gives.
use Rattle.std.proofs.Common.{◌≡◌, ℕ, suc, ◌+◌, ◌<◌, ◌≤◌, true, false, cond, List, [], ◌∷◌, length, take, drop, filter, sym, refl, ap, ◌∙◌, arith, Bool, not, ◌||◌, add-one, eqb, ltb, Option, Some, None}
use Rattle.std.proofs.lemmas.Bool.Decides.{nat_tests}
use Rattle.std.proofs.Math.Numerals.{one-add}
use Rattle.std.proofs.lemmas.List.{take_all, drop_all, nil_from_length}
use Rattle.std.specs.List.{list_any, position_or_len, before_first, after_first}
use Rattle.words.specs.Words.{is_in, before, after, Cut, pieces, longer_first, gaps, not_empty, words_of}

-- whether a byte is a mark, as `contains` tells
abbrev pub mark_in : List ℕ → ℕ → Bool
mark_in marks b = list_any (λ m. eqb m b) marks

mark_is : (marks : List ℕ) (b : ℕ) → mark_in marks b ≡ is_in marks b
mark_is [] b = refl
mark_is (m ∷ ms) b = ap (λ t. eqb m b || t) (mark_is ms b)

first_front : (marks text : List ℕ) → before_first (mark_in marks) text ≡ before marks text
first_front marks [] = refl
first_front marks (b ∷ bs) =
    let n = position_or_len (mark_in marks) bs in
    rw (mark_is marks b)
    (elim (is_in marks b) as (λ t. take (cond (not t) (1 + n) 0) (b ∷ bs) ≡ cond t [] (b ∷ before marks bs))
    [ true ↦ refl | false ↦ rw one-add (ap (λ xs. b ∷ xs) (first_front marks bs)) ])

first_back : (marks text : List ℕ) → after_first (mark_in marks) text ≡ after marks text
first_back marks [] = refl
first_back marks (b ∷ bs) =
    let n = position_or_len (mark_in marks) bs in
    rw (mark_is marks b)
    (elim (is_in marks b) as (λ t. drop (cond (not t) (1 + n) 0 + 1) (b ∷ bs) ≡ cond t bs (after marks bs))
    [ true ↦ refl | false ↦ rw (add-one, one-add) (rw add-one at (first_back marks bs)) ])

-- where `position` finds the first mark
abbrev pub first_mark : List ℕ → List ℕ → Option ℕ
first_mark marks text = cond (ltb (position_or_len (mark_in marks) text) (length text)) (Some (position_or_len (mark_in marks) text)) None

pub cut_found : (marks text : List ℕ) (i : ℕ) → first_mark marks text ≡ Some i → Cut marks text (take i text) (drop (i + 1) text)
cut_found marks text i e =
    let at : position_or_len (mark_in marks) text ≡ i = grind arith in
    record { front_is = rw at at (first_front marks text); back_is = rw at at (first_back marks text) }

pub cut_missed : (marks text : List ℕ) → first_mark marks text ≡ None → Cut marks text text []
cut_missed marks text e =
    let n = position_or_len (mark_in marks) text in
    let all : length text ≤ n = grind (arith, nat_tests) in
    record {
      front_is = sym (take_all n text all) ∙ first_front marks text;
      back_is = sym (drop_all (n + 1) text (omega arith)) ∙ first_back marks text;
    }

after_short : (marks text : List ℕ) → length (after marks text) ≤ length text
after_short marks [] = omega arith
after_short marks (b ∷ bs) =
    elim (is_in marks b) as (λ t. length (cond t bs (after marks bs)) ≤ suc (length bs))
    [ true ↦ omega arith | false ↦ omega (arith, after_short marks bs) ]

after_shorter : (marks text : List ℕ) → 0 < length text → length (after marks text) < length text
after_shorter marks [] h = absurd (omega arith)
after_shorter marks (b ∷ bs) h =
    elim (is_in marks b) as (λ t. length (cond t bs (after marks bs)) < suc (length bs))
    [ true ↦ omega arith | false ↦ omega (arith, after_short marks bs) ]

pub cut_shorter : (marks text front back : List ℕ) → Cut marks text front back → 0 < length text → length back < length text
cut_shorter marks text front back c h = rw c.back_is (after_shorter marks text h)

abbrev others : List ℕ → List ℕ → Type 0
others marks bs = (ps : List (List ℕ)) × (pieces marks bs ≡ before marks bs ∷ ps) × (filter not_empty ps ≡ filter not_empty (pieces marks (after marks bs)))

first_piece : (marks bs : List ℕ) → others marks bs
first_piece marks [] = ([], refl, refl)
first_piece marks (b ∷ bs) =
    let r = first_piece marks bs in
    elim (is_in marks b) as
    (λ t. (ps : List (List ℕ)) × (cond t ([] ∷ pieces marks bs) (longer_first b (pieces marks bs)) ≡ cond t [] (b ∷ before marks bs) ∷ ps) × (filter not_empty ps ≡ filter not_empty (pieces marks (cond t bs (after marks bs)))))
    [ true ↦ (pieces marks bs, refl, refl) | false ↦ (r.0, ap (longer_first b) r.1, r.2) ]

words_cut : (bs : List ℕ) → words_of bs ≡ filter not_empty (before gaps bs ∷ pieces gaps (after gaps bs))
unfolding words_of
words_cut bs =
    let r = first_piece gaps bs in
    ap (filter not_empty) r.1 ∙ ap (λ ws. cond (not_empty (before gaps bs)) (before gaps bs ∷ ws) ws) r.2

not_empty_some : (w : List ℕ) → 0 < length w → not_empty w ≡ true
not_empty_some [] h = absurd (omega arith)
not_empty_some (b ∷ bs) h = refl

pub words_first : (bs w left : List ℕ) → Cut gaps bs w left → 0 < length w → words_of bs ≡ w ∷ words_of left
unfolding words_of
words_first bs w left c h =
    let t : not_empty (before gaps bs) ≡ true = rw c.front_is at (not_empty_some w h) in
    words_cut bs ∙ rw (t, c.front_is, c.back_is) refl

pub words_gap : (bs w left : List ℕ) → Cut gaps bs w left → length w ≡ 0 → words_of bs ≡ words_of left
unfolding words_of
words_gap bs w left c h =
    let n : before gaps bs ≡ [] = sym c.front_is ∙ nil_from_length w h in
    words_cut bs ∙ rw (n, c.back_is) refl

pub words_none : (bs : List ℕ) → length bs ≡ 0 → words_of bs ≡ []
unfolding words_of
words_none bs h = rw (nil_from_length bs h) refl

kept_longer : (b : ℕ) (ps : List (List ℕ)) → length (filter not_empty (longer_first b ps)) ≤ suc (length (filter not_empty ps))
kept_longer b [] = omega arith
kept_longer b ([] ∷ ps) = omega arith
kept_longer b ((c ∷ p) ∷ ps) = omega arith

kept_pieces : (marks bs : List ℕ) → length (filter not_empty (pieces marks bs)) ≤ length bs
kept_pieces marks [] = omega arith
kept_pieces marks (b ∷ bs) =
    let h = kept_pieces marks bs in
    elim (is_in marks b) as (λ t. length (filter not_empty (cond t ([] ∷ pieces marks bs) (longer_first b (pieces marks bs)))) ≤ suc (length bs))
    [ true ↦ omega arith | false ↦ omega (arith, kept_longer b (pieces marks bs)) ]

pub words_few : (bs : List ℕ) → length (words_of bs) ≤ length bs
unfolding words_of
words_few bs = kept_pieces gaps bs
