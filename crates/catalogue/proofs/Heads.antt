-- The first line of a file, and the marks that stand in it.
--     front           line 1 is what a file begins with
--     filed_head      line 1 of a file of figures is their head
--     parts           the marks of a head stand at their places, and the file goes on behind them
use Rattle.std.proofs.Common.{◌≡◌, ℕ, ◌≤◌, true, false, cond, eqb, List, [], ◌∷◌, ◌++◌, length, get_or, take, drop, sym, refl, ap, ◌∙◌, subst, append_assoc, arith}
use Rattle.std.proofs.lemmas.List.{length-append, take-append-drop, take_at, drop_at}
use Rattle.std.proofs.ByRecursion.{All-append}
use Rattle.std.proofs.lemmas.Bool.{ne_eqb, both_ways, ltb-true, and_parts}
use Rattle.digits.specs.Fields.{field, Fits, Digits, is_digit}
use Rattle.digits.proofs.Fields.{field_length, field_digits}
use Rattle.archive.specs.declared.figures.Head.{Head}
use Rattle.archive.specs.File.{Figures, edition, head_text, head_fits, line, file}
use Rattle.reader.specs.Lines.{pieces, before_first}
use Rattle.reader.specs.Frames.{HeadIs}
use Rattle.catalogue.specs.Judged.{head_of}

before_head : (b : ℕ) (ps : List (List ℕ)) → get_or (before_first b ps) 0 [] ≡ b ∷ get_or ps 0 []
before_head b [] = refl
before_head b (p ∷ ps) = refl

head_step : (b : ℕ) (bs : List ℕ) → head_of (b ∷ bs) ≡ cond (eqb b 10) [] (b ∷ head_of bs)
unfolding pieces
head_step b bs = elim (eqb b 10) as (λ t. get_or (cond t ([] ∷ pieces bs) (before_first b (pieces bs))) 0 [] ≡ cond t [] (b ∷ head_of bs)) [ true ↦ refl | false ↦ before_head b (pieces bs) ]

head_none : head_of [] ≡ []
unfolding pieces
head_none = refl

pub front : (bs : List ℕ) → take (length (head_of bs)) bs ≡ head_of bs
front [] = rw head_none
front (b ∷ bs) =
    rw head_step (elim (eqb b 10) as (λ t. take (length (cond t [] (b ∷ head_of bs))) (b ∷ bs) ≡ cond t [] (b ∷ head_of bs)) [ true ↦ refl | false ↦ ap (λ l. b ∷ l) (front bs) ])

-- digits before an end byte are line 1
digit_no_end : (b : ℕ) → is_digit b ≡ true → eqb b 10 ≡ false
digit_no_end b h = ne_eqb b 10 (λ e. both_ways (is_digit 10) refl (sym (ap is_digit e) ∙ h))

pub ended_head : (l rest : List ℕ) → Digits l → head_of (line l ++ rest) ≡ l
ended_head [] rest h = head_step 10 rest
ended_head (b ∷ l) rest h = head_step b (line l ++ rest) ∙ rw (digit_no_end b h.0) (ap (λ t. b ∷ t) (ended_head l rest h.1))

both : (a b : List ℕ) → Digits a → Digits b → Digits (a ++ b)
both a b = All-append (λ x. is_digit x ≡ true) a b

pub head_digits : (e : ℕ) (h : Head) → Digits (head_text e h)
unfolding head_text
head_digits e h = (
  refl,
  (
    refl,
    both (field 2 e) _ (field_digits 2 e)
        (both (field 4 h.roughness) _ (field_digits 4 h.roughness)
        (both (field 6 h.misfit) _ (field_digits 6 h.misfit)
        (both (field 6 h.bend) _ (field_digits 6 h.bend)
        (both (field 4 h.readings) _ (field_digits 4 h.readings)
        (both (field 4 h.stiffness) _ (field_digits 4 h.stiffness)
        (both (field 4 h.denominator) _ (field_digits 4 h.denominator) (field_digits 16 h.allowance))))))),
  ),
)

pub filed_head : (bs : List ℕ) (g : Figures) → bs ≡ file g → head_of bs ≡ head_text edition g.head
filed_head bs g e = ap head_of e ∙ ended_head (head_text edition g.head) _ (head_digits edition g.head)

-- what stands in the middle
part : (a f z : List ℕ) (i w : ℕ) → length a ≡ i → length f ≡ w → take w (drop i (a ++ (f ++ z))) ≡ f
part a f z i w la lf = rw (drop_at a (f ++ z) i la) (take_at f z w lf)

pub starts : (bs l : List ℕ) → head_of bs ≡ l → bs ≡ l ++ drop (length l) bs
starts bs l e =
    let t : take (length l) bs ≡ l = subst (λ x. take (length x) bs ≡ x) e (front bs) in
    sym (take-append-drop (length l) bs) ∙ ap (λ x. x ++ drop (length l) bs) t

long : (bs l : List ℕ) → head_of bs ≡ l → length l ≤ length bs
long bs l e = omega (arith, simp length-append at (ap length (starts bs l e)))

head_length : (e : ℕ) (h : Head) → length (head_text e h) ≡ 48
unfolding head_text
head_length e h = simp (length-append, field_length)

pub record Parts (bs : List ℕ) (h : Head) : Type 0 where
  pub long : 48 ≤ length bs
  pub roughness : take 4 (drop 4 bs) ≡ field 4 h.roughness
  pub misfit : take 6 (drop 8 bs) ≡ field 6 h.misfit
  pub bend : take 6 (drop 14 bs) ≡ field 6 h.bend
  pub roughness_fits : Fits 4 h.roughness
  pub misfit_fits : Fits 6 h.misfit
  pub bend_fits : Fits 6 h.bend

-- marks behind the number and the edition, with whatever behind them
standing : (e r m b : ℕ) (z : List ℕ) → (take 4 (drop 4 (48 ∷ 49 ∷ (field 2 e ++ (field 4 r ++ (field 6 m ++ (field 6 b ++ z)))))) ≡ field 4 r)
    × (take 6 (drop 8 (48 ∷ 49 ∷ (field 2 e ++ (field 4 r ++ (field 6 m ++ (field 6 b ++ z)))))) ≡ field 6 m)
    × (take 6 (drop 14 (48 ∷ 49 ∷ (field 2 e ++ (field 4 r ++ (field 6 m ++ (field 6 b ++ z)))))) ≡ field 6 b)
standing e r m b z =
    let f = field 2 e in
    let s = field 4 r in
    let t = field 6 m in
    let u = field 6 b in
    let second : f ++ (s ++ (t ++ (u ++ z))) ≡ (f ++ s) ++ (t ++ (u ++ z)) = simp append_assoc in
    let third : f ++ (s ++ (t ++ (u ++ z))) ≡ (f ++ (s ++ t)) ++ (u ++ z) = simp append_assoc in (
      part (48 ∷ 49 ∷ f) s (t ++ (u ++ z)) 4 4 (simp field_length) (field_length 4 r),
      ap (λ x. take 6 (drop 8 (48 ∷ 49 ∷ x))) second ∙ part (48 ∷ 49 ∷ (f ++ s)) t (u ++ z) 8 6 (simp (length-append, field_length)) (field_length 6 m),
      ap (λ x. take 6 (drop 14 (48 ∷ 49 ∷ x))) third ∙ part (48 ∷ 49 ∷ (f ++ (s ++ t))) u z 14 6 (simp (length-append, field_length)) (field_length 6 b),
    )

marks_fit : (h : Head) → head_fits h ≡ true → Fits 4 h.roughness × Fits 6 h.misfit × Fits 6 h.bend
marks_fit h e =
    let to_six = and_parts _ _ e in
    let to_five = and_parts _ _ to_six.0 in
    let to_four = and_parts _ _ to_five.0 in
    let to_three = and_parts _ _ to_four.0 in
    let to_two = and_parts _ _ to_three.0 in
    let to_one = and_parts _ _ to_two.0 in
    (ltb-true _ _ to_one.0, ltb-true _ _ to_one.1, ltb-true _ _ to_two.1)

pub parts : (bs : List ℕ) (e : ℕ) (h : Head) → HeadIs (head_of bs) e h → Parts bs h
unfolding head_text
parts bs e h is =
    let whole : bs ≡ 48 ∷ 49 ∷ (field 2 e ++ (field 4 h.roughness ++ (field 6 h.misfit ++ (field 6 h.bend ++ ((field 4 h.readings ++ (field 4 h.stiffness ++ (field 4 h.denominator ++ field 16 h.allowance))) ++ drop (length (head_text e h)) bs))))) = starts bs (head_text e h) is.text ∙ simp append_assoc in
    let stand = standing e h.roughness h.misfit h.bend ((field 4 h.readings ++ (field 4 h.stiffness ++ (field 4 h.denominator ++ field 16 h.allowance))) ++ drop (length (head_text e h)) bs) in
    let fit = marks_fit h is.fitting in
    record {
      long = omega (arith, long bs (head_text e h) is.text, head_length e h);
      roughness = ap (λ x. take 4 (drop 4 x)) whole ∙ stand.0;
      misfit = ap (λ x. take 6 (drop 8 x)) whole ∙ stand.1;
      bend = ap (λ x. take 6 (drop 14 x)) whole ∙ stand.2;
      roughness_fits = fit.0;
      misfit_fits = fit.1;
      bend_fits = fit.2;
    }

-- digits of a field are a number
pub no_number : (w x : ℕ) (s : List ℕ) → w ≤ 16 → s ≡ field w x → (length s ≤ 16 → Digits s → ⊥) → ⊥
no_number w x s h e none = none (omega (arith, ap length e ∙ field_length w x)) (subst Digits (sym e) (field_digits w x))
