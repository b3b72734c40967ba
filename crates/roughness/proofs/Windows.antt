-- Loops over the windows of a list, each of as many figures as the size says.
--     Before        what a window's iterator has left after k windows: the list from its k-th figure on
--     Window        one window more: where it stands in the list, and what is left
--     Figure        one figure more of a list that is gone through beside the windows
use Rattle.std.proofs.Common.{◌≡◌, ℕ, zero, suc, ◌+◌, ◌<◌, ◌≤◌, true, List, [], ◌∷◌, ◌++◌, length, get_or, take, drop, set, ℤ, pos, sym, ap, ap₂, ◌∙◌, subst, arith}
use Rattle.std.proofs.lemmas.List.{get_or-take, get_or-drop, drop-drop, length-drop, length-append, set-append_left}
use Rattle.kinds.specs.Figures.{largest}
use Rattle.kinds.specs.Minutes.{may_follow, lawful}
use Rattle.kinds.proofs.Places.{Written, written_more}
use Rattle.roughness.specs.Maps.{step}
use Rattle.roughness.specs.Steps.{lawful_at}
use Rattle.roughness.specs.Bending.{step_at, step_after}

pub record Before (n k : ℕ) (xs : List ℤ) (size : ℕ) (rest : List ℤ) : Type 0 where
  pub wide : size ≡ n
  pub from : rest ≡ drop k xs
  pub within : k + n ≤ length xs + 1

pub record Window (n k : ℕ) (xs w : List ℤ) (size : ℕ) (rest : List ℤ) : Type 0 where
  pub long : k + n ≤ length xs
  pub first : get_or w 0 (pos 0) ≡ get_or xs k (pos 0)
  pub second : 1 < n → get_or w 1 (pos 0) ≡ get_or xs (k + 1) (pos 0)
  pub third : 2 < n → get_or w 2 (pos 0) ≡ get_or xs (k + 2) (pos 0)
  pub small : largest w ≤ largest xs
  pub next : Before n (k + 1) xs size rest

largest_take : (n : ℕ) (xs : List ℤ) → largest (take n xs) ≤ largest xs
largest_take zero xs = omega arith
largest_take (suc n) [] = omega arith
largest_take (suc n) (x ∷ xs) = omega (arith, largest_take n xs)

largest_drop : (n : ℕ) (xs : List ℤ) → largest (drop n xs) ≤ largest xs
largest_drop zero xs = omega arith
largest_drop (suc n) [] = omega arith
largest_drop (suc n) (x ∷ xs) = omega (arith, largest_drop n xs)

window_at : {n k : ℕ} {xs was : List ℤ} {size : ℕ} → Before n k xs size was → (w : List ℤ) (j : ℕ) → j < n → w ≡ take size was → get_or w j (pos 0) ≡ get_or xs (k + j) (pos 0)
window_at {n} {k} {xs} {was} {size} b w j h is =
    let wide = b.wide in
    ap (λ (l : List ℤ). get_or l j (pos 0)) is
    ∙ get_or-take size was j (pos 0) (omega arith)
    ∙ ap (λ (l : List ℤ). get_or l j (pos 0)) b.from
    ∙ get_or-drop k xs j (pos 0)

pub window_more : {n k : ℕ} {xs was : List ℤ} {size : ℕ} → Before n k xs size was → (w : List ℤ) (after : ℕ) (rest : List ℤ) → 0 < n → after ≡ size → size ≤ length was → w ≡ take size was → rest ≡ drop 1 was → Window n k xs w after rest
window_more {n} {k} {xs} {was} {size} b w after rest some same long is left =
    let count = length-drop k xs in
    let whole : length was ≡ length (drop k xs) = ap length b.from in
    let wide = b.wide in
    let here : k + 0 ≡ k = omega arith in
    let place = λ (j : ℕ) (h : j < n). window_at b w j h is in record {
      long = omega arith;
      first = window_at b w 0 some is ∙ ap (λ (m : ℕ). get_or xs m (pos 0)) here;
      second = place 1;
      third = place 2;
      small = omega (arith, ap largest is, ap largest b.from, largest_take size was, largest_drop k xs);
      next = record {
        wide = same ∙ b.wide;
        from = left ∙ ap (drop 1) b.from ∙ drop-drop 1 k xs;
        within = omega arith;
      };
    }

pub window_none : {n k : ℕ} {xs was : List ℤ} {size : ℕ} → Before n k xs size was → length was < size → length xs < k + n
window_none {n} {k} {xs} {was} {size} b short =
    let count = length-drop k xs in
    let whole : length was ≡ length (drop k xs) = ap length b.from in
    let size_is = b.wide in
    omega arith

-- one figure more is written, where only the front of the place is gone through
pub written_front : (k : ℕ) (x : ℤ) (was rest new old front behind : List ℤ) → Written k was new old (front ++ behind) → k < length front → was ≡ x ∷ rest → Written (k + 1) rest new old (set front k x ++ behind)
written_front k x was rest new old front behind w h e =
    subst (λ (place : List ℤ). Written (k + 1) rest new old place) (set-append_left front behind k x h)
    (written_more k x was rest new old (front ++ behind) w (omega (arith, length-append front behind)) e)

-- one figure more, of a list whose figures are taken one by one beside the windows
pub record Figure (k : ℕ) (xs : List ℤ) (x : ℤ) (rest : List ℤ) : Type 0 where
  pub long : k < length xs
  pub here : x ≡ get_or xs k (pos 0)
  pub next : rest ≡ drop (k + 1) xs

pub figure_more : {k : ℕ} (xs was : List ℤ) (x : ℤ) (rest : List ℤ) → was ≡ drop k xs → was ≡ x ∷ rest → Figure k xs x rest
figure_more {k} xs was x rest from is =
    let left : drop k xs ≡ x ∷ rest = sym from ∙ is in
    let count = length-drop k xs in
    let whole : length (drop k xs) ≡ length (x ∷ rest) = ap length left in
    let none : k + 0 ≡ k = omega arith in record {
      long = omega arith;
      here = ap (λ (l : List ℤ). get_or l 0 (pos 0)) (sym left) ∙ get_or-drop k xs 0 (pos 0) ∙ ap (λ (m : ℕ). get_or xs m (pos 0)) none;
      next = ap (drop 1) (sym left) ∙ drop-drop 1 k xs;
    }

-- three minutes in a row of a lawful list, and their steps
pub moments_follow : {k size : ℕ} {ts w rest : List ℤ} → lawful ts ≡ true → Window 3 k ts w size rest → (may_follow (get_or w 0 (pos 0)) (get_or w 1 (pos 0)) ≡ true) × (may_follow (get_or w 1 (pos 0)) (get_or w 2 (pos 0)) ≡ true)
moments_follow {k} {size} {ts} {w} law at =
    let long = at.long in
    let second = at.second (omega arith) in
    let two : k + 1 + 1 ≡ k + 2 = omega arith in
    let third = at.third (omega arith) ∙ ap (λ (m : ℕ). get_or ts m (pos 0)) (sym two) in
    (ap₂ may_follow at.first second ∙ lawful_at ts k law (omega arith), ap₂ may_follow second third ∙ lawful_at ts (k + 1) law (omega arith))

pub moments_step : {k size : ℕ} {ts w rest : List ℤ} → Window 3 k ts w size rest → (step_at w 0 ≡ step_at ts k) × (step_after w 0 ≡ step_after ts k)
moments_step at =
    let second = at.second (omega arith) in
    (ap₂ step at.first second, ap₂ step second (at.third (omega arith)))
