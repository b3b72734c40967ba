-- The bends and their transpose: the adjoint identity, lengths, sizes, and the steps of the loops that write them.
use Rattle.std.specs.Prelude.{◌≡◌, ℕ, ◌+◌, ◌-◌, ◌*◌, ◌<◌, ◌≤◌, true, List, [], ◌∷◌, length, drop, set, ℤ, pos, ◌+ℤ◌, ◌-ℤ◌, ◌*ℤ◌, Some, None, slice_index_or, slice_set, unsigned_abs, refl}
use Rattle.std.proofs.Common.{ap, ap₂, sym, ◌∙◌, arith}
use Rattle.std.proofs.Math.IntN.{zero-*ℤ}
use Rattle.std.proofs.lemmas.List.{drop_more, drop-drop, nil_from_length, length-drop, length-set, at_drop_all}
use Rattle.kinds.specs.Figures.{dot, largest, over}
use Rattle.kinds.specs.Minutes.{lawful_from, lawful}
use Rattle.kinds.proofs.Ring.{ring, linear, mul_left_comm, size_mul_most, size_add_most, size_sub_most}
use Rattle.kinds.proofs.Places.{Written, written_more, written_all}
use Rattle.roughness.specs.Maps.{step, bend, bends, bends_back_from, bends_back}
use Rattle.roughness.specs.Steps.{lawful_parts, size_step}

-- one column of the identity: y and z are what the later columns add
adjoint_column : (a b v w x m y p q z : ℤ) → y +ℤ ((q -ℤ (a +ℤ b) *ℤ m) *ℤ w +ℤ (a *ℤ m) *ℤ x) ≡ z → (m *ℤ bend a b v w x +ℤ y) +ℤ (p *ℤ v +ℤ q *ℤ w) ≡ (p +ℤ b *ℤ m) *ℤ v +ℤ z
adjoint_column a b v w x m y p q z e =
    let later = simp ring at e in
    simp ring (omega (arith, linear, mul_left_comm b m v, mul_left_comm a m w, mul_left_comm b m w, mul_left_comm a m x))

adjoint_from : (p q v w r s : ℤ) (ts ms vs : List ℤ) → length vs ≡ length ms → length ts ≡ length ms → dot ms (bends (r ∷ (s ∷ ts)) (v ∷ (w ∷ vs))) +ℤ (p *ℤ v +ℤ q *ℤ w) ≡ dot (bends_back_from p q (r ∷ (s ∷ ts)) ms) (v ∷ (w ∷ vs))
adjoint_from p q v w r s [] [] [] e f = omega (arith, linear)
adjoint_from p q v w r s (t ∷ ts) [] vs e f = absurd (omega arith)
adjoint_from p q v w r s [] [] (x ∷ vs) e f = absurd (omega arith)
adjoint_from p q v w r s [] (m ∷ ms) vs e f = absurd (omega arith)
adjoint_from p q v w r s (t ∷ ts) (m ∷ ms) [] e f = absurd (omega arith)
adjoint_from p q v w r s (t ∷ ts) (m ∷ ms) (x ∷ vs) e f =
    adjoint_column (step r s) (step s t) v w x m _ p q _
    (adjoint_from (q -ℤ (step r s +ℤ step s t) *ℤ m) (step r s *ℤ m) w x s t ts ms vs (omega arith) (omega arith))

pub bends_adjoint : (ts vs ms : List ℤ) → length vs ≡ length ts → length ms + 2 ≡ length ts → dot ms (bends ts vs) ≡ dot (bends_back ts ms) vs
bends_adjoint [] vs ms e f = absurd (omega arith)
bends_adjoint (r ∷ []) vs ms e f = absurd (omega arith)
bends_adjoint (r ∷ (s ∷ ts)) [] ms e f = absurd (omega arith)
bends_adjoint (r ∷ (s ∷ ts)) (v ∷ []) ms e f = absurd (omega arith)
bends_adjoint (r ∷ (s ∷ ts)) (v ∷ (w ∷ vs)) ms e f =
    let all = adjoint_from (pos 0) (pos 0) v w r s ts ms vs (omega arith) (omega arith) in
    omega (arith, linear, zero-*ℤ v, zero-*ℤ w)

pub length_bends : (ts vs : List ℤ) → length vs ≡ length ts → length (bends ts vs) ≡ length ts - 2
length_bends [] vs e = omega arith
length_bends (r ∷ []) vs e = omega arith
length_bends (r ∷ (s ∷ [])) vs e = omega arith
length_bends (r ∷ (s ∷ (t ∷ ts))) [] e = absurd (omega arith)
length_bends (r ∷ (s ∷ (t ∷ ts))) (v ∷ []) e = absurd (omega arith)
length_bends (r ∷ (s ∷ (t ∷ ts))) (v ∷ (w ∷ [])) e = absurd (omega arith)
length_bends (r ∷ (s ∷ (t ∷ ts))) (v ∷ (w ∷ (x ∷ vs))) e =
    let rest : length (w ∷ (x ∷ vs)) ≡ length (s ∷ (t ∷ ts)) = omega arith in
    omega (arith, length_bends (s ∷ (t ∷ ts)) (w ∷ (x ∷ vs)) rest)

pub length_bends_back : (p q : ℤ) (ts ms : List ℤ) → length ms + 2 ≡ length ts → length (bends_back_from p q ts ms) ≡ length ts
length_bends_back p q ts [] e = omega arith
length_bends_back p q [] (m ∷ ms) e = omega arith
length_bends_back p q (r ∷ []) (m ∷ ms) e = absurd (omega arith)
length_bends_back p q (r ∷ (s ∷ [])) (m ∷ ms) e = absurd (omega arith)
length_bends_back p q (r ∷ (s ∷ (t ∷ ts))) (m ∷ ms) e =
    let rest : length ms + 2 ≡ length (s ∷ (t ∷ ts)) = omega arith in
    omega (arith, length_bends_back (q -ℤ (step r s +ℤ step s t) *ℤ m) (step r s *ℤ m) (s ∷ (t ∷ ts)) ms rest)

size_bend : (a b v w x : ℤ) (most : ℕ) → unsigned_abs a ≤ 60 → unsigned_abs b ≤ 60 → unsigned_abs v ≤ most → unsigned_abs w ≤ most → unsigned_abs x ≤ most → unsigned_abs (bend a b v w x) ≤ 240 * most
size_bend a b v w x most ha hb hv hw hx =
    let near = size_mul_most b v hb hv in
    let middle = size_mul_most (a +ℤ b) w (size_add_most a b ha hb) hw in
    let far = size_mul_most a x ha hx in
    omega (arith, size_add_most (b *ℤ v -ℤ (a +ℤ b) *ℤ w) (a *ℤ x) (size_sub_most (b *ℤ v) ((a +ℤ b) *ℤ w) near middle) far)

largest_from : (r : ℤ) (ts vs : List ℤ) (most : ℕ) → lawful_from (Some r) ts ≡ true → largest vs ≤ most → largest (bends (r ∷ ts) vs) ≤ 240 * most
largest_from r [] vs most e h = omega arith
largest_from r (s ∷ []) vs most e h = omega arith
largest_from r (s ∷ (t ∷ ts)) [] most e h = omega arith
largest_from r (s ∷ (t ∷ ts)) (v ∷ []) most e h = omega arith
largest_from r (s ∷ (t ∷ ts)) (v ∷ (w ∷ [])) most e h = omega arith
largest_from r (s ∷ (t ∷ ts)) (v ∷ (w ∷ (x ∷ vs))) most e h =
    let one = lawful_parts (Some r) s (t ∷ ts) e in
    let two = lawful_parts (Some s) t ts one.1 in
    let rest = largest_from s (t ∷ ts) (w ∷ (x ∷ vs)) most one.1 (omega arith) in
    let here = size_bend (step r s) (step s t) v w x most (size_step r s one.0) (size_step s t two.0) (omega arith) (omega arith) (omega arith) in
    omega arith

pub largest_bends : (ts vs : List ℤ) → lawful ts ≡ true → largest (bends ts vs) ≤ 240 * largest vs
largest_bends [] vs e = omega arith
largest_bends (t ∷ ts) vs e = largest_from t ts vs (largest vs) (lawful_parts None t ts e).1 (omega arith)

largest_back_from : (p q r : ℤ) (ts ms : List ℤ) (most : ℕ) → lawful_from (Some r) ts ≡ true → largest ms ≤ most → unsigned_abs p ≤ 180 * most → unsigned_abs q ≤ 60 * most → largest (bends_back_from p q (r ∷ ts) ms) ≤ 240 * most
largest_back_from p q r ts [] most e h hp hq = omega arith
largest_back_from p q r [] (m ∷ ms) most e h hp hq = omega arith
largest_back_from p q r (s ∷ []) (m ∷ ms) most e h hp hq = omega arith
largest_back_from p q r (s ∷ (t ∷ ts)) (m ∷ ms) most e h hp hq =
    let one = lawful_parts (Some r) s (t ∷ ts) e in
    let two = lawful_parts (Some s) t ts one.1 in
    let ha = size_step r s one.0 in
    let hb = size_step s t two.0 in
    let hm : unsigned_abs m ≤ most = omega arith in
    let both = size_mul_most (step r s +ℤ step s t) m (size_add_most (step r s) (step s t) ha hb) hm in
    let after = size_sub_most q ((step r s +ℤ step s t) *ℤ m) hq both in
    let far = size_mul_most (step r s) m ha hm in
    let rest = largest_back_from (q -ℤ (step r s +ℤ step s t) *ℤ m) (step r s *ℤ m) s (t ∷ ts) ms most one.1 (omega arith) (omega arith) far in
    let here = size_add_most p (step s t *ℤ m) hp (size_mul_most (step s t) m hb hm) in
    omega arith

pub largest_bends_back : (ts ms : List ℤ) → lawful ts ≡ true → largest (bends_back ts ms) ≤ 240 * largest ms
largest_bends_back [] [] e = omega arith
largest_bends_back [] (m ∷ ms) e = omega arith
largest_bends_back (t ∷ ts) ms e = largest_back_from (pos 0) (pos 0) t ts ms (largest ms) (lawful_parts None t ts e).1 (omega arith) (omega arith) (omega arith)

-- three places of a list
drop_three : (xs : List ℤ) (k : ℕ) → k + 2 < length xs → drop k xs ≡ slice_index_or xs k (pos 0) ∷ (slice_index_or xs (k + 1) (pos 0) ∷ (slice_index_or xs (k + 2) (pos 0) ∷ drop (k + 3) xs))
drop_three xs k h =
    let two : k + 1 + 1 ≡ k + 2 = omega arith in
    let three : k + 2 + 1 ≡ k + 3 = omega arith in
    drop_more xs k (pos 0) (omega arith)
    ∙ ap (λ (l : List ℤ). slice_index_or xs k (pos 0) ∷ l) (drop_more xs (k + 1) (pos 0) (omega arith)
    ∙ ap (λ (l : List ℤ). slice_index_or xs (k + 1) (pos 0) ∷ l) (ap (λ (n : ℕ). drop n xs) two ∙ drop_more xs (k + 2) (pos 0) h
    ∙ ap (λ (n : ℕ). slice_index_or xs (k + 2) (pos 0) ∷ drop n xs) three))

drop_two : (xs : List ℤ) (k : ℕ) → k + 2 < length xs → drop (k + 1) xs ≡ slice_index_or xs (k + 1) (pos 0) ∷ (slice_index_or xs (k + 2) (pos 0) ∷ drop (k + 3) xs)
drop_two xs k h = sym (drop-drop 1 k xs) ∙ ap (drop 1) (drop_three xs k h)

-- the step after a place of the minutes, and the one after that
abbrev pub step_at : List ℤ → ℕ → ℤ
step_at ts k = step (slice_index_or ts k (pos 0)) (slice_index_or ts (k + 1) (pos 0))

abbrev pub step_after : List ℤ → ℕ → ℤ
step_after ts k = step (slice_index_or ts (k + 1) (pos 0)) (slice_index_or ts (k + 2) (pos 0))

-- the loop of the bends: one row more, and the end
pub bends_more : (ts vs : List ℤ) (k : ℕ) (y : ℤ) → k + 2 < length ts → length vs ≡ length ts → y ≡ bend (step_at ts k) (step_after ts k) (slice_index_or vs k (pos 0)) (slice_index_or vs (k + 1) (pos 0)) (slice_index_or vs (k + 2) (pos 0)) → bends (drop k ts) (drop k vs) ≡ y ∷ bends (drop (k + 1) ts) (drop (k + 1) vs)
bends_more ts vs k y h e is =
    let long : k + 2 < length vs = omega arith in
    ap₂ bends (drop_three ts k h) (drop_three vs k long)
    ∙ ap₂ (λ (z : ℤ) (l : List ℤ). z ∷ l) (sym is) (ap₂ bends (sym (drop_two ts k h)) (sym (drop_two vs k long)))

pub bends_all : (ts vs : List ℤ) (k : ℕ) → length ts ≤ k + 2 → length vs ≡ length ts → bends (drop k ts) (drop k vs) ≡ []
bends_all ts vs k h e =
    let minutes = length-drop k ts in
    let values = length-drop k vs in
    nil_from_length _ (length_bends (drop k ts) (drop k vs) (omega arith) ∙ omega arith)

-- the loop of the transpose: one column more, and the last two
pub back_more : (ts ms : List ℤ) (k : ℕ) (p q y p' q' : ℤ) → k < length ms → length ms + 2 ≡ length ts → y ≡ p +ℤ step_after ts k *ℤ slice_index_or ms k (pos 0) → p' ≡ q -ℤ (step_at ts k +ℤ step_after ts k) *ℤ slice_index_or ms k (pos 0) → q' ≡ step_at ts k *ℤ slice_index_or ms k (pos 0) → bends_back_from p q (drop k ts) (drop k ms) ≡ y ∷ bends_back_from p' q' (drop (k + 1) ts) (drop (k + 1) ms)
back_more ts ms k p q y p' q' h e here next after =
    let long : k + 2 < length ts = omega arith in
    let two = sym (drop_two ts k long) in
    ap₂ (bends_back_from p q) (drop_three ts k long) (drop_more ms k (pos 0) h)
    ∙ (λ i. sym here i ∷ bends_back_from (sym next i) (sym after i) (two i) (drop (k + 1) ms))

pub back_last : (ts ms : List ℤ) (k : ℕ) (p q : ℤ) (new old place : List ℤ) → Written k (bends_back_from p q (drop k ts) (drop k ms)) new old place → k + 2 ≤ length place → length ms ≡ k → slice_set (slice_set place (length ms) p) (length ms + 1) q ≡ over new old
back_last ts ms k p q new old place w h e =
    let end = at_drop_all (bends_back_from p q (drop k ts)) ms k (omega arith) in
    let one = written_more k p _ (q ∷ []) new old place w (omega arith) end in
    let two = written_more (k + 1) q _ [] new old (slice_set place k p) one (omega (arith, length-set place k p)) refl in
    ap (λ (n : ℕ). set (slice_set place n p) (n + 1) q) e
    ∙ written_all (k + 1 + 1) [] new old (slice_set (slice_set place k p) (k + 1) q) two (omega (arith, length-set place k p, length-set (slice_set place k p) (k + 1) q)) refl
