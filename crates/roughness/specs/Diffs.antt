-- The differences and their transpose: the adjoint identity, lengths, sizes, and the steps of the loops that write them.
use Rattle.std.specs.Prelude.{◌≡◌, ℕ, ◌+◌, ◌-◌, ◌*◌, ◌<◌, ◌≤◌, max, List, [], ◌∷◌, length, drop, set, ℤ, pos, ◌+ℤ◌, ◌-ℤ◌, ◌*ℤ◌, slice_index_or, slice_set, unsigned_abs, refl}
use Rattle.std.proofs.Common.{ap, ap₂, sym, ◌∙◌, arith}
use Rattle.std.proofs.lemmas.Int.{ints}
use Rattle.std.proofs.Math.IntN.{zero-*ℤ}
use Rattle.std.proofs.lemmas.List.{drop_more, nil_from_length, length-drop, length-set, at_drop_more, at_drop_all}
use Rattle.kinds.specs.Figures.{dot, largest, over}
use Rattle.kinds.proofs.Ring.{ring, linear}
use Rattle.kinds.proofs.Places.{Written, written_more, written_all}
use Rattle.roughness.specs.Maps.{differences, differences_back_from, differences_back}

-- one column of the identity: r and s are what the later columns add
adjoint_column : (c m v w r s : ℤ) → r +ℤ m *ℤ w ≡ s → (m *ℤ (w -ℤ v) +ℤ r) +ℤ c *ℤ v ≡ (c -ℤ m) *ℤ v +ℤ s
adjoint_column c m v w r s e = simp ring (omega (arith, linear))

adjoint_from : (c v : ℤ) (ms vs : List ℤ) → length vs ≡ length ms → dot ms (differences (v ∷ vs)) +ℤ c *ℤ v ≡ dot (differences_back_from c ms) (v ∷ vs)
adjoint_from c v [] [] e = omega (arith, ints)
adjoint_from c v [] (w ∷ vs) e = absurd (omega arith)
adjoint_from c v (m ∷ ms) [] e = absurd (omega arith)
adjoint_from c v (m ∷ ms) (w ∷ vs) e = adjoint_column c m v w _ _ (adjoint_from m w ms vs (omega arith))

pub differences_adjoint : (vs ms : List ℤ) → length ms + 1 ≡ length vs → dot ms (differences vs) ≡ dot (differences_back ms) vs
differences_adjoint [] ms e = absurd (omega arith)
differences_adjoint (v ∷ vs) ms e =
    let all = adjoint_from (pos 0) v ms vs (omega arith) in
    omega (arith, linear, zero-*ℤ v)

pub length_differences : (vs : List ℤ) → length (differences vs) ≡ length vs - 1
length_differences [] = omega arith
length_differences (v ∷ []) = omega arith
length_differences (v ∷ (w ∷ vs)) = omega (arith, length_differences (w ∷ vs))

pub length_differences_back : (c : ℤ) (ms : List ℤ) → length (differences_back_from c ms) ≡ length ms + 1
length_differences_back c [] = omega arith
length_differences_back c (m ∷ ms) = omega (arith, length_differences_back m ms)

pub largest_differences : (vs : List ℤ) → largest (differences vs) ≤ 2 * largest vs
largest_differences [] = omega arith
largest_differences (v ∷ []) = omega arith
largest_differences (v ∷ (w ∷ vs)) = omega (arith, ints, largest_differences (w ∷ vs))

largest_back_from : (c : ℤ) (ms : List ℤ) → largest (differences_back_from c ms) ≤ 2 * max (unsigned_abs c) (largest ms)
largest_back_from c [] = omega arith
largest_back_from c (m ∷ ms) = omega (arith, ints, largest_back_from m ms)

pub largest_differences_back : (ms : List ℤ) → largest (differences_back ms) ≤ 2 * largest ms
largest_differences_back ms = omega (arith, largest_back_from (pos 0) ms)

-- the loop of the differences: one row more, and the end
pub differences_more : (vs : List ℤ) (k : ℕ) (x : ℤ) → k + 1 < length vs → x ≡ slice_index_or vs (k + 1) (pos 0) -ℤ slice_index_or vs k (pos 0) → differences (drop k vs) ≡ x ∷ differences (drop (k + 1) vs)
differences_more vs k x h e =
    let one = drop_more vs k (pos 0) (omega arith) in
    let two = drop_more vs (k + 1) (pos 0) h in
    ap differences one
    ∙ ap (λ (l : List ℤ). differences (slice_index_or vs k (pos 0) ∷ l)) two
    ∙ ap₂ (λ (y : ℤ) (l : List ℤ). y ∷ differences l) (sym e) (sym two)

pub differences_all : (vs : List ℤ) (k : ℕ) → length vs ≤ k + 1 → differences (drop k vs) ≡ []
differences_all vs k h = nil_from_length (differences (drop k vs)) (omega (arith, length_differences (drop k vs), length-drop k vs))

-- the loop of the transpose: one column more, and the last one
pub back_more : (ms : List ℤ) (k : ℕ) (c x d : ℤ) → k < length ms → x ≡ c -ℤ slice_index_or ms k (pos 0) → d ≡ slice_index_or ms k (pos 0) → differences_back_from c (drop k ms) ≡ x ∷ differences_back_from d (drop (k + 1) ms)
back_more ms k c x d h e f =
    at_drop_more (differences_back_from c) ms k (pos 0) h
    ∙ ap₂ (λ (y : ℤ) (z : ℤ). y ∷ differences_back_from z (drop (k + 1) ms)) (sym e) (sym f)

pub back_last : (ms : List ℤ) (k : ℕ) (c : ℤ) (new old place : List ℤ) → Written k (differences_back_from c (drop k ms)) new old place → k < length place → length ms ≡ k → slice_set place (length ms) c ≡ over new old
back_last ms k c new old place w h e =
    let more = written_more k c _ [] new old place w h (at_drop_all (differences_back_from c) ms k (omega arith)) in
    ap (λ (n : ℕ). set place n c) e ∙ written_all (k + 1) [] new old (slice_set place k c) more (omega (arith, length-set place k c)) refl
