-- The sums and products of a bend and of its transpose, each stored in 64 bits and read again.
--     kept          a number that is stored and read again
--     Bent          that each sum and product of a bend fits, and what the whole is
--     Shared        the same of a multiplier's shares
use Rattle.std.proofs.Common.{◌≡◌, ◌≤◌, ℤ, ◌+ℤ◌, ◌-ℤ◌, ◌*ℤ◌, nat_abs, pos, get_or, List, [], ◌∷◌, arith, w64, SFits, to_z, of_z}
use Rattle.std.proofs.lemmas.Int.{to_z-of_z}
use Rattle.kinds.specs.Figures.{largest}
use Rattle.kinds.proofs.Bits.{fits64}
use Rattle.kinds.proofs.Places.{size_at}
use Rattle.kinds.proofs.Ring.{size_mul_most, size_add_most, size_sub_most}
use Rattle.roughness.specs.Maps.{bend, shares}

abbrev pub kept : ℤ → ℤ
kept z = to_z w64 (of_z w64 z)

pub record Bent (a b v w x : ℤ) : Type 0 where
  pub near : SFits w64 (kept b *ℤ kept v)
  pub middle : SFits w64 (kept (kept a +ℤ kept b) *ℤ kept w)
  pub less : SFits w64 (kept (kept b *ℤ kept v) -ℤ kept (kept (kept a +ℤ kept b) *ℤ kept w))
  pub far : SFits w64 (kept a *ℤ kept x)
  pub whole : SFits w64 (kept (kept (kept b *ℤ kept v) -ℤ kept (kept (kept a +ℤ kept b) *ℤ kept w)) +ℤ kept (kept a *ℤ kept x))
  pub value : kept (kept (kept (kept b *ℤ kept v) -ℤ kept (kept (kept a +ℤ kept b) *ℤ kept w)) +ℤ kept (kept a *ℤ kept x)) ≡ bend a b v w x

pub bent : (a b v w x : ℤ) → nat_abs a ≤ 60 → nat_abs b ≤ 60 → nat_abs v ≤ 1000000000000 → nat_abs w ≤ 1000000000000 → nat_abs x ≤ 1000000000000 → Bent a b v w x
bent a b v w x ha hb hv hw hx =
    let fa = fits64 a (omega arith) in
    let fb = fits64 b (omega arith) in
    let fv = fits64 v (omega arith) in
    let fw = fits64 w (omega arith) in
    let fx = fits64 x (omega arith) in
    let s₁ = size_mul_most b v hb hv in
    let f₁ = fits64 (b *ℤ v) (omega arith) in
    let s₂ = size_add_most a b ha hb in
    let f₂ = fits64 (a +ℤ b) (omega arith) in
    let s₃ = size_mul_most (a +ℤ b) w s₂ hw in
    let f₃ = fits64 ((a +ℤ b) *ℤ w) (omega arith) in
    let s₄ = size_sub_most (b *ℤ v) ((a +ℤ b) *ℤ w) s₁ s₃ in
    let f₄ = fits64 (b *ℤ v -ℤ (a +ℤ b) *ℤ w) (omega arith) in
    let s₅ = size_mul_most a x ha hx in
    let f₅ = fits64 (a *ℤ x) (omega arith) in
    let s₆ = size_add_most (b *ℤ v -ℤ (a +ℤ b) *ℤ w) (a *ℤ x) s₄ s₅ in
    let f₆ = fits64 (b *ℤ v -ℤ (a +ℤ b) *ℤ w +ℤ a *ℤ x) (omega arith) in record {
      near = simp to_z-of_z f₁;
      middle = simp to_z-of_z f₃;
      less = simp to_z-of_z f₄;
      far = simp to_z-of_z f₅;
      whole = simp to_z-of_z f₆;
      value = simp to_z-of_z;
    }

pub largest_shares : (a b m : ℤ) → nat_abs a ≤ 60 → nat_abs b ≤ 60 → nat_abs m ≤ 1000000000000 → largest (shares a b m) ≤ 120000000000000
largest_shares a b m ha hb hm = omega (arith, size_mul_most b m hb hm, size_mul_most (a +ℤ b) m (size_add_most a b ha hb) hm, size_mul_most a m ha hm)

pub record Shared (a b m : ℤ) : Type 0 where
  pub near : SFits w64 (kept b *ℤ kept m)
  pub middle : SFits w64 (kept (kept a +ℤ kept b) *ℤ kept m)
  pub far : SFits w64 (kept a *ℤ kept m)
  pub value : ◌≡◌ {A = List ℤ} (kept (kept b *ℤ kept m) ∷ (kept (kept (kept a +ℤ kept b) *ℤ kept m) ∷ (kept (kept a *ℤ kept m) ∷ []))) (shares a b m)

pub shared : (a b m : ℤ) → nat_abs a ≤ 60 → nat_abs b ≤ 60 → nat_abs m ≤ 1000000000000 → Shared a b m
shared a b m ha hb hm =
    let fa = fits64 a (omega arith) in
    let fb = fits64 b (omega arith) in
    let fm = fits64 m (omega arith) in
    let s₁ = size_mul_most b m hb hm in
    let f₁ = fits64 (b *ℤ m) (omega arith) in
    let s₂ = size_add_most a b ha hb in
    let f₂ = fits64 (a +ℤ b) (omega arith) in
    let s₃ = size_mul_most (a +ℤ b) m s₂ hm in
    let f₃ = fits64 ((a +ℤ b) *ℤ m) (omega arith) in
    let s₄ = size_mul_most a m ha hm in
    let f₄ = fits64 (a *ℤ m) (omega arith) in record {
      near = simp to_z-of_z f₁;
      middle = simp to_z-of_z f₃;
      far = simp to_z-of_z f₄;
      value = simp to_z-of_z;
    }

-- of three values that stand in a list
pub bent_of : (a b : ℤ) (vs : List ℤ) → nat_abs a ≤ 60 → nat_abs b ≤ 60 → largest vs ≤ 1000000000000 → Bent a b (get_or vs 0 (pos 0)) (get_or vs 1 (pos 0)) (get_or vs 2 (pos 0))
bent_of a b vs ha hb h =
    let v = size_at vs 0 in
    let w = size_at vs 1 in
    let x = size_at vs 2 in
    bent a b _ _ _ ha hb (omega arith) (omega arith) (omega arith)
