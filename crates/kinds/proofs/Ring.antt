-- Laws of whole numbers that the library lacks.
--     ring        for `simp`: products of sums are multiplied out, and products are grouped to the right
--     linear      for `omega` afterwards: products stay whole
use Rattle.std.proofs.Common.{◌≡◌, ℕ, ◌+◌, ◌*◌, ◌≤◌, ℤ, pos, negsuc, ◌+ℤ◌, ◌-ℤ◌, ◌*ℤ◌, neg_ℤ, nat_abs, sym, ap, ◌∙◌, mul-le-mul_right, mul-le-mul_left, arith}
use borrow.Author.Differences.{up, down, ints, same_in, same_out, product_is, sum_is_lem, neg_is}
use lib.IntN.{*ℤ_comm, neg_ℤ-+ℤ, neg_ℤ-neg_ℤ}

pub add_mul : (a b c : ℤ) → (a +ℤ b) *ℤ c ≡ a *ℤ c +ℤ b *ℤ c
add_mul a b c =
    same_in _ _ (omega (arith, product_is (a +ℤ b) c, product_is a c, product_is b c, sum_is_lem (a *ℤ c) (b *ℤ c), ap (λ n. n * up c) (sum_is_lem a b), ap (λ n. n * down c) (sum_is_lem a b)))

pub mul_add : (a b c : ℤ) → a *ℤ (b +ℤ c) ≡ a *ℤ b +ℤ a *ℤ c
mul_add a b c = *ℤ_comm a (b +ℤ c) ∙ add_mul b c a ∙ omega (arith, ints)

pub mul_assoc : (a b c : ℤ) → (a *ℤ b) *ℤ c ≡ a *ℤ (b *ℤ c)
mul_assoc a b c =
    same_in _ _ (omega (
      arith,
      product_is (a *ℤ b) c,
      product_is a (b *ℤ c),
      ap (λ n. n * up c) (product_is a b).0,
      ap (λ n. n * down c) (product_is a b).0,
      ap (λ n. n * up c) (product_is a b).1,
      ap (λ n. n * down c) (product_is a b).1,
      ap (λ n. up a * n) (product_is b c).0,
      ap (λ n. down a * n) (product_is b c).0,
      ap (λ n. up a * n) (product_is b c).1,
      ap (λ n. down a * n) (product_is b c).1,
    ))

pub neg_mul : (a b : ℤ) → neg_ℤ a *ℤ b ≡ neg_ℤ (a *ℤ b)
neg_mul a b =
    same_in _ _ (omega (
      arith,
      product_is (neg_ℤ a) b,
      product_is a b,
      neg_is (a *ℤ b),
      ap (λ n. n * up b) (neg_is a).0,
      ap (λ n. n * down b) (neg_is a).0,
      ap (λ n. n * up b) (neg_is a).1,
      ap (λ n. n * down b) (neg_is a).1,
    ))

pub mul_neg : (a b : ℤ) → a *ℤ neg_ℤ b ≡ neg_ℤ (a *ℤ b)
mul_neg a b = *ℤ_comm a (neg_ℤ b) ∙ neg_mul b a ∙ ap neg_ℤ (*ℤ_comm b a)

pub mul_left_comm : (a b c : ℤ) → a *ℤ (b *ℤ c) ≡ b *ℤ (a *ℤ c)
mul_left_comm a b c = sym (mul_assoc a b c) ∙ ap (λ (z : ℤ). z *ℤ c) (*ℤ_comm a b) ∙ mul_assoc b a c

pub ruleset ring = (add_mul, mul_add, neg_mul, mul_neg, mul_assoc, neg_ℤ-+ℤ, neg_ℤ-neg_ℤ)

pub ruleset linear = (same_out, same_in, sum_is_lem, neg_is)

-- sizes
pub size_mul : (a b : ℤ) → nat_abs (a *ℤ b) ≡ nat_abs a * nat_abs b
size_mul (pos a) (pos b) = omega arith
size_mul (pos a) (negsuc b) = omega (arith, ints)
size_mul (negsuc a) (pos b) = omega (arith, ints)
size_mul (negsuc a) (negsuc b) = omega arith

pub mul_most : {a b m n : ℕ} → a ≤ m → b ≤ n → a * b ≤ m * n
mul_most {a} {b} {m} {n} h k = omega (arith, mul-le-mul_right b h, mul-le-mul_left m k)

pub size_mul_most : (a b : ℤ) {m n : ℕ} → nat_abs a ≤ m → nat_abs b ≤ n → nat_abs (a *ℤ b) ≤ m * n
size_mul_most a b {m} {n} h k = omega (arith, size_mul a b, mul_most h k)

pub size_add_most : (a b : ℤ) {m n : ℕ} → nat_abs a ≤ m → nat_abs b ≤ n → nat_abs (a +ℤ b) ≤ m + n
size_add_most a b h k = omega (arith, ints)

pub size_sub_most : (a b : ℤ) {m n : ℕ} → nat_abs a ≤ m → nat_abs b ≤ n → nat_abs (a -ℤ b) ≤ m + n
size_sub_most a b h k = omega (arith, ints)
