-- The number that digits write, summed up from the left, and the figure that it makes with a sign.
use Rattle.std.proofs.Common.{◌≡◌, ◌≢◌, ℕ, zero, suc, ◌+◌, ◌-◌, ◌*◌, ◌^◌, ◌<◌, ◌≤◌, true, false, ◌&&◌, leb, List, [], ◌∷◌, length, get_or, drop, ℤ, pos, neg_ℤ, ◌+ℤ◌, ◌-ℤ◌, w64, SFits, Some, None, Option, refl, ◌∙◌, add_assoc, mul_assoc, add-mul, le-mul_of_pos_right, arith}
use native.Mathlib.Nat.{pow-succ', one-le-pow}
use Rattle.std.proofs.lemmas.List.{drop_more, drop_all}
use Rattle.std.proofs.lemmas.Bool.{and_right, lt-leb, le-leb}
use Rattle.std.proofs.lemmas.Bool.Decides.{nat_tests}
use Rattle.std.specs.Option.{SomeIff}
use Rattle.words.specs.Words.{begins}
use Rattle.words.specs.Figures.{is_digit, all_digits, is_numeral, value, figure_if, figure_of, size_of}

-- the first i of the bytes ds are digits, and write m
pub record Summed (ds : List ℕ) (i m : ℕ) : Type 0 where
  pub digits : all_digits ds ≡ all_digits (drop i ds)
  pub whole : value ds ≡ m * 10 ^ length (drop i ds) + value (drop i ds)

pub summed_none : (ds : List ℕ) → Summed ds 0 0
summed_none ds = record { digits = refl; whole = omega arith }

place : (m d n v : ℕ) → m * 10 ^ suc n + (d * 10 ^ n + v) ≡ (m * 10 + d) * 10 ^ n + v
place m d n v = simp (pow-succ', add-mul, mul_assoc, add_assoc)

module _ (ds : List ℕ) (i m : ℕ) (s : Summed ds i m) where
  pub summed_more : i < length ds → is_digit (get_or ds i 0) ≡ true → Summed ds (i + 1) (m * 10 + (get_or ds i 0 - 48))
  summed_more lt e =
      let d = drop_more ds i 0 lt in
      let a : all_digits (drop i ds) ≡ all_digits (drop (i + 1) ds) = rw (d, e) refl in
      record { digits = s.digits ∙ a; whole = s.whole ∙ rw d (place m (get_or ds i 0 - 48) (length (drop (i + 1) ds)) (value (drop (i + 1) ds))) }

  pub summed_least : m ≤ value ds
  summed_least = omega (arith, s.whole, le-mul_of_pos_right m (one-le-pow (length (drop i ds)) 10 (omega arith)))

  not_numeral : (cs : List ℕ) → all_digits cs ≡ false → is_numeral cs ≡ false
  not_numeral [] e = refl
  not_numeral (c ∷ cs) e = e

  pub size_not_digit : (limit : ℕ) → i < length ds → is_digit (get_or ds i 0) ≡ false → None ≡ size_of limit ds
  size_not_digit limit lt e =
      let d = drop_more ds i 0 lt in
      let a : all_digits (drop i ds) ≡ false = rw (d, e) refl in
      let n : is_numeral ds ≡ false = not_numeral ds (s.digits ∙ a) in
      rw n refl

  is_numeral_some : (cs : List ℕ) → 0 < length cs → all_digits cs ≡ true → is_numeral cs ≡ true
  is_numeral_some [] h e = absurd (omega arith)
  is_numeral_some (c ∷ cs) h e = e

  pub size_all : (limit : ℕ) → 0 < length ds → length ds ≤ i → m ≤ limit → Some m ≡ size_of limit ds
  size_all limit some le small =
      let d = drop_all i ds le in
      let a : all_digits (drop i ds) ≡ true = rw d refl in
      let n : is_numeral ds ≡ true = is_numeral_some ds some (s.digits ∙ a) in
      let z : value (drop i ds) ≡ 0 = rw d refl in
      let o : length (drop i ds) ≡ 0 = rw d refl in
      let w : value ds ≡ m * 10 ^ 0 + 0 = rw (o, z) at s.whole in
      let v : value ds ≡ m = omega arith in
      let b : leb (value ds) limit ≡ true = le-leb (value ds) limit (omega arith) in
      rw (n, b, v) refl

pub size_large : (limit : ℕ) (ds : List ℕ) → limit < value ds → None ≡ size_of limit ds
size_large limit ds lt =
    let b : (is_numeral ds && leb (value ds) limit) ≡ false = and_right _ _ (lt-leb (value ds) limit lt) in
    rw b refl

pub begins_is : (c : ℕ) (w : List ℕ) → 0 < length w → get_or w 0 0 ≡ c → begins c w ≡ true
begins_is c [] h e = absurd (omega arith)
begins_is c (b ∷ bs) h e = grind (arith, nat_tests)

pub begins_not : (c : ℕ) (w : List ℕ) → (0 < length w → get_or w 0 0 ≢ c) → begins c w ≡ false
begins_not c [] h = refl
begins_not c (b ∷ bs) h = let d : b ≢ c = h (omega arith) in grind (arith, nat_tests)

-- a number that is checked to fit 64 bits with a sign
minus_fits : (n : ℕ) (r : Option ℤ) → SomeIff r (SFits w64 (pos 0 -ℤ pos n)) (pos 0 -ℤ pos n) → r ≡ figure_if true (neg_ℤ (pos n))
minus_fits zero None h = grind (arith, nat_tests)
minus_fits zero (Some x) h = grind (arith, nat_tests)
minus_fits (suc n) None h = grind (arith, nat_tests)
minus_fits (suc n) (Some x) h = grind (arith, nat_tests)

plain_fits : (n : ℕ) (r : Option ℤ) → SomeIff r (SFits w64 (pos 0 +ℤ pos n)) (pos 0 +ℤ pos n) → r ≡ figure_if true (pos n)
plain_fits n None h = grind (arith, nat_tests)
plain_fits n (Some x) h = grind (arith, nat_tests)

sized : (ds : List ℕ) (n : ℕ) → Some n ≡ size_of (2 ^ 64 - 1) ds → (is_numeral ds ≡ true) × (value ds ≡ n)
sized ds n e = grind (arith, nat_tests)

unsized_minus : (ds : List ℕ) → None ≡ size_of (2 ^ 64 - 1) ds → None ≡ figure_if (is_numeral ds) (neg_ℤ (pos (value ds)))
unsized_minus ds e = grind (arith, nat_tests)

unsized_plain : (ds : List ℕ) → None ≡ size_of (2 ^ 64 - 1) ds → None ≡ figure_if (is_numeral ds) (pos (value ds))
unsized_plain ds e = grind (arith, nat_tests)

module _ (w : List ℕ) (b : begins 45 w ≡ true) where
  pub minus_none : None ≡ size_of (2 ^ 64 - 1) (drop 1 w) → None ≡ figure_of w
  unfolding figure_of
  minus_none e = rw b (unsized_minus (drop 1 w) e)

  pub minus_some : (n : ℕ) (r : Option ℤ) → Some n ≡ size_of (2 ^ 64 - 1) (drop 1 w) → SomeIff r (SFits w64 (pos 0 -ℤ pos n)) (pos 0 -ℤ pos n) → r ≡ figure_of w
  unfolding figure_of
  minus_some n r e h = let s = sized (drop 1 w) n e in rw (b, s.0, s.1) (minus_fits n r h)

module _ (w : List ℕ) (b : begins 45 w ≡ false) where
  pub plain_none : None ≡ size_of (2 ^ 64 - 1) w → None ≡ figure_of w
  unfolding figure_of
  plain_none e = rw b (unsized_plain w e)

  pub plain_some : (n : ℕ) (r : Option ℤ) → Some n ≡ size_of (2 ^ 64 - 1) w → SomeIff r (SFits w64 (pos 0 +ℤ pos n)) (pos 0 +ℤ pos n) → r ≡ figure_of w
  unfolding figure_of
  plain_some n r e h = let s = sized w n e in rw (b, s.0, s.1) (plain_fits n r h)
