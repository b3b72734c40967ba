-- Laws of fields.
--     field_more, fits_more   one digit more behind a field
--     fits_word               16 digits fit in 64 bits
--     field_length, field_digits    how long a field is, and that it is of digits
--     field_same              no two numbers have one field
--     number_of               digits are the field of a number
--     number_is               the number of a field that is read
--     put_more, put_all       a loop that writes from the last digit to the first
use Rattle.std.proofs.Common.{◌≡◌, ℕ, zero, suc, ◌+◌, ◌-◌, ◌*◌, ◌/◌, ◌%◌, ◌^◌, ◌<◌, ◌≤◌, true, List, [], ◌∷◌, ◌++◌, length, get_or, take, drop, set, sym, refl, ap, ◌∙◌, subst, ⊎_elim, append_assoc, pow-suc, add-one, arith}
use native.Mathlib.Nat.{pow-le-pow_right}
use Rattle.std.proofs.lemmas.List.{same_from_push, length_push, take_more, take_all, drop-set}
use Rattle.std.proofs.ByRecursion.{All-get_or, All-push}
use Rattle.std.proofs.lemmas.Bool.{cases_lt}
use Rattle.digits.specs.Fields.{digit, is_digit, Digits, Fits, field, Number}

abbrev IsDigit : ℕ → Type 0
IsDigit b = is_digit b ≡ true

pub field_more : (w x d : ℕ) → d < 16 → field (w + 1) (x * 16 + d) ≡ field w x ++ (digit d ∷ [])
unfolding field
field_more w x d h =
    let quotient : (x * 16 + d) / 16 ≡ x = omega arith in
    let remainder : (x * 16 + d) % 16 ≡ d = omega arith in
    rw (add-one, quotient, remainder)

pub fits_more : (w x d : ℕ) → d < 16 → Fits w x → Fits (w + 1) (x * 16 + d)
fits_more w x d h f = rw (add-one, pow-suc) (omega arith)

pub fits_word : (w x : ℕ) → w ≤ 16 → Fits w x → x < 2 ^ 64
fits_word w x h f = let most : 16 ^ w ≤ 16 ^ 16 = pow-le-pow_right (omega arith) h in omega arith

pub field_length : (w x : ℕ) → length (field w x) ≡ w
unfolding field
field_length zero x = refl
field_length (suc w) x = length_push (field w (x / 16)) (digit (x % 16)) ∙ rw (field_length w (x / 16)) (add-one w)

pub digit_is : (d : ℕ) → d < 16 → is_digit (digit d) ≡ true
digit_is d h = grind arith

pub field_digits : (w x : ℕ) → Digits (field w x)
unfolding field
field_digits zero x = tt
field_digits (suc w) x = All-push IsDigit (field w (x / 16)) (digit (x % 16)) (field_digits w (x / 16)) (digit_is (x % 16) (omega arith))

digit_same : (a b : ℕ) → a < 16 → b < 16 → digit a ≡ digit b → a ≡ b
digit_same a b h k e = grind arith

pub field_same : (w x y : ℕ) → Fits w x → Fits w y → field w x ≡ field w y → x ≡ y
unfolding field
field_same zero x y f g e = omega arith
field_same (suc w) x y f g e =
    let below_x : x < 16 ^ w * 16 = rw pow-suc at f in
    let below_y : y < 16 ^ w * 16 = rw pow-suc at g in
    let parts = same_from_push (field w (x / 16)) (field w (y / 16)) (digit (x % 16)) (digit (y % 16)) e in
    let front : x / 16 ≡ y / 16 = field_same w (x / 16) (y / 16) (omega arith) (omega arith) parts.0 in
    let last : x % 16 ≡ y % 16 = digit_same (x % 16) (y % 16) (omega arith) (omega arith) parts.1 in
    omega arith

-- what a digit stands for
digit_from : (b : ℕ) → is_digit b ≡ true → (d : ℕ) × (d < 16) × (digit d ≡ b)
digit_from b h = ⊎_elim (λ lt. (b - 48, grind arith, grind arith)) (λ ge. (b - 55, grind arith, grind arith)) (cases_lt b 58)

number_front : (s : List ℕ) (i : ℕ) → i ≤ length s → Digits s → (x : ℕ) × Fits i x × (field i x ≡ take i s)
unfolding field
number_front s zero le h = (0, omega arith, refl)
number_front s (suc i) le h =
    let front = number_front s i (omega arith) h in
    let last = digit_from (get_or s i 0) (All-get_or IsDigit s i 0 (omega arith) h) in
    let text : field (i + 1) (front.0 * 16 + last.0) ≡ take (i + 1) s =
    field_more i front.0 last.0 last.1
    ∙ ap (λ xs. xs ++ (digit last.0 ∷ [])) front.2
    ∙ ap (λ b. take i s ++ (b ∷ [])) last.2
    ∙ sym (take_more s i 0 (omega arith)) in
    let fit = fits_more i front.0 last.0 last.1 front.1 in
    (front.0 * 16 + last.0, rw add-one at fit, rw add-one at text)

pub number_of : (w : ℕ) (s : List ℕ) → length s ≡ w → Digits s → (x : ℕ) × Fits w x × (field w x ≡ s)
number_of w s e h =
    let found = number_front s w (omega arith) h in
    (found.0, found.1, found.2 ∙ take_all w s (omega arith))

-- bytes that are the field of a number are read as that number
pub number_is : (w : ℕ) (s : List ℕ) (x y : ℕ) → s ≡ field w y → Fits w y → Number s x → x ≡ y
number_is w s x y e f r =
    let size : length s ≡ w = ap length e ∙ field_length w y in
    field_same w x y (subst (λ n. Fits n x) size r.fits) f (ap (λ n. field n x) (sym size) ∙ r.written ∙ e)

-- the same by the width that the bytes have
pub number_written : (w : ℕ) (s : List ℕ) (x : ℕ) → length s ≡ w → Number s x → Fits w x × (field w x ≡ s)
number_written w s x size r = (subst (λ n. Fits n x) size r.fits, ap (λ n. field n x) (sym size) ∙ r.written)

pub put_more : (out : List ℕ) (i y d : ℕ) → i < length out → d ≡ digit (y % 16) → field i (y / 16) ++ drop i (set out i d) ≡ field (i + 1) y ++ drop (i + 1) out
unfolding field
put_more out i y d h e = rw (drop-set out i d h, e, add-one) (sym (append_assoc (field i (y / 16)) (digit (y % 16) ∷ []) (drop (suc i) out)))

pub put_all : (out xs : List ℕ) (i y : ℕ) → i ≤ 0 → field i y ++ drop i out ≡ xs → out ≡ xs
unfolding field
put_all out xs zero y h e = e
put_all out xs (suc i) y h e = absurd (omega arith)
