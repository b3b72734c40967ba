-- Fields of a fixed width in upper-case hexadecimal digits.
--     digit           the byte of the digit that stands for a number below 16
--     is_digit        whether a byte is a digit: 0 to 9 are 48 to 57, A to F are 65 to 70
--     Digits          that all bytes are digits
--     Fits            that a number can be written in so many digits
--     field           a number in so many digits, zeros in front
--     Number          that bytes, at most 16, are the field of a number
--     Reads           the number that bytes write: none for more than 16 bytes or for bytes that are not all digits
use Rattle.std.specs.Prelude.{◌≡◌, ℕ, zero, suc, ◌+◌, ◌/◌, ◌%◌, ◌^◌, ◌<◌, ◌≤◌, Bool, true, cond, ◌&&◌, ◌||◌, List, [], ◌∷◌, ◌++◌, length, Some, None, Option, nat_le, nat_lt}
use Rattle.std.specs.List.{AllByRecursion}

abbrev pub digit : ℕ → ℕ
digit d = cond (nat_lt d 10) (48 + d) (55 + d)

abbrev pub is_digit : ℕ → Bool
is_digit b = (nat_le 48 b && nat_lt b 58) || (nat_le 65 b && nat_lt b 71)

abbrev pub Digits : List ℕ → Type 0
Digits bs = AllByRecursion (λ b. is_digit b ≡ true) bs

abbrev pub Fits : ℕ → ℕ → Type 0
Fits width x = x < 16 ^ width

-- the last digit is the remainder by 16, the digits before it are the field of the quotient
unfoldable pub field : ℕ → ℕ → List ℕ
field zero x = []
field (suc width) x = field width (x / 16) ++ (digit (x % 16) ∷ [])

pub record Number (bs : List ℕ) (x : ℕ) : Type 0 where
  pub short : length bs ≤ 16
  pub fits : Fits (length bs) x
  pub written : field (length bs) x ≡ bs

abbrev pub Reads : List ℕ → Option ℕ → Type 0
Reads bs (Some x) = Number bs x
Reads bs None = length bs ≤ 16 → Digits bs → ⊥
