-- Figures: the whole numbers that a word can write.
--     is_digit        whether a byte is one of the digits 0 to 9
--     all_digits      whether a text is digits only
--     is_numeral      whether a text is one or more digits
--     value           the number that digits write: each digit counts for its place
--     in_range        whether a number is from -2^63 to 2^63 - 1
--     figure_if       a number, if it was written by a numeral and is in range
--     figure_of       the number that a word writes, if it is a figure: digits, or a minus and digits, for a number in range
--     size_of         the number that a text writes, if it is a numeral for at most a limit
use Rattle.std.specs.Prelude.{ℕ, ◌+◌, ◌-◌, ◌*◌, ◌^◌, Bool, true, false, cond, ◌&&◌, List, [], ◌∷◌, length, drop, ℤ, pos, neg_ℤ, Some, None, Option, int_le, nat_le}
use Rattle.words.specs.Words.{begins}

abbrev pub is_digit : ℕ → Bool
is_digit b = nat_le 48 b && nat_le b 57

abbrev pub all_digits : List ℕ → Bool
all_digits [] = true
all_digits (d ∷ ds) = is_digit d && all_digits ds

abbrev pub is_numeral : List ℕ → Bool
is_numeral [] = false
is_numeral (d ∷ ds) = all_digits (d ∷ ds)

abbrev pub value : List ℕ → ℕ
value [] = 0
value (d ∷ ds) = (d - 48) * 10 ^ length ds + value ds

abbrev pub in_range : ℤ → Bool
in_range z = int_le (neg_ℤ (pos (2 ^ 63))) z && int_le z (pos (2 ^ 63 - 1))

abbrev pub figure_if : Bool → ℤ → Option ℤ
figure_if numeral z = cond (numeral && in_range z) (Some z) None

unfoldable pub figure_of : List ℕ → Option ℤ
figure_of w = cond (begins 45 w) (figure_if (is_numeral (drop 1 w)) (neg_ℤ (pos (value (drop 1 w))))) (figure_if (is_numeral w) (pos (value w)))

abbrev pub size_of : ℕ → List ℕ → Option ℕ
size_of limit ds = cond (is_numeral ds && nat_le (value ds) limit) (Some (value ds)) None
