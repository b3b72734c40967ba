-- The file of some figures.
--     Figures         what a file carries: its head, readings, entries (the table), multipliers, cost and floor
--     edition         the number of this form of the file
--     head_text, reading_text, entry_text, multiplier_text, end_text      the digits of each frame; k is the frame's place
--     texts_from      the frames of a list, with places that rise from k
--     texts           the frames of a file, in their order
--     line            a frame with its end byte
--     file            the bytes of a file
--     fits, fits_unsigned, fits_signed     whether a figure fits a field of so many digits; signed ones have 8 digits
--     head_fits, reading_fits, entry_fits, multiplier_fits     whether all figures of a frame fit their fields
--     Fitting         that all figures of a file fit their fields, and that the counts are right
--     file_length     how long a file of n readings and m multipliers is
-- Signed figures are written as two's complement: `of_z w32` and `of_z w64` are the remainder by 2^32 and by 2^64. A figure
-- without a sign is no negative number if it fits, so `unsigned_abs` takes nothing away from it.
use Rattle.std.specs.Prelude.{◌≡◌, ℕ, suc, ◌+◌, ◌*◌, ◌^◌, ◌≤◌, Bool, true, ◌&&◌, List, [], ◌∷◌, ◌++◌, length, ℤ, pos, negsuc, FitsSigned, int_le, nat_lt, unsigned_abs}
use Rattle.std.specs.Int.{w32, w64}
use Rattle.std.proofs.Common.{of_z}
use Rattle.std.specs.List.{flat_map, AllByRecursion}
use Rattle.kinds.specs.declared.reading.Reading.{Reading}
use Rattle.digits.specs.Fields.{field, Fits}
use Rattle.archive.specs.declared.figures.Head.{Head}

pub record Figures : Type 0 where
  pub head : Head
  pub readings : List Reading
  pub entries : List ℤ
  pub multipliers : List ℤ
  pub cost : ℕ
  pub floor : ℤ

abbrev pub edition : ℕ
edition = 1

-- of the edition
unfoldable pub head_text : ℕ → Head → List ℕ
head_text e h =
    48 ∷ 49 ∷ (field 2 e ++ (field 4 h.roughness ++ (field 6 h.misfit ++ (field 6 h.bend
    ++ (field 4 h.readings ++ (field 4 h.stiffness ++ (field 4 h.denominator ++ field 16 h.allowance)))))))

unfoldable pub reading_text : ℕ → Reading → List ℕ
reading_text k r = 48 ∷ 50 ∷ (field 4 k ++ (field 8 (unsigned_abs r.minute) ++ (field 4 (unsigned_abs r.crude) ++ field 4 (unsigned_abs r.weight))))

unfoldable pub entry_text : ℕ → ℤ → List ℕ
entry_text k v = 48 ∷ 51 ∷ (field 4 k ++ field 4 (unsigned_abs v))

unfoldable pub multiplier_text : ℕ → ℤ → List ℕ
multiplier_text k m = 48 ∷ 52 ∷ (field 4 k ++ field 8 (of_z w32 m))

unfoldable pub end_text : ℕ → ℤ → List ℕ
end_text c b = 70 ∷ 70 ∷ (field 16 c ++ field 16 (of_z w64 b))

abbrev pub texts_from : {X : Type 0} → (ℕ → X → List ℕ) → ℕ → List X → List (List ℕ)
texts_from text k [] = []
texts_from text k (x ∷ xs) = text k x ∷ texts_from text (suc k) xs

abbrev pub texts : Figures → List (List ℕ)
texts g =
    head_text edition g.head
    ∷ (texts_from reading_text 0 g.readings
    ++ (texts_from entry_text 0 g.entries
    ++ (texts_from multiplier_text 0 g.multipliers
    ++ (end_text g.cost g.floor ∷ []))))

abbrev pub line : List ℕ → List ℕ
line l = l ++ (10 ∷ [])

abbrev pub file : Figures → List ℕ
file g = flat_map line (texts g)

abbrev pub fits : ℕ → ℕ → Bool
fits width x = nat_lt x (16 ^ width)

abbrev pub fits_unsigned : ℕ → ℤ → Bool
fits_unsigned width z = int_le (pos 0) z && fits width (unsigned_abs z)

-- from −2^31 to 2^31 − 1
abbrev pub fits_signed : ℤ → Bool
fits_signed z = int_le (negsuc 2147483647) z && int_le z (pos 2147483647)

abbrev pub head_fits : Head → Bool
head_fits h =
    fits 4 h.roughness && fits 6 h.misfit && fits 6 h.bend
    && fits 4 h.readings && fits 4 h.stiffness && fits 4 h.denominator && fits 16 h.allowance

abbrev pub reading_fits : Reading → Bool
reading_fits r = fits_unsigned 8 r.minute && fits_unsigned 4 r.crude && fits_unsigned 4 r.weight

abbrev pub entry_fits : ℤ → Bool
entry_fits v = fits_unsigned 4 v

abbrev pub multiplier_fits : ℤ → Bool
multiplier_fits m = fits_signed m

pub record Fitting (g : Figures) : Type 0 where
  pub head : head_fits g.head ≡ true
  pub readings : AllByRecursion (λ r. reading_fits r ≡ true) g.readings
  pub entries : AllByRecursion (λ v. entry_fits v ≡ true) g.entries
  pub multipliers : AllByRecursion (λ m. multiplier_fits m ≡ true) g.multipliers
  pub cost : Fits 16 g.cost
  pub floor : FitsSigned w64 g.floor
  -- the head says how many readings there are, and there are as many entries
  pub count : length g.readings ≡ g.head.readings
  pub table : length g.entries ≡ g.head.readings
  -- the last place of the multipliers fits its field
  pub places : length g.multipliers ≤ 65536

abbrev pub file_length : ℕ → ℕ → ℕ
file_length n m = 84 + 34 * n + 15 * m
