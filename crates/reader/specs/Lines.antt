-- The lines of a file.
--     Good            a line of 2 to 60 digits
--     pieces          what stands before each end byte, and at last what stands after them all
--     Broken          that a line, counted from 0, is broken: it is not good, or it has no end byte
--     Whole           that no line is broken
--     FirstBroken     that a fault names the first broken line
--     is_known        whether a byte is a digit or an end byte
--     Known           that all bytes are
-- A file that ends with an end byte has an empty last piece, which is no line. A file without any byte has one line, and
-- that line is broken.
use Rattle.std.specs.Prelude.{◌≡◌, ℕ, suc, ◌<◌, ◌≤◌, Bool, true, cond, ◌||◌, ◌⊎◌, List, [], ◌∷◌, length, ◌==◌, ◌≢◌, slice_index_or}
use Rattle.std.specs.List.{AllByRecursion}
use Rattle.kinds.specs.declared.refusal.Cause.TheVariants.{Line}
use Rattle.digits.specs.Fields.{is_digit, Digits}
use Rattle.reader.specs.declared.fault.Fault.{Fault}
use Rattle.reader.specs.declared.fault.Layer.TheVariants as layer
use Rattle.reader.specs.Faults.{found_by}

pub record Good (l : List ℕ) : Type 0 where
  pub least : 2 ≤ length l
  pub most : length l ≤ 60
  pub digits : Digits l

-- a byte put before the first piece
abbrev pub before_first : ℕ → List (List ℕ) → List (List ℕ)
before_first b [] = (b ∷ []) ∷ []
before_first b (p ∷ ps) = (b ∷ p) ∷ ps

unfoldable pub pieces : List ℕ → List (List ℕ)
pieces [] = [] ∷ []
pieces (b ∷ bs) = cond (b == 10) ([] ∷ pieces bs) (before_first b (pieces bs))

-- a piece with an end byte that is not good; or the last piece, unless it is empty and others stand before it
abbrev pub Broken : List ℕ → ℕ → Type 0
Broken bs k =
    ((suc k < length (pieces bs)) × (Good (slice_index_or (pieces bs) k []) → ⊥))
    ⊎ ((suc k ≡ length (pieces bs)) × ((k ≡ 0) ⊎ (slice_index_or (pieces bs) k [] ≢ [])))

abbrev pub Whole : List ℕ → Type 0
Whole bs = (k : ℕ) → Broken bs k → ⊥

pub record FirstBroken (bs : List ℕ) (f : Fault) : Type 0 where
  pub at : ℕ
  pub is : f ≡ found_by layer.Lines Line (suc at)
  pub broken : Broken bs at
  pub before : (j : ℕ) → j < at → Broken bs j → ⊥

abbrev pub is_known : ℕ → Bool
is_known b = is_digit b || b == 10

abbrev pub Known : List ℕ → Type 0
Known bs = AllByRecursion (λ b. is_known b ≡ true) bs
