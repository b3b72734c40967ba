-- The settings of a lopsided penalty.
--     is_side      whether a rise or a fall is one of 1 to 100
--     sides_no     the check of a rise and a fall
--     sides_made     the rise and the fall of what a call made, or its refusal
use Rattle.std.specs.Prelude.{ℕ, Bool, ◌&&◌, ℤ, pos, Ok, Err, Option, Result, int_le}
use Rattle.kinds.specs.declared.refusal.Cause.TheVariants.{Setting}
use Rattle.kinds.specs.declared.refusal.Refusal.{Refusal}
use Rattle.kinds.specs.Checks.{at, unless}

abbrev pub is_side : ℤ → Bool
is_side x = int_le (pos 1) x && int_le x (pos 100)

-- of rise and fall
abbrev pub sides_no : ℤ → ℤ → Option Refusal
sides_no rise fall = unless (is_side rise && is_side fall) (at Setting 0)

-- of what a call answers, and where the value that it made holds its rise and its fall
abbrev pub sides_made : {X : Type 0} → Result X Refusal → (X → ℕ) → (X → ℕ) → Result (ℤ × ℤ) Refusal
sides_made (Ok k) rise fall = Ok (pos (rise k), pos (fall k))
sides_made (Err e) rise fall = Err e
