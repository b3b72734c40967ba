-- Figures that fit their fields.
--     signed_fits                     a multiplier that fits is a number of 32 bits
--     all_from_fit, fit_from_all      the test of a list, and what holds of each of its elements
use Rattle.std.proofs.Common.{◌≡◌, Bool, true, List, [], ◌∷◌, ℤ, pos, negsuc, refl, arith, w32, SFits}
use Rattle.std.specs.List.{AllByRecursion}
use Rattle.std.proofs.lemmas.Bool.{and_parts, and_from}
use Rattle.archive.specs.File.{multiplier_fits}
use Rattle.archive.specs.Writing.{all_fit}

pub signed_fits : (z : ℤ) → multiplier_fits z ≡ true → SFits w32 z
signed_fits (pos n) e = record { sfits = grind arith }
signed_fits (negsuc n) e = record { sfits = grind arith }

pub all_from_fit : {X : Type 0} (test : X → Bool) (xs : List X) → all_fit test xs ≡ true → AllByRecursion (λ x. test x ≡ true) xs
all_from_fit test [] e = tt
all_from_fit test (x ∷ xs) e = let p = and_parts (test x) (all_fit test xs) e in (p.0, all_from_fit test xs p.1)

pub fit_from_all : {X : Type 0} (test : X → Bool) (xs : List X) → AllByRecursion (λ x. test x ≡ true) xs → all_fit test xs ≡ true
fit_from_all test [] a = refl
fit_from_all test (x ∷ xs) a = and_from (test x) (all_fit test xs) a.0 (fit_from_all test xs a.1)
