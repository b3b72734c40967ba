-- Searches for the first place at which a test fails.
use Rattle.std.proofs.Common.{◌≡◌, ℕ, zero, suc, ◌+◌, ◌<◌, Bool, true, not, List, [], ◌∷◌, length, get_or, None, refl, ◌∙◌, arith}
use Rattle.std.proofs.lemmas.Iterator.Adapters.{position_from-zero}
use Rattle.std.specs.List.{position, position_from}
use Rattle.kinds.specs.Checks.{first_off_from, first_off}

-- a search that found nothing: the test holds at every place
pub off_none : {X : Type 0} (test : X → Bool) (i : ℕ) (xs : List X) → first_off_from test i xs ≡ None → (k : ℕ) (d : X) → k < length xs → test (get_or xs k d) ≡ true
off_none test i [] e k d h = absurd (omega arith)
off_none test i (x ∷ xs) e zero d h = grind arith
off_none test i (x ∷ xs) e (suc k) d h = off_none test (i + 1) xs (grind arith) k d (omega arith)

-- the search of the library
position_off_from : {X : Type 0} (test : X → Bool) (i : ℕ) (xs : List X) → position_from (λ x. not (test x)) i xs ≡ first_off_from test i xs
position_off_from test i [] = refl
position_off_from test i (x ∷ xs) = let more = position_off_from test (i + 1) xs in grind arith

pub position_off : {X : Type 0} (test : X → Bool) (xs : List X) → position (λ x. not (test x)) xs ≡ first_off test xs
position_off test xs = position_from-zero (λ x. not (test x)) xs ∙ position_off_from test 0 xs
