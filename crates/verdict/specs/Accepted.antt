-- The figures of a file that was accepted, place by place.
--     figure_at       the figure at a place of a list, refused past the last one
use Rattle.std.specs.Prelude.{ℕ, List, length, Result, nat_lt, slice_index_or}
use Rattle.kinds.specs.declared.refusal.Cause.TheVariants.{Place}
use Rattle.kinds.specs.declared.refusal.Refusal.{Refusal}
use Rattle.kinds.specs.Checks.{at, unless, answer}

-- the last argument is of no account
abbrev pub figure_at : {X : Type 0} → List X → ℕ → X → Result X Refusal
figure_at xs place d = answer (unless (nat_lt place (length xs)) (at Place 0)) (slice_index_or xs place d)
