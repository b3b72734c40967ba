-- Checks in their order, and the answer that they lead to. A check is `None` where it passes, and else its refusal.
--     at              a refusal
--     unless          the check of one test
--     located         the check of a search: refused at the place that was found
--     or_else         one check, and where it passes the next
--     first_of        checks in their order: the first that does not pass
--     first_off       the first place of a list at which a test fails
--     first_off_from  the same, of a list that begins at a place
--     answer          what a call answers after its checks: its value if they pass
use Rattle.std.specs.Prelude.{ℕ, ◌+◌, Bool, cond, List, [], ◌∷◌, Some, None, Ok, Err, Option, Result}
use Rattle.kinds.specs.declared.refusal.Cause.{Cause}
use Rattle.kinds.specs.declared.refusal.Refusal.{Refusal}

abbrev pub at : Cause → ℕ → Refusal
at c p = record { cause = c; place = p }

abbrev pub unless : Bool → Refusal → Option Refusal
unless b r = cond b None (Some r)

abbrev pub located : Cause → Option ℕ → Option Refusal
located c None = None
located c (Some p) = Some (at c p)

abbrev pub or_else : Option Refusal → Option Refusal → Option Refusal
or_else None next = next
or_else (Some r) next = Some r

abbrev pub first_of : List (Option Refusal) → Option Refusal
first_of [] = None
first_of (c ∷ cs) = or_else c (first_of cs)

-- the list's first element stands at place i
abbrev pub first_off_from : {X : Type 0} → (X → Bool) → ℕ → List X → Option ℕ
first_off_from test i [] = None
first_off_from test i (x ∷ xs) = cond (test x) (first_off_from test (i + 1) xs) (Some i)

abbrev pub first_off : {X : Type 0} → (X → Bool) → List X → Option ℕ
first_off test xs = first_off_from test 0 xs

abbrev pub answer : {X : Type 0} → Option Refusal → X → Result X Refusal
answer None x = Ok x
answer (Some r) x = Err r
