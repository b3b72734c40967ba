-- Lawful minutes: the first is 0 to 60, and each later one is 1 to 60 above the one before.
--     may_begin       whether a minute can be the first
--     may_follow      whether the second minute can come right after the first
--     may_come        whether a minute can come next, after the last one that is given or as the first
--     lawful_from     whether minutes can come after others, the last of which is given, or after none
--     lawful          whether minutes are lawful
use Rattle.std.specs.Prelude.{Bool, true, ◌&&◌, List, [], ◌∷◌, ℤ, pos, ◌+ℤ◌, Some, None, Option, int_le, int_lt}

abbrev pub may_begin : ℤ → Bool
may_begin t = int_le (pos 0) t && int_le t (pos 60)

abbrev pub may_follow : ℤ → ℤ → Bool
may_follow s t = int_lt s t && int_le t (s +ℤ pos 60)

abbrev pub may_come : Option ℤ → ℤ → Bool
may_come None t = may_begin t
may_come (Some s) t = may_follow s t

abbrev pub lawful_from : Option ℤ → List ℤ → Bool
lawful_from last [] = true
lawful_from last (t ∷ ts) = may_come last t && lawful_from (Some t) ts

abbrev pub lawful : List ℤ → Bool
lawful ts = lawful_from None ts
