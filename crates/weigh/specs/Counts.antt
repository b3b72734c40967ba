-- How answers are counted.
--     one_more        a count and one, up to the largest that 64 bits hold
--     call_more       a tally and one call more
--     counted         a tally and one answer more
--     is_weighed      whether an answer is that of a table or of multipliers
use Rattle.std.specs.Prelude.{ℕ, ◌+◌, min, Bool, true, false, Ok, Err, Result}
use Rattle.weigh.specs.declared.answer.Answer.{Answer}
use Rattle.weigh.specs.declared.answer.Answer.TheVariants.{Done, Table, Multipliers}
use Rattle.weigh.specs.declared.answer.No.{No}
use Rattle.weigh.specs.declared.answer.No.TheVariants.{Refused, NotACall}
use Rattle.weigh.specs.declared.tally.Tally.{Tally}

abbrev pub one_more : ℕ → ℕ
one_more n = min (n + 1) 18446744073709551615

abbrev pub call_more : Tally → Tally
call_more t = record { calls = one_more t.calls; refused = t.refused; unknown = t.unknown }

abbrev pub counted : Tally → Result Answer No → Tally
counted t (Ok a) = call_more t
counted t (Err (Refused r)) = record { calls = one_more t.calls; refused = one_more t.refused; unknown = t.unknown }
counted t (Err NotACall) = record { calls = t.calls; refused = t.refused; unknown = one_more t.unknown }

abbrev pub is_weighed : Answer → Bool
is_weighed Done = false
is_weighed (Table cost rows) = true
is_weighed (Multipliers floor columns) = true
