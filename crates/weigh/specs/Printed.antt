-- The lines that the program prints, as bytes.
--     figures_text    figures, with a space before each
--     answer_text     of an answer
--     no_text         why the line of such a number was not carried out
--     line_text       what such a line came to
--     reply_text      of a line's answer, or why there is none
--     side_text       on which side of the allowance a gap lies
--     gap_text        of a gap over its denominator
--     tally_text      of a tally
use Rattle.std.specs.Prelude.{ℕ, cond, List, ◌++◌, ℤ, pos, Ok, Err, Result, codes, int_le, unsigned_abs}
use Rattle.std.specs.Fmt.{decimal, signed_decimal}
use Rattle.std.specs.List.{flat_map}
use Rattle.kinds.specs.Refusals.{number_of}
use Rattle.objective.specs.declared.gap.Gap.{Gap}
use Rattle.weigh.specs.declared.answer.Answer.{Answer}
use Rattle.weigh.specs.declared.answer.Answer.TheVariants.{Done, Table, Multipliers}
use Rattle.weigh.specs.declared.answer.No.{No}
use Rattle.weigh.specs.declared.answer.No.TheVariants.{Refused, NotACall}
use Rattle.weigh.specs.declared.firing.GapOver.{GapOver}
use Rattle.weigh.specs.declared.report.Reply.{Reply}
use Rattle.weigh.specs.declared.tally.Tally.{Tally}

abbrev pub figures_text : List ℤ → List ℕ
figures_text fs = flat_map (λ f. codes " " ++ signed_decimal f) fs

abbrev pub answer_text : Answer → List ℕ
answer_text Done = codes "ok"
answer_text (Table cost rows) = codes "rows" ++ figures_text rows.now ++ codes " cost " ++ decimal cost
answer_text (Multipliers floor columns) =
    codes "columns" ++ figures_text columns.now ++ codes " floor " ++ signed_decimal floor

abbrev pub no_text : ℕ → No → List ℕ
no_text number (Refused r) = codes "no " ++ decimal (number_of r.cause) ++ codes " " ++ decimal r.place
no_text number NotACall = codes "line " ++ decimal number ++ codes " is not a call"

abbrev pub line_text : ℕ → Result Answer No → List ℕ
line_text number (Ok a) = answer_text a
line_text number (Err why) = no_text number why

abbrev pub reply_text : Reply → List ℕ
reply_text r = line_text r.number r.answer

abbrev pub side_text : Gap → List ℕ
side_text g = cond (int_le (pos 0) g.spare) (codes "within") (codes "above")

abbrev pub gap_text : GapOver → List ℕ
gap_text g =
    codes "gap " ++ signed_decimal g.gap.scaled ++ codes "/" ++ signed_decimal g.denominator ++ codes " "
    ++ side_text g.gap ++ codes " the allowance by " ++ decimal (unsigned_abs g.gap.spare) ++ codes "/"
    ++ signed_decimal g.denominator

abbrev pub tally_text : Tally → List ℕ
tally_text t =
    decimal t.calls ++ codes " calls, " ++ decimal t.refused ++ codes " refused, "
    ++ decimal t.unknown ++ codes " lines not understood"
