-- What a line says.
--     word_then       reads the first word, and goes on with what it says and the words behind it
--     only            a line, if no word is left
--     kinds_of, set_of, note_of, table_of, multipliers_of
--                     the line that the words behind such a name give, if they give one
--     call_of         the call that a word names, if it names one
--     line_for        for each call, the line that the words behind its name give
--     listed_for      for each call, the figures that these words list
--     call_line, call_listed
--                     the same, by the name of the call
--     or_unknown      a line, or the unknown one if there is none
--     line_in, listed_in
--                     the line that words give, and the figures that they list: nothing for no words, and for a first
--                     word that begins with # (35)
--     line_of         the line that bytes give
--     listed_of       the figures that bytes list, if they are a table or multipliers
use Rattle.std.specs.Prelude.{ℕ, cond, List, [], ◌∷◌, length, ℤ, Some, None, codes, Option}
use Rattle.words.specs.declared.grammar.Line.{Line}
use Rattle.words.specs.declared.grammar.Line.TheVariants as line
use Rattle.words.specs.declared.grammar.Call.{Call}
use Rattle.words.specs.declared.grammar.Call.TheVariants as call
use Rattle.words.specs.Words.{words_of, begins}
use Rattle.words.specs.Figures.{figure_of}
use Rattle.words.specs.Arguments.{and_then, first_as, behind, figures_of}
use Rattle.words.specs.Spellings.{named, roughness_of, penalty_of}

abbrev pub word_then : {A B : Type 0} → (List ℕ → Option A) → List (List ℕ) → (A → List (List ℕ) → Option B) → Option B
word_then read ws on = and_then (first_as read ws) (λ a. on a (behind ws))

abbrev pub only : List (List ℕ) → Line → Option Line
only [] said = Some said
only (w ∷ ws) said = None

abbrev pub kinds_of : List (List ℕ) → Option Line
kinds_of ws =
    word_then roughness_of ws (λ roughness ws.
    word_then penalty_of ws (λ misfit ws.
    word_then penalty_of ws (λ bend ws. only ws (line.Kinds roughness misfit bend))))

abbrev pub set_of : List (List ℕ) → Option Line
set_of ws =
    word_then figure_of ws (λ stiffness ws.
    word_then figure_of ws (λ allowance ws. only ws (line.Set stiffness allowance)))

abbrev pub note_of : List (List ℕ) → Option Line
note_of ws =
    word_then figure_of ws (λ minute ws.
    word_then figure_of ws (λ crude ws.
    word_then figure_of ws (λ weight ws. only ws (line.Note minute crude weight))))

abbrev pub table_of : List (List ℕ) → Option Line
table_of ws = and_then (figures_of ws) (λ fs. Some (line.Table (length fs)))

abbrev pub multipliers_of : List (List ℕ) → Option Line
multipliers_of ws =
    word_then figure_of ws (λ denominator ws.
    and_then (figures_of ws) (λ fs. Some (line.Multipliers denominator (length fs))))

abbrev pub call_of : List ℕ → Option Call
call_of =
    named ((codes "kinds", call.Kinds) ∷ (codes "set", call.Set) ∷ (codes "note", call.Note) ∷ (codes "table", call.Table)
    ∷ (codes "multipliers", call.Multipliers) ∷ [])

abbrev pub line_for : Call → List (List ℕ) → Option Line
line_for call.Kinds ws = kinds_of ws
line_for call.Set ws = set_of ws
line_for call.Note ws = note_of ws
line_for call.Table ws = table_of ws
line_for call.Multipliers ws = multipliers_of ws

abbrev pub listed_for : Call → List (List ℕ) → Option (List ℤ)
listed_for call.Kinds ws = None
listed_for call.Set ws = None
listed_for call.Note ws = None
listed_for call.Table ws = figures_of ws
listed_for call.Multipliers ws = word_then figure_of ws (λ denominator ws. figures_of ws)

abbrev pub call_line : List ℕ → List (List ℕ) → Option Line
call_line name ws = and_then (call_of name) (λ called. line_for called ws)

abbrev pub call_listed : List ℕ → List (List ℕ) → Option (List ℤ)
call_listed name ws = and_then (call_of name) (λ called. listed_for called ws)

abbrev pub or_unknown : Option Line → Line
or_unknown None = line.Unknown
or_unknown (Some said) = said

abbrev pub line_in : List (List ℕ) → Line
line_in [] = line.Blank
line_in (name ∷ ws) = cond (begins 35 name) line.Blank (or_unknown (call_line name ws))

abbrev pub listed_in : List (List ℕ) → Option (List ℤ)
listed_in [] = None
listed_in (name ∷ ws) = cond (begins 35 name) None (call_listed name ws)

unfoldable pub line_of : List ℕ → Line
line_of bs = line_in (words_of bs)

unfoldable pub listed_of : List ℕ → Option (List ℤ)
listed_of bs = listed_in (words_of bs)
