-- What a line comes to, on the firing at hand, and what it leaves.
--     kinds_of, noted       the meanings of a firing's kinds, and its readings
--     table_no, multipliers_no      the checks of a table and of multipliers on a firing
--     Told                  an answer with its rows or columns as a list; `told` is that of an answer
--     told_result, maybe_told       the same of an answer or why there is none, and where a line may be blank
--     said                  an answer where checks pass, and the refusal else
--     table_answer, multipliers_answer      what a table and multipliers on a firing come to
--     table_leaves, multipliers_leave       the firing after them, if they are accepted
--     line_answer, call_answer      what a line comes to that is no kinds: of its figures, and the room for rows or
--                           columns
--     line_leaves, call_leaves      the firing after it, if it is accepted
--     Begun                 a fresh firing with kinds of such a meaning is at hand
--     Starts                such a firing is at hand once kinds are taken, and else the old one stays
--     Called                what a line comes to that is neither blank nor kinds, and the firing after it
--     Answers               what a line comes to, and the firing after it, with or without a firing before
use Rattle.std.specs.Prelude.{◌≡◌, ℕ, min, List, length, take, ℤ, Some, None, Ok, Err, Option, Result, IsSomeAnd, MatchResult, unsigned_abs}
use Rattle.std.specs.Option.{option_map}
use Rattle.kinds.specs.declared.reading.Reading.{Reading}
use Rattle.kinds.specs.declared.refusal.Refusal.{Refusal}
use Rattle.objective.specs.Checks.{settings_no, weigh_table_no, weigh_multipliers_no}
use Rattle.objective.specs.Objective.{KindsMeaning, rows_of, columns_of, cost_of, floor_of}
use Rattle.words.specs.declared.grammar.Line.{Line}
use Rattle.words.specs.declared.grammar.Line.TheVariants as line
use Rattle.weigh.specs.declared.answer.Answer.{Answer}
use Rattle.weigh.specs.declared.answer.Answer.TheVariants.{Done, Table, Multipliers}
use Rattle.weigh.specs.declared.answer.No.{No}
use Rattle.weigh.specs.declared.answer.No.TheVariants.{Refused, NotACall}
use Rattle.weigh.specs.declared.firing.Firing.{Firing}
use Rattle.weigh.specs.Firings.{fresh, with_settings, with_reading, with_cost, with_floor}
use Rattle.weigh.specs.Named.{meaning_of, named_kinds}
use Rattle.weigh.specs.Steps.{next_no}

abbrev pub kinds_of : Firing → KindsMeaning
kinds_of f = meaning_of f.given.kinds

abbrev pub noted : Firing → List Reading
noted f = f.given.readings

abbrev pub table_no : Firing → List ℤ → ℕ → Option Refusal
table_no f vs room = weigh_table_no (kinds_of f) f.given.stiffness (noted f) vs room

abbrev pub multipliers_no : Firing → ℤ → List ℤ → ℕ → Option Refusal
multipliers_no f d ms room = weigh_multipliers_no (kinds_of f) f.given.stiffness (noted f) d ms room

pub data Told : Type 0 where
  done : Told
  -- of the cost and the rows
  table : ℕ → List ℤ → Told
  -- of the floor and the columns
  multipliers : ℤ → List ℤ → Told

abbrev pub told : Answer → Told
told Done = done
told (Table cost rows) = table cost rows.now
told (Multipliers floor columns) = multipliers floor columns.now

abbrev pub told_result : Result Answer No → Result Told No
told_result (Ok a) = Ok (told a)
told_result (Err why) = Err why

abbrev pub maybe_told : Option (Result Answer No) → Option (Result Told No)
maybe_told a = option_map told_result a

abbrev pub said : Option Refusal → Told → Result Told No
said None a = Ok a
said (Some r) a = Err (Refused r)

abbrev pub table_answer : Firing → List ℤ → ℕ → Result Told No
table_answer f vs room =
    said (table_no f vs room)
    (table (cost_of (kinds_of f) (unsigned_abs f.given.stiffness) (noted f) vs)
    (rows_of (kinds_of f) (noted f) vs))

abbrev pub table_leaves : Firing → List ℤ → Firing
table_leaves f vs = with_cost f (cost_of (kinds_of f) (unsigned_abs f.given.stiffness) (noted f) vs)

abbrev pub multipliers_answer : Firing → ℤ → List ℤ → ℕ → Result Told No
multipliers_answer f d ms room =
    said (multipliers_no f d ms room) (multipliers (floor_of (kinds_of f) (noted f) ms) (columns_of (kinds_of f) (noted f) ms))

abbrev pub multipliers_leave : Firing → ℤ → List ℤ → Firing
multipliers_leave f d ms = with_floor f (floor_of (kinds_of f) (noted f) ms) d

abbrev pub line_answer : Firing → Line → List ℤ → ℕ → Result Told No
line_answer f line.Blank figures room = Err NotACall
line_answer f (line.Kinds roughness misfit bend) figures room = Err NotACall
line_answer f (line.Set stiffness allowance) figures room = said (settings_no stiffness allowance) done
line_answer f (line.Note minute crude weight) figures room =
    said (next_no (noted f) (record { minute = minute; crude = crude; weight = weight })) done
line_answer f (line.Table count) figures room = table_answer f (take (min count (length figures)) figures) room
line_answer f (line.Multipliers denominator count) figures room =
    multipliers_answer f denominator (take (min count (length figures)) figures) room
line_answer f line.Unknown figures room = Err NotACall

abbrev pub line_leaves : Firing → Line → List ℤ → Firing
line_leaves f line.Blank figures = f
line_leaves f (line.Kinds roughness misfit bend) figures = f
line_leaves f (line.Set stiffness allowance) figures = with_settings f stiffness allowance
line_leaves f (line.Note minute crude weight) figures =
    with_reading f (record { minute = minute; crude = crude; weight = weight })
line_leaves f (line.Table count) figures = table_leaves f (take (min count (length figures)) figures)
line_leaves f (line.Multipliers denominator count) figures =
    multipliers_leave f denominator (take (min count (length figures)) figures)
line_leaves f line.Unknown figures = f

-- of the firing at hand, a line that is neither blank nor kinds, its figures and the room
abbrev pub call_answer : Option Firing → Line → List ℤ → ℕ → Result Told No
call_answer None said_line figures room = Err NotACall
call_answer (Some f) said_line figures room = line_answer f said_line figures room

abbrev pub call_leaves : Option Firing → Line → List ℤ → Option Firing
call_leaves None said_line figures = None
call_leaves (Some f) said_line figures = Some (line_leaves f said_line figures)

abbrev pub Begun : KindsMeaning → Option Firing → Type 0
Begun k None = ⊥
Begun k (Some f) = (kinds_of f ≡ k) × (f ≡ fresh f.given.kinds)

-- of the firing before, the kinds that are named or why there are none, the answer, and the firing after
abbrev pub Starts : Option Firing → Result KindsMeaning No → Result Told No → Option Firing → Type 0
Starts before (Ok k) a after = (a ≡ Ok done) × Begun k after
Starts before (Err why) a after = (a ≡ Err why) × (after ≡ before)

-- of the firing before, a line that is neither blank nor kinds, its figures and the room, the answer, and the firing
-- after
abbrev pub Called : Option Firing → Line → List ℤ → ℕ → Option (Result Told No) → Option Firing → Type 0
Called before said_line figures room a after =
    IsSomeAnd a (λ r. (r ≡ call_answer before said_line figures room)
    × MatchResult r (λ _. after ≡ call_leaves before said_line figures) (λ _. after ≡ before))

-- of the firing before, a line with its figures and the room, the answer, and the firing after
abbrev pub Answers : Option Firing → Line → List ℤ → ℕ → Option (Result Told No) → Option Firing → Type 0
Answers before line.Blank figures room a after = (a ≡ None) × (after ≡ before)
Answers before (line.Kinds roughness misfit bend) figures room a after =
    IsSomeAnd a (λ r. Starts before (named_kinds roughness misfit bend) r after)
Answers before (line.Set stiffness allowance) figures room a after =
    Called before (line.Set stiffness allowance) figures room a after
Answers before (line.Note minute crude weight) figures room a after =
    Called before (line.Note minute crude weight) figures room a after
Answers before (line.Table count) figures room a after =
    Called before (line.Table count) figures room a after
Answers before (line.Multipliers denominator count) figures room a after =
    Called before (line.Multipliers denominator count) figures room a after
Answers before line.Unknown figures room a after = Called before line.Unknown figures room a after
