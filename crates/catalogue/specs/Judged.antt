-- What is answered about a file whose kinds are told by marks.
--     Marked           that three known kinds have these marks, of what the kinds mean
--     TurnedDown       the answer where no known kinds have the marks: the fault that comes first, as no head agrees then
--     Judged           the answer about a file under three marks
--     head_of          line 1 of a file
--     marks_of         the marks in a head
--     Stands           that marks, if a file has a head, are those that stand in it
--     JudgedByHead     the answer about a file under the marks that its own head has
use Rattle.std.specs.Prelude.{◌≡◌, ℕ, List, [], Some, None, Ok, Err, Option, Result, slice_index_or}
use Rattle.objective.specs.Objective.{KindsMeaning, three}
use Rattle.archive.specs.declared.figures.Head.{Head}
use Rattle.reader.specs.declared.contents.Contents.{Contents}
use Rattle.reader.specs.declared.fault.Fault.{Fault}
use Rattle.reader.specs.Faults.{Least}
use Rattle.reader.specs.Lines.{pieces}
use Rattle.reader.specs.Frames.{HeadIs}
use Rattle.reader.specs.Readable.{Unreadable}
use Rattle.verdict.specs.Verdicts.{Judges}
use Rattle.known.specs.declared.penalty.KnownPenalty.{KnownPenalty}
use Rattle.known.specs.declared.roughness_kind.KnownRoughness.{KnownRoughness}
use Rattle.known.specs.Known.{roughness_meaning, penalty_meaning}
use Rattle.catalogue.specs.declared.marks.Marks.{Marks}

pub record Marked (m : Marks) (k : KindsMeaning) : Type 0 where
  pub roughness : KnownRoughness
  pub misfit : KnownPenalty
  pub bend : KnownPenalty
  pub are : k ≡ three (roughness_meaning roughness) (penalty_meaning misfit) (penalty_meaning bend)
  pub roughness_mark : k.roughness.mark ≡ m.roughness
  pub misfit_mark : k.misfit.mark ≡ m.misfit
  pub bend_mark : k.bend.mark ≡ m.bend

abbrev pub TurnedDown : List ℕ → Result Contents Fault → Type 0
TurnedDown bs (Ok c) = ⊥
TurnedDown bs (Err f) = Least (Unreadable None bs) f

pub data Judged (m : Marks) (bs : List ℕ) (a : Result Contents Fault) : Type 0 where
  -- known kinds have these marks: what the judge answers under whichever of them
  known : (k : KindsMeaning) → Marked m k → ((j : KindsMeaning) → Marked m j → Judges j bs a) → Judged m bs a
  -- no known kinds have them
  unknown : ((k : KindsMeaning) → Marked m k → ⊥) → TurnedDown bs a → Judged m bs a

abbrev pub head_of : List ℕ → List ℕ
head_of bs = slice_index_or (pieces bs) 0 []

abbrev pub marks_of : Head → Marks
marks_of h = record { roughness = h.roughness; misfit = h.misfit; bend = h.bend }

-- of the file and the marks, where any could be read
abbrev pub Stands : List ℕ → Option Marks → Type 0
Stands bs (Some m) = (e : ℕ) (h : Head) → HeadIs (head_of bs) e h → m ≡ marks_of h
Stands bs None = (e : ℕ) (h : Head) → HeadIs (head_of bs) e h → ⊥

pub record JudgedByHead (bs : List ℕ) (a : Result Contents Fault) : Type 0 where
  pub headed : (e : ℕ) (h : Head) → HeadIs (head_of bs) e h → Judged (marks_of h) bs a
  -- line 1 is no head
  pub headless : ((e : ℕ) (h : Head) → HeadIs (head_of bs) e h → ⊥) → TurnedDown bs a
