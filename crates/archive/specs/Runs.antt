-- Runs of the calls that write a file, whoever makes them, refused calls among them.
--     ListRun          a run of calls on one list: how it starts, what each call does, and the figures that were taken
--     ReadingsRun      a run from a head that was taken on, through the readings
--     EntriesRun       the same through the entries, MultipliersRun through the multipliers
--     WholeRun        a run that is ended: the figures that were handed over and taken, the stage and the place afterwards
--     EveryRunWrites  that every such run wrote the file of these figures at the start of the place, and nothing else there
use Rattle.std.specs.Prelude.{◌≡◌, ℕ, List, [], ◌∷◌, ◌++◌, ℤ, Ok, Err, Result}
use Rattle.kinds.specs.declared.reading.Reading.{Reading}
use Rattle.archive.specs.declared.figures.Head.{Head}
use Rattle.archive.specs.declared.stages.AtEntries.{AtEntries}
use Rattle.archive.specs.declared.stages.AtMultipliers.{AtMultipliers}
use Rattle.archive.specs.declared.stages.AtReadings.{AtReadings}
use Rattle.archive.specs.declared.stages.Ended.{Ended}
use Rattle.archive.specs.declared.stages.Opened.{Opened}
use Rattle.archive.specs.declared.stages.Refused.{Refused}
use Rattle.archive.specs.declared.stages.Unfinished.{Unfinished}
use Rattle.archive.specs.File.{Figures, file}
use Rattle.archive.specs.Writing.{Puts, opened, HeadStep, ReadingStep, EntryStep, MultiplierStep, EndStep, ListStep}

-- of the stage and the place that a run has come to, and the figures that were taken on the way
pub data ListRun {S X : Type 0} (Starts : Unfinished S → List ℕ → Type 0) (Step : X → Unfinished S → List ℕ → List ℕ → Result (Unfinished S) (Refused (Unfinished S)) → Type 0) : Unfinished S → List ℕ → List X → Type 0 where
  starts : (s : Unfinished S) (a : List ℕ) → Starts s a → ListRun Starts Step s a []
  taken : (s t : Unfinished S) (a b : List ℕ) (xs : List X) (x : X) → ListRun Starts Step s a xs → Step x s a b (Ok t) → ListRun Starts Step t b (xs ++ (x ∷ []))
  refused : (s : Unfinished S) (e : Refused (Unfinished S)) (a b : List ℕ) (xs : List X) (x : X) → ListRun Starts Step s a xs → Step x s a b (Err e) → ListRun Starts Step e.stage b xs

-- of the place at first, the head and the number of multipliers
abbrev pub ReadingsRun : List ℕ → Head → ℕ → Unfinished AtReadings → List ℕ → List Reading → Type 0
ReadingsRun first h m = ListRun (λ t b. (s : Unfinished Opened) × (s.progress ≡ opened) × HeadStep h m s first b (Ok t)) ReadingStep

abbrev pub EntriesRun : List ℕ → Head → ℕ → List Reading → Unfinished AtEntries → List ℕ → List ℤ → Type 0
EntriesRun first h m xs = ListRun (λ t a. (s : Unfinished AtReadings) × ReadingsRun first h m s a xs × ListStep s (Ok t)) EntryStep

abbrev pub MultipliersRun : List ℕ → Head → ℕ → List Reading → List ℤ → Unfinished AtMultipliers → List ℕ → List ℤ → Type 0
MultipliersRun first h m xs vs = ListRun (λ t a. (s : Unfinished AtEntries) × EntriesRun first h m xs s a vs × ListStep s (Ok t)) MultiplierStep

pub record WholeRun (first : List ℕ) (m : ℕ) (g : Figures) (t : Ended) (b : List ℕ) : Type 0 where
  pub stage : Unfinished AtMultipliers
  pub place : List ℕ
  pub before : MultipliersRun first g.head m g.readings g.entries stage place g.multipliers
  pub last : EndStep g.cost g.floor stage place b (Ok t)

abbrev pub EveryRunWrites : Type 0
EveryRunWrites = (first : List ℕ) (m : ℕ) (g : Figures) (t : Ended) (b : List ℕ) → WholeRun first m g t b → Puts first b 0 t.bytes (file g)
