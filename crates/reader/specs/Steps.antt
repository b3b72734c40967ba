-- What the frame layer's machine does, frame by frame.
--     no_reading      what stands past the last reading
--     text_of         the line that figures have for a stage
--     fits_of         whether the figures of that line fit their fields
--     Put             figures with the line of one stage put in: that of every other stage is as it was
--     Running         a machine behind the head: it waits for what has to come after the lines it took
--     HeadTaken       a head that the machine takes
--     LineTaken       a later line that the machine takes
--     HeadStepped, LineStepped       a step at the head, and behind it
--     Stepped         one step: of the line, its number, the machine before and after, and the answer; `SteppedAt` by stage
use Rattle.std.specs.Prelude.{◌≡◌, ℕ, ◌+◌, ◌-◌, ◌<◌, ◌≤◌, Bool, true, List, [], pos, Ok, Err, Option, Result, ◌≢◌, slice_index_or}
use Rattle.kinds.specs.declared.reading.Reading.{Reading as NotedReading}
use Rattle.kinds.specs.declared.refusal.Cause.TheVariants.{Frame}
use Rattle.archive.specs.File.{Figures, edition, head_text, reading_text, entry_text, multiplier_text, end_text, head_fits, reading_fits, entry_fits, multiplier_fits}
use Rattle.reader.specs.declared.contents.Wanted.{Wanted}
use Rattle.reader.specs.declared.fault.Fault.{Fault}
use Rattle.reader.specs.declared.machine.Machine.{Machine}
use Rattle.reader.specs.declared.stage.Stage.{Stage}
use Rattle.reader.specs.declared.stage.Stage.TheVariants.{Head, Reading, Entry, Multiplier, End, Nothing}
use Rattle.reader.specs.declared.fault.Layer.TheVariants as layer
use Rattle.reader.specs.Faults.{found_by}
use Rattle.reader.specs.Heads.{HeadRefused}
use Rattle.reader.specs.Frames.{stage_at, InTurn, HeadIs, Agrees, reach_of}
use Rattle.reader.specs.Readable.{figures_of}

abbrev pub no_reading : NotedReading
no_reading = record { minute = pos 0; crude = pos 0; weight = pos 0 }

abbrev pub text_of : Figures → Stage → List ℕ
text_of g Head = head_text edition g.head
text_of g (Reading k) = reading_text k (slice_index_or g.readings k no_reading)
text_of g (Entry k) = entry_text k (slice_index_or g.entries k (pos 0))
text_of g (Multiplier k) = multiplier_text k (slice_index_or g.multipliers k (pos 0))
text_of g End = end_text g.cost g.floor
text_of g Nothing = []

abbrev pub fits_of : Figures → Stage → Bool
fits_of g Head = head_fits g.head
fits_of g (Reading k) = reading_fits (slice_index_or g.readings k no_reading)
fits_of g (Entry k) = entry_fits (slice_index_or g.entries k (pos 0))
fits_of g (Multiplier k) = multiplier_fits (slice_index_or g.multipliers k (pos 0))
fits_of g End = true
fits_of g Nothing = true

pub record Put (s : Stage) (l : List ℕ) (g g' : Figures) : Type 0 where
  pub text : text_of g' s ≡ l
  pub fit : fits_of g' s ≡ true
  pub texts : (o : Stage) → (o ≢ s) → text_of g' o ≡ text_of g o
  pub fits : (o : Stage) → (o ≢ s) → fits_of g' o ≡ fits_of g o

pub record Running (m : Machine) : Type 0 where
  pub waits : m.stage ≡ stage_at m.contents.head.readings m.contents.count m.taken
  pub room : m.taken ≤ m.contents.head.readings + m.contents.head.readings + m.contents.count + 1

pub record HeadTaken (w : Option Wanted) (l : List ℕ) (m : Machine) : Type 0 where
  pub head : HeadIs l edition m.contents.head
  pub agrees : Agrees w m.contents.head
  pub long : reach_of w < m.contents.head.readings
  pub count : m.contents.count ≡ m.contents.head.readings - reach_of w
  pub none : m.taken ≡ 0
  pub running : Running m

pub record LineTaken (l : List ℕ) (m m' : Machine) : Type 0 where
  pub put : Put m.stage l (figures_of m.contents) (figures_of m'.contents)
  pub head : m'.contents.head ≡ m.contents.head
  pub count : m'.contents.count ≡ m.contents.count
  pub taken : m'.taken ≡ m.taken + 1
  pub more : m.taken ≤ m.contents.head.readings + m.contents.head.readings + m.contents.count
  pub running : Running m'

abbrev pub LineStepped : List ℕ → ℕ → Machine → Machine → Result (Unit {0}) Fault → Type 0
LineStepped l at m m' (Ok _) = LineTaken l m m'
LineStepped l at m m' (Err f) = (f ≡ found_by layer.Frames Frame at) × (InTurn m.stage l → ⊥)

abbrev pub HeadStepped : Option Wanted → List ℕ → ℕ → Machine → Result (Unit {0}) Fault → Type 0
HeadStepped w l at m' (Ok _) = HeadTaken w l m'
HeadStepped w l at m' (Err f) = HeadRefused w l at f

abbrev pub SteppedAt : Option Wanted → List ℕ → ℕ → Machine → Machine → Stage → Result (Unit {0}) Fault → Type 0
SteppedAt w l at m m' Head r = HeadStepped w l at m' r
SteppedAt w l at m m' (Reading k) r = LineStepped l at m m' r
SteppedAt w l at m m' (Entry k) r = LineStepped l at m m' r
SteppedAt w l at m m' (Multiplier k) r = LineStepped l at m m' r
SteppedAt w l at m m' End r = LineStepped l at m m' r
SteppedAt w l at m m' Nothing r = LineStepped l at m m' r

abbrev pub Stepped : Option Wanted → List ℕ → ℕ → Machine → Machine → Result (Unit {0}) Fault → Type 0
Stepped w l at m m' r = SteppedAt w l at m m' m.stage r
