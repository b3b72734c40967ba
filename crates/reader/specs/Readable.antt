-- Which bytes can be read, and as what.
--     figures_of      the figures that contents hold; what their lists have behind these is left open, and means nothing
--     InForm          figures of which there is a file with the marks and the reach that are wanted
--     Unreadable      the faults of lines and frames, at their ranks
--     ReadAs          bytes are the file of the contents, which are in form; or the answer is the first fault
--     Gives           an answer has these figures
--     ComesBack       figures in form are read from their file as they were
use Rattle.std.specs.Prelude.{◌≡◌, ℕ, suc, ◌-◌, ◌<◌, ◌≤◌, List, length, take, Ok, Err, Option, Result}
use Rattle.kinds.specs.declared.refusal.Cause.{Cause}
use Rattle.kinds.specs.declared.refusal.Cause.TheVariants.{Line}
use Rattle.archive.specs.File.{Figures, Fitting, file}
use Rattle.reader.specs.declared.contents.Contents.{Contents}
use Rattle.reader.specs.declared.contents.Wanted.{Wanted}
use Rattle.reader.specs.declared.fault.Fault.{Fault}
use Rattle.reader.specs.Faults.{Rank, rank, Least}
use Rattle.reader.specs.Lines.{pieces, Broken}
use Rattle.reader.specs.Frames.{reach_of, Agrees, Disorder}

abbrev pub figures_of : Contents → Figures
figures_of c = record {
  head = c.head;
  readings = take c.head.readings c.readings;
  entries = take c.head.readings c.entries;
  multipliers = take c.count c.multipliers;
  cost = c.cost;
  floor = c.floor;
}

pub record InForm (w : Option Wanted) (g : Figures) : Type 0 where
  pub fitting : Fitting g
  pub agrees : Agrees w g.head
  pub few : g.head.readings ≤ 240
  pub long : reach_of w < g.head.readings
  pub count : length g.multipliers ≡ g.head.readings - reach_of w

pub data Unreadable (w : Option Wanted) (bs : List ℕ) : Rank → Cause → Type 0 where
  in_lines : {k : ℕ} → Broken bs k → Unreadable w bs (rank 1 (suc k) 0) Line
  in_frames : {l t : ℕ} {c : Cause} → Disorder w (pieces bs) l t c → Unreadable w bs (rank 2 l t) c

abbrev pub ReadAs : Option Wanted → List ℕ → Result Contents Fault → Type 0
ReadAs w bs (Ok c) = InForm w (figures_of c) × (bs ≡ file (figures_of c))
ReadAs w bs (Err f) = Least (Unreadable w bs) f

abbrev pub Gives : Figures → Result Contents Fault → Type 0
Gives g (Ok c) = figures_of c ≡ g
Gives g (Err f) = ⊥

abbrev pub ComesBack : Option Wanted → List ℕ → Result Contents Fault → Type 0
ComesBack w bs r = (g : Figures) → InForm w g → bs ≡ file g → Gives g r
