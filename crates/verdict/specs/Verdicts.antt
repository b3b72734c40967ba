-- What the judge answers.
--     Faulty          the faults of bytes under three kinds, at their ranks
--     Found           bytes that are the file of lawful figures; or the fault that comes first
--     Judges          the whole promise of the judge
use Rattle.std.specs.Prelude.{◌≡◌, ℕ, List, None, Ok, Err, Result, ◌≢◌}
use Rattle.kinds.specs.declared.refusal.Cause.{Cause}
use Rattle.kinds.specs.declared.refusal.Cause.TheVariants.{Steep}
use Rattle.objective.specs.Checks.{kinds_no}
use Rattle.objective.specs.Objective.{KindsMeaning}
use Rattle.archive.specs.File.{Figures, file}
use Rattle.reader.specs.declared.contents.Contents.{Contents}
use Rattle.reader.specs.declared.fault.Fault.{Fault}
use Rattle.reader.specs.Faults.{Rank, rank, Least}
use Rattle.reader.specs.Readable.{figures_of, InForm, Unreadable, Gives}
use Rattle.verdict.specs.Lawful.{wanted_of, Filed, NearTheBest}
use Rattle.verdict.specs.Wrong.{Wrong}

pub data Faulty (k : KindsMeaning) (bs : List ℕ) : Rank → Cause → Type 0 where
  -- a growth above 2,000 or a steepness above 100
  steep : (kinds_no k ≢ None) → Faulty k bs (rank 0 0 0) Steep
  -- a fault of lines or frames
  unreadable : {q : Rank} {c : Cause} → Unreadable (wanted_of k) bs q c → Faulty k bs q c
  -- a fault of the figures that were read
  wrong : {q : Rank} {c : Cause} (g : Figures) → InForm (wanted_of k) g → bs ≡ file g → Wrong k g q c → Faulty k bs q c

abbrev pub Found : KindsMeaning → List ℕ → Result Contents Fault → Type 0
Found k bs (Ok c) = Filed k bs (figures_of c) × NearTheBest k (figures_of c)
Found k bs (Err f) = Least (Faulty k bs) f

pub record Judges (k : KindsMeaning) (bs : List ℕ) (r : Result Contents Fault) : Type 0 where
  -- what is accepted is the file of lawful figures, and near the best; else the answer is the first fault
  pub found : Found k bs r
  -- every file of lawful figures is accepted, as these figures
  pub accepts : (g : Figures) → Filed k bs g → Gives g r
