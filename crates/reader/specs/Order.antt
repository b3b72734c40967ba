-- What the second layer finds.
--     FirstDisorder   that a fault is the first of those of the frames
--     FramesRead      figures in form of which the bytes are the file; or the first fault of the frames
use Rattle.std.specs.Prelude.{◌≡◌, ℕ, ◌<◌, ◌⊎◌, List, Ok, Err, Option, Result}
use Rattle.kinds.specs.declared.refusal.Cause.{Cause}
use Rattle.archive.specs.File.{file}
use Rattle.reader.specs.declared.contents.Contents.{Contents}
use Rattle.reader.specs.declared.contents.Wanted.{Wanted}
use Rattle.reader.specs.declared.fault.Fault.{Fault}
use Rattle.reader.specs.declared.fault.Layer.TheVariants as layer
use Rattle.reader.specs.Faults.{found_by}
use Rattle.reader.specs.Lines.{pieces}
use Rattle.reader.specs.Frames.{Disorder}
use Rattle.reader.specs.Readable.{figures_of, InForm}

pub record FirstDisorder (w : Option Wanted) (ls : List (List ℕ)) (f : Fault) : Type 0 where
  pub line : ℕ
  pub turn : ℕ
  pub cause : Cause
  pub is : f ≡ found_by layer.Frames cause line
  pub has : Disorder w ls line turn cause
  pub before : (l t : ℕ) (c : Cause) → Disorder w ls l t c → (l < line) ⊎ ((l ≡ line) × (t < turn)) → ⊥

abbrev pub FramesRead : Option Wanted → List ℕ → Result Contents Fault → Type 0
FramesRead w bs (Ok c) = InForm w (figures_of c) × (bs ≡ file (figures_of c))
FramesRead w bs (Err f) = FirstDisorder w (pieces bs) f
