-- The shapes of frames.
--     frame_text      the line of a frame
--     NoFrame         that a line is no frame
use Rattle.std.specs.Prelude.{ℕ, List, ◌∷◌, ◌++◌}
use Rattle.reader.specs.declared.frames.Frame.{Frame}
use Rattle.reader.specs.declared.frames.Frame.TheVariants.{Head, Reading, Entry, Multiplier, End}
use Rattle.reader.specs.declared.stage.Stage.{Stage}
use Rattle.reader.specs.Frames.{InTurn}

abbrev pub frame_text : Frame → List ℕ
frame_text (Head f) =
    48 ∷ 49 ∷ (f.edition.bytes.now ++ (f.roughness.bytes.now ++ (f.misfit.bytes.now ++ (f.bend.bytes.now
    ++ (f.readings.bytes.now ++ (f.stiffness.bytes.now ++ (f.denominator.bytes.now ++ f.allowance.bytes.now)))))))
frame_text (Reading p t c w) = 48 ∷ 50 ∷ (p.bytes.now ++ (t.bytes.now ++ (c.bytes.now ++ w.bytes.now)))
frame_text (Entry p v) = 48 ∷ 51 ∷ (p.bytes.now ++ v.bytes.now)
frame_text (Multiplier p m) = 48 ∷ 52 ∷ (p.bytes.now ++ m.bytes.now)
frame_text (End c f) = 70 ∷ 70 ∷ (c.bytes.now ++ f.bytes.now)

abbrev pub NoFrame : List ℕ → Type 0
NoFrame l = (s : Stage) → InTurn s l → ⊥
