-- A head that is read from its fields, and what is asked of it.
--     HeadRead        that figures are the numbers that the fields of a head write
--     HeadOff         why a head is refused: its edition or marks, too many readings, or too few
--     HeadChecked     what the check of a head answers: the number of multipliers, or the fault
--     HeadRefused     a line that is refused as the head, with the fault
use Rattle.std.specs.Prelude.{◌≡◌, ℕ, ◌-◌, ◌<◌, ◌≤◌, ◌⊎◌, List, Ok, Err, Option, Result}
use Rattle.kinds.specs.declared.refusal.Cause.TheVariants.{Frame, Mark, Full, Short}
use Rattle.archive.specs.declared.figures.Head.{Head as StatedHead}
use Rattle.digits.specs.Fields.{Number}
use Rattle.reader.specs.declared.contents.Wanted.{Wanted}
use Rattle.reader.specs.declared.fault.Fault.{Fault}
use Rattle.reader.specs.declared.fault.Layer.TheVariants as layer
use Rattle.reader.specs.declared.frames.HeadFields.{HeadFields}
use Rattle.reader.specs.declared.stage.Stage.TheVariants.{Head}
use Rattle.reader.specs.Faults.{found_by}
use Rattle.reader.specs.Frames.{InTurn, HeadIs, Like, reach_of}

pub record HeadRead (f : HeadFields) (h : StatedHead) : Type 0 where
  pub roughness_is : Number f.roughness.bytes.now h.roughness
  pub misfit_is : Number f.misfit.bytes.now h.misfit
  pub bend_is : Number f.bend.bytes.now h.bend
  pub readings_is : Number f.readings.bytes.now h.readings
  pub stiffness_is : Number f.stiffness.bytes.now h.stiffness
  pub denominator_is : Number f.denominator.bytes.now h.denominator
  pub allowance_is : Number f.allowance.bytes.now h.allowance

abbrev pub HeadOff : Option Wanted → ℕ → StatedHead → ℕ → Fault → Type 0
HeadOff w e h at f =
    ((f ≡ found_by layer.Frames Mark at) × (Like w e h → ⊥))
    ⊎ (((f ≡ found_by layer.Frames Full at) × Like w e h × (240 < h.readings))
    ⊎ ((f ≡ found_by layer.Frames Short at) × Like w e h × (h.readings ≤ 240) × (h.readings ≤ reach_of w)))

abbrev pub HeadChecked : Option Wanted → ℕ → StatedHead → ℕ → Result ℕ Fault → Type 0
HeadChecked w e h at (Ok m) = Like w e h × (h.readings ≤ 240) × (reach_of w < h.readings) × (m ≡ h.readings - reach_of w)
HeadChecked w e h at (Err f) = HeadOff w e h at f

abbrev pub HeadRefused : Option Wanted → List ℕ → ℕ → Fault → Type 0
HeadRefused w l at f =
    ((f ≡ found_by layer.Frames Frame at) × (InTurn Head l → ⊥))
    ⊎ ((e : ℕ) × (h : StatedHead) × HeadIs l e h × HeadOff w e h at f)
