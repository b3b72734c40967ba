-- Faults, and which of several comes first.
--     told_line       a line as it is told: 65,535 if larger
--     layer_number    a layer's number
--     fault           a fault, of the number of its layer, its cause and line
--     found_by        a fault that one of the three layers finds
--     Rank            where a fault stands in the order of checking: phase, then line, then turn at that line
--     rank            a rank of its three numbers
--     Before          that a rank comes before another
--     layer_of        the layer of each phase
--     Least           that a fault is the one that comes before all others, of those that there are
-- The phases are: 0 the kinds, 1 the lines, 2 the frames, and then the groups of figures: 3 the settings, 4 the readings,
-- 5 the entries, 6 the multipliers, 7 the columns, 8 the end. Lines count from 1; the kinds stand in line 0.
use Rattle.std.specs.Prelude.{◌≡◌, ℕ, zero, suc, ◌<◌, min, ◌⊎◌}
use Rattle.kinds.specs.declared.refusal.Cause.{Cause}
use Rattle.kinds.specs.Refusals.{number_of}
use Rattle.reader.specs.declared.fault.Fault.{Fault}
use Rattle.reader.specs.declared.fault.Layer.{Layer}
use Rattle.reader.specs.declared.fault.Layer.TheVariants.{Lines, Frames, Figures}

abbrev pub told_line : ℕ → ℕ
told_line l = min l 65535

abbrev pub layer_number : Layer → ℕ
layer_number Lines = 1
layer_number Frames = 2
layer_number Figures = 3

abbrev pub fault : ℕ → Cause → ℕ → Fault
fault layer cause line = record { layer = layer; number = number_of cause; line = told_line line }

abbrev pub found_by : Layer → Cause → ℕ → Fault
found_by layer = fault (layer_number layer)

pub record Rank : Type 0 where
  pub phase : ℕ
  pub line : ℕ
  pub turn : ℕ

abbrev pub rank : ℕ → ℕ → ℕ → Rank
rank p l t = record { phase = p; line = l; turn = t }

abbrev pub Before : Rank → Rank → Type 0
Before a b =
    (a.phase < b.phase)
    ⊎ ((a.phase ≡ b.phase) × ((a.line < b.line) ⊎ ((a.line ≡ b.line) × (a.turn < b.turn))))

-- the kinds and the figures are the third layer
abbrev pub layer_of : ℕ → Layer
layer_of zero = Figures
layer_of (suc zero) = Lines
layer_of (suc (suc zero)) = Frames
layer_of (suc (suc (suc group))) = Figures

-- `Has q c` says that there is a fault of cause c at rank q
pub record Least (Has : Rank → Cause → Type 0) (f : Fault) : Type 0 where
  pub at : Rank
  pub cause : Cause
  pub has : Has at cause
  pub is : f ≡ found_by (layer_of at.phase) cause at.line
  pub before : (q : Rank) (c : Cause) → Has q c → Before q at → ⊥
