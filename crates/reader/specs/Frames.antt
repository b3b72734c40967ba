-- Which frame stands in which line.
--     stage_at        what line j behind the head has to be, of n readings and m multipliers
--     lead, size      how the frame of a stage begins, with its number and its place, and how many digits it has
--     InTurn          that a line is the frame that a stage waits for
--     HeadIs          that a line is a head, of an edition and figures
--     reach_of, Agrees, Like     the reach that is wanted; that a head has the marks, and the edition, that are wanted
--     Disorder        the faults of the frames: of lines, at a line from 1 and a turn there, with their cause
-- Where no marks are wanted, no head agrees.
use Rattle.std.specs.Prelude.{◌≡◌, ℕ, suc, ◌+◌, ◌-◌, ◌<◌, ◌≤◌, true, cond, List, [], ◌∷◌, length, take, Some, None, Option, ◌==◌, nat_lt, slice_index_or}
use Rattle.kinds.specs.declared.refusal.Cause.{Cause}
use Rattle.kinds.specs.declared.refusal.Cause.TheVariants.{Frame, Mark, Full, Short}
use Rattle.digits.specs.Fields.{field, Fits}
use Rattle.archive.specs.declared.figures.Head.{Head as StatedHead}
use Rattle.archive.specs.File.{edition, head_text, head_fits}
use Rattle.reader.specs.declared.contents.Wanted.{Wanted}
use Rattle.reader.specs.declared.stage.Stage.{Stage}
use Rattle.reader.specs.declared.stage.Stage.TheVariants.{Head, Reading, Entry, Multiplier, End, Nothing}

-- n readings, n entries, m multipliers, the end, and then nothing
abbrev pub stage_at : ℕ → ℕ → ℕ → Stage
stage_at n m j =
    cond (nat_lt j n) (Reading j)
    (cond (nat_lt j (n + n)) (Entry (j - n))
    (cond (nat_lt j (n + n + m)) (Multiplier (j - (n + n)))
    (cond (j == n + n + m) End Nothing)))

abbrev pub lead : Stage → List ℕ
lead Head = 48 ∷ 49 ∷ []
lead (Reading k) = 48 ∷ 50 ∷ field 4 k
lead (Entry k) = 48 ∷ 51 ∷ field 4 k
lead (Multiplier k) = 48 ∷ 52 ∷ field 4 k
lead End = 70 ∷ 70 ∷ []
lead Nothing = []

abbrev pub size : Stage → ℕ
size Head = 48
size (Reading k) = 22
size (Entry k) = 10
size (Multiplier k) = 14
size End = 34
size Nothing = 0

pub record InTurn (s : Stage) (l : List ℕ) : Type 0 where
  pub leads : take (length (lead s)) l ≡ lead s
  pub sized : length l ≡ size s

pub record HeadIs (l : List ℕ) (e : ℕ) (h : StatedHead) : Type 0 where
  pub edition_fits : Fits 2 e
  pub fitting : head_fits h ≡ true
  pub text : l ≡ head_text e h

abbrev pub reach_of : Option Wanted → ℕ
reach_of None = 0
reach_of (Some w) = w.reach

abbrev pub Agrees : Option Wanted → StatedHead → Type 0
Agrees None h = ⊥
Agrees (Some w) h = (h.roughness ≡ w.roughness) × (h.misfit ≡ w.misfit) × (h.bend ≡ w.bend)

abbrev pub Like : Option Wanted → ℕ → StatedHead → Type 0
Like w e h = (e ≡ edition) × Agrees w h

pub data Disorder (w : Option Wanted) (ls : List (List ℕ)) : ℕ → ℕ → Cause → Type 0 where
  -- line 1 is no head
  headless : (InTurn Head (slice_index_or ls 0 []) → ⊥) → Disorder w ls 1 0 Frame
  -- its edition or a mark is not the one that is wanted
  unlike : {e : ℕ} {h : StatedHead} → HeadIs (slice_index_or ls 0 []) e h → (Like w e h → ⊥) → Disorder w ls 1 1 Mark
  -- it says more than 240 readings
  many : {e : ℕ} {h : StatedHead} → HeadIs (slice_index_or ls 0 []) e h → 240 < h.readings → Disorder w ls 1 2 Full
  -- it says no more readings than the reach
  short : {e : ℕ} {h : StatedHead} → HeadIs (slice_index_or ls 0 []) e h → h.readings ≤ reach_of w → Disorder w ls 1 3 Short
  -- a later line is missing, or is not what has to stand there
  misplaced : {e : ℕ} {h : StatedHead} {j : ℕ} → HeadIs (slice_index_or ls 0 []) e h → (InTurn (stage_at h.readings (h.readings - reach_of w) j) (slice_index_or ls (suc j) []) → ⊥) → Disorder w ls (suc (suc j)) 0 Frame
