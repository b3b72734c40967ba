-- What the line reader does, turn by turn.
--     BadStart        that the first line of bytes is broken, where there are bytes
--     Next            one turn: from a reader to the reader afterwards, with its answer
use Rattle.std.specs.Prelude.{◌≡◌, ℕ, ◌+◌, ◌<◌, ◌⊎◌, List, [], ◌∷◌, ◌++◌, length, Some, None, Ok, Err, Option, Result, ◌≢◌, slice_index_or}
use Rattle.std.specs.Borrow.{Bor}
use Rattle.kinds.specs.declared.refusal.Cause.TheVariants.{Line}
use Rattle.reader.specs.declared.fault.Fault.{Fault}
use Rattle.reader.specs.declared.lines.Lines.{Lines}
use Rattle.reader.specs.declared.fault.Layer.TheVariants as layer
use Rattle.reader.specs.Faults.{found_by}
use Rattle.reader.specs.Lines.{Good, pieces}

abbrev pub BadStart : List ℕ → Type 0
BadStart s =
    ((1 < length (pieces s)) × (Good (slice_index_or (pieces s) 0 []) → ⊥))
    ⊎ ((1 ≡ length (pieces s)) × (slice_index_or (pieces s) 0 [] ≢ []))

abbrev pub Next : Lines → Lines → Result (Option (Bor (List ℕ))) Fault → Type 0
Next a b (Ok None) = (a.rest.now ≡ []) × (b ≡ a)
Next a b (Ok (Some l)) = (a.rest.now ≡ l.now ++ (10 ∷ b.rest.now)) × (b.taken ≡ a.taken + 1) × Good l.now
Next a b (Err f) = (f ≡ found_by layer.Lines Line (a.taken + 1)) × BadStart a.rest.now
