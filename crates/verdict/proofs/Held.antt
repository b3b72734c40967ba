-- How many figures contents hold, and how they are handed on.
use Rattle.std.proofs.Common.{◌≡◌, ◌≤◌, List, length, ℤ, pos, None, subst, arith, w64, to_z}
use Rattle.std.proofs.lemmas.List.{length-take-le}
use Rattle.std.proofs.lemmas.Int.{to_z_pos}
use Rattle.kinds.specs.declared.reading.Reading.{Reading}
use Rattle.archive.specs.declared.figures.Head.{Head}
use Rattle.reader.specs.declared.contents.Contents.{Contents}
use Rattle.reader.specs.Readable.{figures_of}
use Rattle.verdict.specs.Stages.{head_no}

pub readings_held : (c : Contents) → length (figures_of c).readings ≡ c.head.readings
readings_held c = length-take-le c.head.readings c.readings (omega (arith, c.few, c.places.0))

-- settings in order, as they are handed to the calls that take signed figures
stiffness_handed : (h : Head) → head_no h ≡ None → to_z w64 h.stiffness ≡ pos h.stiffness
stiffness_handed h e = let most : h.stiffness ≤ 1000 = grind arith in to_z_pos w64 h.stiffness (omega arith)

denominator_handed : (h : Head) → head_no h ≡ None → to_z w64 h.denominator ≡ pos h.denominator
denominator_handed h e = let most : h.denominator ≤ 1000 = grind arith in to_z_pos w64 h.denominator (omega arith)

pub table_handed : (F : ℤ → List Reading → List ℤ → Type 0) (c : Contents) {xs : List Reading} {vs : List ℤ} → head_no c.head ≡ None → xs ≡ (figures_of c).readings → vs ≡ (figures_of c).entries → F (to_z w64 c.head.stiffness) xs vs → F (pos c.head.stiffness) (figures_of c).readings (figures_of c).entries
table_handed F c e r v =
    subst (λ (x : ℤ × List Reading × List ℤ). F x.0 x.1 x.2) (λ i. (stiffness_handed c.head e i, r i, v i))

pub slopes_handed : (F : ℤ → List Reading → ℤ → List ℤ → Type 0) (c : Contents) {xs : List Reading} {ms : List ℤ} → head_no c.head ≡ None → xs ≡ (figures_of c).readings → ms ≡ (figures_of c).multipliers → F (to_z w64 c.head.stiffness) xs (to_z w64 c.head.denominator) ms → F (pos c.head.stiffness) (figures_of c).readings (pos c.head.denominator) (figures_of c).multipliers
slopes_handed F c e r m =
    subst (λ (x : ℤ × List Reading × ℤ × List ℤ). F x.0 x.1 x.2 x.3) (λ i. (stiffness_handed c.head e i, r i, denominator_handed c.head e i, m i))
