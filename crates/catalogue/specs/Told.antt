-- How an answer of the judge is told: as a line of digits, and as one number.
--     accepted_text    AA, then how many readings, the denominator, the cost and the signed floor
--     refused_text     EE, then layer, number and line of a fault
--     answer_text      the digits of an answer
--     answer_line      these with the end byte
--     LineTold         that a line is that of the answer about a file under the marks that its own head has
--     packed           0 for a file that is accepted, else layer, number and line in one number
--     Tells            that a number is the answer about a file under three marks
-- Fields are in the widths that they have in a file. `of_z w64` is the remainder by 2^64.
use Rattle.std.specs.Prelude.{◌≡◌, ℕ, ◌+◌, ◌*◌, ◌^◌, List, ◌∷◌, ◌++◌, Ok, Err, Result}
use Rattle.std.specs.Int.{w64}
use Rattle.std.proofs.Common.{of_z}
use Rattle.digits.specs.Fields.{field}
use Rattle.archive.specs.File.{line}
use Rattle.reader.specs.declared.contents.Contents.{Contents}
use Rattle.reader.specs.declared.fault.Fault.{Fault}
use Rattle.catalogue.specs.declared.marks.Marks.{Marks}
use Rattle.catalogue.specs.Judged.{Judged, JudgedByHead}

abbrev pub accepted_text : Contents → List ℕ
accepted_text c =
    65 ∷ 65 ∷ (field 4 c.head.readings ++ (field 4 c.head.denominator ++ (field 16 c.cost ++ field 16 (of_z w64 c.floor))))

abbrev pub refused_text : Fault → List ℕ
refused_text f = 69 ∷ 69 ∷ (field 2 f.layer ++ (field 2 f.number ++ field 4 f.line))

abbrev pub answer_text : Result Contents Fault → List ℕ
answer_text (Ok c) = accepted_text c
answer_text (Err f) = refused_text f

abbrev pub answer_line : Result Contents Fault → List ℕ
answer_line a = line (answer_text a)

pub record LineTold (bs l : List ℕ) : Type 0 where
  pub answer : Result Contents Fault
  pub judged : JudgedByHead bs answer
  pub is : l ≡ answer_line answer

abbrev pub packed : Result Contents Fault → ℕ
packed (Ok c) = 0
packed (Err f) = f.layer * 2 ^ 24 + f.number * 2 ^ 16 + f.line

pub record Tells (m : Marks) (bs : List ℕ) (n : ℕ) : Type 0 where
  pub answer : Result Contents Fault
  pub judged : Judged m bs answer
  pub is : n ≡ packed answer
