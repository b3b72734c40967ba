-- How long a file is, and its pieces.
--     file_pieces        a file as its head, its lists and its end
--     file_long          how long a file is whose table has an entry for each reading
use Rattle.std.proofs.Common.{◌≡◌, ℕ, suc, ◌*◌, List, [], ◌∷◌, ◌++◌, length, ℤ, sym, ap, ◌∙◌, mul-zero, mul-suc, arith, length-append}
use Rattle.std.specs.List.{flat_map}
use Rattle.std.proofs.lemmas.List.{append-nil}
use Rattle.std.proofs.lemmas.List.Concat.{flat_map-append}
use Rattle.kinds.specs.declared.reading.Reading.{Reading}
use Rattle.digits.proofs.Fields.{field_length}
use Rattle.archive.specs.declared.figures.Head.{Head}
use Rattle.archive.specs.File.{Figures, edition, head_text, reading_text, entry_text, multiplier_text, end_text, texts_from, line, file, file_length}

head_long : (e : ℕ) (h : Head) → length (head_text e h) ≡ 48
unfolding head_text
head_long e h = simp (length-append, field_length)

reading_long : (k : ℕ) (x : Reading) → length (line (reading_text k x)) ≡ 23
unfolding reading_text
reading_long k x = simp (length-append, field_length)

entry_long : (k : ℕ) (v : ℤ) → length (line (entry_text k v)) ≡ 11
unfolding entry_text
entry_long k v = simp (length-append, field_length)

multiplier_long : (k : ℕ) (m : ℤ) → length (line (multiplier_text k m)) ≡ 15
unfolding multiplier_text
multiplier_long k m = simp (length-append, field_length)

end_long : (c : ℕ) (b : ℤ) → length (end_text c b) ≡ 34
unfolding end_text
end_long c b = simp (length-append, field_length)

list_long : {X : Type 0} (text : ℕ → X → List ℕ) (width : ℕ) → ((k : ℕ) (x : X) → length (line (text k x)) ≡ width) → (k : ℕ) (xs : List X) → length (flat_map line (texts_from text k xs)) ≡ width * length xs
list_long text width each k [] = sym (mul-zero width)
list_long text width each k (x ∷ xs) =
    simp (length-append (line (text k x)), each, list_long text width each (suc k) xs, mul-suc) (omega arith)

pub file_pieces : (g : Figures) →
    line (head_text edition g.head)
    ++ (flat_map line (texts_from reading_text 0 g.readings)
    ++ (flat_map line (texts_from entry_text 0 g.entries)
    ++ (flat_map line (texts_from multiplier_text 0 g.multipliers)
    ++ line (end_text g.cost g.floor)))) ≡ file g
file_pieces g = sym (simp (flat_map-append line, append-nil))

pub file_long : (g : Figures) → length g.entries ≡ length g.readings → length (file g) ≡ file_length (length g.readings) (length g.multipliers)
file_long g e =
    ap length (sym (file_pieces g))
    ∙ simp (length-append, head_long, end_long, list_long reading_text 23 reading_long, list_long entry_text 11 entry_long, list_long multiplier_text 15 multiplier_long) (omega arith)
