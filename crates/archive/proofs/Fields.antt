-- Fields that are put one behind the other, and an end byte behind them.
--     fields_next, fields_reach     one field more, and how far it reaches
--     field_put       a field that is written anew
--     puts_all        bytes that fill a whole place
--     reading_fields, entry_fields, multiplier_fields, end_fields     the fields of a frame with signed figures are its digits
use Rattle.std.proofs.Common.{◌≡◌, ℕ, ◌+◌, ◌-◌, ◌<◌, ◌≤◌, List, [], ◌∷◌, ◌++◌, length, get_or, take, drop, ℤ, unsigned_abs, sym, ap, ◌∙◌, arith, w32, w64, of_z, length-append, length-drop, length-take}
use borrow.Rule.Slice.PartMut.{put_mid}
use Rattle.std.proofs.lemmas.List.{flat_map_more, take_more, take-append-drop, drop_all, append-nil}
use Rattle.std.proofs.lemmas.List.Concat.{flat_map-append}
use Rattle.kinds.specs.declared.reading.Reading.{Reading}
use Rattle.digits.specs.Fields.{field}
use Rattle.digits.proofs.Fields.{field_length}
use Rattle.archive.specs.File.{reading_text, entry_text, multiplier_text, end_text, line}
use Rattle.archive.specs.Writing.{Puts, fields_text}
use Rattle.archive.proofs.Pasting.{puts_part, puts_same}

abbrev digits : ℕ × ℕ → List ℕ
digits f = field f.0 f.1

module _ (fs : List (ℕ × ℕ)) (k : ℕ) (d : ℕ × ℕ) (h : k < length fs) where
  pub fields_next : fields_text (take (k + 1) fs) ≡ fields_text (take k fs) ++ field (get_or fs k d).0 (get_or fs k d).1
  fields_next = ap fields_text (take_more fs k d h) ∙ sym (flat_map_more digits [] (take k fs) (get_or fs k d))

  pub fields_reach : (a b : List ℕ) (j : ℕ) → Puts a b 0 j (fields_text (take k fs)) → length a ≡ length (line (fields_text fs)) → j + (get_or fs k d).0 + 1 ≤ length a
  fields_reach a b j p room =
      let whole : fields_text fs ≡ fields_text (take (k + 1) fs) ++ fields_text (drop (k + 1) fs) = ap fields_text (sym (take-append-drop (k + 1) fs)) ∙ flat_map-append digits (take (k + 1) fs) (drop (k + 1) fs) in
      let long = ap length whole ∙ length-append (fields_text (take (k + 1) fs)) (fields_text (drop (k + 1) fs)) in
      let next = ap length fields_next ∙ length-append (fields_text (take k fs)) (field (get_or fs k d).0 (get_or fs k d).1) in
      omega (arith, p.stops, room, long, next, field_length (get_or fs k d).0 (get_or fs k d).1, length-append (fields_text fs) (10 ∷ []))

pub field_put : (b t : List ℕ) (i w x : ℕ) → i + w ≤ length b → t ≡ field (length (take (i + w - i) (drop i b))) x → Puts b (put_mid i (i + w - i) b t) i (i + w) (field w x)
field_put b t i w x h e =
    let part : length (take (i + w - i) (drop i b)) ≡ w = simp (length-take, length-drop) (omega arith) in
    let text : t ≡ field w x = e ∙ ap (λ n. field n x) part in
    let long : length t ≡ w = ap length text ∙ field_length w x in
    puts_same text (puts_part b t i (i + w) (i + w - i) (omega arith) (omega arith) h)

-- bytes that fill a place are all that it holds
pub puts_all : (a b : List ℕ) (j : ℕ) (t : List ℕ) → length a ≡ length t → Puts a b 0 j t → b ≡ t
puts_all a b j t long p =
    let e : length a ≤ j = omega (arith, p.stops) in
    p.is ∙ ap (λ d. t ++ d) (drop_all j a e) ∙ append-nil t

pub reading_fields : (k m x w : ℕ) (r : Reading) → m ≡ unsigned_abs r.minute → x ≡ unsigned_abs r.crude → w ≡ unsigned_abs r.weight → fields_text ((2, 2) ∷ (4, k) ∷ (8, m) ∷ (4, x) ∷ (4, w) ∷ []) ≡ reading_text k r
unfolding reading_text field
reading_fields k m x w r e f g = rw (e, f, g)

pub entry_fields : (k x : ℕ) (v : ℤ) → x ≡ unsigned_abs v → fields_text ((2, 3) ∷ (4, k) ∷ (4, x) ∷ []) ≡ entry_text k v
unfolding entry_text field
entry_fields k x v e = rw e

pub multiplier_fields : (k x : ℕ) (m : ℤ) → x ≡ of_z w32 m → fields_text ((2, 4) ∷ (4, k) ∷ (8, x) ∷ []) ≡ multiplier_text k m
unfolding multiplier_text field
multiplier_fields k x m e = rw e

pub end_fields : (c x : ℕ) (b : ℤ) → x ≡ of_z w64 b → fields_text ((2, 255) ∷ (16, c) ∷ (16, x) ∷ []) ≡ end_text c b
unfolding end_text field
end_fields c x b e = rw e
