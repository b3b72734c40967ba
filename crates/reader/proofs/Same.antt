-- A file in form has no fault of lines or frames, and no two sets of figures in form have one file.
--     no_unreadable   the file of figures in form can be read
--     same_figures    figures in form with one file are the same
use Rattle.std.proofs.Common.{◌≡◌, ℕ, suc, ◌+◌, ◌-◌, ◌<◌, ◌≤◌, true, List, [], ◌∷◌, ◌++◌, length, get_or, drop, ℤ, pos, negsuc, nat_abs, ◌≤ℤ◌, Option, sym, refl, ap, ◌∙◌, subst, ⊎_elim, arith, w32, w64, SFits, to_z, of_z}
use mir.Facts.{Fits-of_z}
use Rattle.std.specs.List.{AllByRecursion}
use Rattle.std.proofs.ByRecursion.{All-get_or}
use Rattle.std.proofs.lemmas.List.{ext_get_or}
use Rattle.std.proofs.lemmas.Int.{to_z-of_z, ints}
use Rattle.std.proofs.lemmas.Bool.{cases_lt}
use Rattle.kinds.specs.declared.reading.Reading.{Reading as NotedReading}
use Rattle.kinds.specs.declared.refusal.Cause.{Cause}
use Rattle.digits.specs.Fields.{field, Fits}
use Rattle.digits.proofs.Fields.{field_length, field_same}
use Rattle.archive.specs.File.{Figures, edition, file, reading_text, entry_text, multiplier_text, end_text, fits_unsigned, fits_signed, reading_fits, entry_fits, multiplier_fits}
use Rattle.reader.specs.declared.contents.Wanted.{Wanted}
use Rattle.reader.specs.declared.stage.Stage.TheVariants.{Entry, Multiplier, Nothing}
use Rattle.reader.specs.Faults.{Rank}
use Rattle.reader.specs.Lines.{pieces}
use Rattle.reader.specs.Frames.{stage_at, InTurn, HeadIs, Agrees, reach_of, Disorder, headless, unlike, many, short, misplaced}
use Rattle.reader.specs.Readable.{InForm, Unreadable, in_lines, in_frames}
use Rattle.reader.specs.Steps.{no_reading, text_of}
use Rattle.reader.proofs.Heads.{cut_same, fields_same, head_one}
use Rattle.reader.proofs.Texts.{stage_reading, stage_entry, stage_multiplier, stage_end, stage_nothing, body_at, head_in_turn, text_in_turn, line_at, line_past, file_whole}

module _ (w : Option Wanted) (g : Figures) (form : InForm w g) where
  abbrev n : ℕ
  n = g.head.readings

  abbrev m : ℕ
  m = g.head.readings - reach_of w

  head_at : HeadIs (get_or (pieces (file g)) 0 []) edition g.head
  head_at = record {
    edition_fits = omega arith;
    fitting = form.fitting.head;
    text = line_at g n m form.fitting.count form.fitting.table form.count 0 (omega arith);
  }

  pub body_line : (j : ℕ) → j ≤ n + n + m → get_or (pieces (file g)) (suc j) [] ≡ text_of g (stage_at n m j)
  body_line j le =
      line_at g n m form.fitting.count form.fitting.table form.count (suc j) (omega arith)
      ∙ body_at g n m form.fitting.count form.fitting.table form.count j le

  in_turn : (j : ℕ) → InTurn (stage_at n m j) (get_or (pieces (file g)) (suc j) [])
  in_turn j = ⊎_elim
      (λ lt. subst (InTurn (stage_at n m j)) (sym (body_line j (omega arith))) (text_in_turn g (stage_at n m j)))
      (λ ge. subst (λ s. InTurn s (get_or (pieces (file g)) (suc j) [])) (sym (stage_nothing n m j (omega arith)))
      (subst (InTurn Nothing) (sym (line_past g n m form.fitting.count form.fitting.table form.count (suc j) (omega arith))) (text_in_turn g Nothing)))
      (cases_lt j (n + n + m + 1))

  no_disorder : (l t : ℕ) (c : Cause) → Disorder w (pieces (file g)) l t c → ⊥
  no_disorder l t c (headless none) = none (head_in_turn (get_or (pieces (file g)) 0 []) edition g.head head_at)
  no_disorder l t c (unlike {e = e} {h = h} i no-like) =
      let p = head_one (get_or (pieces (file g)) 0 []) edition e g.head h head_at i in
      no-like (sym p.0, subst (Agrees w) p.1 form.agrees)
  no_disorder l t c (many {e = e} {h = h} i more) =
      let p = head_one (get_or (pieces (file g)) 0 []) edition e g.head h head_at i in
      omega (arith, more, form.few, ap (λ x. x.readings) p.1)
  no_disorder l t c (short {e = e} {h = h} i less) =
      let p = head_one (get_or (pieces (file g)) 0 []) edition e g.head h head_at i in
      omega (arith, less, form.long, ap (λ x. x.readings) p.1)
  no_disorder l t c (misplaced {e = e} {h = h} {j = j} i bad) =
      let p = head_one (get_or (pieces (file g)) 0 []) edition e g.head h head_at i in
      bad (subst (λ x. InTurn (stage_at x.readings (x.readings - reach_of w) j) (get_or (pieces (file g)) (suc j) [])) p.1 (in_turn j))

  file_readable : (q : Rank) (c : Cause) → Unreadable w (file g) q c → ⊥
  file_readable q c (in_lines {k = k} x) = file_whole g n m form.fitting.count form.fitting.table form.count k x
  file_readable q c (in_frames {l = l} {t = t} x) = no_disorder l t c x

  pub no_unreadable : (bs : List ℕ) → bs ≡ file g → (q : Rank) (c : Cause) → Unreadable w bs q c → ⊥
  no_unreadable bs e q c u = file_readable q c (subst (λ x. Unreadable w x q c) e u)

-- figures that are written alike are alike
unsigned_fits : (w : ℕ) (z : ℤ) → fits_unsigned w z ≡ true → (pos 0 ≤ℤ z) × Fits w (nat_abs z)
unsigned_fits w z e = (grind (arith, ints), grind (arith, ints))

unsigned_same : (x y : ℤ) → pos 0 ≤ℤ x → pos 0 ≤ℤ y → nat_abs x ≡ nat_abs y → x ≡ y
unsigned_same x y a b e = omega (arith, ints)

signed_fits : (z : ℤ) → fits_signed z ≡ true → SFits w32 z
signed_fits z e =
    let low : negsuc 2147483647 ≤ℤ z = grind (arith, ints) in
    let high : z ≤ℤ pos 2147483647 = grind (arith, ints) in
    omega (arith, ints)

-- behind the place, which is the same
behind_place : (k : ℕ) (a b : List ℕ) (x y : ℕ) → ◌≡◌ {A = List ℕ} (x ∷ y ∷ (field 4 k ++ a)) (x ∷ y ∷ (field 4 k ++ b)) → a ≡ b
behind_place k a b x y e = (cut_same (field 4 k) (field 4 k) a b 4 (field_length 4 k) (field_length 4 k) (ap (drop 2) e)).1

record ReadingFitting (r : NotedReading) : Type 0 where
  minute : (pos 0 ≤ℤ r.minute) × Fits 8 (nat_abs r.minute)
  crude : (pos 0 ≤ℤ r.crude) × Fits 4 (nat_abs r.crude)
  weight : (pos 0 ≤ℤ r.weight) × Fits 4 (nat_abs r.weight)

reading_fitting : (r : NotedReading) → reading_fits r ≡ true → ReadingFitting r
reading_fitting r e = record { minute = unsigned_fits 8 r.minute (grind arith); crude = unsigned_fits 4 r.crude (grind arith); weight = unsigned_fits 4 r.weight (grind arith) }

reading_one : (k : ℕ) (r s : NotedReading) → reading_fits r ≡ true → reading_fits s ≡ true → reading_text k r ≡ reading_text k s → r ≡ s
unfolding reading_text
reading_one k r s f g e =
    let a = reading_fitting r f in
    let b = reading_fitting s g in
    let p = fields_same 8 (nat_abs r.minute) (nat_abs s.minute) _ _ a.minute.1 b.minute.1 (behind_place k _ _ 48 50 e) in
    let q = fields_same 4 (nat_abs r.crude) (nat_abs s.crude) _ _ a.crude.1 b.crude.1 p.1 in
    let t = field_same 4 (nat_abs r.weight) (nat_abs s.weight) a.weight.1 b.weight.1 q.1 in
    let minute = unsigned_same r.minute s.minute a.minute.0 b.minute.0 p.0 in
    let crude = unsigned_same r.crude s.crude a.crude.0 b.crude.0 q.0 in
    let weight = unsigned_same r.weight s.weight a.weight.0 b.weight.0 t in
    λ i. record { minute = minute i; crude = crude i; weight = weight i }

entry_one : (k : ℕ) (x y : ℤ) → entry_fits x ≡ true → entry_fits y ≡ true → entry_text k x ≡ entry_text k y → x ≡ y
unfolding entry_text
entry_one k x y f g e =
    let a = unsigned_fits 4 x f in
    let b = unsigned_fits 4 y g in
    unsigned_same x y a.0 b.0 (field_same 4 (nat_abs x) (nat_abs y) a.1 b.1 (behind_place k _ _ 48 51 e))

multiplier_one : (k : ℕ) (x y : ℤ) → multiplier_fits x ≡ true → multiplier_fits y ≡ true → multiplier_text k x ≡ multiplier_text k y → x ≡ y
unfolding multiplier_text
multiplier_one k x y f g e =
    let a = signed_fits x f in
    let b = signed_fits y g in
    let bits : of_z w32 x ≡ of_z w32 y = field_same 8 (of_z w32 x) (of_z w32 y) (Fits-of_z {w = w32} {z = x} a).fits (Fits-of_z {w = w32} {z = y} b).fits (behind_place k _ _ 48 52 e) in
    sym (to_z-of_z w32 x a) ∙ ap (to_z w32) bits ∙ to_z-of_z w32 y b

end_one : (c d : ℕ) (x y : ℤ) → Fits 16 c → Fits 16 d → SFits w64 x → SFits w64 y → end_text c x ≡ end_text d y → (c ≡ d) × (x ≡ y)
unfolding end_text
end_one c d x y f g a b e =
    let p = fields_same 16 c d _ _ f g (ap (drop 2) e) in
    let bits : of_z w64 x ≡ of_z w64 y = field_same 16 (of_z w64 x) (of_z w64 y) (Fits-of_z {w = w64} {z = x} a).fits (Fits-of_z {w = w64} {z = y} b).fits p.1 in
    (p.0, sym (to_z-of_z w64 x a) ∙ ap (to_z w64) bits ∙ to_z-of_z w64 y b)

-- lists whose elements are written alike are alike
lists_same : {X : Type 0} (text : ℕ → X → List ℕ) (fit : X → Type 0) (d : X) → ((k : ℕ) (x y : X) → fit x → fit y → text k x ≡ text k y → x ≡ y)
    → (xs ys : List X) → AllByRecursion fit xs → AllByRecursion fit ys → length xs ≡ length ys → ((k : ℕ) → k < length xs → text k (get_or xs k d) ≡ text k (get_or ys k d)) → xs ≡ ys
lists_same text fit d one xs ys a b e h =
    ext_get_or d xs ys e (λ k lt. one k (get_or xs k d) (get_or ys k d) (All-get_or fit xs k d lt a) (All-get_or fit ys k d (omega (arith, lt, e)) b) (h k lt))

module _ (w : Option Wanted) (g h : Figures) (a : InForm w g) (b : InForm w h) (e : file g ≡ file h) where
  heads : g.head ≡ h.head
  heads = (head_one (get_or (pieces (file g)) 0 []) edition edition g.head h.head (head_at w g a) (subst (λ x. HeadIs (get_or (pieces x) 0 []) edition h.head) (sym e) (head_at w h b))).1

  abbrev N : ℕ
  N = g.head.readings

  abbrev M : ℕ
  M = g.head.readings - reach_of w

  same_n : h.head.readings ≡ N
  same_n = ap (λ x. x.readings) (sym heads)

  alike : (j : ℕ) → j ≤ N + N + M → text_of g (stage_at N M j) ≡ text_of h (stage_at N M j)
  alike j le =
      sym (body_line w g a j le) ∙ ap (λ x. get_or (pieces x) (suc j) []) e
      ∙ body_line w h b j (subst (λ x. j ≤ x + x + (x - reach_of w)) (sym same_n) le)
      ∙ ap (λ x. text_of h (stage_at x (x - reach_of w) j)) same_n

  readings_same : g.readings ≡ h.readings
  readings_same = lists_same reading_text (λ r. reading_fits r ≡ true) no_reading reading_one g.readings h.readings a.fitting.readings b.fitting.readings
      (a.fitting.count ∙ sym same_n ∙ sym b.fitting.count)
      (λ k lt. let le : k < N = omega (arith, lt, a.fitting.count) in sym (ap (text_of g) (stage_reading N M k le)) ∙ alike k (omega arith) ∙ ap (text_of h) (stage_reading N M k le))

  entries_same : g.entries ≡ h.entries
  entries_same = lists_same entry_text (λ v. entry_fits v ≡ true) (pos 0) entry_one g.entries h.entries a.fitting.entries b.fitting.entries
      (a.fitting.table ∙ sym same_n ∙ sym b.fitting.table)
      (λ k lt.
      let le : k < N = omega (arith, lt, a.fitting.table) in
      let at : stage_at N M (N + k) ≡ Entry k = stage_entry N M (N + k) (omega arith) (omega arith) ∙ (let z : N + k - N ≡ k = omega arith in ap Entry z) in
      sym (ap (text_of g) at) ∙ alike (N + k) (omega arith) ∙ ap (text_of h) at)

  multipliers_same : g.multipliers ≡ h.multipliers
  multipliers_same = lists_same multiplier_text (λ v. multiplier_fits v ≡ true) (pos 0) multiplier_one g.multipliers h.multipliers a.fitting.multipliers b.fitting.multipliers
      (a.count ∙ ap (λ x. x - reach_of w) (sym same_n) ∙ sym b.count)
      (λ k lt.
      let le : k < M = omega (arith, lt, a.count) in
      let at : stage_at N M (N + N + k) ≡ Multiplier k = stage_multiplier N M (N + N + k) (omega arith) (omega arith) ∙ (let z : N + N + k - (N + N) ≡ k = omega arith in ap Multiplier z) in
      sym (ap (text_of g) at) ∙ alike (N + N + k) (omega arith) ∙ ap (text_of h) at)

  ends_same : (g.cost ≡ h.cost) × (g.floor ≡ h.floor)
  ends_same =
      let at = stage_end N M (N + N + M) refl in
      end_one g.cost h.cost g.floor h.floor a.fitting.cost b.fitting.cost a.fitting.floor b.fitting.floor (sym (ap (text_of g) at) ∙ alike (N + N + M) (omega arith) ∙ ap (text_of h) at)

  pub same_figures : g ≡ h
  same_figures = λ i. record { head = heads i; readings = readings_same i; entries = entries_same i; multipliers = multipliers_same i; cost = ends_same.0 i; floor = ends_same.1 i }
