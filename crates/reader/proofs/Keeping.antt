-- Lines that the machine keeps, and lines that it refuses.
use Rattle.std.proofs.Common.{◌≡◌, ℕ, ◌+◌, ◌^◌, ◌<◌, ◌≤◌, true, ltb, List, ◌∷◌, ◌++◌, length, get_or, take, drop, set, ℤ, pos, nat_abs, sym, refl, ap, ◌∙◌, subst, ⊎_elim, arith, length-take, w64, SFits, to_z, of_z}
use lib.Signed.{le_z}
use Rattle.std.proofs.lemmas.List.{take_at, get_or-take, get_or-set_same, get_or-set_other, get_or_past}
use Rattle.std.proofs.lemmas.Int.{to_z-of_z}
use Rattle.std.proofs.lemmas.Bool.{lt-ltb, cases_lt}
use Rattle.kinds.specs.declared.reading.Reading.{Reading as NotedReading}
use Rattle.digits.specs.Fields.{field, Fits, Number}
use Rattle.digits.proofs.Fields.{field_length, number_written}
use Rattle.archive.specs.File.{Figures, head_text, reading_text, entry_text, multiplier_text, end_text, edition, fits_unsigned, head_fits, reading_fits, entry_fits, multiplier_fits}
use Rattle.reader.specs.declared.contents.Contents.{Contents}
use Rattle.reader.specs.declared.machine.Machine.{Machine}
use Rattle.reader.specs.declared.stage.Stage.{Stage}
use Rattle.reader.specs.declared.stage.Stage.TheVariants.{Head, Reading, Entry, Multiplier, End, Nothing}
use Rattle.archive.specs.declared.figures.Head.{Head as StatedHead}
use Rattle.reader.specs.Frames.{stage_at, lead, InTurn, HeadIs}
use Rattle.reader.specs.Heads.{HeadRead}
use Rattle.reader.specs.Readable.{figures_of}
use Rattle.reader.specs.declared.frames.Frame.TheVariants.{Head as HeadFrame}
use Rattle.reader.specs.declared.frames.HeadFields.{HeadFields}
use Rattle.reader.specs.Shapes.{frame_text}
use Rattle.reader.specs.Steps.{no_reading, text_of, fits_of, Put, LineTaken}

reading_at : (n m j k : ℕ) → Reading k ≡ stage_at n m j → (j ≡ k) × (k < n)
reading_at n m j k e = (grind arith, grind arith)

entry_at : (n m j k : ℕ) → Entry k ≡ stage_at n m j → (j ≡ n + k) × (k < n)
entry_at n m j k e = (grind arith, grind arith)

multiplier_at : (n m j k : ℕ) → Multiplier k ≡ stage_at n m j → (j ≡ n + n + k) × (k < m)
multiplier_at n m j k e = (grind arith, grind arith)

end_at : (n m j : ℕ) → End ≡ stage_at n m j → j ≡ n + n + m
end_at n m j e = grind arith

-- what a stage says of the lines that were taken
module _ (m : Machine) where
  pub at_reading : (k : ℕ) → m.stage ≡ Reading k → (m.taken ≡ k) × (k < m.contents.head.readings)
  at_reading k s = reading_at _ _ _ k (sym s ∙ m.waits (λ h. let e : Reading k ≡ Head = sym s ∙ h in cc))

  pub at_entry : (k : ℕ) → m.stage ≡ Entry k → (m.taken ≡ m.contents.head.readings + k) × (k < m.contents.head.readings)
  at_entry k s = entry_at _ _ _ k (sym s ∙ m.waits (λ h. let e : Entry k ≡ Head = sym s ∙ h in cc))

  pub at_multiplier : (k : ℕ) → m.stage ≡ Multiplier k → (m.taken ≡ m.contents.head.readings + m.contents.head.readings + k) × (k < m.contents.count)
  at_multiplier k s = multiplier_at _ _ _ k (sym s ∙ m.waits (λ h. let e : Multiplier k ≡ Head = sym s ∙ h in cc))

  pub at_end : m.stage ≡ End → m.taken ≡ m.contents.head.readings + m.contents.head.readings + m.contents.count
  at_end s = end_at _ _ _ (sym s ∙ m.waits (λ h. let e : End ≡ Head = sym s ∙ h in cc))

number_field : (w x : ℕ) → w ≤ 16 → Fits w x → Number (field w x) x
number_field w x short fits =
    let size = field_length w x in
    record { short = omega (arith, size); fits = subst (λ n. Fits n x) (sym size) fits; written = ap (λ n. field n x) size }

-- the place that a frame has is the one that is waited for, or another
place_is : (x y k : ℕ) (p t : List ℕ) → length p ≡ 4 → take (length (x ∷ y ∷ field 4 k)) (x ∷ y ∷ (p ++ t)) ≡ x ∷ y ∷ field 4 k → p ≡ field 4 k
place_is x y k p t size e =
    let tail : take (length (field 4 k)) (p ++ t) ≡ field 4 k = ap (drop 2) e in
    sym (take_at p t 4 size) ∙ ap (λ n. take n (p ++ t)) (sym (field_length 4 k)) ∙ tail

other_place : (x y k : ℕ) (p t : List ℕ) → length p ≡ 4 → k < 240 → (Number p k → ⊥) → take (length (x ∷ y ∷ field 4 k)) (x ∷ y ∷ (p ++ t)) ≡ x ∷ y ∷ field 4 k → ⊥
other_place x y k p t size few other e =
    let fits : Fits 4 k = omega arith in
    other (subst (λ s. Number s k) (sym (place_is x y k p t size e)) (number_field 4 k (omega arith) fits))

pub misplaced : (m : Machine) (s : Stage) (k x y : ℕ) (p t : List ℕ) → m.stage ≡ s → lead s ≡ x ∷ y ∷ field 4 k → length p ≡ 4 → k < 240 → (Number p k → ⊥) → InTurn m.stage (x ∷ y ∷ (p ++ t)) → ⊥
misplaced m s k x y p t at leads size few other o =
    let l : List ℕ = x ∷ y ∷ (p ++ t) in
    other_place x y k p t size few other (subst (λ z. take (length z) l ≡ z) leads (subst (λ z. InTurn z l) at o).leads)

-- a number that was read is written as it stood
pub written : (w : ℕ) (s : List ℕ) (x : ℕ) → length s ≡ w → Number s x → field w x ≡ s
written w s x size r = (number_written w s x size r).1

pub fits_read : (w : ℕ) (s : List ℕ) (z : ℤ) → length s ≡ w → Number s (nat_abs z) → le_z (pos 0) z ≡ true → fits_unsigned w z ≡ true
fits_read w s z size r sign =
    let small : ltb (nat_abs z) (16 ^ w) ≡ true = lt-ltb (nat_abs z) (16 ^ w) (number_written w s (nat_abs z) size r).0 in
    rw (sign, small)

-- a reading that was stored is the one that was read
pub stored : (t c w : ℤ) → SFits w64 t → SFits w64 c → SFits w64 w → ◌≡◌ {A = NotedReading} (record { minute = to_z w64 (of_z w64 t); crude = to_z w64 (of_z w64 c); weight = to_z w64 (of_z w64 w) }) (record { minute = t; crude = c; weight = w })
stored t c w a b d =
    ap (λ z. record { minute = z; crude = to_z w64 (of_z w64 c); weight = to_z w64 (of_z w64 w) }) (to_z-of_z w64 t a)
    ∙ ap (λ z. record { minute = t; crude = z; weight = to_z w64 (of_z w64 w) }) (to_z-of_z w64 c b)
    ∙ ap (λ z. record { minute = t; crude = c; weight = z }) (to_z-of_z w64 w d)

-- the first n of a list, after one of its elements was put in or none
module _ {X : Type 0} (n n' : ℕ) (same : n' ≡ n) (xs xs' : List X) (d : X) where
  part_same : xs' ≡ xs → (j : ℕ) → get_or (take n' xs') j d ≡ get_or (take n xs) j d
  part_same e j = ap (λ m. get_or (take m xs') j d) same ∙ ap (λ ys. get_or (take n ys) j d) e

  part_here : (k : ℕ) (x : X) → xs' ≡ set xs k x → k < n → k < length xs → get_or (take n' xs') k d ≡ x
  part_here k x e lt size = ap (λ m. get_or (take m xs') k d) same ∙ ap (λ ys. get_or (take n ys) k d) e ∙ get_or-take n (set xs k x) k d lt ∙ get_or-set_same xs k x d size

  part_other : (k : ℕ) (x : X) → xs' ≡ set xs k x → (j : ℕ) → (j ≡ k → ⊥) → get_or (take n' xs') j d ≡ get_or (take n xs) j d
  part_other k x e j ne = ap (λ m. get_or (take m xs') j d) same ∙ ap (λ ys. get_or (take n ys) j d) e ∙ ⊎_elim
      (λ lt. get_or-take n (set xs k x) j d lt ∙ get_or-set_other xs k j x d ne ∙ sym (get_or-take n xs j d lt))
      (λ ge. get_or_past (take n (set xs k x)) j d (omega (arith, length-take n (set xs k x))) ∙ sym (get_or_past (take n xs) j d (omega (arith, length-take n xs))))
      (cases_lt j n)

-- figures that differ in one stage's line at most
module _ (s : Stage) (l : List ℕ) (g g' : Figures) (text : text_of g' s ≡ l) (fit : fits_of g' s ≡ true) (head : g'.head ≡ g.head)
    (readings : (j : ℕ) → (Reading j ≡ s → ⊥) → get_or g'.readings j no_reading ≡ get_or g.readings j no_reading)
    (entries : (j : ℕ) → (Entry j ≡ s → ⊥) → get_or g'.entries j (pos 0) ≡ get_or g.entries j (pos 0))
    (multipliers : (j : ℕ) → (Multiplier j ≡ s → ⊥) → get_or g'.multipliers j (pos 0) ≡ get_or g.multipliers j (pos 0))
    (end : (End ≡ s → ⊥) → (g'.cost ≡ g.cost) × (g'.floor ≡ g.floor)) where
  others : (o : Stage) → (o ≡ s → ⊥) → text_of g' o ≡ text_of g o
  others Head ne = ap (head_text edition) head
  others (Reading j) ne = ap (reading_text j) (readings j ne)
  others (Entry j) ne = ap (entry_text j) (entries j ne)
  others (Multiplier j) ne = ap (multiplier_text j) (multipliers j ne)
  others End ne = ap (λ c. end_text c g'.floor) (end ne).0 ∙ ap (end_text g.cost) (end ne).1
  others Nothing ne = refl

  fitting : (o : Stage) → (o ≡ s → ⊥) → fits_of g' o ≡ fits_of g o
  fitting Head ne = ap head_fits head
  fitting (Reading j) ne = ap reading_fits (readings j ne)
  fitting (Entry j) ne = ap entry_fits (entries j ne)
  fitting (Multiplier j) ne = ap multiplier_fits (multipliers j ne)
  fitting End ne = refl
  fitting Nothing ne = refl

  put_one : Put s l g g'
  put_one = record { text = text; fit = fit; texts = others; fits = fitting }

-- contents of which one list had an element put in, or the end was
pub record SameHead (c c' : Contents) : Type 0 where
  pub head : c'.head ≡ c.head
  pub count : c'.count ≡ c.count

module _ (c c' : Contents) (h : SameHead c c') (k : ℕ) (l : List ℕ) where
  n_same : c'.head.readings ≡ c.head.readings
  n_same = ap (λ x. x.readings) h.head

  pub put_reading : (r : NotedReading) → c'.readings ≡ set c.readings k r → c'.entries ≡ c.entries → c'.multipliers ≡ c.multipliers → (c'.cost ≡ c.cost) × (c'.floor ≡ c.floor)
      → k < c.head.readings → k < length c.readings → reading_text k r ≡ l → reading_fits r ≡ true → Put (Reading k) l (figures_of c) (figures_of c')
  put_reading r rs es ms end lt size text fit =
      let here = part_here c.head.readings c'.head.readings n_same c.readings c'.readings no_reading k r rs lt size in
      put_one (Reading k) l (figures_of c) (figures_of c') (ap (reading_text k) here ∙ text) (ap reading_fits here ∙ fit) h.head
      (λ j ne. part_other c.head.readings c'.head.readings n_same c.readings c'.readings no_reading k r rs j (λ e. ne (ap Reading e)))
      (λ j ne. part_same c.head.readings c'.head.readings n_same c.entries c'.entries (pos 0) es j)
      (λ j ne. part_same c.count c'.count h.count c.multipliers c'.multipliers (pos 0) ms j)
      (λ ne. end)

  pub put_entry : (v : ℤ) → c'.readings ≡ c.readings → c'.entries ≡ set c.entries k v → c'.multipliers ≡ c.multipliers → (c'.cost ≡ c.cost) × (c'.floor ≡ c.floor)
      → k < c.head.readings → k < length c.entries → entry_text k v ≡ l → entry_fits v ≡ true → Put (Entry k) l (figures_of c) (figures_of c')
  put_entry v rs es ms end lt size text fit =
      let here = part_here c.head.readings c'.head.readings n_same c.entries c'.entries (pos 0) k v es lt size in
      put_one (Entry k) l (figures_of c) (figures_of c') (ap (entry_text k) here ∙ text) (ap entry_fits here ∙ fit) h.head
      (λ j ne. part_same c.head.readings c'.head.readings n_same c.readings c'.readings no_reading rs j)
      (λ j ne. part_other c.head.readings c'.head.readings n_same c.entries c'.entries (pos 0) k v es j (λ e. ne (ap Entry e)))
      (λ j ne. part_same c.count c'.count h.count c.multipliers c'.multipliers (pos 0) ms j)
      (λ ne. end)

  pub put_multiplier : (v : ℤ) → c'.readings ≡ c.readings → c'.entries ≡ c.entries → c'.multipliers ≡ set c.multipliers k v → (c'.cost ≡ c.cost) × (c'.floor ≡ c.floor)
      → k < c.count → k < length c.multipliers → multiplier_text k v ≡ l → multiplier_fits v ≡ true → Put (Multiplier k) l (figures_of c) (figures_of c')
  put_multiplier v rs es ms end lt size text fit =
      let here = part_here c.count c'.count h.count c.multipliers c'.multipliers (pos 0) k v ms lt size in
      put_one (Multiplier k) l (figures_of c) (figures_of c') (ap (multiplier_text k) here ∙ text) (ap multiplier_fits here ∙ fit) h.head
      (λ j ne. part_same c.head.readings c'.head.readings n_same c.readings c'.readings no_reading rs j)
      (λ j ne. part_same c.head.readings c'.head.readings n_same c.entries c'.entries (pos 0) es j)
      (λ j ne. part_other c.count c'.count h.count c.multipliers c'.multipliers (pos 0) k v ms j (λ e. ne (ap Multiplier e)))
      (λ ne. end)

  pub put_end : c'.readings ≡ c.readings → c'.entries ≡ c.entries → c'.multipliers ≡ c.multipliers → end_text c'.cost c'.floor ≡ l → Put End l (figures_of c) (figures_of c')
  put_end rs es ms text =
      put_one End l (figures_of c) (figures_of c') text refl h.head
      (λ j ne. part_same c.head.readings c'.head.readings n_same c.readings c'.readings no_reading rs j)
      (λ j ne. part_same c.head.readings c'.head.readings n_same c.entries c'.entries (pos 0) es j)
      (λ j ne. part_same c.count c'.count h.count c.multipliers c'.multipliers (pos 0) ms j)
      (λ ne. absurd (ne refl))

-- a line that was kept
pub kept : (l : List ℕ) (m m' : Machine) (s : Stage) → m.stage ≡ s → SameHead m.contents m'.contents
    → Put s l (figures_of m.contents) (figures_of m'.contents)
    → m.taken ≤ m.contents.head.readings + m.contents.head.readings + m.contents.count
    → m'.taken ≡ m.taken + 1 → m'.stage ≡ stage_at m.contents.head.readings m.contents.count (m.taken + 1)
    → LineTaken l m m'
kept l m m' s stage h put more taken next =
    let n = ap (λ x. x.readings) h.head in
    record {
      put = subst (λ z. Put z l (figures_of m.contents) (figures_of m'.contents)) (sym stage) put;
      head = h.head;
      count = h.count;
      taken = taken;
      more = more;
      running = record {
        waits = next ∙ ap (λ x. stage_at x m.contents.count (m.taken + 1)) (sym n) ∙ ap (λ x. stage_at m'.contents.head.readings x (m.taken + 1)) (sym h.count) ∙ ap (stage_at m'.contents.head.readings m'.contents.count) (sym taken);
        room = omega (arith, more, taken, n, h.count);
      };
    }

-- fields that were read are the head of the numbers that they write
pub head_is : (f : HeadFields) (e : ℕ) (h : StatedHead) → Number f.edition.bytes.now e → HeadRead f h → HeadIs (frame_text (HeadFrame f)) e h
unfolding head_text
head_is f e h n r =
    let a = number_written 2 f.edition.bytes.now e f.edition.sized n in
    let b = number_written 4 f.roughness.bytes.now h.roughness f.roughness.sized r.roughness_is in
    let c = number_written 6 f.misfit.bytes.now h.misfit f.misfit.sized r.misfit_is in
    let d = number_written 6 f.bend.bytes.now h.bend f.bend.sized r.bend_is in
    let i = number_written 4 f.readings.bytes.now h.readings f.readings.sized r.readings_is in
    let j = number_written 4 f.stiffness.bytes.now h.stiffness f.stiffness.sized r.stiffness_is in
    let k = number_written 4 f.denominator.bytes.now h.denominator f.denominator.sized r.denominator_is in
    let l = number_written 16 f.allowance.bytes.now h.allowance f.allowance.sized r.allowance_is in
    record {
      edition_fits = a.0;
      fitting = rw (lt-ltb _ _ b.0, lt-ltb _ _ c.0, lt-ltb _ _ d.0, lt-ltb _ _ i.0, lt-ltb _ _ j.0, lt-ltb _ _ k.0, lt-ltb _ _ l.0);
      text = rw (a.1, b.1, c.1, d.1, i.1, j.1, k.1, l.1);
    }
