-- What the frame layer knows after t lines.
--     Past            a machine that is behind the head: the lines that it took are those of its figures
--     Reached         a machine after t lines
--     clean           no fault stands in the lines that were taken
--     taken           one line more is taken
--     refused, odd    a line that the machine refuses, that is no frame, or that is missing: the first fault
--     all_read        nothing is left, and nothing is waited for: the bytes are the file of the figures
use Rattle.std.proofs.Common.{◌≡◌, ℕ, zero, suc, ◌+◌, ◌-◌, ◌<◌, ◌≤◌, true, ◌&&◌, List, [], ◌∷◌, ◌++◌, length, get_or, ℤ, pos, negsuc, ◌≤ℤ◌, Some, None, Ok, Err, Option, sym, refl, ap, ◌∙◌, subst, inl, inr, ⊎_elim, arith, length-append, w64, SFits, Bor}
use lib.Signed.{le_z}
use Rattle.std.proofs.ByRecursion.{All-from_get_or}
use Rattle.std.proofs.lemmas.List.{length-take-le, get_or_append_left, get_or_at, ext_get_or}
use Rattle.std.proofs.lemmas.Int.{ints}
use Rattle.std.proofs.lemmas.Bool.{cases_lt}
use Rattle.kinds.specs.declared.refusal.Cause.{Cause}
use Rattle.kinds.specs.declared.refusal.Cause.TheVariants.{Frame, Mark, Full, Short}
use Rattle.digits.specs.Fields.{Fits}
use Rattle.archive.specs.declared.figures.Head.{Head as StatedHead}
use Rattle.archive.specs.File.{Figures, Fitting, edition, texts, file, reading_fits, entry_fits, multiplier_fits}
use Rattle.reader.specs.declared.contents.Wanted.{Wanted}
use Rattle.reader.specs.declared.fault.Fault.{Fault}
use Rattle.reader.specs.declared.lines.Lines.{Lines}
use Rattle.reader.specs.declared.machine.Machine.{Machine}
use Rattle.reader.specs.declared.stage.Stage.{Stage}
use Rattle.reader.specs.declared.stage.Stage.TheVariants.{Head, Reading, Entry, Multiplier, End, Nothing}
use Rattle.reader.specs.declared.fault.Layer.TheVariants as layer
use Rattle.reader.specs.Faults.{found_by}
use Rattle.reader.specs.Lines.{Good, pieces}
use Rattle.reader.specs.Turns.{Next}
use Rattle.reader.specs.Frames.{stage_at, size, InTurn, HeadIs, Agrees, reach_of, Disorder, headless, unlike, many, short, misplaced}
use Rattle.reader.specs.Heads.{HeadOff, HeadRefused}
use Rattle.reader.specs.Order.{FirstDisorder}
use Rattle.reader.specs.Readable.{figures_of, InForm}
use Rattle.reader.specs.Steps.{no_reading, text_of, fits_of, Running, HeadTaken, LineTaken, Stepped, SteppedAt}
use Rattle.reader.proofs.Cuts.{Upto, upto_line, upto_more, upto_past, upto_count}
use Rattle.reader.proofs.Heads.{head_one}
use Rattle.reader.proofs.Texts.{stage_reading, stage_entry, stage_multiplier, stage_some, stage_behind, index, index_at, texts_count, body_at, head_in_turn, text_in_turn, file_from}

pub record Past (w : Option Wanted) (ls : List (List ℕ)) (t : ℕ) (m : Machine) : Type 0 where
  pub lines : t ≡ m.taken + 1
  pub head : HeadIs (get_or ls 0 []) edition m.contents.head
  pub agrees : Agrees w m.contents.head
  pub long : reach_of w < m.contents.head.readings
  pub count : m.contents.count ≡ m.contents.head.readings - reach_of w
  pub running : Running m
  pub texts_are : (i : ℕ) → i < m.taken → text_of (figures_of m.contents) (stage_at m.contents.head.readings m.contents.count i) ≡ get_or ls (suc i) []
  pub fits_are : (i : ℕ) → i < m.taken → fits_of (figures_of m.contents) (stage_at m.contents.head.readings m.contents.count i) ≡ true

abbrev pub ReachedAt : Option Wanted → List (List ℕ) → ℕ → Machine → Stage → Type 0
ReachedAt w ls t m Head = t ≡ 0
ReachedAt w ls t m (Reading k) = Past w ls t m
ReachedAt w ls t m (Entry k) = Past w ls t m
ReachedAt w ls t m (Multiplier k) = Past w ls t m
ReachedAt w ls t m End = Past w ls t m
ReachedAt w ls t m Nothing = Past w ls t m

abbrev pub Reached : Option Wanted → List (List ℕ) → ℕ → Machine → Type 0
Reached w ls t m = ReachedAt w ls t m m.stage

module _ (w : Option Wanted) (ls : List (List ℕ)) (t : ℕ) (m : Machine) where
  past_clean : Past w ls t m → (l u : ℕ) (c : Cause) → Disorder w ls l u c → l < t + 1 → ⊥
  past_clean a l u c (headless none) lt = none (head_in_turn (get_or ls 0 []) edition m.contents.head a.head)
  past_clean a l u c (unlike {e} {h} i no-like) lt =
      let p = head_one (get_or ls 0 []) edition e m.contents.head h a.head i in
      no-like (sym p.0, subst (Agrees w) p.1 a.agrees)
  past_clean a l u c (many {e} {h} i more) lt =
      let p = head_one (get_or ls 0 []) edition e m.contents.head h a.head i in
      omega (arith, more, m.contents.few, ap (λ x. x.readings) p.1)
  past_clean a l u c (short {e} {h} i less) lt =
      let p = head_one (get_or ls 0 []) edition e m.contents.head h a.head i in
      omega (arith, less, a.long, ap (λ x. x.readings) p.1)
  past_clean a l u c (misplaced {e} {h} {j} i bad) lt =
      let p = head_one (get_or ls 0 []) edition e m.contents.head h a.head i in
      let n = ap (λ x. x.readings) p.1 in
      let s : stage_at m.contents.head.readings m.contents.count j ≡ stage_at h.readings (h.readings - reach_of w) j =
      ap (λ k. stage_at m.contents.head.readings k j) a.count ∙ ap (λ k. stage_at k (k - reach_of w) j) n in
      let here = a.texts_are j (omega (arith, lt, a.lines)) in
      bad (subst (InTurn (stage_at h.readings (h.readings - reach_of w) j)) here (subst (λ z. InTurn z (text_of (figures_of m.contents) (stage_at m.contents.head.readings m.contents.count j))) s (text_in_turn (figures_of m.contents) (stage_at m.contents.head.readings m.contents.count j))))

  -- a fault in the line behind those that were taken is the first
  first_at : Past w ls t m → (f : Fault) → f ≡ found_by layer.Frames Frame (t + 1) → (InTurn m.stage (get_or ls t []) → ⊥) → FirstDisorder w ls f
  first_at a f is bad = record {
    line = suc (suc m.taken);
    turn = 0;
    cause = Frame;
    is = is ∙ ap (found_by layer.Frames Frame) (omega (arith, a.lines));
    has = misplaced {j = m.taken} a.head (λ o. bad (subst (λ i. InTurn m.stage (get_or ls i [])) (sym q) (subst (λ z. InTurn z (get_or ls (suc m.taken) [])) (sym s) o)));
    before = λ l u c d e. ⊎_elim (λ lt. past_clean a l u c d (omega (arith, lt, a.lines))) (λ p. omega (arith, p.1)) e;
  }
    where
      q : t ≡ suc m.taken
      q = omega (arith, a.lines)

      s : m.stage ≡ stage_at m.contents.head.readings (m.contents.head.readings - reach_of w) m.taken
      s = a.running.waits ∙ ap (λ k. stage_at m.contents.head.readings k m.taken) a.count

  headless_at : t ≡ 0 → (f : Fault) → f ≡ found_by layer.Frames Frame (t + 1) → (InTurn Head (get_or ls t []) → ⊥) → FirstDisorder w ls f
  headless_at z f is bad = record {
    line = 1;
    turn = 0;
    cause = Frame;
    is = is ∙ (let q : t + 1 ≡ 1 = omega (arith, z) in ap (found_by layer.Frames Frame) q);
    has = headless (subst (λ i. InTurn Head (get_or ls i []) → ⊥) z bad);
    before = λ l u c d e. ⊎_elim (λ lt. least l u c d (omega (arith, lt))) (λ p. omega (arith, p.1)) e;
  }
    where
      least : (l u : ℕ) (c : Cause) → Disorder w ls l u c → l < 1 → ⊥
      least l u c (headless none) lt = omega arith
      least l u c (unlike i no-like) lt = omega arith
      least l u c (many i more) lt = omega arith
      least l u c (short i less) lt = omega arith
      least l u c (misplaced i bad) lt = omega arith

  odd_at : (s : Stage) → m.stage ≡ s → ReachedAt w ls t m s → (f : Fault) → f ≡ found_by layer.Frames Frame (t + 1) → (InTurn s (get_or ls t []) → ⊥) → FirstDisorder w ls f
  odd_at Head e a f is bad = headless_at a f is bad
  odd_at (Reading k) e a f is bad = first_at a f is (λ o. bad (subst (λ z. InTurn z (get_or ls t [])) e o))
  odd_at (Entry k) e a f is bad = first_at a f is (λ o. bad (subst (λ z. InTurn z (get_or ls t [])) e o))
  odd_at (Multiplier k) e a f is bad = first_at a f is (λ o. bad (subst (λ z. InTurn z (get_or ls t [])) e o))
  odd_at End e a f is bad = first_at a f is (λ o. bad (subst (λ z. InTurn z (get_or ls t [])) e o))
  odd_at Nothing e a f is bad = first_at a f is (λ o. bad (subst (λ z. InTurn z (get_or ls t [])) e o))

  -- a line that is not what the machine waits for
  pub odd : Reached w ls t m → (f : Fault) → f ≡ found_by layer.Frames Frame (t + 1) → (InTurn m.stage (get_or ls t []) → ⊥) → FirstDisorder w ls f
  odd a f is bad = odd_at m.stage refl a f is bad

-- a head that is refused
module _ (w : Option Wanted) (ls : List (List ℕ)) (f : Fault) where
  first_turn : (e : ℕ) (h : StatedHead) → HeadIs (get_or ls 0 []) e h → (u : ℕ) (c : Cause) → f ≡ found_by layer.Frames c 1 → Disorder w ls 1 u c
      → ((l v : ℕ) (d : Cause) → Disorder w ls l v d → l ≡ 1 → v < u → ⊥) → FirstDisorder w ls f
  first_turn e h i u c is has none = record {
    line = 1;
    turn = u;
    cause = c;
    is = is;
    has = has;
    before = λ l v d x p. ⊎_elim (λ lt. low l v d x lt) (λ q. none l v d x q.0 q.1) p;
  }
    where
      low : (l v : ℕ) (d : Cause) → Disorder w ls l v d → l < 1 → ⊥
      low l v d (headless none) lt = omega arith
      low l v d (unlike i no-like) lt = omega arith
      low l v d (many i more) lt = omega arith
      low l v d (short i less) lt = omega arith
      low l v d (misplaced i bad) lt = omega arith

  pub off : (e : ℕ) (h : StatedHead) → HeadIs (get_or ls 0 []) e h → HeadOff w e h 1 f → FirstDisorder w ls f
  off e h i (inl x) = first_turn e h i 1 Mark x.0 (unlike i x.1) none
    where
      none : (l v : ℕ) (d : Cause) → Disorder w ls l v d → l ≡ 1 → v < 1 → ⊥
      none l v d (headless no-head) z lt = no-head (head_in_turn (get_or ls 0 []) e h i)
      none l v d (unlike j no-like) z lt = omega arith
      none l v d (many j more) z lt = omega arith
      none l v d (short j less) z lt = omega arith
      none l v d (misplaced j bad) z lt = omega arith
  off e h i (inr (inl x)) = first_turn e h i 2 Full x.0 (many i x.2) none
    where
      none : (l v : ℕ) (d : Cause) → Disorder w ls l v d → l ≡ 1 → v < 2 → ⊥
      none l v d (headless no-head) z lt = no-head (head_in_turn (get_or ls 0 []) e h i)
      none l v d (unlike {e = e'} {h = h'} j no-like) z lt = let p = head_one (get_or ls 0 []) e e' h h' i j in no-like (sym p.0 ∙ x.1.0, subst (Agrees w) p.1 x.1.1)
      none l v d (many j more) z lt = omega arith
      none l v d (short j less) z lt = omega arith
      none l v d (misplaced j bad) z lt = omega arith
  off e h i (inr (inr x)) = first_turn e h i 3 Short x.0 (short i x.3) none
    where
      none : (l v : ℕ) (d : Cause) → Disorder w ls l v d → l ≡ 1 → v < 3 → ⊥
      none l v d (headless no-head) z lt = no-head (head_in_turn (get_or ls 0 []) e h i)
      none l v d (unlike {e = e'} {h = h'} j no-like) z lt = let p = head_one (get_or ls 0 []) e e' h h' i j in no-like (sym p.0 ∙ x.1.0, subst (Agrees w) p.1 x.1.1)
      none l v d (many {e = e'} {h = h'} j more) z lt = let p = head_one (get_or ls 0 []) e e' h h' i j in omega (arith, more, x.2, ap (λ y. y.readings) p.1)
      none l v d (short j less) z lt = omega arith
      none l v d (misplaced j bad) z lt = omega arith

-- a machine behind the head waits for no head
past_reached : (w : Option Wanted) (ls : List (List ℕ)) (t : ℕ) (m : Machine) → Past w ls t m → Reached w ls t m
past_reached w ls t m a = go m.stage refl
  where
    go : (s : Stage) → m.stage ≡ s → ReachedAt w ls t m s
    go Head e = absurd (stage_behind m.contents.head.readings m.contents.count m.taken (sym a.running.waits ∙ e))
    go (Reading k) e = a
    go (Entry k) e = a
    go (Multiplier k) e = a
    go End e = a
    go Nothing e = a

-- one step of the machine, at a line
module _ (w : Option Wanted) (ls : List (List ℕ)) (t : ℕ) (m m' : Machine) (l : List ℕ) (here : get_or ls t [] ≡ l) where
  line_refused : Past w ls t m → (f : Fault) → (f ≡ found_by layer.Frames Frame (t + 1)) × (InTurn m.stage l → ⊥) → FirstDisorder w ls f
  line_refused a f x = first_at w ls t m a f x.0 (λ o. x.1 (subst (InTurn m.stage) here o))

  head_refused : t ≡ 0 → (f : Fault) → HeadRefused w l (t + 1) f → FirstDisorder w ls f
  head_refused z f (inl x) = headless_at w ls t m z f x.0 (λ o. x.1 (subst (InTurn Head) here o))
  head_refused z f (inr x) =
      let first : get_or ls 0 [] ≡ l = ap (λ i. get_or ls i []) (sym z) ∙ here in
      off w ls f x.0 x.1 (subst (λ y. HeadIs y x.0 x.1) (sym first) x.2) (subst (λ i. HeadOff w x.0 x.1 (i + 1) f) z x.3)

  refused_at : (s : Stage) → ReachedAt w ls t m s → (f : Fault) → SteppedAt w l (t + 1) m m' s (Err f) → FirstDisorder w ls f
  refused_at Head a f x = head_refused a f x
  refused_at (Reading k) a f x = line_refused a f x
  refused_at (Entry k) a f x = line_refused a f x
  refused_at (Multiplier k) a f x = line_refused a f x
  refused_at End a f x = line_refused a f x
  refused_at Nothing a f x = line_refused a f x

  pub refused : Reached w ls t m → (f : Fault) → Stepped w l (t + 1) m m' (Err f) → FirstDisorder w ls f
  refused a f x = refused_at m.stage a f x

  head_taken : t ≡ 0 → HeadTaken w l m' → Past w ls (t + 1) m'
  head_taken z x =
      let first : get_or ls 0 [] ≡ l = ap (λ i. get_or ls i []) (sym z) ∙ here in
      record {
        lines = omega (arith, z, x.none);
        head = subst (λ y. HeadIs y edition m'.contents.head) (sym first) x.head;
        agrees = x.agrees;
        long = x.long;
        count = x.count;
        running = x.running;
        texts_are = λ i lt. absurd (omega (arith, lt, x.none));
        fits_are = λ i lt. absurd (omega (arith, lt, x.none));
      }

  line_taken : Past w ls t m → LineTaken l m m' → Past w ls (t + 1) m'
  line_taken a x = record {
    lines = omega (arith, a.lines, x.taken);
    head = subst (HeadIs (get_or ls 0 []) edition) (sym x.head) a.head;
    agrees = subst (Agrees w) (sym x.head) a.agrees;
    long = subst (λ h. reach_of w < h.readings) (sym x.head) a.long;
    count = x.count ∙ a.count ∙ ap (λ h. h.readings - reach_of w) (sym x.head);
    running = x.running;
    texts_are = λ i lt. ⊎_elim (λ old. ap (text_of (figures_of m'.contents)) (same i) ∙ x.put.texts (stage_at n k i) (other i old) ∙ a.texts_are i old) (λ now. let e : i ≡ m.taken = omega (arith, now, lt, x.taken) in ap (text_of (figures_of m'.contents)) (same i ∙ this i e) ∙ x.put.text ∙ sym here ∙ ap (λ j. get_or ls j []) (omega (arith, a.lines, e))) (cases_lt i m.taken);
    fits_are = λ i lt. ⊎_elim (λ old. ap (fits_of (figures_of m'.contents)) (same i) ∙ x.put.fits (stage_at n k i) (other i old) ∙ a.fits_are i old) (λ now. let e : i ≡ m.taken = omega (arith, now, lt, x.taken) in ap (fits_of (figures_of m'.contents)) (same i ∙ this i e) ∙ x.put.fit) (cases_lt i m.taken);
  }
    where
      n : ℕ
      n = m.contents.head.readings

      k : ℕ
      k = m.contents.count

      same : (i : ℕ) → stage_at m'.contents.head.readings m'.contents.count i ≡ stage_at m.contents.head.readings m.contents.count i
      same i = ap (λ h. stage_at h.readings m'.contents.count i) x.head ∙ ap (λ c. stage_at m.contents.head.readings c i) x.count

      this : (i : ℕ) → i ≡ m.taken → stage_at m.contents.head.readings m.contents.count i ≡ m.stage
      this i e = ap (stage_at m.contents.head.readings m.contents.count) e ∙ sym a.running.waits

      other : (i : ℕ) → i < m.taken → stage_at m.contents.head.readings m.contents.count i ≡ m.stage → ⊥
      other i lt e =
          let p : index m.contents.head.readings m.contents.count (stage_at m.contents.head.readings m.contents.count i) ≡ index m.contents.head.readings m.contents.count (stage_at m.contents.head.readings m.contents.count m.taken) = ap (index m.contents.head.readings m.contents.count) (e ∙ a.running.waits) in
          omega (arith, lt, p, index_at m.contents.head.readings m.contents.count i (omega (arith, lt, x.more)), index_at m.contents.head.readings m.contents.count m.taken x.more)

  taken_at : (s : Stage) → ReachedAt w ls t m s → SteppedAt w l (t + 1) m m' s (Ok tt) → Past w ls (t + 1) m'
  taken_at Head a x = head_taken a x
  taken_at (Reading k) a x = line_taken a x
  taken_at (Entry k) a x = line_taken a x
  taken_at (Multiplier k) a x = line_taken a x
  taken_at End a x = line_taken a x
  taken_at Nothing a x = line_taken a x

  pub taken : Reached w ls t m → Stepped w l (t + 1) m m' (Ok tt) → Reached w ls (t + 1) m'
  taken a x = past_reached w ls (t + 1) m' (taken_at m.stage a x)

-- nothing is left, and the machine waits for nothing
module _ (w : Option Wanted) (bs : List ℕ) (t : ℕ) (m : Machine) (a : Past w (pieces bs) t m) (nothing : m.stage ≡ Nothing)
    (past : (j : ℕ) → t ≤ j → get_or (pieces bs) j [] ≡ []) (count : length (pieces bs) ≡ t + 1) (cost : Fits 16 m.contents.cost) (floor : SFits w64 m.contents.floor) where
  all_taken : m.taken ≡ m.contents.head.readings + m.contents.head.readings + m.contents.count + 1
  all_taken = ⊎_elim
      (λ lt. absurd (stage_some m.contents.head.readings m.contents.count m.taken (omega arith) (sym a.running.waits ∙ nothing)))
      (λ ge. omega (arith, ge, a.running.room))
      (cases_lt m.taken (m.contents.head.readings + m.contents.head.readings + m.contents.count + 1))

  long_r : length (figures_of m.contents).readings ≡ m.contents.head.readings
  long_r = length-take-le m.contents.head.readings m.contents.readings (omega (arith, m.contents.few, m.contents.places.0))

  long_e : length (figures_of m.contents).entries ≡ m.contents.head.readings
  long_e = length-take-le m.contents.head.readings m.contents.entries (omega (arith, m.contents.few, m.contents.places.1))

  long_m : length (figures_of m.contents).multipliers ≡ m.contents.count
  long_m = length-take-le m.contents.count m.contents.multipliers (omega (arith, m.contents.fewer, m.contents.places.2))

  abbrev n : ℕ
  n = m.contents.head.readings

  abbrev k : ℕ
  k = m.contents.count

  abbrev g : Figures
  g = figures_of m.contents

  lines_are : pieces bs ≡ texts g ++ ([] ∷ [])
  lines_are = ext_get_or [] (pieces bs) (texts g ++ ([] ∷ [])) (omega (arith, count, a.lines, all_taken, length-append (texts g) ([] ∷ []), texts_count g n k long_r long_e long_m)) go
    where
      go : (i : ℕ) → i < length (pieces bs) → get_or (pieces bs) i [] ≡ get_or (texts g ++ ([] ∷ [])) i []
      go zero h = a.head.text
      go (suc j) h = ⊎_elim
          (λ lt.
          sym (a.texts_are j lt)
          ∙ sym (body_at g n k long_r long_e long_m j (omega (arith, lt, all_taken)))
          ∙ sym (get_or_append_left (texts g) ([] ∷ []) [] (suc j) (omega (arith, lt, all_taken, texts_count g n k long_r long_e long_m))))
          (λ ge.
          past (suc j) (omega (arith, ge, a.lines))
          ∙ sym (get_or_at (texts g) [] [] [] (suc j) (omega (arith, ge, h, count, a.lines, all_taken, texts_count g n k long_r long_e long_m))))
          (cases_lt j m.taken)

  fitting : Fitting g
  fitting = record {
    head = a.head.fitting;
    readings = All-from_get_or (λ r. reading_fits r ≡ true) g.readings no_reading (λ i lt.
        let le : i < n = omega (arith, lt, long_r) in
        sym (ap (fits_of g) (stage_reading n k i le)) ∙ a.fits_are i (omega (arith, le, all_taken)));
    entries = All-from_get_or (λ v. entry_fits v ≡ true) g.entries (pos 0) (λ i lt.
        let le : i < n = omega (arith, lt, long_e) in
        let at : n + i - n ≡ i = omega arith in
        sym (ap (fits_of g) (stage_entry n k (n + i) (omega arith) (omega (arith, le)) ∙ ap Entry at)) ∙ a.fits_are (n + i) (omega (arith, le, all_taken)));
    multipliers = All-from_get_or (λ v. multiplier_fits v ≡ true) g.multipliers (pos 0) (λ i lt.
        let le : i < k = omega (arith, lt, long_m) in
        let at : n + n + i - (n + n) ≡ i = omega arith in
        sym (ap (fits_of g) (stage_multiplier n k (n + n + i) (omega arith) (omega (arith, le)) ∙ ap Multiplier at)) ∙ a.fits_are (n + n + i) (omega (arith, le, all_taken)));
    cost = cost;
    floor = floor;
    count = long_r;
    table = long_e;
    places = omega (arith, long_m, m.contents.fewer);
  }

  pub all_read : InForm w g × (bs ≡ file g)
  all_read = (record { fitting = fitting; agrees = a.agrees; few = m.contents.few; long = a.long; count = long_m ∙ a.count }, file_from bs g lines_are)

-- what a turn of the line reader gave
pub record Turned (bs : List ℕ) (a b : Lines) (l : List ℕ) : Type 0 where
  pub here : get_or (pieces bs) a.taken [] ≡ l
  pub counts : b.taken ≡ a.taken + 1
  pub good : Good l
  pub upto : Upto bs b.rest.now b.taken

pub turned : (bs : List ℕ) (a b : Lines) (o : Option (Bor (List ℕ))) (l : Bor (List ℕ)) → Upto bs a.rest.now a.taken → Next a b (Ok o) → o ≡ Some l → Turned bs a b l.now
turned bs a b o l u n e =
    let m : Next a b (Ok (Some l)) = subst (λ x. Next a b (Ok x)) e n in
    record {
      here = upto_line bs a.rest.now l.now b.rest.now a.taken u m.0 m.2;
      counts = m.1;
      good = m.2;
      upto = subst (Upto bs b.rest.now) (sym m.1) (upto_more bs a.rest.now l.now b.rest.now a.taken u m.0 m.2);
    }

-- of all stages, only the last waits for no digits
no_digits : (s : Stage) → 0 ≡ size s → s ≡ Nothing
no_digits Head e = absurd (omega arith)
no_digits (Reading k) e = absurd (omega arith)
no_digits (Entry k) e = absurd (omega arith)
no_digits (Multiplier k) e = absurd (omega arith)
no_digits End e = absurd (omega arith)
no_digits Nothing e = refl

-- nothing is left: no line stands where the machine waits for one
pub missing : (w : Option Wanted) (bs : List ℕ) (a b : Lines) (o : Option (Bor (List ℕ))) (m : Machine) (f : Fault) → Upto bs a.rest.now a.taken → Next a b (Ok o) → o ≡ None
    → Reached w (pieces bs) a.taken m → (m.stage ≡ Nothing → ⊥) → f ≡ found_by layer.Frames Frame (b.taken + 1) → FirstDisorder w (pieces bs) f
missing w bs a b o m f u n e r waits is =
    let x : Next a b (Ok None) = subst (λ y. Next a b (Ok y)) e n in
    odd w (pieces bs) a.taken m r f (is ∙ ap (λ y. found_by layer.Frames Frame (y.taken + 1)) x.1) (λ t. waits (no_digits m.stage (subst (InTurn m.stage) (upto_past bs a.rest.now a.taken u x.0 a.taken (omega arith)) t).sized))

pub finished : (w : Option Wanted) (bs : List ℕ) (a b : Lines) (o : Option (Bor (List ℕ))) (m : Machine) → Upto bs a.rest.now a.taken → Next a b (Ok o) → o ≡ None
    → Reached w (pieces bs) a.taken m → m.stage ≡ Nothing → Fits 16 m.contents.cost → SFits w64 m.contents.floor → InForm w (figures_of m.contents) × (bs ≡ file (figures_of m.contents))
finished w bs a b o m u n e r s cost floor =
    let x : Next a b (Ok None) = subst (λ y. Next a b (Ok y)) e n in
    all_read w bs a.taken m (subst (ReachedAt w (pieces bs) a.taken m) s r) s (upto_past bs a.rest.now a.taken u x.0) (upto_count bs a.rest.now a.taken u x.0) cost floor

pub long_fits : (z : ℤ) → (le_z (negsuc 9223372036854775807) z && le_z z (pos 9223372036854775807)) ≡ true → SFits w64 z
long_fits z e =
    let low : negsuc 9223372036854775807 ≤ℤ z = grind (arith, ints) in
    let high : z ≤ℤ pos 9223372036854775807 = grind (arith, ints) in
    omega (arith, ints)
