-- The lines of a file: their lengths, their beginnings and their places.
--     texts_length, texts_at      how many frames a list has, and which stands where
--     body, body_at   the lines behind the head, and which of them stands where
--     text_in_turn    the line that figures have for a stage is the one that the stage waits for
--     text_good       it is a good line
--     pieces_file     a file falls into its lines
--     rejoin          bytes are their pieces with an end byte between
use Rattle.std.proofs.Common.{◌≡◌, ℕ, zero, suc, ◌+◌, ◌-◌, ◌<◌, ◌≤◌, true, eqb, List, [], ◌∷◌, ◌++◌, length, get_or, take, pos, sym, refl, ap, ◌∙◌, subst, inl, inr, ⊎_elim, append_assoc, arith, length-append}
use Rattle.std.specs.List.{flat_map, AllByRecursion}
use Rattle.std.proofs.ByRecursion.{All-append, All-get_or, All-from_get_or}
use Rattle.std.proofs.lemmas.List.{take_at, get_or_append_left, get_or-append_right}
use Rattle.std.proofs.lemmas.Bool.{lt-ltb, le-ltb, cases_lt, eqb-true, cases_Bool}
use Rattle.digits.specs.Fields.{is_digit, Digits, field}
use Rattle.digits.proofs.Fields.{field_length, field_digits}
use Rattle.archive.specs.declared.figures.Head.{Head as StatedHead}
use Rattle.archive.specs.File.{Figures, edition, head_text, reading_text, entry_text, multiplier_text, end_text, texts_from, texts, line, file}
use Rattle.reader.specs.declared.stage.Stage.{Stage}
use Rattle.reader.specs.declared.stage.Stage.TheVariants.{Head, Reading, Entry, Multiplier, End, Nothing}
use Rattle.reader.specs.Lines.{Good, pieces, before_first, Whole}
use Rattle.reader.specs.Frames.{stage_at, size, InTurn, HeadIs}
use Rattle.reader.specs.Steps.{no_reading, text_of}
use Rattle.reader.proofs.Cuts.{pieces_line, pieces_last, pieces_some, good_no_end}

abbrev IsDigit : ℕ → Type 0
IsDigit b = is_digit b ≡ true

pub texts_length : {X : Type 0} (text : ℕ → X → List ℕ) (k : ℕ) (xs : List X) → length (texts_from text k xs) ≡ length xs
texts_length text k [] = refl
texts_length text k (x ∷ xs) = ap suc (texts_length text (suc k) xs)

texts_at : {X : Type 0} (text : ℕ → X → List ℕ) (k : ℕ) (xs : List X) (j : ℕ) (d : X) → j < length xs → get_or (texts_from text k xs) j [] ≡ text (k + j) (get_or xs j d)
texts_at text k [] j d h = absurd (omega arith)
texts_at text k (x ∷ xs) zero d h = let e : k ≡ k + 0 = omega arith in ap (λ n. text n x) e
texts_at text k (x ∷ xs) (suc j) d h = let e : suc k + j ≡ k + suc j = omega arith in texts_at text (suc k) xs j d (omega arith) ∙ ap (λ n. text n (get_or xs j d)) e

-- the stage of each line, by where it stands
pub stage_reading : (n m j : ℕ) → j < n → stage_at n m j ≡ Reading j
stage_reading n m j h = rw (lt-ltb j n h)

pub stage_entry : (n m j : ℕ) → n ≤ j → j < n + n → stage_at n m j ≡ Entry (j - n)
stage_entry n m j a h = rw (le-ltb j n a, lt-ltb j (n + n) h)

pub stage_multiplier : (n m j : ℕ) → n + n ≤ j → j < n + n + m → stage_at n m j ≡ Multiplier (j - (n + n))
stage_multiplier n m j a h = let b : n ≤ j = omega arith in rw (le-ltb j n b, le-ltb j (n + n) a, lt-ltb j (n + n + m) h)

pub stage_end : (n m j : ℕ) → j ≡ n + n + m → stage_at n m j ≡ End
stage_end n m j e = grind arith

pub stage_nothing : (n m j : ℕ) → n + n + m < j → stage_at n m j ≡ Nothing
stage_nothing n m j h = grind arith

-- the four groups behind the head
data Group (n m j : ℕ) : Type 0 where
  in_readings : j < n → Group n m j
  in_entries : n ≤ j → j < n + n → Group n m j
  in_multipliers : n + n ≤ j → j < n + n + m → Group n m j
  at_end : j ≡ n + n + m → Group n m j

group_of : (n m j : ℕ) → j ≤ n + n + m → Group n m j
group_of n m j h = ⊎_elim in_readings
    (λ a. ⊎_elim (in_entries a) (λ b. ⊎_elim (in_multipliers b) (λ c. at_end (omega arith)) (cases_lt j (n + n + m))) (cases_lt j (n + n)))
    (cases_lt j n)

-- which line a stage waits for
abbrev pub index : ℕ → ℕ → Stage → ℕ
index n m Head = 0
index n m (Reading k) = k
index n m (Entry k) = n + k
index n m (Multiplier k) = n + n + k
index n m End = n + n + m
index n m Nothing = 0

pub index_at : (n m j : ℕ) → j ≤ n + n + m → index n m (stage_at n m j) ≡ j
index_at n m j h = go (group_of n m j h)
  where
    go : Group n m j → index n m (stage_at n m j) ≡ j
    go (in_readings a) = ap (index n m) (stage_reading n m j a)
    go (in_entries a b) = ap (index n m) (stage_entry n m j a b) ∙ omega arith
    go (in_multipliers a b) = ap (index n m) (stage_multiplier n m j a b) ∙ omega arith
    go (at_end e) = ap (index n m) (stage_end n m j e) ∙ sym e

module _ (g : Figures) (n m : ℕ) (readings : length g.readings ≡ n) (entries : length g.entries ≡ n) (multipliers : length g.multipliers ≡ m) where
  abbrev R : List (List ℕ)
  R = texts_from reading_text 0 g.readings

  abbrev E : List (List ℕ)
  E = texts_from entry_text 0 g.entries

  abbrev M : List (List ℕ)
  M = texts_from multiplier_text 0 g.multipliers

  abbrev Z : List (List ℕ)
  Z = end_text g.cost g.floor ∷ []

  long_R : length R ≡ n
  long_R = texts_length reading_text 0 g.readings ∙ readings

  long_E : length E ≡ n
  long_E = texts_length entry_text 0 g.entries ∙ entries

  long_M : length M ≡ m
  long_M = texts_length multiplier_text 0 g.multipliers ∙ multipliers

  pub texts_count : length (texts g) ≡ n + n + m + 2
  texts_count = omega (arith, length-append R (E ++ (M ++ Z)), length-append E (M ++ Z), length-append M Z, long_R, long_E, long_M)

  pub body_at : (j : ℕ) → j ≤ n + n + m → get_or (texts g) (suc j) [] ≡ text_of g (stage_at n m j)
  body_at j h = go (group_of n m j h)
    where
      past_R : n ≤ j → get_or (R ++ (E ++ (M ++ Z))) j [] ≡ get_or (E ++ (M ++ Z)) (j - n) []
      past_R a = get_or-append_right R (E ++ (M ++ Z)) n j [] long_R a

      past_E : n + n ≤ j → get_or (R ++ (E ++ (M ++ Z))) j [] ≡ get_or (M ++ Z) (j - n - n) []
      past_E a = past_R (omega arith) ∙ get_or-append_right E (M ++ Z) n (j - n) [] long_E (omega arith)

      go : Group n m j → get_or (texts g) (suc j) [] ≡ text_of g (stage_at n m j)
      go (in_readings a) =
          get_or_append_left R (E ++ (M ++ Z)) [] j (omega (arith, long_R))
          ∙ texts_at reading_text 0 g.readings j no_reading (omega (arith, readings))
          ∙ (let e : 0 + j ≡ j = omega arith in ap (λ i. reading_text i (get_or g.readings j no_reading)) e)
          ∙ sym (ap (text_of g) (stage_reading n m j a))
      go (in_entries a b) =
          past_R a
          ∙ get_or_append_left E (M ++ Z) [] (j - n) (omega (arith, long_E))
          ∙ texts_at entry_text 0 g.entries (j - n) (pos 0) (omega (arith, entries))
          ∙ (let e : 0 + (j - n) ≡ j - n = omega arith in ap (λ i. entry_text i (get_or g.entries (j - n) (pos 0))) e)
          ∙ sym (ap (text_of g) (stage_entry n m j a b))
      go (in_multipliers a b) =
          past_E a
          ∙ (let e : j - n - n ≡ j - (n + n) = omega arith in ap (λ i. get_or (M ++ Z) i []) e)
          ∙ get_or_append_left M Z [] (j - (n + n)) (omega (arith, long_M))
          ∙ texts_at multiplier_text 0 g.multipliers (j - (n + n)) (pos 0) (omega (arith, multipliers))
          ∙ (let e : 0 + (j - (n + n)) ≡ j - (n + n) = omega arith in ap (λ i. multiplier_text i (get_or g.multipliers (j - (n + n)) (pos 0))) e)
          ∙ sym (ap (text_of g) (stage_multiplier n m j a b))
      go (at_end e) =
          past_E (omega arith)
          ∙ get_or-append_right M Z m (j - n - n) [] long_M (omega arith)
          ∙ (let z : j - n - n - m ≡ 0 = omega arith in ap (λ i. get_or Z i []) z)
          ∙ sym (ap (text_of g) (stage_end n m j e))

-- a frame with its place begins as its stage waits
led : (x y k : ℕ) (t : List ℕ) → take (length (x ∷ y ∷ field 4 k)) (x ∷ y ∷ (field 4 k ++ t)) ≡ x ∷ y ∷ field 4 k
led x y k t = ap (λ l. x ∷ y ∷ l) (take_at (field 4 k) t (length (field 4 k)) refl)

head_length : (e : ℕ) (h : StatedHead) → length (head_text e h) ≡ 48
unfolding head_text
head_length e h = simp (length-append, field_length)

pub head_in_turn : (l : List ℕ) (e : ℕ) (h : StatedHead) → HeadIs l e h → InTurn Head l
unfolding head_text
head_in_turn l e h i = record { leads = ap (take 2) i.text; sized = ap length i.text ∙ head_length e h }

pub text_in_turn : (g : Figures) (s : Stage) → InTurn s (text_of g s)
unfolding head_text reading_text entry_text multiplier_text end_text
text_in_turn g Head = record { leads = refl; sized = head_length edition g.head }
text_in_turn g (Reading k) = record { leads = led 48 50 k _; sized = simp (length-append, field_length) }
text_in_turn g (Entry k) = record { leads = led 48 51 k _; sized = simp (length-append, field_length) }
text_in_turn g (Multiplier k) = record { leads = led 48 52 k _; sized = simp (length-append, field_length) }
text_in_turn g End = record { leads = refl; sized = simp (length-append, field_length) }
text_in_turn g Nothing = record { leads = refl; sized = refl }

-- fields one after the other are of digits
two : (w v x y : ℕ) → Digits (field w x ++ field v y)
two w v x y = All-append IsDigit (field w x) (field v y) (field_digits w x) (field_digits v y)

more : (w x : ℕ) (t : List ℕ) → Digits t → Digits (field w x ++ t)
more w x t h = All-append IsDigit (field w x) t (field_digits w x) h

text_digits : (g : Figures) (s : Stage) → Digits (text_of g s)
unfolding head_text reading_text entry_text multiplier_text end_text
text_digits g Head = (refl, (refl, more 2 edition _ (more 4 _ _ (more 6 _ _ (more 6 _ _ (more 4 _ _ (more 4 _ _ (two 4 16 _ _))))))))
text_digits g (Reading k) = (refl, (refl, more 4 k _ (more 8 _ _ (two 4 4 _ _))))
text_digits g (Entry k) = (refl, (refl, two 4 4 k _))
text_digits g (Multiplier k) = (refl, (refl, two 4 8 k _))
text_digits g End = (refl, (refl, two 16 16 _ _))
text_digits g Nothing = tt

pub text_good : (g : Figures) (s : Stage) → (s ≡ Nothing → ⊥) → Good (text_of g s)
text_good g s ne =
    let long = (text_in_turn g s).sized in
    record { least = (sized s ne (text_of g s) long).0; most = (sized s ne (text_of g s) long).1; digits = text_digits g s }
  where
    sized : (s : Stage) → (s ≡ Nothing → ⊥) → (l : List ℕ) → length l ≡ size s → (2 ≤ length l) × (length l ≤ 60)
    sized Head ne l e = (omega arith, omega arith)
    sized (Reading k) ne l e = (omega arith, omega arith)
    sized (Entry k) ne l e = (omega arith, omega arith)
    sized (Multiplier k) ne l e = (omega arith, omega arith)
    sized End ne l e = (omega arith, omega arith)
    sized Nothing ne l e = absurd (ne refl)

abbrev Waits : Stage → Type 0
Waits Head = Unit {0}
Waits (Reading k) = Unit {0}
Waits (Entry k) = Unit {0}
Waits (Multiplier k) = Unit {0}
Waits End = Unit {0}
Waits Nothing = ⊥

pub stage_some : (n m j : ℕ) → j ≤ n + n + m → stage_at n m j ≡ Nothing → ⊥
stage_some n m j h e = subst Waits e (go (group_of n m j h))
  where
    go : Group n m j → Waits (stage_at n m j)
    go (in_readings a) = subst Waits (sym (stage_reading n m j a)) tt
    go (in_entries a b) = subst Waits (sym (stage_entry n m j a b)) tt
    go (in_multipliers a b) = subst Waits (sym (stage_multiplier n m j a b)) tt
    go (at_end q) = subst Waits (sym (stage_end n m j q)) tt

abbrev Behind : Stage → Type 0
Behind Head = ⊥
Behind (Reading k) = Unit {0}
Behind (Entry k) = Unit {0}
Behind (Multiplier k) = Unit {0}
Behind End = Unit {0}
Behind Nothing = Unit {0}

pub stage_behind : (n m j : ℕ) → stage_at n m j ≡ Head → ⊥
stage_behind n m j e = subst Behind e (⊎_elim (λ lt. go (group_of n m j (omega arith))) (λ ge. subst Behind (sym (stage_nothing n m j (omega arith))) tt) (cases_lt j (n + n + m + 1)))
  where
    go : Group n m j → Behind (stage_at n m j)
    go (in_readings a) = subst Behind (sym (stage_reading n m j a)) tt
    go (in_entries a b) = subst Behind (sym (stage_entry n m j a b)) tt
    go (in_multipliers a b) = subst Behind (sym (stage_multiplier n m j a b)) tt
    go (at_end q) = subst Behind (sym (stage_end n m j q)) tt

-- all lines of a file are good, and it falls into them
module _ (g : Figures) (n m : ℕ) (readings : length g.readings ≡ n) (entries : length g.entries ≡ n) (multipliers : length g.multipliers ≡ m) where
  texts_good : AllByRecursion Good (texts g)
  texts_good = All-from_get_or Good (texts g) [] go
    where
      go : (i : ℕ) → i < length (texts g) → Good (get_or (texts g) i [])
      go zero h = text_good g Head (λ e. subst Waits e tt)
      go (suc j) h =
          let le : j ≤ n + n + m = omega (arith, h, texts_count g n m readings entries multipliers) in
          subst Good (sym (body_at g n m readings entries multipliers j le)) (text_good g (stage_at n m j) (stage_some n m j le))

  pub pieces_file : pieces (file g) ≡ texts g ++ ([] ∷ [])
  pieces_file = pieces_lines (texts g) texts_good
    where
      pieces_lines : (ls : List (List ℕ)) → AllByRecursion Good ls → pieces (flat_map line ls) ≡ ls ++ ([] ∷ [])
      pieces_lines [] h = pieces_last [] (λ k lt _. absurd (omega arith))
      pieces_lines (l ∷ ls) h =
          ap pieces (append_assoc l (10 ∷ []) (flat_map line ls)) ∙ pieces_line l (flat_map line ls) (good_no_end l h.0) ∙ ap (λ x. l ∷ x) (pieces_lines ls h.1)

  pub line_at : (i : ℕ) → i < n + n + m + 2 → get_or (pieces (file g)) i [] ≡ get_or (texts g) i []
  line_at i h = ap (λ ps. get_or ps i []) pieces_file ∙ get_or_append_left (texts g) ([] ∷ []) [] i (omega (arith, h, texts_count g n m readings entries multipliers))

  pub line_past : (i : ℕ) → n + n + m + 2 ≤ i → get_or (pieces (file g)) i [] ≡ []
  line_past i h =
      ap (λ ps. get_or ps i []) pieces_file ∙ get_or-append_right (texts g) ([] ∷ []) (n + n + m + 2) i [] (texts_count g n m readings entries multipliers) h ∙ empty (i - (n + n + m + 2))
    where
      empty : (k : ℕ) → get_or {A = List ℕ} ([] ∷ []) k [] ≡ []
      empty zero = refl
      empty (suc k) = refl

  -- no line of a file is broken
  pub file_whole : Whole (file g)
  file_whole k (inl b) =
      let lt : k < n + n + m + 2 = omega (arith, b.0, ap length pieces_file, length-append (texts g) ([] ∷ []), texts_count g n m readings entries multipliers) in
      b.1 (subst Good (sym (line_at k lt)) (All-get_or Good (texts g) k [] (omega (arith, texts_count g n m readings entries multipliers)) texts_good))
  file_whole k (inr b) =
      let at : k ≡ n + n + m + 2 = omega (arith, b.0, ap length pieces_file, length-append (texts g) ([] ∷ []), texts_count g n m readings entries multipliers) in
      ⊎_elim (λ z. omega (arith, at, z)) (λ ne. ne (line_past k (omega (arith, at)))) b.1

-- the pieces with an end byte after each but the last
rejoin : List (List ℕ) → List ℕ
rejoin [] = []
rejoin (p ∷ []) = p
rejoin (p ∷ q ∷ ps) = p ++ (10 ∷ rejoin (q ∷ ps))

rejoin_before : (b : ℕ) (ps : List (List ℕ)) → rejoin (before_first b ps) ≡ b ∷ rejoin ps
unfolding rejoin
rejoin_before b [] = refl
rejoin_before b (p ∷ []) = refl
rejoin_before b (p ∷ q ∷ ps) = refl

rejoin_cons : (l : List ℕ) (qs : List (List ℕ)) → 0 < length qs → rejoin (l ∷ qs) ≡ l ++ (10 ∷ rejoin qs)
unfolding rejoin
rejoin_cons l [] h = absurd (omega arith)
rejoin_cons l (q ∷ qs) h = refl

rejoin_pieces : (bs : List ℕ) → rejoin (pieces bs) ≡ bs
unfolding rejoin pieces
rejoin_pieces [] = refl
rejoin_pieces (b ∷ bs) = ⊎_elim
    (λ t. rw t (rejoin_cons [] (pieces bs) (pieces_some bs) ∙ ap (λ x. 10 ∷ x) (rejoin_pieces bs) ∙ ap (λ x. x ∷ bs) (sym (eqb-true b 10 t))))
    (λ f. rw f (rejoin_before b (pieces bs) ∙ ap (λ x. b ∷ x) (rejoin_pieces bs)))
    (cases_Bool (eqb b 10))

rejoin_lines : (ls : List (List ℕ)) → rejoin (ls ++ ([] ∷ [])) ≡ flat_map line ls
unfolding rejoin
rejoin_lines [] = refl
rejoin_lines (l ∷ ls) =
    rejoin_cons l (ls ++ ([] ∷ [])) (omega (arith, length-append ls ([] ∷ []))) ∙ ap (λ x. l ++ (10 ∷ x)) (rejoin_lines ls) ∙ sym (append_assoc l (10 ∷ []) (flat_map line ls))

-- bytes that fall into the lines of figures are their file
pub file_from : (bs : List ℕ) (g : Figures) → pieces bs ≡ texts g ++ ([] ∷ []) → bs ≡ file g
file_from bs g e = sym (rejoin_pieces bs) ∙ ap rejoin e ∙ rejoin_lines (texts g)
