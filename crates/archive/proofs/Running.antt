-- Every run of the calls that is ended wrote the file of the figures that were taken.
--     SoFar            what a run has written: bytes at the start of the place, and where it stands
--     list_so_far      a run on one list adds the frames of that list
--     every_run_writes the whole
use Rattle.std.proofs.Common.{◌≡◌, ℕ, ◌+◌, Bool, List, ◌++◌, length, ℤ, Result, sym, ap, ◌∙◌, subst, append_assoc}
use Rattle.std.specs.List.{flat_map}
use Rattle.std.proofs.lemmas.List.{append-nil, length_push}
use Rattle.kinds.specs.declared.reading.Reading.{Reading}
use Rattle.archive.specs.declared.figures.Head.{Head}
use Rattle.archive.specs.declared.stages.AtEntries.{AtEntries}
use Rattle.archive.specs.declared.stages.AtMultipliers.{AtMultipliers}
use Rattle.archive.specs.declared.stages.AtReadings.{AtReadings}
use Rattle.archive.specs.declared.stages.Progress.{Progress}
use Rattle.archive.specs.declared.stages.Refused.{Refused}
use Rattle.archive.specs.declared.stages.Unfinished.{Unfinished}
use Rattle.archive.specs.File.{edition, head_text, reading_text, entry_text, multiplier_text, end_text, reading_fits, entry_fits, multiplier_fits, texts_from, line}
use Rattle.archive.specs.Writing.{Puts, FrameStep, past_list}
use Rattle.archive.specs.Runs.{ListRun, starts, taken, refused, ReadingsRun, EntriesRun, MultipliersRun, EveryRunWrites}
use Rattle.archive.proofs.Lengths.{file_pieces}
use Rattle.archive.proofs.Listing.{bytes_push}
use Rattle.archive.proofs.Pasting.{puts_more, puts_same}

-- the place at first, the bytes that are written, the stage's progress, the place now, and the place of the next frame
record SoFar (first bytes : List ℕ) (p : Progress) (a : List ℕ) (k : ℕ) : Type 0 where
  puts : Puts first a 0 p.at bytes
  next : p.next ≡ k

-- a call that leads on to the next list writes nothing
led_on : (first bytes : List ℕ) (p q : Progress) (a : List ℕ) (k : ℕ) → q ≡ past_list p → SoFar first bytes p a k → SoFar first bytes q a 0
led_on first bytes p q a k e before = record {
  puts = subst (λ j. Puts first a 0 j bytes) (sym (ap (λ (r : Progress). r.at) e)) before.puts;
  next = ap (λ (r : Progress). r.next) e;
}

module _ {S X : Type 0} (text : ℕ → X → List ℕ) (test : X → Bool) (width : ℕ) (count : Progress → ℕ) (Starts : Unfinished S → List ℕ → Type 0) (first bytes : List ℕ)
    (begins : (s : Unfinished S) (a : List ℕ) → Starts s a → SoFar first bytes s.progress a 0) where
  abbrev Step : X → Unfinished S → List ℕ → List ℕ → Result (Unfinished S) (Refused (Unfinished S)) → Type 0
  Step x s a b r = FrameStep text test width (count s.progress) x s a b r

  list_so_far : (s : Unfinished S) (a : List ℕ) (xs : List X) → ListRun Starts Step s a xs → SoFar first (bytes ++ flat_map line (texts_from text 0 xs)) s.progress a (length xs)
  list_so_far _ _ _ (starts s a begun) =
      let start = begins s a begun in
      record { puts = puts_same (sym (append-nil bytes)) start.puts; next = start.next }
  list_so_far _ _ _ (taken s t a b xs x run step) =
      let before = list_so_far s a xs run in
      let more = puts_more before.puts (subst (λ j. Puts a b s.progress.at j (line (text s.progress.next x))) (sym (ap (λ (p : Progress). p.at) step.becomes)) step.puts) in
      record {
        puts = puts_same (append_assoc bytes _ _ ∙ ap (λ l. bytes ++ l) (sym (bytes_push text xs x s.progress.next before.next))) more;
        next = ap (λ (p : Progress). p.next) step.becomes ∙ ap (λ n. n + 1) before.next ∙ sym (length_push xs x);
      }
  list_so_far _ _ _ (refused s e a b xs x run step) =
      let before = list_so_far s a xs run in
      subst (λ c. SoFar first (bytes ++ flat_map line (texts_from text 0 xs)) e.stage.progress c (length xs)) (sym step.same_place)
      (subst (λ (q : Unfinished S). SoFar first (bytes ++ flat_map line (texts_from text 0 xs)) q.progress a (length xs)) (sym step.same_stage) before)

module _ (first : List ℕ) (h : Head) (m : ℕ) where
  abbrev H : List ℕ
  H = line (head_text edition h)

  readings_so_far : (s : Unfinished AtReadings) (a : List ℕ) (xs : List Reading) → ReadingsRun first h m s a xs → SoFar first (H ++ flat_map line (texts_from reading_text 0 xs)) s.progress a (length xs)
  readings_so_far = list_so_far reading_text reading_fits 23 (λ p. p.readings) _ first H (λ t b start.
      let step = start.2 in
      let from = ap (λ (p : Progress). p.at) start.1 in
      let stop = ap (λ (p : Progress). p.at) step.becomes in
      record {
        puts = subst (λ i. Puts first b i t.progress.at H) from (subst (λ j. Puts first b start.0.progress.at j H) (sym stop) step.puts);
        next = ap (λ (p : Progress). p.next) step.becomes;
      })

  entries_so_far : (xs : List Reading) (s : Unfinished AtEntries) (a : List ℕ) (vs : List ℤ) → EntriesRun first h m xs s a vs → SoFar first ((H ++ flat_map line (texts_from reading_text 0 xs)) ++ flat_map line (texts_from entry_text 0 vs)) s.progress a (length vs)
  entries_so_far xs = list_so_far entry_text entry_fits 11 (λ p. p.readings) _ first (H ++ flat_map line (texts_from reading_text 0 xs)) (λ t a start. led_on first _ start.0.progress t.progress a (length xs) start.2.1 (readings_so_far start.0 a xs start.1))

  multipliers_so_far : (xs : List Reading) (vs : List ℤ) (s : Unfinished AtMultipliers) (a : List ℕ) (ms : List ℤ) → MultipliersRun first h m xs vs s a ms
      → SoFar first (((H ++ flat_map line (texts_from reading_text 0 xs)) ++ flat_map line (texts_from entry_text 0 vs)) ++ flat_map line (texts_from multiplier_text 0 ms)) s.progress a (length ms)
  multipliers_so_far xs vs = list_so_far multiplier_text multiplier_fits 15 (λ p. p.multipliers) _ first ((H ++ flat_map line (texts_from reading_text 0 xs)) ++ flat_map line (texts_from entry_text 0 vs)) (λ t a start. led_on first _ start.0.progress t.progress a (length vs) start.2.1 (entries_so_far xs start.0 a vs start.1))

pub every_run_writes : EveryRunWrites
every_run_writes first m g t b run =
    let before = multipliers_so_far first g.head m g.readings g.entries run.stage run.place g.multipliers run.before in
    let last = run.last in
    let all = puts_more before.puts (subst (λ j. Puts run.place b run.stage.progress.at j (line (end_text g.cost g.floor))) (sym last.becomes) last.puts) in
    let H = line (head_text edition g.head) in
    let R = flat_map line (texts_from reading_text 0 g.readings) in
    let E = flat_map line (texts_from entry_text 0 g.entries) in
    let M = flat_map line (texts_from multiplier_text 0 g.multipliers) in
    let Z = line (end_text g.cost g.floor) in
    let pieces : (((H ++ R) ++ E) ++ M) ++ Z ≡ H ++ (R ++ (E ++ (M ++ Z))) = simp append_assoc in
    puts_same (pieces ∙ file_pieces g) all
