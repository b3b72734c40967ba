-- The frames of a list, written one after the other.
--     texts_push, bytes_push      one frame more at the end
--     lists_next      a loop that writes them
--     led_puts        a call that leads on to the next list
use Rattle.std.proofs.Common.{◌≡◌, ℕ, suc, ◌+◌, ◌*◌, ◌<◌, Bool, List, [], ◌∷◌, ◌++◌, length, get_or, take, Ok, Result, sym, ap, ◌∙◌, subst, mul-add, arith}
use Rattle.std.specs.List.{flat_map}
use Rattle.std.proofs.lemmas.List.{flat_map_more, take_more, length-take-le, length_push}
use Rattle.std.proofs.lemmas.Result.{MatchResult-at_ok}
use Rattle.archive.specs.declared.stages.Progress.{Progress}
use Rattle.archive.specs.declared.stages.Refused.{Refused}
use Rattle.archive.specs.declared.stages.Unfinished.{Unfinished}
use Rattle.archive.specs.File.{texts_from, line}
use Rattle.archive.specs.Writing.{Puts, Lists, Returned, FrameStep, ListStep, moved_on, past_frame, frame_no, readings_no}
use Rattle.archive.proofs.Pasting.{puts_more, puts_same}

module _ {X : Type 0} (text : ℕ → X → List ℕ) where
  pub texts_push : (k : ℕ) (xs : List X) (x : X) → texts_from text k (xs ++ (x ∷ [])) ≡ texts_from text k xs ++ (text (k + length xs) x ∷ [])
  texts_push k [] x = ap (λ n. text n x ∷ []) (omega arith)
  texts_push k (y ∷ xs) x = ap (λ t. text k y ∷ t) (texts_push (suc k) xs x ∙ ap (λ n. texts_from text (suc k) xs ++ (text n x ∷ [])) (omega arith))

  pub bytes_push : (xs : List X) (x : X) (k : ℕ) → k ≡ length xs → flat_map line (texts_from text 0 (xs ++ (x ∷ []))) ≡ flat_map line (texts_from text 0 xs) ++ line (text k x)
  bytes_push xs x k e =
      ap (flat_map line) (texts_push 0 xs x)
      ∙ sym (flat_map_more line [] (texts_from text 0 xs) (text (0 + length xs) x))
      ∙ ap (λ n. flat_map line (texts_from text 0 xs) ++ line (text n x)) (omega arith)

  longer : (width : ℕ) (xs : List X) (x : X) (i : ℕ) → i + width * length xs + width ≡ i + width * length (xs ++ (x ∷ []))
  longer width xs x i = rw (length_push xs x) (omega (arith, mul-add width (length xs) 1))

  lists_more : (width : ℕ) (xs : List X) (n : ℕ) (x : X) (p p' p'' : Progress) (a b c : List ℕ) → n ≡ length xs →
      Lists text width xs n p p' a b → Puts b c p'.at (p'.at + width) (line (text p'.next x)) → p'' ≡ past_frame p' width →
      Lists text width (xs ++ (x ∷ [])) (n + 1) p p'' a c
  lists_more width xs n x p p' p'' a b c count l q e =
      let k : p'.next ≡ length xs = ap (λ (s : Progress). s.next) l.becomes ∙ count in
      let at : p''.at ≡ p'.at + width = ap (λ (s : Progress). s.at) e in
      let all = puts_same (sym (bytes_push xs x p'.next k)) (puts_more l.puts q) in
      record {
        puts = subst (λ j. Puts a c p.at j (flat_map line (texts_from text 0 (xs ++ (x ∷ []))))) (sym at) all;
        becomes = e ∙ ap (λ (s : Progress). past_frame s width) l.becomes ∙ ap (λ m. moved_on p m (n + 1)) (longer width xs x p.at);
      }

  -- a loop that has written i frames, and writes the next one
  pub lists_next : {S : Type 0} {width : ℕ} {p : Progress} {a b : List ℕ} (test : X → Bool) (xs : List X) (s : Unfinished S) (i : ℕ) → Lists text width (take i xs) i p s.progress a b →
      (x d : X) (count : ℕ) (c : List ℕ) (r : Result (Unfinished S) (Refused (Unfinished S))) → i < length xs → x ≡ get_or xs i d → FrameStep text test width count x s b c r →
      (t : Unfinished S) → r ≡ Ok t → Lists text width (take (i + 1) xs) (i + 1) p t.progress a c
  lists_next {width = width} {p = p} {a = a} {b = b} test xs s i l x d count c r h e step t is =
      let taken = MatchResult-at_ok _ (Returned (frame_no test width count s.progress x (length b)) s b c) t is step in
      let more = lists_more width (take i xs) i x p s.progress t.progress a b c (sym (length-take-le i xs (omega arith))) l taken.puts taken.becomes in
      subst (λ ys. Lists text width ys (i + 1) p t.progress a c) (ap (λ y. take i xs ++ (y ∷ [])) e ∙ sym (take_more xs i d h)) more

-- a call that leads on to the next list writes nothing
pub led_puts : {S T : Type 0} {a b : List ℕ} {i : ℕ} {l : List ℕ} (s : Unfinished S) (r : Result (Unfinished T) (Refused (Unfinished S))) → ListStep s r → (t : Unfinished T) → r ≡ Ok t → Puts a b i s.progress.at l → Puts a b i t.progress.at l
led_puts {a = a} {b = b} {i = i} {l = l} s r step t is p =
    let e = (MatchResult-at_ok _ (Returned (readings_no s.progress) s [] []) t is step).1 in
    subst (λ j. Puts a b i j l) (sym (ap (λ (q : Progress). q.at) e)) p
