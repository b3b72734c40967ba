-- A whole file: its pieces are joined, and what is promised of it.
--     head_puts, end_puts            what the first call and the last one write
--     file_joined        a file whose pieces are written one behind the other
--     writes_refused, writes_whole   what is promised of a file that is refused, and of one that is written
use Rattle.std.proofs.Common.{◌≡◌, ℕ, ◌^◌, ◌<◌, List, ◌++◌, length, drop, ℤ, Some, None, Ok, Err, Option, Result, sym, ap, ◌∙◌, subst, zero-add, w64, SFits}
use Rattle.std.specs.List.{flat_map}
use Rattle.std.proofs.lemmas.Result.{MatchResult-at_ok}
use Rattle.kinds.specs.declared.refusal.Cause.{Cause}
use Rattle.archive.specs.declared.figures.Head.{Head}
use Rattle.archive.specs.declared.stages.AtMultipliers.{AtMultipliers}
use Rattle.archive.specs.declared.stages.AtReadings.{AtReadings}
use Rattle.archive.specs.declared.stages.Ended.{Ended}
use Rattle.archive.specs.declared.stages.Opened.{Opened}
use Rattle.archive.specs.declared.stages.Progress.{Progress}
use Rattle.archive.specs.declared.stages.Refused.{Refused}
use Rattle.archive.specs.declared.stages.Unfinished.{Unfinished}
use Rattle.archive.specs.File.{Figures, edition, head_text, reading_text, entry_text, multiplier_text, end_text, texts_from, line, file, file_length}
use Rattle.archive.specs.Writing.{Puts, Returned, HeadStep, EndStep, Writes, opened, head_no, end_no, writing_no, answered, filled}
use Rattle.archive.proofs.Pasting.{puts_more, puts_same}
use Rattle.archive.proofs.Accepting.{fitting_from, fitting_long, accepted_from}
use Rattle.archive.proofs.Lengths.{file_pieces}

pub head_puts : (h : Head) (m : ℕ) (a b : List ℕ) (s : Unfinished Opened) (r : Result (Unfinished AtReadings) (Refused (Unfinished Opened))) → s.progress ≡ opened → HeadStep h m s a b r →
    (t : Unfinished AtReadings) → r ≡ Ok t → Puts a b 0 t.progress.at (line (head_text edition h))
head_puts h m a b s r first step t is =
    let taken = MatchResult-at_ok _ (Returned (head_no s.progress h (length a)) s a b) t is step in
    let from = ap (λ (p : Progress). p.at) first in
    let stop = ap (λ (p : Progress). p.at) taken.becomes in
    subst (λ i. Puts a b i t.progress.at (line (head_text edition h))) from (subst (λ j. Puts a b s.progress.at j (line (head_text edition h))) (sym stop) taken.puts)

pub end_puts : (c : ℕ) (z y : ℤ) (a b : List ℕ) (s : Unfinished AtMultipliers) (r : Result Ended (Refused (Unfinished AtMultipliers))) → EndStep c z s a b r →
    (t : Ended) → r ≡ Ok t → z ≡ y → Puts a b s.progress.at t.bytes (line (end_text c y))
end_puts c z y a b s r step t is e =
    let taken = MatchResult-at_ok _ (Returned (end_no s.progress (length a)) s a b) t is step in
    subst (λ w. Puts a b s.progress.at t.bytes (line (end_text c w))) e (subst (λ j. Puts a b s.progress.at j (line (end_text c z))) (sym taken.becomes) taken.puts)

-- the pieces of a file that are written one behind the other
pub file_joined : (g : Figures) {a₀ a₁ a₂ a₃ a₄ a₅ : List ℕ} {j₁ j₂ j₃ j₄ j₅ : ℕ} →
    Puts a₀ a₁ 0 j₁ (line (head_text edition g.head))
    → Puts a₁ a₂ j₁ j₂ (flat_map line (texts_from reading_text 0 g.readings))
    → Puts a₂ a₃ j₂ j₃ (flat_map line (texts_from entry_text 0 g.entries))
    → Puts a₃ a₄ j₃ j₄ (flat_map line (texts_from multiplier_text 0 g.multipliers))
    → Puts a₄ a₅ j₄ j₅ (line (end_text g.cost g.floor))
    → Puts a₀ a₅ 0 j₅ (file g)
file_joined g h xs vs ms e = puts_same (file_pieces g) (puts_more h (puts_more xs (puts_more vs (puts_more ms e))))

pub writes_refused : (g : Figures) (a : List ℕ) (e : Cause) → writing_no g (length a) ≡ Some e → Writes g a a (Err e)
writes_refused g a e stopped = record {
  answer = sym (ap (λ (o : Option Cause). answered o (file_length (length g.readings) (length g.multipliers))) stopped);
  content = sym (ap (λ (o : Option Cause). filled o (file g) a) stopped);
  fitting = λ passes. let no : Some e ≡ None = sym stopped ∙ passes in cc;
  accepted = accepted_from g (length a);
  long = fitting_long g;
}

pub writes_whole : (g : Figures) → g.cost < 2 ^ 64 → SFits w64 g.floor → (a b : List ℕ) (n : ℕ) → writing_no g (length a) ≡ None → Puts a b 0 n (file g) → Writes g a b (Ok n)
writes_whole g cost floor a b n passes p =
    let stops : n ≡ length (file g) = p.stops ∙ zero-add (length (file g)) in
    let long = fitting_long g (fitting_from g (length a) cost floor passes) in
    record {
      answer = ap Ok (stops ∙ long) ∙ sym (ap (λ (o : Option Cause). answered o (file_length (length g.readings) (length g.multipliers))) passes);
      content = p.is ∙ ap (λ k. file g ++ drop k a) stops ∙ sym (ap (λ (o : Option Cause). filled o (file g) a) passes);
      fitting = fitting_from g (length a) cost floor;
      accepted = accepted_from g (length a);
      long = fitting_long g;
    }
