-- Refusals that are handed on as faults: `o` is what a call checks and `r` what it answers, `s` is that answer with its
-- refusal made a fault, and `Tells` says how.
--     faulted         what holds of the answer then
--     passed_on       where it goes on, the checks pass
--     refused_on      where it stops, a check does not
use Rattle.std.proofs.Common.{◌≡◌, Some, None, Ok, Err, Option, Result, sym, refl, subst, MatchResult}
use Rattle.std.specs.Result.{IsErrAnd}
use Rattle.std.proofs.lemmas.Result.{MatchResult-at_ok, MatchResult-at_err}
use Rattle.kinds.specs.declared.refusal.Refusal.{Refusal}
use Rattle.kinds.specs.Checks.{answer}
use Rattle.reader.specs.declared.fault.Fault.{Fault}

module _ {X : Type 0} (Tells : Refusal → Fault → Type 0) where
  handed_on : (P : X → Type 0) (Q : Fault → Type 0) (r : Result X Refusal) (s : Result X Fault) → MatchResult r (λ x. s ≡ Ok x) (λ e. IsErrAnd s (Tells e)) → MatchResult r P (λ e. (f : Fault) → Tells e f → Q f) → MatchResult s P Q
  handed_on P Q (Ok x) s is holds = subst (λ (s : Result X Fault). MatchResult s P Q) (sym is) holds
  handed_on P Q (Err e) (Ok y) is holds = absurd is
  handed_on P Q (Err e) (Err f) is holds = holds f is

  by_checks : (P : X → Type 0) (Q : Fault → Type 0) (o : Option Refusal) (v : X) → (o ≡ None → P v) → ((e : Refusal) (f : Fault) → o ≡ Some e → Tells e f → Q f) → MatchResult (answer o v) P (λ e. (f : Fault) → Tells e f → Q f)
  by_checks P Q None v fine off = fine refl
  by_checks P Q (Some e) v fine off = λ f told. off e f refl told

  pub faulted : (P : X → Type 0) (Q : Fault → Type 0) (o : Option Refusal) (v : X) (r : Result X Refusal) (s : Result X Fault) → r ≡ answer o v → MatchResult r (λ x. s ≡ Ok x) (λ e. IsErrAnd s (Tells e)) → (o ≡ None → P v) → ((e : Refusal) (f : Fault) → o ≡ Some e → Tells e f → Q f) → MatchResult s P Q
  faulted P Q o v r s is cases fine off =
      handed_on P Q (answer o v) s (subst (λ (r : Result X Refusal). MatchResult r (λ x. s ≡ Ok x) (λ e. IsErrAnd s (Tells e))) is cases) (by_checks P Q o v fine off)

  pub passed_on : (o : Option Refusal) (v x : X) (r : Result X Refusal) (s : Result X Fault) → r ≡ answer o v → MatchResult r (λ x. s ≡ Ok x) (λ e. IsErrAnd s (Tells e)) → s ≡ Ok x → o ≡ None
  passed_on o v x r s is cases ok =
      MatchResult-at_ok (λ _. o ≡ None) (λ _. Unit {0}) x ok (faulted (λ _. o ≡ None) (λ _. Unit {0}) o v r s is cases (λ e. e) (λ e f off told. tt))

  pub refused_on : (Q : Fault → Type 0) (o : Option Refusal) (v : X) (f : Fault) (r : Result X Refusal) (s : Result X Fault) → r ≡ answer o v → MatchResult r (λ x. s ≡ Ok x) (λ e. IsErrAnd s (Tells e)) → s ≡ Err f → ((e : Refusal) (f : Fault) → o ≡ Some e → Tells e f → Q f) → Q f
  refused_on Q o v f r s is cases err off =
      MatchResult-at_err (λ _. Unit {0}) Q f err (faulted (λ _. Unit {0}) Q o v r s is cases (λ e. tt) off)
