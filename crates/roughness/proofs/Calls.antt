-- How a call of a map answers: from the checks on what the kind tells to the checks on what it means.
--     forward_checks, back_checks     the checks of either map, of a growth and a reach that are told
use Rattle.std.proofs.Common.{◌≡◌, ℕ, ◌-◌, List, length, ℤ, None, Ok, Option, sym, ap, ◌∙◌, ap₂}
use Rattle.kinds.specs.declared.refusal.Refusal.{Refusal}
use Rattle.kinds.specs.Checks.{answer}
use Rattle.kinds.specs.Figures.{over}
use Rattle.kinds.specs.Roughness.{RoughnessMeaning, told_reach, told_growth, told_no, filled, Fills}
use Rattle.kinds.proofs.Passing.{passed}

abbrev pub forward_checks : List ℤ → List ℤ → ℕ → ℕ → ℕ → Option Refusal
forward_checks ts vs room g d = told_no g d ts vs (length ts) (length ts - d) room

abbrev pub back_checks : List ℤ → List ℤ → ℕ → ℕ → ℕ → Option Refusal
back_checks ts ms room g d = told_no g d ts ms (length ts - d) (length ts) room

-- g and d are what the kind tells: the checks on them pass, and so do those on what it means
pub told_passed : (k : RoughnessMeaning) (checks : ℕ → ℕ → Option Refusal) {g d : ℕ} {u : Unit {0}} → g ≡ told_growth k → d ≡ told_reach k → Ok u ≡ answer (checks g d) u → checks (told_growth k) (told_reach k) ≡ None
told_passed k checks {g} {d} {u} e f ok = sym (ap₂ checks e f) ∙ passed (checks g d) u u ok

-- the checks pass
pub fills_done : (k : RoughnessMeaning) (checks : ℕ → ℕ → Option Refusal) {g d : ℕ} {u : Unit {0}} {new old after : List ℤ} → g ≡ told_growth k → d ≡ told_reach k → Ok u ≡ answer (checks g d) u → after ≡ over new old → Fills (checks (told_growth k) (told_reach k)) new old after (Ok tt)
fills_done k checks {g} {d} {u} {new} {old} {after} e f ok is =
    let none = told_passed k checks e f ok in
    record {
      answered = ap (λ (c : Option Refusal). answer c tt) (sym none);
      place = is ∙ ap (λ (c : Option Refusal). filled c new old) (sym none);
    }
