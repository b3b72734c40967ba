-- Checks that pass or stop.
use Rattle.std.proofs.Common.{◌≡◌, ℕ, ◌*◌, ◌<◌, ◌≤◌, true, List, ◌∷◌, length, ℤ, Some, None, Ok, Err, Option, Result, sym, refl, ap, ◌∙◌, arith}
use Rattle.kinds.specs.declared.refusal.Refusal.{Refusal}
use Rattle.kinds.specs.Checks.{first_of, or_else, answer}
use Rattle.kinds.specs.Figures.{largest}
use Rattle.kinds.specs.Minutes.{lawful}
use Rattle.kinds.specs.Roughness.{told_no}

-- one check more
pub pass : (c : Option Refusal) (cs : List (Option Refusal)) (r : Option Refusal) → c ≡ None → first_of cs ≡ r → first_of (c ∷ cs) ≡ r
pass c cs r e h = ap (λ (x : Option Refusal). or_else x (first_of cs)) e ∙ h

pub stop : (c : Option Refusal) (cs : List (Option Refusal)) (x : Refusal) → c ≡ Some x → first_of (c ∷ cs) ≡ Some x
stop c cs x e = ap (λ (y : Option Refusal). or_else y (first_of cs)) e

-- what an answer says of its checks
pub passed : {X : Type 0} (c : Option Refusal) (x y : X) → Ok y ≡ answer c x → c ≡ None
passed None x y e = refl
passed (Some r) x y e = cc

pub refused : {X : Type 0} (c : Option Refusal) (x : X) (r : Refusal) → Err r ≡ answer c x → c ≡ Some r
refused None x r e = cc
refused (Some s) x r e = cc

pub says_no : {X : Type 0} (c : Option Refusal) (x : X) (r : Refusal) → c ≡ Some r → Err r ≡ answer c x
says_no c x r e = sym (ap (λ (y : Option Refusal). answer y x) e)

pub says_so : {X : Type 0} (c : Option Refusal) (x : X) → c ≡ None → Ok x ≡ answer c x
says_so c x e = sym (ap (λ (y : Option Refusal). answer y x) e)

pub apart : {X : Type 0} (r : Result X Refusal) (no_because : Refusal) (x : X) → r ≡ Err no_because → r ≡ Ok x → ⊥
apart r e x p q = let z : ◌≡◌ {A = ℕ} 0 1 = cc in omega arith

-- the checks of the two maps, when they pass
pub record Mapped (growth reach : ℕ) (ts xs : List ℤ) (wanted needed room : ℕ) : Type 0 where
  pub grows : growth ≤ 2000
  pub reaches : reach < length ts
  pub few : length ts ≤ 240
  pub long : length xs ≡ wanted
  pub fits : needed ≤ room
  pub law : lawful ts ≡ true
  pub small : growth * largest xs ≤ 1000000000000

pub mapped_none : (growth reach : ℕ) (ts xs : List ℤ) (wanted needed room : ℕ) → Mapped growth reach ts xs wanted needed room → told_no growth reach ts xs wanted needed room ≡ None
mapped_none growth reach ts xs wanted needed room m = grind arith

pub none_mapped : (growth reach : ℕ) (ts xs : List ℤ) (wanted needed room : ℕ) → told_no growth reach ts xs wanted needed room ≡ None → Mapped growth reach ts xs wanted needed room
none_mapped growth reach ts xs wanted needed room e = record {
  grows = grind arith;
  reaches = grind arith;
  few = grind arith;
  long = grind arith;
  fits = grind arith;
  law = grind arith;
  small = grind arith;
}
