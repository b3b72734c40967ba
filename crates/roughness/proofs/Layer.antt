-- A layer over a kind: once the layer's checks have passed, so do those of the kind below, and its rows or columns are as they should be.
--     ForwardPassed, BackPassed       what the layer's checks tell when they pass
--     Lower                           what the rows of the kind below are, as they stand in a place
use Rattle.std.proofs.Common.{◌≡◌, ℕ, ◌+◌, ◌-◌, ◌*◌, ◌<◌, ◌≤◌, List, length, take, ℤ, pos, None, Ok, Err, Option, Result, sym, ap, ◌∙◌, mul-le-mul_right, mul-le-mul_left, arith}
use Rattle.kinds.specs.declared.refusal.Refusal.{Refusal}
use Rattle.kinds.specs.Checks.{answer}
use Rattle.kinds.specs.Figures.{largest, over}
use Rattle.kinds.specs.Roughness.{RoughnessMeaning, RoughnessLaws, told_reach, told_growth, map_no, filled, Fills}
use Rattle.kinds.proofs.Places.{take_over}
use Rattle.kinds.proofs.Passing.{refused, Mapped, mapped_none, none_mapped}
use Rattle.roughness.specs.Maps.{differences_back, raised}
use Rattle.roughness.specs.Diffs.{length_differences_back, largest_differences_back}
use Rattle.roughness.proofs.Calls.{forward_checks, back_checks, told_passed}

abbrev pub ForwardPassed : RoughnessMeaning → List ℤ → List ℤ → ℕ → Type 0
ForwardPassed k ts vs room = Mapped (told_growth k) (told_reach k) ts vs (length ts) (length ts - told_reach k) room

abbrev pub BackPassed : RoughnessMeaning → List ℤ → List ℤ → ℕ → Type 0
BackPassed k ts ms room = Mapped (told_growth k) (told_reach k) ts ms (length ts - told_reach k) (length ts) room

-- g and d are what the kind tells
pub forward_passed : (k : RoughnessMeaning) (ts vs : List ℤ) (room : ℕ) {g d : ℕ} {u : Unit {0}} → g ≡ told_growth k → d ≡ told_reach k → Ok u ≡ answer (forward_checks ts vs room g d) u → ForwardPassed k ts vs room
forward_passed k ts vs room e f ok = none_mapped _ _ ts vs _ _ room (told_passed k (forward_checks ts vs room) e f ok)

pub back_passed : (k : RoughnessMeaning) (ts ms : List ℤ) (room : ℕ) {g d : ℕ} {u : Unit {0}} → g ≡ told_growth k → d ≡ told_reach k → Ok u ≡ answer (back_checks ts ms room g d) u → BackPassed k ts ms room
back_passed k ts ms room e f ok = none_mapped _ _ ts ms _ _ room (told_passed k (back_checks ts ms room) e f ok)

-- a growth that is not above 2,000 is told as it is
size_below : (k : RoughnessMeaning) (xs : List ℤ) → told_growth (raised k) ≤ 2000 → told_growth (raised k) * largest xs ≤ 1000000000000 → 2 * k.growth * largest xs ≤ 1000000000000
size_below k xs grows small =
    let doubled : told_growth (raised k) ≡ 2 * k.growth = omega arith in
    rw doubled at small

pub never_refused : (no_because : Option Refusal) (u : Unit {0}) (x : Refusal) → no_because ≡ None → Err x ≡ answer no_because u → ⊥
never_refused no_because u x none e =
    let some = refused no_because u x e in
    let z : ◌≡◌ {A = ℕ} 0 1 = cc in
    omega arith

-- forward
pub below_forward : (k : RoughnessMeaning) (room : ℕ) (ts vs : List ℤ) → ForwardPassed (raised k) ts vs room → map_no k ts vs (length ts) (length ts - told_reach k) 240 ≡ None
below_forward k room ts vs p =
    let same : told_growth k ≡ k.growth = omega arith in
    let size = size_below k vs p.grows p.small in
    mapped_none (told_growth k) (told_reach k) ts vs (length ts) (length ts - told_reach k) 240 (record {
      grows = omega arith;
      reaches = omega arith;
      few = p.few;
      long = p.long;
      fits = omega arith;
      law = p.law;
      small = rw same (omega arith);
    })

pub record Lower (k : RoughnessMeaning) (d : ℕ) (ts vs lower : List ℤ) : Type 0 where
  pub cut : take (length ts - (d - 1) - 0) lower ≡ k.rows ts vs
  pub small : largest (k.rows ts vs) ≤ 1000000000000
  pub long : length (k.rows ts vs) + d ≡ length ts + 1

pub lower_rows : (k : RoughnessMeaning) → RoughnessLaws k → (d room : ℕ) (ts vs lower old : List ℤ) → d ≡ told_reach (raised k) → ForwardPassed (raised k) ts vs room → lower ≡ filled (map_no k ts vs (length ts) (length ts - told_reach k) 240) (k.rows ts vs) old → Lower k d ts vs lower
lower_rows k kept d room ts vs lower old e p is =
    let size = size_below k vs p.grows p.small in
    let long = kept.rows_length ts vs p.long in
    let grown = kept.rows_growth ts vs p.law p.long in
    let written : lower ≡ over (k.rows ts vs) old = is ∙ ap (λ (c : Option Refusal). filled c (k.rows ts vs) old) (below_forward k room ts vs p) in
    record {
      cut = ap (take (length ts - (d - 1) - 0)) written ∙ take_over _ (k.rows ts vs) old (omega arith);
      small = omega arith;
      long = omega arith;
    }

-- back
pub fits_below : (k : RoughnessMeaning) → RoughnessLaws k → (room : ℕ) (ts ms : List ℤ) → BackPassed (raised k) ts ms room → (largest ms ≤ 1000000000000) × (length ms < 240)
fits_below k kept room ts ms p =
    let size = size_below k ms p.grows p.small in
    (omega (arith, mul-le-mul_right (largest ms) kept.growth_least), omega arith)

pub lower_columns : (k : RoughnessMeaning) (d room : ℕ) (ts ms lower old : List ℤ) → d ≡ told_reach (raised k) → BackPassed (raised k) ts ms room → lower ≡ over (differences_back ms) old → take (length ts - (d - 1) - 0) lower ≡ differences_back ms
lower_columns k d room ts ms lower old e p is =
    let long = length_differences_back (pos 0) ms in
    let wanted = p.long in
    ap (take (length ts - (d - 1) - 0)) is ∙ take_over _ (differences_back ms) old (omega arith)

below_back : (k : RoughnessMeaning) (room : ℕ) (ts ms : List ℤ) → BackPassed (raised k) ts ms room → map_no k ts (differences_back ms) (length ts - told_reach k) (length ts) room ≡ None
below_back k room ts ms p =
    let same : told_growth k ≡ k.growth = omega arith in
    let size = size_below k ms p.grows p.small in
    let long = length_differences_back (pos 0) ms in
    let wanted = p.long in
    mapped_none (told_growth k) (told_reach k) ts (differences_back ms) (length ts - told_reach k) (length ts) room (record {
      grows = omega arith;
      reaches = omega arith;
      few = p.few;
      long = omega arith;
      fits = p.fits;
      law = p.law;
      small = rw same (omega (arith, mul-le-mul_left k.growth (largest_differences_back ms)));
    })

-- the answer of the kind below is the layer's
pub handed_up : (k : RoughnessMeaning) (room : ℕ) (ts ms part before after : List ℤ) (r : Result (Unit {0}) Refusal) → BackPassed (raised k) ts ms room → part ≡ differences_back ms → Fills (map_no k ts part (length ts - told_reach k) (length ts) room) (k.columns ts part) before after r → Fills (map_no (raised k) ts ms (length ts - told_reach (raised k)) (length ts) room) (k.columns ts (differences_back ms)) before after r
handed_up k room ts ms part before after r p is f =
    let below : map_no k ts part (length ts - told_reach k) (length ts) room ≡ None = ap (λ (l : List ℤ). map_no k ts l (length ts - told_reach k) (length ts) room) is ∙ below_back k room ts ms p in
    let here : map_no (raised k) ts ms (length ts - told_reach (raised k)) (length ts) room ≡ None = mapped_none _ _ ts ms _ _ room p in
    record {
      answered = f.answered ∙ ap (λ (c : Option Refusal). answer c tt) (below ∙ sym here);
      place = f.place ∙ (λ i. filled ((below ∙ sym here) i) (k.columns ts (is i)) before);
    }
