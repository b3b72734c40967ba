use Rattle.std.proofs.Common.{◌≡◌, ◌+◌, ◌<◌, ◌≤◌, ℕ, ℤ, ◌+ℤ◌, ◌-ℤ◌, ◌++◌, nat_abs, List, get_or, pos, ◌∙◌, ⊎_elim, drop, sym, ap, subst, length, arith, w64, to_z}
use Rattle.std.proofs.lemmas.Int.{to_z-of_z}
use Rattle.std.proofs.lemmas.List.{length-drop, length-take-le, take-append-drop}
use Rattle.kinds.specs.Figures.{largest}
use Rattle.kinds.proofs.Bits.{fits64, back64}
use Rattle.kinds.proofs.Places.{Written, written_none, size_at}
use Rattle.kinds.proofs.Ring.{size_add_most, size_sub_most}
use Rattle.roughness.specs.Maps.{shares, bends_back}
use Rattle.roughness.specs.Bending.{back_more, back_last}
use Rattle.roughness.proofs.Products.{onto}
use Rattle.roughness.proofs.Windows.{window_more, window_none, written_front, figure_more, moments_follow, moments_step}
use Rattle.roughness.proofs.bends.write_bends_back.Goals as goal

pub loop-column-init : goal.loop-column-init
loop-column-init c =
    let new = bends_back c.args.minutes.now c.args.multipliers.now in
    let old = c.args.columns.now in record {
      written = subst (λ (place : List ℤ). Written 0 new new old place) (sym (take-append-drop (length c.args.multipliers.now) old)) (written_none new old);
      minutes = record { wide = cc; from = cc; within = omega arith };
      multipliers = (cc);
      here_small = omega arith;
      next_small = omega arith;
    }

pub between-requires : goal.between-requires
between-requires c =
    let s = c.in-Some.ensures.steps in
    moments_follow c.requires.0 (window_more c.loop-column.invariant.minutes c.in-Some.moments.now _ _ (omega arith) s.0.0 s.0.1.0 s.0.1.1 s.0.1.2)

pub shares-requires : goal.shares-requires
shares-requires c =
    let k = c.loop-column.column-index in
    let f = figure_more c.args.multipliers.now _ c.in-Some.multiplier.now _ c.loop-column.invariant.multipliers c.in-Some.ensures.steps.1 in
    let small = size_at c.args.multipliers.now k in
    let size : nat_abs c.in-Some.multiplier.now ≤ 1000000000000 = omega (arith, ap nat_abs f.here) in
    let fits = fits64 c.in-Some.multiplier.now (omega arith) in
    rw to_z-of_z size

-- a figure at hand and a multiplier's share in it
share_at : (xs : List ℤ) (j : ℕ) → largest xs ≤ 120000000000000 → nat_abs (get_or xs j (pos 0)) ≤ 120000000000000
share_at xs j small = omega (arith, size_at xs j)

pub overflow_add-column : goal.overflow_add-column
overflow_add-column c =
    let share = share_at c.shares.result 0 c.shares.ensures.small in
    let size = size_add_most (to_z w64 c.loop-column.here-bits) (get_or c.shares.result 0 (pos 0)) c.loop-column.invariant.here_small share in
    (onto ◌+ℤ◌ (to_z w64 c.loop-column.here-bits) (get_or c.shares.result 0 (pos 0)) (omega arith) (omega arith)).0

pub overflow_sub-here : goal.overflow_sub-here
overflow_sub-here c =
    let share = share_at c.shares.result 1 c.shares.ensures.small in
    let size = size_sub_most (to_z w64 c.loop-column.next-bits) (get_or c.shares.result 1 (pos 0)) c.loop-column.invariant.next_small share in
    (onto ◌-ℤ◌ (to_z w64 c.loop-column.next-bits) (get_or c.shares.result 1 (pos 0)) (omega arith) (omega arith)).0

pub loop-column-preserved : goal.loop-column-preserved
loop-column-preserved c =
    let ts = c.args.minutes.now in
    let ms = c.args.multipliers.now in
    let k = c.loop-column.column-index in
    let s = c.in-Some.ensures.steps in
    let w = window_more c.loop-column.invariant.minutes c.in-Some.moments.now _ _ (omega arith) s.0.0 s.0.1.0 s.0.1.1 s.0.1.2 in
    let f = figure_more ms _ c.in-Some.multiplier.now _ c.loop-column.invariant.multipliers s.1 in
    let short = f.long in
    let most = size_at ms k in
    let size : nat_abs c.in-Some.multiplier.now ≤ 1000000000000 = omega (arith, ap nat_abs f.here) in
    let fits = fits64 c.in-Some.multiplier.now (omega arith) in
    let step = moments_step w in
    let before = c.between.ensures.0 ∙ step.0 in
    let after = c.between.ensures.1 ∙ step.1 in
    let m = to_z-of_z w64 c.in-Some.multiplier.now fits ∙ f.here in
    let value = c.shares.ensures.value ∙ (λ i. shares (before i) (after i) (m i)) in
    let r₀ = get_or c.shares.result 0 (pos 0) in
    let r₁ = get_or c.shares.result 1 (pos 0) in
    let r₂ = get_or c.shares.result 2 (pos 0) in
    let s₀ = share_at c.shares.result 0 c.shares.ensures.small in
    let s₁ = share_at c.shares.result 1 c.shares.ensures.small in
    let s₂ = share_at c.shares.result 2 c.shares.ensures.small in
    let t₀ = size_add_most (to_z w64 c.loop-column.here-bits) r₀ c.loop-column.invariant.here_small s₀ in
    let t₁ = size_sub_most (to_z w64 c.loop-column.next-bits) r₁ c.loop-column.invariant.next_small s₁ in
    let column = (onto ◌+ℤ◌ (to_z w64 c.loop-column.here-bits) r₀ (omega arith) (omega arith)).1 in
    let here = (onto ◌-ℤ◌ (to_z w64 c.loop-column.next-bits) r₁ (omega arith) (omega arith)).1 in
    let last = back64 r₂ (omega arith) in
    record {
      written =
          written_front k _ _ _ _ _ c.loop-column.column-items _ c.loop-column.invariant.written (omega arith)
          (back_more ts ms k _ _ _ _ _ (omega arith) (omega arith)
          (column ∙ ap (λ (l : List ℤ). to_z w64 c.loop-column.here-bits +ℤ get_or l 0 (pos 0)) value)
          (here ∙ ap (λ (l : List ℤ). to_z w64 c.loop-column.next-bits -ℤ get_or l 1 (pos 0)) value)
          (last ∙ ap (λ (l : List ℤ). get_or l 2 (pos 0)) value));
      minutes = w.next;
      multipliers = f.next;
      here_small = rw here t₁;
      next_small = rw last s₂;
    }

pub returns-in_default : goal.returns-in_default
returns-in_default c =
    let ms = c.args.multipliers.now in
    let k = c.loop-column.column-index in
    let size = length-take-le (length ms) c.args.columns.now (omega arith) in
    let left = length-drop k ms in
    let short : length c.args.minutes.now < k + 3 =
    ⊎_elim (λ e. window_none c.loop-column.invariant.minutes e.1.1.0) (λ e. let none = e.1.0 in let rest = ap length c.loop-column.invariant.multipliers in omega arith) c.in_default.ensures.steps in
    absurd (omega arith)

pub returns : goal.returns
returns c =
    let ms = c.args.multipliers.now in
    let k = c.loop-column.column-index in
    let size = length-take-le (length ms) c.args.columns.now (omega arith) in
    let left = length-drop (length ms) c.args.columns.now in
    let end : length ms ≡ k = omega arith in
    back_last c.args.minutes.now ms k _ _ _ _ (c.loop-column.column-items ++ drop (length ms) c.args.columns.now) c.loop-column.invariant.written (omega arith) end
