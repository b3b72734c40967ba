use Rattle.std.proofs.Common.{◌+◌, ◌<◌, ◌∙◌, ⊎_elim, length, arith, w64}
use Rattle.std.proofs.lemmas.Int.{to_z-of_z}
use Rattle.std.proofs.lemmas.List.{set-get_or}
use Rattle.kinds.proofs.Places.{written_more, written_all}
use Rattle.roughness.specs.Maps.{bend}
use Rattle.roughness.specs.Bending.{bends_more, bends_all}
use Rattle.roughness.proofs.Windows.{window_more, window_none, moments_follow, moments_step}
use Rattle.roughness.proofs.bends.write_bends.Goals as goal

pub between-steps-requires : goal.between-steps-requires
between-steps-requires c =
    let s = c.in-Some.ensures.steps in
    moments_follow c.requires.0 (window_more c.loop-row.invariant.minutes c.in-Some.moments.now _ _ (omega arith) s.0.0 s.0.1.0 s.0.1.1 s.0.1.2)

pub bend-requires : goal.bend-requires
bend-requires c =
    let s = c.in-Some.ensures.steps in
    let w = window_more c.loop-row.invariant.values c.in-Some.figures.now _ _ (omega arith) s.1.0 s.1.1.0 s.1.1.1 s.1.1.2 in
    let small = w.small in
    omega arith

pub loop-row-preserved : goal.loop-row-preserved
loop-row-preserved c =
    let k = c.loop-row.row-index in
    let s = c.in-Some.ensures.steps in
    let m = window_more c.loop-row.invariant.minutes c.in-Some.moments.now _ _ (omega arith) s.0.0 s.0.1.0 s.0.1.1 s.0.1.2 in
    let v = window_more c.loop-row.invariant.values c.in-Some.figures.now _ _ (omega arith) s.1.0 s.1.1.0 s.1.1.1 s.1.1.2 in
    let long = m.long in
    let step = moments_step m in
    let second = v.second (omega arith) in
    let third = v.third (omega arith) in
    let before = c.between-steps.ensures.0 ∙ step.0 in
    let after = c.between-steps.ensures.1 ∙ step.1 in
    record {
      written =
          written_more k _ _ _ _ _ c.loop-row.rows c.loop-row.invariant.written (omega arith)
          (bends_more c.args.minutes.now c.args.values.now k _ (omega arith) (omega arith)
          (to_z-of_z w64 c.bend.result (record { sfits = c.bend.type_inv }) ∙ c.bend.ensures ∙ (λ i. bend (before i) (after i) (v.first i) (second i) (third i))));
      minutes = m.next;
      values = v.next;
    }

pub returns-in_default : goal.returns-in_default
returns-in_default c =
    let s = c.in_default.ensures.steps in
    let k = c.loop-row.row-index in
    let short : length c.args.minutes.now < k + 3 =
    ⊎_elim (λ e. window_none c.loop-row.invariant.minutes e.1.1.0) (λ e. let fewer = window_none c.loop-row.invariant.values e.1.1.0 in omega arith) s in
    set-get_or c.loop-row.rows k _
    ∙ written_all _ _ _ _ c.loop-row.rows c.loop-row.invariant.written (omega arith) (bends_all c.args.minutes.now c.args.values.now _ (omega arith) (omega arith))

pub returns : goal.returns
returns c =
    written_all _ _ _ _ c.loop-row.rows c.loop-row.invariant.written (omega arith) (bends_all c.args.minutes.now c.args.values.now _ (omega arith) (omega arith))
