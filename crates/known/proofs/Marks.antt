-- The marks of the known kinds.
use Rattle.std.proofs.Common.{◌≡◌, ℕ, zero, suc, ◌+◌, ◌-◌, ◌≤◌, cond, ltb, Some, None, Option, ok_or, sym, refl, ap, ◌∙◌, arith}
use Rattle.kinds.specs.Roughness.{RoughnessMeaning}
use Rattle.roughness.specs.Maps.{first, slope}
use Rattle.known.specs.declared.penalty.KnownPenalty.{KnownPenalty}
use Rattle.known.specs.declared.penalty.KnownPenalty.TheVariants.{Absolute, Lopsided}
use Rattle.known.specs.declared.roughness_kind.KnownRoughness.{KnownRoughness}
use Rattle.known.specs.declared.roughness_kind.KnownRoughness.TheVariants.{First, FirstOnce, FirstTwice, FirstThrice, Slope, SlopeOnce, SlopeTwice}
use Rattle.known.specs.Known.{roughness_meaning, penalty_meaning, raised_times, Raises, RoughnessOf}

-- each raising adds one
pub raised_mark : (times : ℕ) (below : RoughnessMeaning) → below.mark + times ≤ 65535 → (raised_times times below).mark ≡ below.mark + times
raised_mark zero below most = omega arith
raised_mark (suc n) below most = let e : (raised_times n below).mark ≡ below.mark + n = raised_mark n below (omega arith) in omega (arith, e)

-- a kind that was raised so many times has the mark
pub raised_has : (below : RoughnessMeaning) (most times mark : ℕ) (r : Option KnownRoughness) → Raises below most times r → times ≤ most → below.mark + times ≤ 65535 → mark ≡ below.mark + times → RoughnessOf mark (ok_or r (record { 0 = mark }))
raised_has below most times mark None above within fits is = absurd (omega (arith, above))
raised_has below most times mark (Some k) made within fits is = ap (λ (x : RoughnessMeaning). x.mark) made.1 ∙ (raised_mark times below fits ∙ sym is)

-- what the known roughness of a mark means
by_mark : ℕ → RoughnessMeaning
by_mark m = cond (ltb m 514) (raised_times (m - 257) first) (raised_times (m - 514) slope)

marked : (k : KnownRoughness) → roughness_meaning k ≡ by_mark (roughness_meaning k).mark
unfolding by_mark
marked (First k) = refl
marked (FirstOnce k) = refl
marked (FirstTwice k) = refl
marked (FirstThrice k) = refl
marked (Slope k) = refl
marked (SlopeOnce k) = refl
marked (SlopeTwice k) = refl

-- known kinds of one mark mean the same
pub same_roughness : (j k : KnownRoughness) → (roughness_meaning j).mark ≡ (roughness_meaning k).mark → roughness_meaning j ≡ roughness_meaning k
same_roughness j k e = marked j ∙ (ap by_mark e ∙ sym (marked k))

pub same_penalty : (j k : KnownPenalty) → (penalty_meaning j).mark ≡ (penalty_meaning k).mark → penalty_meaning j ≡ penalty_meaning k
same_penalty (Absolute j) (Absolute k) e = refl
same_penalty (Absolute j) (Lopsided k) e = absurd (omega (arith, e))
same_penalty (Lopsided j) (Absolute k) e = absurd (omega (arith, e))
same_penalty (Lopsided j) (Lopsided k) e =
    let rises : j.sides.rise ≡ k.sides.rise = omega (arith, j.sides.rises, j.sides.falls, k.sides.rises, k.sides.falls) in
    let falls : j.sides.fall ≡ k.sides.fall = omega (arith, j.sides.rises, j.sides.falls, k.sides.rises, k.sides.falls) in
    cc
