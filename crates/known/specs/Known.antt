-- What the known kinds mean.
--     roughness_meaning     of a known roughness
--     penalty_meaning       of a known penalty
--     raised_times          a roughness raised so many times
--     Raises                a call that makes a roughness, raised so many times, and none above a limit
--     made_meaning          what the penalty means that a call made, or its refusal
--     RoughnessOf, PenaltyOf        the known kind of a mark; where no known kind has that mark, the mark as it is
use Rattle.std.specs.Prelude.{◌≡◌, ℕ, zero, suc, ◌<◌, ◌≤◌, Some, None, Ok, Err, Option, Result, ◌≢◌}
use Rattle.kinds.specs.declared.refusal.Refusal.{Refusal}
use Rattle.kinds.specs.Penalty.{PenaltyMeaning}
use Rattle.kinds.specs.Roughness.{RoughnessMeaning}
use Rattle.penalties.specs.Sides.{absolute, lopsided}
use Rattle.roughness.specs.Maps.{first as first_kind, slope as slope_kind, raised}
use Rattle.known.specs.declared.mark.UnknownMark.{UnknownMark}
use Rattle.known.specs.declared.penalty.KnownPenalty.{KnownPenalty}
use Rattle.known.specs.declared.penalty.KnownPenalty.TheVariants.{Absolute, Lopsided}
use Rattle.known.specs.declared.roughness_kind.KnownRoughness.{KnownRoughness}
use Rattle.known.specs.declared.roughness_kind.KnownRoughness.TheVariants.{First, FirstOnce, FirstTwice, FirstThrice, Slope, SlopeOnce, SlopeTwice}

abbrev pub raised_times : ℕ → RoughnessMeaning → RoughnessMeaning
raised_times zero k = k
raised_times (suc n) k = raised (raised_times n k)

abbrev pub roughness_meaning : KnownRoughness → RoughnessMeaning
roughness_meaning (First k) = first_kind
roughness_meaning (FirstOnce k) = raised_times 1 first_kind
roughness_meaning (FirstTwice k) = raised_times 2 first_kind
roughness_meaning (FirstThrice k) = raised_times 3 first_kind
roughness_meaning (Slope k) = slope_kind
roughness_meaning (SlopeOnce k) = raised_times 1 slope_kind
roughness_meaning (SlopeTwice k) = raised_times 2 slope_kind

abbrev pub penalty_meaning : KnownPenalty → PenaltyMeaning
penalty_meaning (Absolute k) = absolute
penalty_meaning (Lopsided k) = lopsided k.sides.rise k.sides.fall

-- of the kind below, the limit, how often it is to be raised, and the answer
abbrev pub Raises : RoughnessMeaning → ℕ → ℕ → Option KnownRoughness → Type 0
Raises below most times None = most < times
Raises below most times (Some k) = (times ≤ most) × (roughness_meaning k ≡ raised_times times below)

abbrev pub made_meaning : Result KnownPenalty Refusal → Result PenaltyMeaning Refusal
made_meaning (Ok k) = Ok (penalty_meaning k)
made_meaning (Err r) = Err r

-- of the mark and the answer
abbrev pub RoughnessOf : ℕ → Result KnownRoughness UnknownMark → Type 0
RoughnessOf mark (Ok k) = (roughness_meaning k).mark ≡ mark
RoughnessOf mark (Err e) = (e.0 ≡ mark) × ((k : KnownRoughness) → (roughness_meaning k).mark ≢ mark)

abbrev pub PenaltyOf : ℕ → Result KnownPenalty UnknownMark → Type 0
PenaltyOf mark (Ok k) = (penalty_meaning k).mark ≡ mark
PenaltyOf mark (Err e) = (e.0 ≡ mark) × ((k : KnownPenalty) → (penalty_meaning k).mark ≢ mark)
