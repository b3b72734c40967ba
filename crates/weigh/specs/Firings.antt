-- A firing, what calls leave of it, and the gap that was found under it.
--     nothing           what was weighed where nothing was
--     fresh             a firing of some kinds before anything else is said
--     with_settings     a firing once stiffness and allowance are set, with nothing weighed
--     with_reading      a firing with one reading more, with nothing weighed
--     with_cost, with_floor     a firing once a table, once multipliers were weighed
--     gap_over          a gap over a denominator, if the gap was told
--     gap_told_over     the gap of a cost to a floor under an allowance, if these are in range
--     gap_between       the same, if both are there
--     firing_gap        the gap of what was weighed last
--     gap_at_hand       the same, if there is a firing
use Rattle.std.specs.Prelude.{ℕ, [], ◌∷◌, ◌++◌, ℤ, pos, Some, None, Ok, Err, Option, Result, unsigned_abs}
use Rattle.kinds.specs.declared.reading.Reading.{Reading}
use Rattle.kinds.specs.declared.refusal.Refusal.{Refusal}
use Rattle.kinds.specs.Checks.{answer}
use Rattle.known.specs.declared.penalty.KnownPenalty.{KnownPenalty}
use Rattle.known.specs.declared.roughness_kind.KnownRoughness.{KnownRoughness}
use Rattle.objective.specs.declared.gap.Gap.{Gap}
use Rattle.objective.specs.declared.trio.Kinds.{Kinds}
use Rattle.objective.specs.Gaps.{gap_no, gap_told}
use Rattle.weigh.specs.declared.firing.Firing.{Firing}
use Rattle.weigh.specs.declared.firing.Floor.{Floor}
use Rattle.weigh.specs.declared.firing.GapOver.{GapOver}
use Rattle.weigh.specs.declared.firing.Weighed.{Weighed}

abbrev pub nothing : Weighed
nothing = record { cost = None; floor = None }

abbrev pub fresh : Kinds KnownRoughness KnownPenalty KnownPenalty → Firing
fresh k =
    record { given = record { kinds = k; stiffness = pos 1; allowance = pos 0; readings = [] }; weighed = nothing }

abbrev pub with_settings : Firing → ℤ → ℤ → Firing
with_settings f h g = record { given = record f.given { stiffness = h; allowance = g }; weighed = nothing }

abbrev pub with_reading : Firing → Reading → Firing
with_reading f x = record { given = record f.given { readings = f.given.readings ++ (x ∷ []) }; weighed = nothing }

abbrev pub with_cost : Firing → ℕ → Firing
with_cost f cost = record f { weighed = record f.weighed { cost = Some cost } }

-- of the floor and its denominator
abbrev pub with_floor : Firing → ℤ → ℤ → Firing
with_floor f floor d =
    record f { weighed = record f.weighed { floor = Some (record { value = floor; denominator = d }) } }

abbrev pub gap_over : ℤ → Result Gap Refusal → Option GapOver
gap_over d (Ok g) = Some (record { gap = g; denominator = d })
gap_over d (Err r) = None

abbrev pub gap_told_over : Floor → ℕ → ℤ → Option GapOver
gap_told_over f cost allowance =
    gap_over f.denominator
    (answer (gap_no f.denominator allowance) (gap_told cost f.value (unsigned_abs f.denominator) (unsigned_abs allowance)))

abbrev pub gap_between : Option ℕ → Option Floor → ℤ → Option GapOver
gap_between None floor allowance = None
gap_between (Some cost) None allowance = None
gap_between (Some cost) (Some f) allowance = gap_told_over f cost allowance

abbrev pub firing_gap : Firing → Option GapOver
firing_gap f = gap_between f.weighed.cost f.weighed.floor f.given.allowance

abbrev pub gap_at_hand : Option Firing → Option GapOver
gap_at_hand None = None
gap_at_hand (Some f) = firing_gap f
