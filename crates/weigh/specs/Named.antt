-- The kinds that words name, by what they mean.
--     named_roughness   what the roughness means that a word names, if it is raised no more often than is known
--     named_penalty     what the penalty means that a word names, or the refusal of its rise or fall
--     with_penalties    the kinds with a roughness, or the refusal of the first penalty that is refused
--     named_kinds       the kinds that three words name: no call without a roughness
--     maybe_meaning     what a roughness means, if there is one
--     meaning_of        what the kinds of a firing mean
--     kinds_meaning     what the kinds mean that a call made, or why it made none
use Rattle.std.specs.Prelude.{cond, Some, None, Ok, Err, Option, Result, nat_le, unsigned_abs}
use Rattle.kinds.specs.declared.refusal.Refusal.{Refusal}
use Rattle.kinds.specs.Checks.{answer}
use Rattle.kinds.specs.Penalty.{PenaltyMeaning}
use Rattle.kinds.specs.Roughness.{RoughnessMeaning}
use Rattle.penalties.specs.Settings.{sides_no}
use Rattle.penalties.specs.Sides.{absolute, lopsided}
use Rattle.roughness.specs.Maps.{first, slope}
use Rattle.known.specs.declared.penalty.KnownPenalty.{KnownPenalty}
use Rattle.known.specs.declared.roughness_kind.KnownRoughness.{KnownRoughness}
use Rattle.known.specs.Known.{raised_times, roughness_meaning, penalty_meaning}
use Rattle.objective.specs.declared.trio.Kinds.{Kinds}
use Rattle.objective.specs.Objective.{KindsMeaning, three}
use Rattle.words.specs.declared.spellings.RoughnessWord.{RoughnessWord}
use Rattle.words.specs.declared.spellings.RoughnessWord.TheVariants.{First, Slope}
use Rattle.words.specs.declared.spellings.PenaltyWord.{PenaltyWord}
use Rattle.words.specs.declared.spellings.PenaltyWord.TheVariants.{Absolute, Lopsided}
use Rattle.weigh.specs.declared.answer.No.{No}
use Rattle.weigh.specs.declared.answer.No.TheVariants.{Refused, NotACall}

abbrev pub named_roughness : RoughnessWord → Option RoughnessMeaning
named_roughness (First times) = cond (nat_le times 3) (Some (raised_times times first)) None
named_roughness (Slope times) = cond (nat_le times 2) (Some (raised_times times slope)) None

abbrev pub named_penalty : PenaltyWord → Result PenaltyMeaning Refusal
named_penalty Absolute = Ok absolute
named_penalty (Lopsided rise fall) = answer (sides_no rise fall) (lopsided (unsigned_abs rise) (unsigned_abs fall))

abbrev pub with_penalties : Option RoughnessMeaning → Result PenaltyMeaning Refusal → Result PenaltyMeaning Refusal → Result KindsMeaning No
with_penalties None misfit bend = Err NotACall
with_penalties (Some r) (Err why) bend = Err (Refused why)
with_penalties (Some r) (Ok m) (Err why) = Err (Refused why)
with_penalties (Some r) (Ok m) (Ok b) = Ok (three r m b)

abbrev pub named_kinds : RoughnessWord → PenaltyWord → PenaltyWord → Result KindsMeaning No
named_kinds roughness misfit bend =
    with_penalties (named_roughness roughness) (named_penalty misfit) (named_penalty bend)

abbrev pub maybe_meaning : Option KnownRoughness → Option RoughnessMeaning
maybe_meaning None = None
maybe_meaning (Some k) = Some (roughness_meaning k)

abbrev pub meaning_of : Kinds KnownRoughness KnownPenalty KnownPenalty → KindsMeaning
meaning_of k = three (roughness_meaning k.roughness) (penalty_meaning k.misfit) (penalty_meaning k.bend)

abbrev pub kinds_meaning : Result (Kinds KnownRoughness KnownPenalty KnownPenalty) No → Result KindsMeaning No
kinds_meaning (Ok k) = Ok (meaning_of k)
kinds_meaning (Err why) = Err why
