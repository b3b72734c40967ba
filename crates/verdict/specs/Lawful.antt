-- Which figures are lawful under three kinds.
--     wanted_of       the marks and the reach of the kinds, as the reader wants them
--     Lawful          figures of a firing that keeps all rules, with a table and multipliers whose gap is within the allowance
--     Filed           that bytes are the file of lawful figures
--     NearTheBest   that no list of whole numbers with as many entries undercuts the stated cost by more than the allowance
use Rattle.std.specs.Prelude.{◌≡◌, ℕ, ◌+◌, ◌<◌, ◌≤◌, true, List, length, ℤ, pos, Some, None, Option}
use Rattle.std.specs.List.{AllByRecursion}
use Rattle.kinds.specs.Roughness.{told_reach}
use Rattle.objective.specs.Checks.{is_allowance, is_value, kinds_no}
use Rattle.objective.specs.Objective.{KindsMeaning, LawfulMultipliers, cost_of, floor_of, within}
use Rattle.objective.specs.Promises.{Given}
use Rattle.archive.specs.File.{Figures, Fitting, file}
use Rattle.reader.specs.declared.contents.Wanted.{Wanted}

abbrev pub wanted_of : KindsMeaning → Option Wanted
wanted_of k = Some record {
  roughness = k.roughness.mark;
  misfit = k.misfit.mark;
  bend = k.bend.mark;
  reach = told_reach k.roughness;
}

pub record Lawful (k : KindsMeaning) (g : Figures) : Type 0 where
  pub kinds : kinds_no k ≡ None
  pub roughness_mark : g.head.roughness ≡ k.roughness.mark
  pub misfit_mark : g.head.misfit ≡ k.misfit.mark
  pub bend_mark : g.head.bend ≡ k.bend.mark
  -- stiffness, readings and denominator are in order
  pub given : Given (pos g.head.stiffness) g.readings (pos g.head.denominator)
  pub allowance : is_allowance (pos g.head.allowance) ≡ true
  pub reaches : k.roughness.reach < length g.readings
  pub values : AllByRecursion (λ v. is_value v ≡ true) g.entries
  pub multipliers : LawfulMultipliers k g.head.stiffness g.head.denominator g.readings g.multipliers
  pub cost : g.cost ≡ cost_of k g.head.stiffness g.readings g.entries
  pub floor : g.floor ≡ floor_of k g.readings g.multipliers
  pub gap : within g.head.denominator g.cost g.floor g.head.allowance ≡ true

pub record Filed (k : KindsMeaning) (bs : List ℕ) (g : Figures) : Type 0 where
  pub fitting : Fitting g
  pub lawful : Lawful k g
  pub is : bs ≡ file g

abbrev pub NearTheBest : KindsMeaning → Figures → Type 0
NearTheBest k g =
    (vs : List ℤ) → length vs ≡ length g.readings → g.cost ≤ cost_of k g.head.stiffness g.readings vs + g.head.allowance
