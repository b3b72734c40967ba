-- Worked cases of the definitions: maps, penalties, cost, floor and gap.
--     Case            figures that a definition gives, and those that are wanted
--     even            three minutes, one after the other
--     reading, firing three readings of weight 1, at these minutes
--     plain           second differences and Absolute twice
--     cost            what a table of that firing costs at stiffness 1
--     fits            1 where the gap of a table to the multiplier −1 over the denominator 2 is within an allowance, else 0
--     passes, offered 1 where checks pass, else 0; those of the multiplier −1 over a denominator
--     touched, allowed     the touching slope at a residual; 1 where a slope is allowed, else 0
--     cases           the table of cases
--     AllHold         that each case of a table gives what it is to give
-- `negsuc n` is the whole number n + 1 below 0, so −30 is `negsuc 29`.
use Rattle.std.specs.Prelude.{◌≡◌, ℕ, cond, List, [], ◌∷◌, ℤ, pos, negsuc, Some, None, Option}
use Rattle.kinds.specs.declared.reading.Reading.{Reading}
use Rattle.kinds.specs.declared.refusal.Refusal.{Refusal}
use Rattle.objective.specs.Checks.{weigh_multipliers_no}
use Rattle.objective.specs.Objective.{KindsMeaning, three, cost_of, floor_of, within}
use Rattle.penalties.specs.Sides.{absolute, lopsided}
use Rattle.roughness.specs.Maps.{first, slope, raised}

pub record Case : Type 0 where
  pub gives : List ℤ
  pub wanted : List ℤ

abbrev pub even : List ℤ
even = pos 0 ∷ pos 1 ∷ pos 2 ∷ []

abbrev pub reading : ℕ → ℕ → Reading
reading minute crude = record { minute = pos minute; crude = pos crude; weight = pos 1 }

abbrev pub firing : List Reading
firing = reading 0 100 ∷ reading 1 120 ∷ reading 2 110 ∷ []

abbrev pub plain : KindsMeaning
plain = three (raised first) absolute absolute

abbrev pub cost : List ℤ → ℤ
cost vs = pos (cost_of plain 1 firing vs)

abbrev pub fits : List ℤ → ℕ → ℤ
fits vs allowance = pos (cond (within 2 (cost_of plain 1 firing vs) (floor_of plain firing (negsuc 0 ∷ [])) allowance) 1 0)

abbrev pub passes : Option Refusal → ℤ
passes None = pos 1
passes (Some r) = pos 0

-- the checks of the multiplier −1, of a denominator
abbrev pub offered : ℕ → ℤ
offered d = passes (weigh_multipliers_no plain (pos 1) firing (pos d) (negsuc 0 ∷ []) 3)

-- the touching slope of a residual, and 1 where a slope is allowed, else 0: rise 3, fall 1, weight 2, denominator 5
abbrev pub touched : ℤ → ℤ
touched r = (lopsided 3 1).touch 2 5 r

abbrev pub allowed : ℤ → ℤ
allowed s = pos (cond ((lopsided 3 1).allows 2 5 s) 1 0)

abbrev pub cases : List Case
cases =
    record { gives = (raised first).rows even (pos 100 ∷ pos 120 ∷ pos 110 ∷ []); wanted = negsuc 29 ∷ [] }
    ∷ record { gives = (raised first).columns even (negsuc 0 ∷ []); wanted = negsuc 0 ∷ pos 2 ∷ negsuc 0 ∷ [] }
    ∷ record { gives = slope.rows (pos 0 ∷ pos 1 ∷ pos 3 ∷ []) (pos 10 ∷ pos 20 ∷ pos 40 ∷ []); wanted = pos 0 ∷ [] }
    ∷ record { gives = slope.rows (pos 0 ∷ pos 1 ∷ pos 3 ∷ []) (pos 10 ∷ pos 20 ∷ pos 30 ∷ []); wanted = negsuc 9 ∷ [] }
    ∷ record { gives = slope.columns (pos 0 ∷ pos 1 ∷ pos 3 ∷ []) (pos 1 ∷ []); wanted = pos 2 ∷ negsuc 2 ∷ pos 1 ∷ [] }
    ∷ record { gives = pos ((lopsided 3 1).cost 2 (pos 4)) ∷ []; wanted = pos 24 ∷ [] }
    ∷ record { gives = pos ((lopsided 3 1).cost 2 (negsuc 3)) ∷ []; wanted = pos 8 ∷ [] }
    ∷ record { gives = touched (pos 4) ∷ touched (pos 0) ∷ touched (negsuc 3) ∷ []; wanted = pos 30 ∷ pos 0 ∷ negsuc 9 ∷ [] }
    ∷ record { gives = allowed (pos 30) ∷ allowed (pos 31) ∷ allowed (negsuc 9) ∷ allowed (negsuc 10) ∷ []; wanted = pos 1 ∷ pos 0 ∷ pos 1 ∷ pos 0 ∷ [] }
    ∷ record { gives = cost (pos 100 ∷ pos 105 ∷ pos 110 ∷ []) ∷ []; wanted = pos 15 ∷ [] }
    ∷ record { gives = floor_of plain firing (negsuc 0 ∷ []) ∷ []; wanted = pos 30 ∷ [] }
    ∷ record { gives = cost (pos 100 ∷ pos 106 ∷ pos 110 ∷ []) ∷ []; wanted = pos 16 ∷ [] }
    ∷ record { gives = fits (pos 100 ∷ pos 105 ∷ pos 110 ∷ []) 0 ∷ []; wanted = pos 1 ∷ [] }
    ∷ record { gives = fits (pos 100 ∷ pos 106 ∷ pos 110 ∷ []) 0 ∷ []; wanted = pos 0 ∷ [] }
    ∷ record { gives = fits (pos 100 ∷ pos 106 ∷ pos 110 ∷ []) 1 ∷ []; wanted = pos 1 ∷ [] }
    ∷ record { gives = offered 2 ∷ []; wanted = pos 1 ∷ [] }
    ∷ record { gives = offered 1 ∷ []; wanted = pos 0 ∷ [] }
    ∷ []

abbrev pub AllHold : List Case → Type 0
AllHold [] = Unit {0}
AllHold (c ∷ cs) = (c.gives ≡ c.wanted) × AllHold cs
