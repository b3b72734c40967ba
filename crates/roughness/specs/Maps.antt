-- The maps of the kinds of roughness, over whole numbers of any size and lists of any length.
--     differences             each value after the first, minus the one before it
--     differences_back        its transpose, of multipliers: one column more than there are multipliers
--     differences_back_from   the same, after a multiplier that is given
--     step                    how far a minute is from the one before it
--     bend                    how much three values bend, from the two steps between their minutes
--     shares                  what a multiplier puts into the three columns of its bend
--     bends                   each three values in a row, as they bend
--     bends_back              its transpose, of multipliers: two columns more than there are multipliers
--     bends_back_from         the same, with what earlier multipliers put into the first two columns
--     first, slope, raised    what the three kinds mean, the last of them over what a kind below means
use Rattle.std.specs.Prelude.{◌+◌, ◌*◌, min, List, [], ◌∷◌, ℤ, pos, ◌+ℤ◌, ◌-ℤ◌, ◌*ℤ◌}
use Rattle.kinds.specs.Roughness.{RoughnessMeaning}

abbrev pub differences : List ℤ → List ℤ
differences [] = []
differences (v ∷ []) = []
differences (v ∷ (w ∷ vs)) = (w -ℤ v) ∷ differences (w ∷ vs)

-- c is the multiplier before these, 0 before the first
abbrev pub differences_back_from : ℤ → List ℤ → List ℤ
differences_back_from c [] = c ∷ []
differences_back_from c (m ∷ ms) = (c -ℤ m) ∷ differences_back_from m ms

abbrev pub differences_back : List ℤ → List ℤ
differences_back ms = differences_back_from (pos 0) ms

abbrev pub step : ℤ → ℤ → ℤ
step s t = t -ℤ s

abbrev pub bend : ℤ → ℤ → ℤ → ℤ → ℤ → ℤ
bend a b v w x = b *ℤ v -ℤ (a +ℤ b) *ℤ w +ℤ a *ℤ x

-- what a multiplier puts into three columns by the two steps, the middle one to be taken from its column
abbrev pub shares : ℤ → ℤ → ℤ → List ℤ
shares a b m = (b *ℤ m) ∷ (((a +ℤ b) *ℤ m) ∷ ((a *ℤ m) ∷ []))

-- of minutes and values
abbrev pub bends : List ℤ → List ℤ → List ℤ
bends [] vs = []
bends (r ∷ []) vs = []
bends (r ∷ (s ∷ [])) vs = []
bends (r ∷ (s ∷ (t ∷ ts))) [] = []
bends (r ∷ (s ∷ (t ∷ ts))) (v ∷ []) = []
bends (r ∷ (s ∷ (t ∷ ts))) (v ∷ (w ∷ [])) = []
bends (r ∷ (s ∷ (t ∷ ts))) (v ∷ (w ∷ (x ∷ vs))) = bend (step r s) (step s t) v w x ∷ bends (s ∷ (t ∷ ts)) (w ∷ (x ∷ vs))

-- p and q are what the multipliers before these put into this column and into the next
abbrev pub bends_back_from : ℤ → ℤ → List ℤ → List ℤ → List ℤ
bends_back_from p q ts [] = p ∷ (q ∷ [])
bends_back_from p q [] (m ∷ ms) = []
bends_back_from p q (r ∷ []) (m ∷ ms) = []
bends_back_from p q (r ∷ (s ∷ [])) (m ∷ ms) = []
bends_back_from p q (r ∷ (s ∷ (t ∷ ts))) (m ∷ ms) =
    (p +ℤ step s t *ℤ m) ∷ bends_back_from (q -ℤ (step r s +ℤ step s t) *ℤ m) (step r s *ℤ m) (s ∷ (t ∷ ts)) ms

-- of minutes and multipliers
abbrev pub bends_back : List ℤ → List ℤ → List ℤ
bends_back ts ms = bends_back_from (pos 0) (pos 0) ts ms

abbrev pub first : RoughnessMeaning
first = record { reach = 1; growth = 2; mark = 257; rows = λ ts vs. differences vs; columns = λ ts ms. differences_back ms }

abbrev pub slope : RoughnessMeaning
slope = record { reach = 2; growth = 240; mark = 514; rows = bends; columns = bends_back }

abbrev pub raised : RoughnessMeaning → RoughnessMeaning
raised below = record {
  reach = below.reach + 1;
  growth = 2 * below.growth;
  mark = min (below.mark + 1) 65535;
  rows = λ ts vs. differences (below.rows ts vs);
  columns = λ ts ms. below.columns ts (differences_back ms);
}
