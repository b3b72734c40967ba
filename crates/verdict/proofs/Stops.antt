-- The first fault of each phase, from the search that found it.
use Rattle.std.proofs.Common.{◌≡◌, ℕ, ◌+◌, ◌<◌, ◌≤◌, Bool, true, false, cond, ◌&&◌, ◌⊎◌, length, get_or, ℤ, pos, Some, None, Option, refl, ap, ◌∙◌, subst, ap₂, inl, inr, arith}
use Rattle.std.proofs.lemmas.Bool.{both_ways, and_parts}
use Rattle.kinds.specs.declared.refusal.Cause.{Cause}
use Rattle.kinds.specs.declared.refusal.Cause.TheVariants.{Figure, Minute, Setting, Value, Denominator, Multiplier, Column, Gap, Stated}
use Rattle.kinds.specs.declared.refusal.Refusal.{Refusal}
use Rattle.kinds.specs.Checks.{at, first_off}
use Rattle.kinds.specs.Minutes.{may_come}
use Rattle.kinds.specs.Penalty.{is_denominator}
use Rattle.objective.specs.Checks.{is_stiffness, is_allowance, is_value, has_figures, readings_no, first_column_off}
use Rattle.objective.specs.Objective.{KindsMeaning, columns_of, cost_of, floor_of, within}
use Rattle.archive.specs.File.{Figures}
use Rattle.archive.specs.declared.figures.Head.{Head}
use Rattle.reader.specs.declared.fault.Layer.TheVariants as layer
use Rattle.reader.specs.Faults.{rank, Least, found_by, layer_of}
use Rattle.verdict.specs.Stages.{head_no}
use Rattle.verdict.specs.Wrong.{Wrong, setting, denominator, figure, minute, value, multiplier, column, stated, gap, no_reading, minute_before, end_line}
use Rattle.verdict.proofs.Places.{Found, RefusedAt, is_fine, last_before, first_before, fine_some, off_some, column_allowed, column_some}
use Rattle.verdict.proofs.Clear.{Clear, Settled, clear_first, least_here}

pub settled : (h : Head) → head_no h ≡ None → Settled h
settled h e = record { stiff = grind arith; allowance = grind arith; divides = grind arith }

module _ (k : KindsMeaning) (g : Figures) where
  pub head_stops : (r : Refusal) → head_no g.head ≡ Some r → Least (Wrong k g) (found_by layer.Figures r.cause (1 + r.place))
  head_stops r e = by_tests (is_stiffness (pos g.head.stiffness) && is_allowance (pos g.head.allowance)) (is_denominator (pos g.head.denominator)) refl refl
    where
      by_tests : (s d : Bool) → (is_stiffness (pos g.head.stiffness) && is_allowance (pos g.head.allowance)) ≡ s → is_denominator (pos g.head.denominator) ≡ d → Least (Wrong k g) (found_by layer.Figures r.cause (1 + r.place))
      by_tests false d es ed =
          let is : r ≡ at Setting 0 = grind arith in
          least_here k g 3 1 0 Setting _ (clear_first k g) (setting es) (ap (λ (r : Refusal). found_by layer.Figures r.cause (1 + r.place)) is) none
        where
          none : (m u : ℕ) (c : Cause) → Wrong k g (rank 3 m u) c → (m < 1) ⊎ ((m ≡ 1) × (u < 0)) → ⊥
          none m u c w (inl less) = first m u c w less
            where
              first : (m u : ℕ) (c : Cause) → Wrong k g (rank 3 m u) c → m < 1 → ⊥
              first m u c (setting x) less = omega arith
              first m u c (denominator x) less = omega arith
          none m u c w (inr both) = omega (arith, both.1)
      by_tests true false es ed =
          let is : r ≡ at Denominator 0 = grind arith in
          least_here k g 3 1 1 Denominator _ (clear_first k g) (denominator ed) (ap (λ (r : Refusal). found_by layer.Figures r.cause (1 + r.place)) is) none
        where
          none : (m u : ℕ) (c : Cause) → Wrong k g (rank 3 m u) c → (m < 1) ⊎ ((m ≡ 1) × (u < 1)) → ⊥
          none m u c (setting x) o = both_ways _ x es
          none m u c (denominator x) (inl less) = omega arith
          none m u c (denominator x) (inr both) = omega (arith, both.1)
      by_tests true true es ed = absurd (let z : ◌≡◌ {A = ℕ} 0 1 = grind arith in omega arith)

  pub readings_stop : Clear k g 4 → length g.readings ≤ 240 → (r : Refusal) → readings_no g.readings ≡ Some r → Least (Wrong k g) (found_by layer.Figures r.cause (2 + r.place))
  readings_stop clear few r e = by_test (has_figures (get_or g.readings j no_reading)) refl
    where
      a : RefusedAt None g.readings 0 r
      a = fine_some 0 None g.readings r (omega arith) e

      j : ℕ
      j = a.found.place

      fine : (i : ℕ) → i < j → (has_figures (get_or g.readings i no_reading) ≡ true) × (may_come (minute_before g.readings i) (get_or g.readings i no_reading).minute ≡ true)
      fine i h =
          let both = and_parts _ _ (a.found.stops.before i h) in
          (both.0, subst (λ (last : Option ℤ). may_come last (get_or g.readings i no_reading).minute ≡ true) (first_before g.readings i) both.1)

      is : (b : Bool) → has_figures (get_or g.readings j no_reading) ≡ b → found_by layer.Figures r.cause (2 + r.place) ≡ found_by layer.Figures (cond b Minute Figure) (j + 2)
      is b t = ap₂ (found_by layer.Figures) (a.cause ∙ ap (λ (b : Bool). cond b Minute Figure) t) (omega (arith, a.found.is))

      by_test : (b : Bool) → has_figures (get_or g.readings j no_reading) ≡ b → Least (Wrong k g) (found_by layer.Figures r.cause (2 + r.place))
      by_test false t = least_here k g 4 (j + 2) 0 Figure _ clear (figure j a.found.stops.within t) (is false t) none
        where
          none : (m u : ℕ) (c : Cause) → Wrong k g (rank 4 m u) c → (m < j + 2) ⊎ ((m ≡ j + 2) × (u < 0)) → ⊥
          none m u c (figure i h x) (inl less) = both_ways _ x (fine i (omega arith)).0
          none m u c (minute i h x) (inl less) = both_ways _ x (fine i (omega arith)).1
          none m u c (figure i h x) (inr both) = omega (arith, both.1)
          none m u c (minute i h x) (inr both) = omega (arith, both.1)
      by_test true t = least_here k g 4 (j + 2) 1 Minute _ clear (minute j a.found.stops.within ill) (is true t) none
        where
          ill : may_come (minute_before g.readings j) (get_or g.readings j no_reading).minute ≡ false
          ill =
              let off : is_fine (last_before None g.readings j) (get_or g.readings j no_reading) ≡ false = a.found.stops.fails in
              subst (λ (last : Option ℤ). may_come last (get_or g.readings j no_reading).minute ≡ false) (first_before g.readings j) (grind arith)

          none : (m u : ℕ) (c : Cause) → Wrong k g (rank 4 m u) c → (m < j + 2) ⊎ ((m ≡ j + 2) × (u < 1)) → ⊥
          none m u c (figure i h x) (inl less) = both_ways _ x (fine i (omega arith)).0
          none m u c (minute i h x) (inl less) = both_ways _ x (fine i (omega arith)).1
          none m u c (figure i h x) (inr both) = both_ways _ x (subst (λ (i : ℕ). has_figures (get_or g.readings i no_reading) ≡ true) (omega (arith, both.0)) t)
          none m u c (minute i h x) (inr both) = omega (arith, both.1)

  -- a phase of faults of one cause, each at its line
  least_found : (p above : ℕ) (c : Cause) (holds : ℕ → Bool) (n found : ℕ) (line : ℕ → ℕ) → Clear k g p → Found holds n 0 found → ((j : ℕ) → line j ≡ above + 2 + j) → ((j : ℕ) → j < n → holds j ≡ false → Wrong k g (rank p (line j) 0) c) → ((m u : ℕ) (d : Cause) → Wrong k g (rank p m u) d → (j : ℕ) × (m ≡ line j) × (u ≡ 0) × (holds j ≡ false)) → Least (Wrong k g) (found_by (layer_of p) c (above + 2 + found))
  least_found p above c holds n found line clear s lines there only =
      least_here k g p (line s.place) 0 c _ clear (there s.place s.stops.within s.stops.fails) (ap (found_by (layer_of p) c) (omega (arith, s.is, lines s.place))) none
    where
      none : (m u : ℕ) (d : Cause) → Wrong k g (rank p m u) d → (m < line s.place) ⊎ ((m ≡ line s.place) × (u < 0)) → ⊥
      none m u d w (inl less) =
          let o = only m u d w in
          both_ways _ o.3 (s.stops.before o.0 (omega (arith, o.1, lines o.0, lines s.place)))
      none m u d w (inr both) = omega (arith, both.1)

  pub entries_stop : Clear k g 5 → (found : ℕ) → first_off is_value g.entries ≡ Some found → Least (Wrong k g) (found_by layer.Figures Value (length g.readings + 2 + found))
  entries_stop clear found e =
      least_found 5 (length g.readings) Value (λ j. is_value (get_or g.entries j (pos 0))) (length g.entries) found (λ j. length g.readings + j + 2) clear (off_some is_value (pos 0) 0 g.entries found e) (λ j. omega arith) value only
    where
      only : (m u : ℕ) (d : Cause) → Wrong k g (rank 5 m u) d → (j : ℕ) × (m ≡ length g.readings + j + 2) × (u ≡ 0) × (is_value (get_or g.entries j (pos 0)) ≡ false)
      only m u d (value j h x) = (j, refl, refl, x)

  pub multipliers_stop : Clear k g 6 → (found : ℕ) → first_off (k.bend.allows g.head.stiffness g.head.denominator) g.multipliers ≡ Some found → Least (Wrong k g) (found_by layer.Figures Multiplier (length g.readings + length g.entries + 2 + found))
  multipliers_stop clear found e =
      least_found 6 (length g.readings + length g.entries) Multiplier (λ j. k.bend.allows g.head.stiffness g.head.denominator (get_or g.multipliers j (pos 0))) (length g.multipliers) found (λ j. length g.readings + length g.entries + j + 2) clear (off_some _ (pos 0) 0 g.multipliers found e) (λ j. omega arith) multiplier only
    where
      only : (m u : ℕ) (d : Cause) → Wrong k g (rank 6 m u) d → (j : ℕ) × (m ≡ length g.readings + length g.entries + j + 2) × (u ≡ 0) × (k.bend.allows g.head.stiffness g.head.denominator (get_or g.multipliers j (pos 0)) ≡ false)
      only m u d (multiplier j h x) = (j, refl, refl, x)

  pub columns_stop : Clear k g 7 → length (columns_of k g.readings g.multipliers) ≡ length g.readings → (found : ℕ) → first_column_off k.misfit g.head.denominator 0 (columns_of k g.readings g.multipliers) g.readings ≡ Some found → Least (Wrong k g) (found_by layer.Figures Column (2 + found))
  columns_stop clear same found e =
      least_found 7 0 Column (column_allowed k.misfit g.head.denominator (columns_of k g.readings g.multipliers) g.readings) (length g.readings) found (λ j. j + 2) clear (column_some k.misfit g.head.denominator 0 _ g.readings found same e) (λ j. omega arith) column only
    where
      only : (m u : ℕ) (d : Cause) → Wrong k g (rank 7 m u) d → (j : ℕ) × (m ≡ j + 2) × (u ≡ 0) × (column_allowed k.misfit g.head.denominator (columns_of k g.readings g.multipliers) g.readings j ≡ false)
      only m u d (column j h x) = (j, refl, refl, x)

  pub stated_stops : Clear k g 8 → ((g.cost ≡ cost_of k g.head.stiffness g.readings g.entries) × (g.floor ≡ floor_of k g.readings g.multipliers) → ⊥) → Least (Wrong k g) (found_by layer.Figures Stated (end_line g))
  stated_stops clear other = least_here k g 8 (end_line g) 0 Stated _ clear (stated other) refl none
    where
      none : (m u : ℕ) (d : Cause) → Wrong k g (rank 8 m u) d → (m < end_line g) ⊎ ((m ≡ end_line g) × (u < 0)) → ⊥
      none m u d w (inr both) = omega (arith, both.1)
      none m u d (stated x) (inl less) = omega arith
      none m u d (gap x) (inl less) = omega arith

  pub gap_stops : Clear k g 8 → g.cost ≡ cost_of k g.head.stiffness g.readings g.entries → g.floor ≡ floor_of k g.readings g.multipliers → within g.head.denominator g.cost g.floor g.head.allowance ≡ false → Least (Wrong k g) (found_by layer.Figures Gap (end_line g))
  gap_stops clear cost floor wide = least_here k g 8 (end_line g) 1 Gap _ clear (gap wide) refl none
    where
      none : (m u : ℕ) (d : Cause) → Wrong k g (rank 8 m u) d → (m < end_line g) ⊎ ((m ≡ end_line g) × (u < 1)) → ⊥
      none m u d (stated x) o = x (cost, floor)
      none m u d (gap x) (inl less) = omega arith
      none m u d (gap x) (inr both) = omega (arith, both.1)
