-- Figures that have no fault in the first phases.
--     Clear           that no fault stands in a phase before p
--     Settled         a head whose settings and denominator are in order
use Rattle.std.proofs.Common.{◌≡◌, ℕ, suc, ◌<◌, true, ◌⊎◌, length, get_or, ℤ, pos, None, Option, subst, inl, inr, ⊎_elim, arith}
use Rattle.std.proofs.lemmas.Bool.{both_ways, and_from, and_parts, cases_lt}
use Rattle.kinds.specs.declared.refusal.Cause.{Cause}
use Rattle.kinds.specs.Checks.{first_off}
use Rattle.kinds.specs.Minutes.{may_come}
use Rattle.kinds.specs.Penalty.{is_denominator}
use Rattle.objective.specs.Checks.{is_stiffness, is_allowance, is_value, has_figures, readings_no, first_column_off}
use Rattle.objective.specs.Objective.{KindsMeaning, columns_of, cost_of, floor_of, within}
use Rattle.objective.proofs.Searches.{off_none}
use Rattle.archive.specs.File.{Figures}
use Rattle.archive.specs.declared.figures.Head.{Head}
use Rattle.reader.specs.declared.fault.Fault.{Fault}
use Rattle.reader.specs.Faults.{Rank, rank, Before, Least, found_by, layer_of}
use Rattle.verdict.specs.Wrong.{Wrong, setting, denominator, figure, minute, value, multiplier, column, stated, gap, no_reading, minute_before}
use Rattle.verdict.proofs.Places.{fine_none, first_before, column_none}

abbrev pub Clear : KindsMeaning → Figures → ℕ → Type 0
Clear k g p = (q : Rank) (c : Cause) → Wrong k g q c → q.phase < p → ⊥

pub record Settled (h : Head) : Type 0 where
  pub stiff : is_stiffness (pos h.stiffness) ≡ true
  pub allowance : is_allowance (pos h.allowance) ≡ true
  pub divides : is_denominator (pos h.denominator) ≡ true

module _ (k : KindsMeaning) (g : Figures) where
  pub clear_first : Clear k g 3
  clear_first q c (setting e) h = omega arith
  clear_first q c (denominator e) h = omega arith
  clear_first q c (figure j l e) h = omega arith
  clear_first q c (minute j l e) h = omega arith
  clear_first q c (value j l e) h = omega arith
  clear_first q c (multiplier j l e) h = omega arith
  clear_first q c (column j l e) h = omega arith
  clear_first q c (stated e) h = omega arith
  clear_first q c (gap e) h = omega arith

  -- one phase more
  clear_more : (p : ℕ) → Clear k g p → ((l t : ℕ) (c : Cause) → Wrong k g (rank p l t) c → ⊥) → Clear k g (suc p)
  clear_more p before here q c w h =
      ⊎_elim (λ less. before q c w less)
      (λ most. here q.line q.turn c (subst (λ (x : ℕ). Wrong k g (rank x q.line q.turn) c) (omega arith) w))
      (cases_lt q.phase p)

  pub clear_head : Settled g.head → Clear k g 4
  clear_head s = clear_more 3 clear_first none
    where
      none : (l t : ℕ) (c : Cause) → Wrong k g (rank 3 l t) c → ⊥
      none l t c (setting e) = both_ways _ e (and_from _ _ s.stiff s.allowance)
      none l t c (denominator e) = both_ways _ e s.divides

  pub clear_readings : Clear k g 4 → readings_no g.readings ≡ None → Clear k g 5
  clear_readings before e = clear_more 4 before none
    where
      fine : (j : ℕ) → j < length g.readings → (has_figures (get_or g.readings j no_reading) ≡ true) × (may_come (minute_before g.readings j) (get_or g.readings j no_reading).minute ≡ true)
      fine j h =
          let both = and_parts _ _ (fine_none 0 None g.readings e j h) in
          (both.0, subst (λ (last : Option ℤ). may_come last (get_or g.readings j no_reading).minute ≡ true) (first_before g.readings j) both.1)

      none : (l t : ℕ) (c : Cause) → Wrong k g (rank 4 l t) c → ⊥
      none l t c (figure j h x) = both_ways _ x (fine j h).0
      none l t c (minute j h x) = both_ways _ x (fine j h).1

  pub clear_entries : Clear k g 5 → ((j : ℕ) → j < length g.entries → is_value (get_or g.entries j (pos 0)) ≡ true) → Clear k g 6
  clear_entries before fine = clear_more 5 before none
    where
      none : (l t : ℕ) (c : Cause) → Wrong k g (rank 5 l t) c → ⊥
      none l t c (value j h x) = both_ways _ x (fine j h)

  pub clear_multipliers : Clear k g 6 → first_off (k.bend.allows g.head.stiffness g.head.denominator) g.multipliers ≡ None → Clear k g 7
  clear_multipliers before e = clear_more 6 before none
    where
      none : (l t : ℕ) (c : Cause) → Wrong k g (rank 6 l t) c → ⊥
      none l t c (multiplier j h x) = both_ways _ x (off_none _ 0 g.multipliers e j (pos 0) h)

  pub clear_columns : Clear k g 7 → length (columns_of k g.readings g.multipliers) ≡ length g.readings → first_column_off k.misfit g.head.denominator 0 (columns_of k g.readings g.multipliers) g.readings ≡ None → Clear k g 8
  clear_columns before same e = clear_more 7 before none
    where
      none : (l t : ℕ) (c : Cause) → Wrong k g (rank 7 l t) c → ⊥
      none l t c (column j h x) = both_ways _ x (column_none k.misfit g.head.denominator 0 _ g.readings same e j h)

  pub clear_end : Clear k g 8 → g.cost ≡ cost_of k g.head.stiffness g.readings g.entries → g.floor ≡ floor_of k g.readings g.multipliers → within g.head.denominator g.cost g.floor g.head.allowance ≡ true → Clear k g 9
  clear_end before cost floor fits = clear_more 8 before none
    where
      none : (l t : ℕ) (c : Cause) → Wrong k g (rank 8 l t) c → ⊥
      none l t c (stated x) = x (cost, floor)
      none l t c (gap x) = both_ways _ x fits

  -- every fault stands in one of the phases
  pub clear_all : Clear k g 9 → (q : Rank) (c : Cause) → Wrong k g q c → ⊥
  clear_all before q c (setting e) = before q c (setting e) (omega arith)
  clear_all before q c (denominator e) = before q c (denominator e) (omega arith)
  clear_all before q c (figure j l e) = before q c (figure j l e) (omega arith)
  clear_all before q c (minute j l e) = before q c (minute j l e) (omega arith)
  clear_all before q c (value j l e) = before q c (value j l e) (omega arith)
  clear_all before q c (multiplier j l e) = before q c (multiplier j l e) (omega arith)
  clear_all before q c (column j l e) = before q c (column j l e) (omega arith)
  clear_all before q c (stated e) = before q c (stated e) (omega arith)
  clear_all before q c (gap e) = before q c (gap e) (omega arith)

  -- the first fault of the first phase that has one
  pub least_here : (p l t : ℕ) (c : Cause) (f : Fault) → Clear k g p → Wrong k g (rank p l t) c → f ≡ found_by (layer_of p) c l → ((m u : ℕ) (d : Cause) → Wrong k g (rank p m u) d → (m < l) ⊎ ((m ≡ l) × (u < t)) → ⊥) → Least (Wrong k g) f
  least_here p l t c f clear has is first = record { at = rank p l t; cause = c; has = has; is = is; before = none }
    where
      none : (q : Rank) (d : Cause) → Wrong k g q d → Before q (rank p l t) → ⊥
      none q d w (inl less) = clear q d w less
      none q d w (inr (same, order)) = first q.line q.turn d (subst (λ (x : ℕ). Wrong k g (rank x q.line q.turn) d) same w) order
