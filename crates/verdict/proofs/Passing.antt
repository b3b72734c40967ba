-- Figures that pass all checks are lawful, lawful figures have no fault, and the end has the last faults.
use Rattle.std.proofs.Common.{◌≡◌, ℕ, ◌+◌, ◌≤◌, true, length, ℤ, pos, None, Ok, Err, Result, sym, ◌∙◌, subst, arith, MatchResult}
use Rattle.std.proofs.ByRecursion.{All-get_or, All-from_get_or}
use Rattle.kinds.specs.declared.refusal.Cause.{Cause}
use Rattle.objective.specs.Checks.{is_value}
use Rattle.objective.specs.Objective.{KindsMeaning, KindsLaws, cost_of, within}
use Rattle.objective.proofs.Flooring.{accepted, lawful_multipliers}
use Rattle.objective.proofs.Noted.{few}
use Rattle.objective.proofs.Searches.{off_none}
use Rattle.archive.specs.File.{Figures, Fitting}
use Rattle.reader.specs.declared.fault.Fault.{Fault}
use Rattle.reader.specs.Faults.{Rank, Least}
use Rattle.reader.specs.Readable.{InForm}
use Rattle.verdict.specs.Lawful.{wanted_of, Lawful, NearTheBest}
use Rattle.verdict.specs.Stages.{Ready, Tabled, Floored, EndFine, EndOff, unstated, wide}
use Rattle.verdict.specs.Wrong.{Wrong}
use Rattle.verdict.proofs.Clear.{clear_head, clear_readings, clear_entries, clear_end, clear_all}
use Rattle.verdict.proofs.Stops.{settled, stated_stops, gap_stops}
use Rattle.verdict.proofs.Weighed.{clear_passed, clear_tabled}

module _ (k : KindsMeaning) (g : Figures) where
  pub lawful_figures : Ready k g → (cost : ℕ) (floor : ℤ) → Tabled k g cost → Floored k g floor → EndFine g cost floor → Lawful k g
  lawful_figures ready cost floor t m end =
      let set = settled g.head ready.given.head in
      let n = ready.form.fitting.count in
      let long = ready.form.long in
      let most = ready.form.few in
      record {
        kinds = ready.kinds;
        roughness_mark = ready.form.agrees.0;
        misfit_mark = ready.form.agrees.1;
        bend_mark = ready.form.agrees.2;
        given = record { stiff = set.stiff; noted = ready.given.noted; divides = set.divides };
        allowance = set.allowance;
        reaches = omega arith;
        values = All-from_get_or (λ v. is_value v ≡ true) g.entries (pos 0) (λ j h. off_none is_value 0 g.entries t.values j (pos 0) h);
        multipliers = (lawful_multipliers k (pos g.head.stiffness) g.readings (pos g.head.denominator) g.multipliers 240 m.passes).1;
        cost = end.cost_stated ∙ t.value;
        floor = end.floor_stated ∙ m.value;
        gap = end.gap;
      }

  pub near_the_best : Ready k g → (cost : ℕ) (floor : ℤ) → Tabled k g cost → Floored k g floor → EndFine g cost floor → NearTheBest k g
  near_the_best ready cost floor t m end vs same =
      let table : length g.entries ≡ length g.readings = omega (arith, ready.form.fitting.table, ready.form.fitting.count) in
      let is = end.cost_stated ∙ t.value in
      let gap = subst (λ (x : ℕ). within g.head.denominator x floor g.head.allowance ≡ true) is (subst (λ (x : ℤ). within g.head.denominator g.cost x g.head.allowance ≡ true) end.floor_stated end.gap) in
      subst (λ (x : ℕ). x ≤ cost_of k g.head.stiffness g.readings vs + g.head.allowance) (sym is) (m.near g.head.allowance g.entries vs table same gap)

  pub end_stops : KindsLaws k → Ready k g → (cost : ℕ) (floor : ℤ) → Tabled k g cost → Floored k g floor → (f : Fault) → EndOff g cost floor f → Least (Wrong k g) f
  end_stops law ready cost floor t m f (unstated other) = stated_stops k g (clear_passed k law g (clear_tabled k g ready t.values) m.passes) (λ both. other (both.0 ∙ sym t.value, both.1 ∙ sym m.value))
  end_stops law ready cost floor t m f (wide c b gap) = gap_stops k g (clear_passed k law g (clear_tabled k g ready t.values) m.passes) (c ∙ t.value) (b ∙ m.value) gap

  few_readings : Lawful k g → length g.readings ≤ 240
  few_readings l = omega (arith, few 0 None g.readings l.given.noted (omega arith))

  pub no_wrong : KindsLaws k → Lawful k g → (q : Rank) (c : Cause) → Wrong k g q c → ⊥
  no_wrong law l =
      let most = few_readings l in
      let reaches = l.reaches in
      let passes = accepted k (pos g.head.stiffness) g.readings (pos g.head.denominator) g.multipliers 240 l.given l.multipliers l.kinds (omega arith) most in
      let head = clear_head k g (record { stiff = l.given.stiff; allowance = l.allowance; divides = l.given.divides }) in
      let entries = clear_entries k g (clear_readings k g head l.given.noted) (λ j h. All-get_or (λ v. is_value v ≡ true) g.entries j (pos 0) h l.values) in
      clear_all k g (clear_end k g (clear_passed k law g entries passes) l.cost l.floor l.gap)

  pub lawful_in_form : Fitting g → Lawful k g → InForm (wanted_of k) g
  lawful_in_form fits l =
      let most = few_readings l in
      let reaches = l.reaches in
      let n = fits.count in
      let m = l.multipliers.count in
      record {
        fitting = fits;
        agrees = (l.roughness_mark, l.misfit_mark, l.bend_mark);
        few = omega arith;
        long = omega arith;
        count = omega arith;
      }

  -- the last check decides
  pub figures_judged : KindsLaws k → Ready k g → (cost : ℕ) (floor : ℤ) → Tabled k g cost → Floored k g floor → (r : Result (Unit {0}) Fault) → MatchResult r (λ _. EndFine g cost floor) (λ f. EndOff g cost floor f) → MatchResult r (λ _. Lawful k g × NearTheBest k g) (λ f. Least (Wrong k g) f)
  figures_judged law ready cost floor t m (Ok x) end = (lawful_figures ready cost floor t m end, near_the_best ready cost floor t m end)
  figures_judged law ready cost floor t m (Err f) end = end_stops law ready cost floor t m f end
