-- From the answers of the weighing calls to faults, and to lawful figures.
use Rattle.std.proofs.Common.{◌≡◌, ℕ, ◌+◌, ◌-◌, ◌<◌, ◌&&◌, eqb, ltb, leb, ◌⊎◌, List, length, ℤ, pos, Some, None, Option, Result, sym, refl, ap, ◌∙◌, subst, ap₂, inl, inr, ⊎_elim, arith, w64, to_z}
use Rattle.kinds.specs.declared.reading.Reading.{Reading}
use Rattle.kinds.specs.declared.refusal.Cause.{Cause}
use Rattle.kinds.specs.declared.refusal.Cause.TheVariants.{Length, Short, Value, Denominator, Multiplier, Column}
use Rattle.kinds.specs.declared.refusal.Refusal.{Refusal}
use Rattle.kinds.specs.Checks.{at, unless, located, or_else, first_off}
use Rattle.kinds.specs.Penalty.{is_denominator}
use Rattle.kinds.specs.Roughness.{told_reach}
use Rattle.objective.specs.Checks.{is_value, stiffness_no, table_no, multipliers_no, columns_no, first_column_off, before_columns_no, weigh_table_no, weigh_multipliers_no}
use Rattle.objective.specs.Objective.{KindsMeaning, KindsLaws, columns_of, cost_of, floor_of}
use Rattle.objective.specs.Promises.{WeighsMultipliers}
use Rattle.objective.proofs.Flooring.{Floorable, floorable, multipliers_most, columned}
use Rattle.objective.proofs.Searches.{off_none}
use Rattle.objective.proofs.Weighing.{both_none, nothing_located}
use Rattle.archive.specs.File.{Figures}
use Rattle.reader.specs.declared.contents.Contents.{Contents}
use Rattle.reader.specs.declared.fault.Fault.{Fault}
use Rattle.reader.specs.declared.fault.Layer.TheVariants as layer
use Rattle.reader.specs.Faults.{Rank, Least, found_by}
use Rattle.reader.specs.Readable.{figures_of}
use Rattle.verdict.specs.Stages.{head_no, Ready, Tabled, Floored}
use Rattle.verdict.specs.Wrong.{lines_of, Wrong}
use Rattle.verdict.proofs.Clear.{Clear, Settled, clear_head, clear_readings, clear_entries, clear_multipliers, clear_columns}
use Rattle.verdict.proofs.Held.{slopes_handed}
use Rattle.verdict.proofs.Stops.{settled, entries_stop, multipliers_stop, columns_stop}

-- the check that stopped, past one that passed
past : (a b : Option Refusal) (r : Refusal) → a ≡ None → or_else a b ≡ Some r → b ≡ Some r
past a b r e h = sym (ap (λ (c : Option Refusal). or_else c b) e) ∙ h

last : (a : Option Refusal) (r : Refusal) → or_else a None ≡ Some r → a ≡ Some r
last None r h = h
last (Some x) r h = h

place_found : (c : Cause) (o : Option ℕ) (r : Refusal) → located c o ≡ Some r → (found : ℕ) × (o ≡ Some found) × (r ≡ at c found)
place_found c None r h = absurd (let z : ◌≡◌ {A = ℕ} 0 1 = cc in omega arith)
place_found c (Some found) r h = (found, refl, grind arith)

stopped_at : (a b : Option Refusal) (r : Refusal) → or_else a b ≡ Some r → (a ≡ Some r) ⊎ ((a ≡ None) × (b ≡ Some r))
stopped_at None b r e = inr (refl, e)
stopped_at (Some x) b r e = inl e

-- a fault as a refusal tells it
told_at : (Has : Rank → Cause → Type 0) (r : Refusal) (c : Cause) (found line above : ℕ) → r ≡ at c found → line ≡ above → Least Has (found_by layer.Figures c (above + found)) → Least Has (found_by layer.Figures r.cause (line + r.place))
told_at Has r c found line above is same = subst (Least Has) (sym (ap₂ (found_by layer.Figures) (ap (λ (r : Refusal). r.cause) is) (ap₂ (λ (a b : ℕ). a + b) same (ap (λ (r : Refusal). r.place) is))))

columns_long : (k : KindsMeaning) → KindsLaws k → (h : ℕ) (xs : List Reading) (d : ℕ) (ms : List ℤ) → Floorable k (pos h) xs (pos d) ms 240 → length (columns_of k xs ms) ≡ length xs
columns_long k law h xs d ms f = (columned k law.roughness (pos h) xs (pos d) ms 240 f (multipliers_most k law.bend (pos h) xs (pos d) ms 240 f)).long

-- multipliers and columns that pass leave no fault in their phases
pub clear_passed : (k : KindsMeaning) → KindsLaws k → (g : Figures) → Clear k g 6 → weigh_multipliers_no k (pos g.head.stiffness) g.readings (pos g.head.denominator) g.multipliers 240 ≡ None → Clear k g 8
clear_passed k law g before e =
    let both = both_none (before_columns_no k (pos g.head.stiffness) g.readings (pos g.head.denominator) g.multipliers 240) _ e in
    let f = floorable k (pos g.head.stiffness) g.readings (pos g.head.denominator) g.multipliers 240 both.0 in
    clear_columns k g (clear_multipliers k g before f.slopes) (columns_long k law g.head.stiffness g.readings g.head.denominator g.multipliers f) (nothing_located Column _ both.1)

-- what the weighing of multipliers promises, of figures
pub multipliers_weighed : (k : KindsMeaning) (c : Contents) {xs : List Reading} {ms : List ℤ} (before after : List ℤ) (r : Result ℤ Refusal) → head_no c.head ≡ None → xs ≡ (figures_of c).readings → ms ≡ (figures_of c).multipliers → WeighsMultipliers k (to_z w64 c.head.stiffness) xs (to_z w64 c.head.denominator) ms before after r → WeighsMultipliers k (pos c.head.stiffness) (figures_of c).readings (pos c.head.denominator) (figures_of c).multipliers before after r
multipliers_weighed k c before after r =
    slopes_handed (λ (h : ℤ) (xs : List Reading) (d : ℤ) (ms : List ℤ). WeighsMultipliers k h xs d ms before after r) c

pub floored : (k : KindsMeaning) (g : Figures) (before after : List ℤ) (r : Result ℤ Refusal) → length before ≡ 240 → WeighsMultipliers k (pos g.head.stiffness) g.readings (pos g.head.denominator) g.multipliers before after r → weigh_multipliers_no k (pos g.head.stiffness) g.readings (pos g.head.denominator) g.multipliers (length before) ≡ None → Floored k g (floor_of k g.readings g.multipliers)
floored k g before after r room w passes =
    let law = w.lawful passes in
    record {
      passes = subst (λ (room : ℕ). weigh_multipliers_no k (pos g.head.stiffness) g.readings (pos g.head.denominator) g.multipliers room ≡ None) room passes;
      value = refl;
      near = w.near_best law.0 law.1;
    }

module _ (k : KindsMeaning) (g : Figures) (ready : Ready k g) where
  set : Settled g.head
  set = settled g.head ready.given.head

  stiff : stiffness_no (pos g.head.stiffness) ≡ None
  stiff = grind (arith, set.stiff)

  reaches : told_reach k.roughness < length g.readings
  reaches = omega (arith, ready.form.long, ready.form.fitting.count)

  short : unless (ltb (told_reach k.roughness) (length g.readings)) (at Short 0) ≡ None
  short = grind (arith, reaches)

  pub clear_ready : Clear k g 5
  clear_ready = clear_readings k g (clear_head k g set) ready.given.noted

  pub table_stops : (r : Refusal) → weigh_table_no k (pos g.head.stiffness) g.readings g.entries 240 ≡ Some r → Least (Wrong k g) (found_by layer.Figures r.cause (length g.readings + 2 + r.place))
  table_stops r e =
      let long : unless (eqb (length g.entries) (length g.readings) && leb (length g.readings - told_reach k.roughness) 240) (at Length 0) ≡ None = grind (arith, ready.form.few, ready.form.fitting.count, ready.form.fitting.table) in
      let own = last (table_no k (length g.readings) g.entries 240) r (past _ _ r ready.given.noted (past _ _ r stiff e)) in
      let f = place_found Value (first_off is_value g.entries) r (last _ r (past _ _ r long (past _ _ r short (past _ _ r ready.kinds own)))) in
      told_at _ r Value f.0 _ _ f.2 refl (entries_stop k g clear_ready f.0 f.1)

  pub tabled : weigh_table_no k (pos g.head.stiffness) g.readings g.entries 240 ≡ None → Tabled k g (cost_of k g.head.stiffness g.readings g.entries)
  tabled e = record { values = grind arith; value = refl }

  pub clear_tabled : first_off is_value g.entries ≡ None → Clear k g 6
  clear_tabled e = clear_entries k g clear_ready (λ j h. off_none is_value 0 g.entries e j (pos 0) h)

  denominator_fine : unless (is_denominator (pos g.head.denominator)) (at Denominator 0) ≡ None
  denominator_fine = grind (arith, set.divides)

  -- the one check before the columns that can stop is that of the multipliers themselves
  slopes_found : (r : Refusal) → before_columns_no k (pos g.head.stiffness) g.readings (pos g.head.denominator) g.multipliers 240 ≡ Some r → (found : ℕ) × (first_off (k.bend.allows g.head.stiffness g.head.denominator) g.multipliers ≡ Some found) × (r ≡ at Multiplier found)
  slopes_found r e =
      let long : unless (eqb (length g.multipliers) (length g.readings - told_reach k.roughness) && leb (length g.readings) 240) (at Length 0) ≡ None = grind (arith, ready.form.few, ready.form.fitting.count, ready.form.count) in
      let own = last (multipliers_no k g.head.stiffness (length g.readings) (pos g.head.denominator) g.multipliers 240) r (past _ _ r ready.given.noted (past _ _ r stiff e)) in
      place_found Multiplier _ r (last _ r (past _ _ r denominator_fine (past _ _ r long (past _ _ r short (past _ _ r ready.kinds own)))))

  pub slopes_stop : KindsLaws k → first_off is_value g.entries ≡ None → (r : Refusal) (f : Fault) → (r.cause ≡ Multiplier → f ≡ found_by layer.Figures Multiplier ((lines_of g).multipliers + r.place)) → (r.cause ≡ Column → f ≡ found_by layer.Figures Column ((lines_of g).readings + r.place)) → weigh_multipliers_no k (pos g.head.stiffness) g.readings (pos g.head.denominator) g.multipliers 240 ≡ Some r → Least (Wrong k g) f
  slopes_stop law values r f multiplier column e = ⊎_elim at_multiplier at_column (stopped_at before _ r e)
    where
      before : Option Refusal
      before = before_columns_no k (pos g.head.stiffness) g.readings (pos g.head.denominator) g.multipliers 240

      columns : List ℤ
      columns = columns_of k g.readings g.multipliers

      told : (c : Cause) (found line : ℕ) → r ≡ at c found → (r.cause ≡ c → f ≡ found_by layer.Figures c (line + r.place)) → Least (Wrong k g) (found_by layer.Figures c (line + found)) → Least (Wrong k g) f
      told c found line is says least =
          subst (Least (Wrong k g)) (sym (says (ap (λ (r : Refusal). r.cause) is) ∙ ap (λ (r : Refusal). found_by layer.Figures c (line + r.place)) is)) least

      at_multiplier : before ≡ Some r → Least (Wrong k g) f
      at_multiplier is =
          let p = slopes_found r is in
          told Multiplier p.0 _ p.2 multiplier (multipliers_stop k g (clear_tabled values) p.0 p.1)

      at_column : (before ≡ None) × (columns_no k.misfit g.head.denominator columns g.readings ≡ Some r) → Least (Wrong k g) f
      at_column (fine, is) =
          let p = place_found Column (first_column_off k.misfit g.head.denominator 0 columns g.readings) r is in
          let u = floorable k (pos g.head.stiffness) g.readings (pos g.head.denominator) g.multipliers 240 fine in
          let long = columns_long k law g.head.stiffness g.readings g.head.denominator g.multipliers u in
          told Column p.0 _ p.2 column (columns_stop k g (clear_multipliers k g (clear_tabled values) u.slopes) long p.0 p.1)
