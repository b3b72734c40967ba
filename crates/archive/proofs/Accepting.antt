-- The checks of a whole file.
--     Checked            what they ask; `checked` and `checks_pass` go both ways
--     fitting_from, accepted_from    figures that pass fit, and figures that fit pass
--     fitting_long       how long the file of figures that fit is
use Rattle.std.proofs.Common.{◌≡◌, ℕ, ◌^◌, ◌<◌, ◌≤◌, Bool, true, ◌&&◌, List, length, ℤ, None, sym, ◌∙◌, subst, w64, SFits}
use Rattle.std.proofs.lemmas.Bool.{and_parts, and_from, leb-true, le-leb, eqb-true, eq-eqb}
use Rattle.kinds.specs.declared.reading.Reading.{Reading}
use Rattle.archive.specs.declared.figures.Head.{Head}
use Rattle.archive.specs.File.{Figures, Fitting, file, head_fits, reading_fits, entry_fits, multiplier_fits, file_length}
use Rattle.archive.specs.Writing.{all_fit, write_no, writing_no}
use Rattle.archive.proofs.Fitted.{all_from_fit, fit_from_all}
use Rattle.archive.proofs.Passing.{in_turn_parts, in_turn_from}
use Rattle.archive.proofs.Lengths.{file_long}

pub record Checked (h : Head) (xs : List Reading) (vs ms : List ℤ) (room : ℕ) : Type 0 where
  pub count : length xs ≡ h.readings
  pub table : length vs ≡ h.readings
  pub head : head_fits h ≡ true
  pub readings : all_fit reading_fits xs ≡ true
  pub entries : all_fit entry_fits vs ≡ true
  pub multipliers : all_fit multiplier_fits ms ≡ true
  pub places : length ms ≤ 65536
  pub roomy : file_length (length xs) (length ms) ≤ room

five : (a b c d e : Bool) → (a && b && c && d && e) ≡ true → (a ≡ true) × (b ≡ true) × (c ≡ true) × (d ≡ true) × (e ≡ true)
five a b c d e h =
    let s = and_parts (a && b && c && d) e h in
    let r = and_parts (a && b && c) d s.0 in
    let q = and_parts (a && b) c r.0 in
    let p = and_parts a b q.0 in
    (p.0, p.1, q.1, r.1, s.1)

five_from : (a b c d e : Bool) → a ≡ true → b ≡ true → c ≡ true → d ≡ true → e ≡ true → (a && b && c && d && e) ≡ true
five_from a b c d e p q r s t = rw (p, q, r, s, t)

pub checked : (h : Head) (xs : List Reading) (vs ms : List ℤ) (room : ℕ) → write_no h xs vs ms room ≡ None → Checked h xs vs ms room
checked h xs vs ms room e =
    let turn = in_turn_parts _ _ _ e in
    let counts = and_parts _ _ turn.0 in
    let fit = five _ _ _ _ _ turn.1 in
    record {
      count = eqb-true _ _ counts.0;
      table = eqb-true _ _ counts.1;
      head = fit.0;
      readings = fit.1;
      entries = fit.2;
      multipliers = fit.3;
      places = leb-true _ _ fit.4;
      roomy = leb-true _ _ turn.2;
    }

pub checks_pass : (h : Head) (xs : List Reading) (vs ms : List ℤ) (room : ℕ) → Checked h xs vs ms room → write_no h xs vs ms room ≡ None
checks_pass h xs vs ms room k =
    in_turn_from _ _ _
    (and_from _ _ (eq-eqb _ _ k.count) (eq-eqb _ _ k.table))
    (five_from _ _ _ _ _ k.head k.readings k.entries k.multipliers (le-leb _ _ k.places))
    (le-leb _ _ k.roomy)

pub fitting_from : (g : Figures) (room : ℕ) → g.cost < 2 ^ 64 → SFits w64 g.floor → writing_no g room ≡ None → Fitting g
fitting_from g room c f e =
    let k = checked g.head g.readings g.entries g.multipliers room e in
    record {
      head = k.head;
      readings = all_from_fit reading_fits g.readings k.readings;
      entries = all_from_fit entry_fits g.entries k.entries;
      multipliers = all_from_fit multiplier_fits g.multipliers k.multipliers;
      cost = c;
      floor = f;
      count = k.count;
      table = k.table;
      places = k.places;
    }

pub fitting_long : (g : Figures) → Fitting g → length (file g) ≡ file_length (length g.readings) (length g.multipliers)
fitting_long g f = file_long g (f.table ∙ sym f.count)

pub accepted_from : (g : Figures) (room : ℕ) → Fitting g → length (file g) ≤ room → writing_no g room ≡ None
accepted_from g room f h = checks_pass g.head g.readings g.entries g.multipliers room (record {
  count = f.count;
  table = f.table;
  head = f.head;
  readings = fit_from_all reading_fits g.readings f.readings;
  entries = fit_from_all entry_fits g.entries f.entries;
  multipliers = fit_from_all multiplier_fits g.multipliers f.multipliers;
  places = f.places;
  roomy = subst (λ n. n ≤ room) (fitting_long g f) h;
})
