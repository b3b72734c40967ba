-- From what the reader and the checks of the figures answer to what the judge promises.
use Rattle.std.proofs.Common.{◌≡◌, ℕ, ◌+◌, List, Some, None, Ok, Err, Option, sym, refl, subst, inl, inr, arith}
use Rattle.kinds.specs.declared.refusal.Cause.{Cause}
use Rattle.kinds.specs.declared.refusal.Cause.TheVariants.{Steep}
use Rattle.kinds.specs.declared.refusal.Refusal.{Refusal}
use Rattle.kinds.specs.Checks.{at}
use Rattle.objective.specs.Checks.{kinds_no}
use Rattle.objective.specs.Objective.{KindsMeaning, KindsLaws}
use Rattle.archive.specs.File.{Figures, file}
use Rattle.reader.specs.declared.contents.Contents.{Contents}
use Rattle.reader.specs.declared.contents.Wanted.{Wanted}
use Rattle.reader.specs.declared.fault.Fault.{Fault}
use Rattle.reader.specs.declared.fault.Layer.TheVariants as layer
use Rattle.reader.specs.Faults.{Rank, rank, Before, Least, found_by}
use Rattle.reader.specs.Readable.{figures_of, InForm, Unreadable, ComesBack}
use Rattle.verdict.specs.Lawful.{wanted_of, Lawful, Filed, NearTheBest}
use Rattle.verdict.specs.Verdicts.{Faulty, steep, unreadable, wrong, Judges}
use Rattle.verdict.specs.Wrong.{Wrong}
use Rattle.verdict.proofs.Passing.{no_wrong, lawful_in_form}

module _ (k : KindsMeaning) (bs : List ℕ) where
  -- the kinds are turned down
  pub steep_judged : (r : Refusal) → kinds_no k ≡ Some r → Judges k bs (Err (found_by layer.Figures r.cause (0 + r.place)))
  steep_judged r no_because = subst (λ (r : Refusal). Judges k bs (Err (found_by layer.Figures r.cause (0 + r.place)))) (sym is) (record {
    found = record { at = rank 0 0 0; cause = Steep; has = steep off; is = refl; before = λ q c has. none q };
    accepts = λ g filed. absurd (off filed.lawful.kinds);
  })
    where
      is : r ≡ at Steep 0
      is = grind arith

      off : kinds_no k ≡ None → ⊥
      off e = let z : ◌≡◌ {A = ℕ} 0 1 = cc in omega arith

      none : (q : Rank) → Before q (rank 0 0 0) → ⊥
      none q (inl less) = omega arith
      none q (inr (same, inl less)) = omega arith
      none q (inr (same, inr both)) = omega (arith, both.1)

  -- `w` is what the kinds want of a file
  module _ (kinds : kinds_no k ≡ None) (w : Option Wanted) (wants : w ≡ wanted_of k) where
    in_form : (g : Figures) → Filed k bs g → InForm w g
    in_form g filed = subst (λ (w : Option Wanted). InForm w g) (sym wants) (lawful_in_form k g filed.fitting filed.lawful)

    -- the file cannot be read
    pub unread_judged : (f : Fault) → Least (Unreadable w bs) f → ComesBack w bs (Err f) → Judges k bs (Err f)
    unread_judged f least back = record {
      found = record { at = least.at; cause = least.cause; has = unreadable (subst (λ (w : Option Wanted). Unreadable w bs least.at least.cause) wants least.has); is = least.is; before = none };
      accepts = λ g filed. back g (in_form g filed) filed.is;
    }
      where
        none : (q : Rank) (x : Cause) → Faulty k bs q x → Before q least.at → ⊥
        none q x (steep e) o = e kinds
        none q x (unreadable u) o = least.before q x (subst (λ (w : Option Wanted). Unreadable w bs q x) (sym wants) u) o
        none q x (wrong g form is has) o = back g (subst (λ (w : Option Wanted). InForm w g) (sym wants) form) is

    -- the file was read, and as nothing else
    module _ (c : Contents) (form : InForm w (figures_of c)) (is : bs ≡ file (figures_of c)) (back : ComesBack w bs (Ok c)) where
      pub wrong_judged : KindsLaws k → ((q : Rank) (x : Cause) → Unreadable w bs q x → ⊥) → (f : Fault) → Least (Wrong k (figures_of c)) f → Judges k bs (Err f)
      wrong_judged law clean f least = record {
        found = record { at = least.at; cause = least.cause; has = wrong (figures_of c) (subst (λ (w : Option Wanted). InForm w (figures_of c)) wants form) is least.has; is = least.is; before = none };
        accepts = λ g filed. absurd (no_wrong k (figures_of c) law (subst (Lawful k) (sym (back g (in_form g filed) filed.is)) filed.lawful) least.at least.cause least.has);
      }
        where
          none : (q : Rank) (x : Cause) → Faulty k bs q x → Before q least.at → ⊥
          none q x (steep e) o = e kinds
          none q x (unreadable u) o = clean q x (subst (λ (w : Option Wanted). Unreadable w bs q x) (sym wants) u)
          none q x (wrong g there same has) o =
              let one = back g (subst (λ (w : Option Wanted). InForm w g) (sym wants) there) same in
              least.before q x (subst (λ (g : Figures). Wrong k g q x) (sym one) has) o

      pub right_judged : Lawful k (figures_of c) → NearTheBest k (figures_of c) → Judges k bs (Ok c)
      right_judged lawful near = record {
        found = (record { fitting = form.fitting; lawful = lawful; is = is }, near);
        accepts = λ g filed. back g (in_form g filed) filed.is;
      }
