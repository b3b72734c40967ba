-- Files without a head: whatever the marks, they are turned down by what stands in their lines.
use Rattle.std.proofs.Common.{◌≡◌, ℕ, List, None, Ok, Err, Option, Result, arith}
use Rattle.kinds.specs.declared.refusal.Cause.{Cause}
use Rattle.objective.specs.Checks.{kinds_no}
use Rattle.objective.specs.Objective.{KindsMeaning}
use Rattle.archive.specs.declared.figures.Head.{Head}
use Rattle.archive.specs.File.{Figures, Fitting, edition, file}
use Rattle.reader.specs.declared.contents.Contents.{Contents}
use Rattle.reader.specs.declared.contents.Wanted.{Wanted}
use Rattle.reader.specs.declared.fault.Fault.{Fault}
use Rattle.reader.specs.Faults.{Rank}
use Rattle.reader.specs.Lines.{pieces}
use Rattle.reader.specs.Frames.{HeadIs, Disorder}
use Rattle.reader.specs.Frames.Disorder.{headless, unlike, many, short, misplaced}
use Rattle.reader.specs.Readable.{figures_of, Unreadable}
use Rattle.reader.specs.Readable.Unreadable.{in_lines, in_frames}
use Rattle.verdict.specs.Verdicts.{Faulty, Judges}
use Rattle.verdict.specs.Verdicts.Faulty.{steep, unreadable, wrong}
use Rattle.catalogue.specs.declared.marks.Marks.{Marks}
use Rattle.catalogue.specs.Judged.{TurnedDown, Judged, head_of}
use Rattle.catalogue.specs.Judged.Judged.{known, unknown}
use Rattle.catalogue.proofs.Heads.{filed_head}
use Rattle.catalogue.proofs.Marking.{not_steep}

-- a file of figures has a head
headed : (bs : List ℕ) (g : Figures) → Fitting g → bs ≡ file g → HeadIs (head_of bs) edition g.head
headed bs g f e = record { edition_fits = omega arith; fitting = f.head; text = filed_head bs g e }

module _ (bs : List ℕ) (none : (e : ℕ) (h : Head) → HeadIs (head_of bs) e h → ⊥) where
  any_frames : {v w : Option Wanted} {l t : ℕ} {c : Cause} → Disorder v (pieces bs) l t c → Disorder w (pieces bs) l t c
  any_frames (headless not) = headless not
  any_frames (unlike {e} {h} is not) = absurd (none e h is)
  any_frames (many {e} {h} is more) = absurd (none e h is)
  any_frames (short {e} {h} is less) = absurd (none e h is)
  any_frames (misplaced {e} {h} is not) = absurd (none e h is)

  any_marks : {v w : Option Wanted} {q : Rank} {c : Cause} → Unreadable v bs q c → Unreadable w bs q c
  any_marks (in_lines b) = in_lines b
  any_marks (in_frames d) = in_frames (any_frames d)

  unread : (k : KindsMeaning) → kinds_no k ≡ None → {q : Rank} {c : Cause} → Faulty k bs q c → Unreadable None bs q c
  unread k fine (steep not) = absurd (not fine)
  unread k fine (unreadable u) = any_marks u
  unread k fine (wrong g form e w) = absurd (none edition g.head (headed bs g form.fitting e))

  down : (k : KindsMeaning) (a : Result Contents Fault) → kinds_no k ≡ None → Judges k bs a → TurnedDown bs a
  down k (Ok c) fine j = none edition (figures_of c).head (headed bs (figures_of c) j.found.0.fitting j.found.0.is)
  down k (Err f) fine j =
      let l = j.found in
      record { at = l.at; cause = l.cause; has = unread k fine l.has; is = l.is; before = λ q c u. l.before q c (unreadable (any_marks u)) }

  pub headless_down : {m : Marks} (a : Result Contents Fault) → Judged m bs a → TurnedDown bs a
  headless_down a (known k at all) = down k a (not_steep at) (all k at)
  headless_down a (unknown not is) = is
