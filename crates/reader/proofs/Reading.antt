-- From the two layers to what reading a file promises.
use Rattle.std.proofs.Common.{ℕ, suc, List, Ok, Err, Option, Result, sym, ◌∙◌, inl, inr, arith}
use Rattle.kinds.specs.declared.refusal.Cause.{Cause}
use Rattle.kinds.specs.declared.refusal.Cause.TheVariants.{Line}
use Rattle.reader.specs.declared.contents.Contents.{Contents}
use Rattle.reader.specs.declared.contents.Wanted.{Wanted}
use Rattle.reader.specs.declared.fault.Fault.{Fault}
use Rattle.reader.specs.Faults.{Rank, rank, Before, Least}
use Rattle.reader.specs.Lines.{pieces, Whole, FirstBroken}
use Rattle.reader.specs.Order.{FirstDisorder, FramesRead}
use Rattle.reader.specs.Readable.{figures_of, Unreadable, in_lines, in_frames, ReadAs, ComesBack}
use Rattle.reader.proofs.Same.{no_unreadable, same_figures}

pub least_broken : (w : Option Wanted) (bs : List ℕ) (f : Fault) → FirstBroken bs f → Least (Unreadable w bs) f
least_broken w bs f b = record { at = rank 1 (suc b.at) 0; cause = Line; has = in_lines b.broken; is = b.is; before = none }
  where
    none : (q : Rank) (c : Cause) → Unreadable w bs q c → Before q (rank 1 (suc b.at) 0) → ⊥
    none q c (in_lines {k = k} x) (inl lt) = omega arith
    none q c (in_lines {k = k} x) (inr (e, inl lt)) = b.before k (omega arith) x
    none q c (in_lines {k = k} x) (inr (e, inr p)) = omega (arith, p.1)
    none q c (in_frames x) (inl lt) = omega arith
    none q c (in_frames x) (inr p) = omega (arith, p.0)

pub least_disorder : (w : Option Wanted) (bs : List ℕ) (f : Fault) → Whole bs → FirstDisorder w (pieces bs) f → Least (Unreadable w bs) f
least_disorder w bs f whole d = record { at = rank 2 d.line d.turn; cause = d.cause; has = in_frames d.has; is = d.is; before = none }
  where
    none : (q : Rank) (c : Cause) → Unreadable w bs q c → Before q (rank 2 d.line d.turn) → ⊥
    none q c (in_lines {k = k} x) e = whole k x
    none q c (in_frames {l = l} {t = t} x) (inl lt) = omega arith
    none q c (in_frames {l = l} {t = t} x) (inr (e, p)) = d.before l t c x p

pub read_as : (w : Option Wanted) (bs : List ℕ) → Whole bs → (r : Result Contents Fault) → FramesRead w bs r → ReadAs w bs r
read_as w bs whole (Ok c) h = h
read_as w bs whole (Err f) h = least_disorder w bs f whole h

pub comes_back : (w : Option Wanted) (bs : List ℕ) (r : Result Contents Fault) → ReadAs w bs r → ComesBack w bs r
comes_back w bs (Ok c) h g form e = same_figures w (figures_of c) g h.0 form (sym h.1 ∙ e)
comes_back w bs (Err f) h g form e = no_unreadable w g form bs e h.at h.cause h.has
