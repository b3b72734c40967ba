use Rattle.std.proofs.Common.{◌≡◌, sym, subst, arith}
use Rattle.digits.proofs.Fields.{number_is}
use Rattle.catalogue.specs.Judged.{Stands}
use Rattle.catalogue.proofs.Heads.{parts, no_number}
use Rattle.catalogue.proofs.marks.Marks.in_head.Goals as goal

pub returns-in_err-number_at : goal.returns-in_err-number_at
returns-in_err-number_at c =
    subst (Stands c.args.file.now) (sym c.from_residual.ensures)
    (λ e h is. let at = parts c.args.file.now e h is in no_number 4 _ _ (omega arith) at.roughness (c.in_err-number_at.ensures (omega arith) (omega arith)))

pub returns-in_err-number_at-2 : goal.returns-in_err-number_at-2
returns-in_err-number_at-2 c =
    subst (Stands c.args.file.now) (sym c.from_residual-in_err-number_at-2.ensures)
    (λ e h is. let at = parts c.args.file.now e h is in no_number 6 _ _ (omega arith) at.misfit (c.in_err-number_at-2.ensures (omega arith) (omega arith)))

pub returns-in_err-number_at-3 : goal.returns-in_err-number_at-3
returns-in_err-number_at-3 c =
    subst (Stands c.args.file.now) (sym c.from_residual-in_err-number_at-3.ensures)
    (λ e h is. let at = parts c.args.file.now e h is in no_number 6 _ _ (omega arith) at.bend (c.in_err-number_at-3.ensures (omega arith) (omega arith)))

pub returns : goal.returns
returns c = λ e h is.
    let at = parts c.args.file.now e h is in
    let roughness : c.in_ok-number_at.field-0 ≡ h.roughness = number_is 4 _ _ _ at.roughness at.roughness_fits (c.in_ok-number_at.ensures (omega arith) (omega arith)) in
    let misfit : c.in_ok-number_at-2.field-0 ≡ h.misfit = number_is 6 _ _ _ at.misfit at.misfit_fits (c.in_ok-number_at-2.ensures (omega arith) (omega arith)) in
    let bend : c.in_ok-number_at-3.field-0 ≡ h.bend = number_is 6 _ _ _ at.bend at.bend_fits (c.in_ok-number_at-3.ensures (omega arith) (omega arith)) in
    λ i. record { roughness = roughness i; misfit = misfit i; bend = bend i }
