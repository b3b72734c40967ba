use Rattle.std.proofs.Common.{ap, ◌∙◌, length-append}
use Rattle.std.proofs.lemmas.Int.{to_z-of_z}
use Rattle.digits.proofs.Fields.{field_length}
use Rattle.archive.specs.File.{line}
use Rattle.archive.proofs.Fields.{multiplier_fields}
use Rattle.archive.proofs.Fitted.{signed_fits}
use Rattle.archive.proofs.lists.AtMultipliersListStage.put.Goals as goal

pub put_line-requires : goal.put_line-requires
put_line-requires c = simp (length-append, field_length) c.requires.long

pub returns : goal.returns
returns c =
    let fits = c.ranges.value in
    let small = signed_fits c.args.value c.requires.fits in
    let value = simp to_z-of_z at c.cast_unsigned-figure.ensures in
    c.put_line.ensures ∙ ap line (multiplier_fields c.args.progress.next c.cast_unsigned-figure.result c.args.value value)
