use Rattle.std.proofs.Common.{ap, ◌∙◌, w64, SFits, rules, length-append}
use Rattle.std.proofs.lemmas.Int.{to_z-of_z}
use Rattle.digits.proofs.Fields.{field_length}
use Rattle.archive.specs.File.{line}
use Rattle.archive.proofs.Fields.{reading_fields}
use Rattle.archive.proofs.lists.AtReadingsListStage.put.Goals as goal

pub put_line-requires : goal.put_line-requires
put_line-requires c = simp (length-append, field_length) c.requires.long

pub returns : goal.returns
returns c =
    let fits_minute : SFits w64 c.args.reading.minute = search rules in
    let fits_crude : SFits w64 c.args.reading.crude = search rules in
    let fits_weight : SFits w64 c.args.reading.weight = search rules in
    let minute = simp to_z-of_z at c.unsigned_abs-minute.ensures.value in
    let crude = simp to_z-of_z at c.unsigned_abs-crude.ensures.value in
    let weight = simp to_z-of_z at c.unsigned_abs-weight.ensures.value in
    c.put_line.ensures ∙ ap line (reading_fields c.args.progress.next c.unsigned_abs-minute.result c.unsigned_abs-crude.result c.unsigned_abs-weight.result c.args.reading minute crude weight)
