use Rattle.std.proofs.Common.{ap, ◌∙◌, length-append}
use Rattle.std.proofs.lemmas.Int.{to_z-of_z}
use Rattle.digits.proofs.Fields.{field_length}
use Rattle.archive.specs.File.{line}
use Rattle.archive.proofs.Fields.{end_fields}
use Rattle.archive.proofs.put.put_end.Goals as goal

pub put_line-requires : goal.put_line-requires
put_line-requires c = simp (length-append, field_length) c.requires

pub returns : goal.returns
returns c =
    let fits = c.ranges.floor in
    c.put_line.ensures ∙ ap line (end_fields c.args.cost c.cast_unsigned.result c.args.floor (simp to_z-of_z at c.cast_unsigned.ensures))
