use Rattle.std.proofs.Common.{length-append}
use Rattle.digits.specs.Fields.{field}
use Rattle.digits.proofs.Fields.{field_length}
use Rattle.archive.specs.File.{head_text}
use Rattle.archive.proofs.put.put_head.Goals as goal

pub put_line-requires : goal.put_line-requires
put_line-requires c = simp (length-append, field_length) c.requires

-- the fields compute to the digits of the head
pub returns : goal.returns
unfolding head_text field
returns c = c.put_line.ensures
