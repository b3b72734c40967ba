use Rattle.std.proofs.Common.{refl}
use Rattle.digits.specs.Fields.{field}
use Rattle.archive.specs.File.{head_text, reading_text, entry_text, multiplier_text, end_text}
use Rattle.archive.proofs.cases.worked_file.Goals as goal

-- the case computes
pub returns : goal.returns
unfolding field head_text reading_text entry_text multiplier_text end_text
returns c = record { listed = refl; length = refl; formula = refl }
