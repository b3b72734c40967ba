use Rattle.std.proofs.Common.{◌≡◌, ap, ◌∙◌, append_assoc, w64, SFits, of_z, rules}
use Rattle.std.proofs.lemmas.Int.{to_z-of_z}
use Rattle.catalogue.proofs.answer.accepted_line.Goals as goal

pub returns : goal.returns
returns c =
    let floor = c.args.contents.now.floor in
    let fits : SFits w64 floor = search rules in
    let signed : c.cast_unsigned.result ≡ of_z w64 floor = c.cast_unsigned.ensures ∙ ap (of_z w64) (to_z-of_z w64 floor fits) in
    search (rules, append_assoc)
