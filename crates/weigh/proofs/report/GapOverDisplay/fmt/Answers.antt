use Rattle.std.proofs.Common.{◌≡◌, ℕ, List, ◌++◌, codes, unsigned_abs, ap, ◌∙◌, SFits, rules, append_assoc}
use Rattle.std.proofs.Output.{has_written_of_eq}
use Rattle.std.proofs.lemmas.Int.{to_z-of_z}
use Rattle.std.specs.Fmt.{decimal, signed_decimal}
use Rattle.std.specs.Int.{w128}
use Rattle.weigh.proofs.report.GapOverDisplay.fmt.Goals as goal

-- ten pieces, put together from the last one back or from the first one on
pieces : (a b c d e f g h i j : List ℕ) → a ++ (b ++ (c ++ (d ++ (e ++ (f ++ (g ++ (h ++ (i ++ j)))))))) ≡ a ++ b ++ c ++ d ++ e ++ f ++ g ++ h ++ i ++ j
pieces a b c d e f g h i j = simp append_assoc

pub returns-clause-writes : goal.returns-clause-writes
returns-clause-writes g c =
    let gap = c.args.self.now in
    let fits : SFits w128 gap.gap.spare = search rules in
    let spare : c.unsigned_abs-spare.result ≡ unsigned_abs gap.gap.spare =
    c.unsigned_abs-spare.ensures.value ∙ ap unsigned_abs (to_z-of_z w128 gap.gap.spare fits) in
    let text = pieces (codes "gap ") (signed_decimal gap.gap.scaled) (codes "/") (signed_decimal gap.denominator) (codes " ") c.side-side.result.now (codes " the allowance by ") (decimal c.unsigned_abs-spare.result) (codes "/") (signed_decimal gap.denominator) in
    rw (← spare, ← c.side-side.ensures)
    (λ plain ok. has_written_of_eq _ _ _ _ _ text (c.write.ensures.writes plain ok))
