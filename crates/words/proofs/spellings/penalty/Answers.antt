use Rattle.std.proofs.Common.{Some, None, codes, ◌∙◌}
use Rattle.std.proofs.lemmas.Bool.Decides.{Decides-eqb}
use Rattle.std.proofs.lemmas.Slice.Eq.{strip_prefix_is}
use Rattle.words.proofs.Penalties.{penalty_absolute, penalty_lopsided, penalty_other}
use Rattle.words.proofs.spellings.penalty.Goals as goal

pub returns-then-eq : goal.returns-then-eq
returns-then-eq c =
    penalty_absolute c.args.word.now (rw c.as_slice.ensures at c.if-eq.ensures)

pub returns-in_err-strip_prefix : goal.returns-in_err-strip_prefix
returns-in_err-strip_prefix c =
    c.from_residual.ensures
    ∙ penalty_other c.args.word.now (rw c.as_slice.ensures at c.if-eq.ensures)
    (strip_prefix_is Decides-eqb c.args.word.now (codes "lopsided:") None c.in_err-strip_prefix.ensures.cases)

pub returns : goal.returns
returns c =
    c.lopsided.ensures
    ∙ penalty_lopsided c.args.word.now _ (strip_prefix_is Decides-eqb c.args.word.now (codes "lopsided:") (Some c.in_ok-strip_prefix.field-0) c.in_ok-strip_prefix.ensures.cases)
