use Rattle.std.proofs.Common.{sym, ap, ◌∙◌}
use Rattle.words.specs.Words.{words_of}
use Rattle.words.proofs.Spelling.{starts_begins}
use Rattle.words.proofs.Saying.{no_words, comment, said_line, said_place}
use Rattle.words.proofs.grammar.read_line.Goals as goal

pub returns-in_default : goal.returns-in_default
returns-in_default c =
    let p = no_words c.args.line.now (ap words_of (sym c.new-words.ensures) ∙ c.in_default.ensures.steps.0) in
    record { line = p.0; place = p.1 _ }

pub returns-then-starts_with : goal.returns-then-starts_with
returns-then-starts_with c =
    let p = comment c.args.line.now _ _ (ap words_of (sym c.new-words.ensures) ∙ c.in-Some.ensures.steps) (c.if-starts_with.ensures.value ∙ starts_begins 35 c.in-Some.name.now) in
    record { line = p.0; place = p.1 _ }

pub returns : goal.returns
returns c =
    let line = c.args.line.now in
    let e = ap words_of (sym c.new-words.ensures) ∙ c.in-Some.ensures.steps in
    let b = c.if-starts_with.ensures.value ∙ starts_begins 35 c.in-Some.name.now in
    record { line = c.unwrap_or.ensures ∙ said_line line _ _ e b _ c.read_call.ensures.line; place = said_place line _ _ e b _ _ c.read_call.ensures.place }
