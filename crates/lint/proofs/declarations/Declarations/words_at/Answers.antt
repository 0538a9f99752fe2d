use Rattle.std.proofs.Common.{ap, sym, ◌∙◌}
use Rattle.apex_types.specs.declared.denotation.ObjectKind.TheVariants as object
use Rattle.lint.specs.Arrays.{declared_at, words_or_none}
use Rattle.lint.specs.DeclarationsView.{declared_in}
use Rattle.lint.specs.Measures.{words_numbered}
use Rattle.lint.proofs.Lookups.{no_words, words_at}
use Rattle.lint.proofs.declarations.Declarations.words_at.Goals as goal

pub returns-in-Buffer : goal.returns-in-Buffer
returns-in-Buffer c =
    let table = c.args.self.now in
    let n = c.args.number in
    c.words_numbered.ensures ∙ ap (λ ws. words_numbered ws n) (c.deref.ensures.value ∙ table.has_buffers) ∙ words_at object.Buffer n (declared_in table)
    ∙ ap (λ k. words_or_none (declared_at k n (declared_in table))) (sym c.in-Buffer.is)

pub returns-in-Blackboard : goal.returns-in-Blackboard
returns-in-Blackboard c =
    let table = c.args.self.now in
    let n = c.args.number in
    c.words_numbered-in-Blackboard.ensures ∙ ap (λ ws. words_numbered ws n) (c.deref-in-Blackboard.ensures.value ∙ table.has_blackboards) ∙ words_at object.Blackboard n (declared_in table)
    ∙ ap (λ k. words_or_none (declared_at k n (declared_in table))) (sym c.in-Blackboard.is)

pub returns-in_default : goal.returns-in_default
returns-in_default c = no_words c.args.kind c.args.number c.in_default.not-Buffer c.in_default.not-Blackboard (declared_in c.args.self.now)
