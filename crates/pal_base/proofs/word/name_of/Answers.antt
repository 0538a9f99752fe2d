use Rattle.std.proofs.Common.{ap, ◌∙◌}
use Rattle.std.proofs.lemmas.Str.{IsUtf8-from_ascii}
use Rattle.std.specs.String.{string_eq}
use Rattle.pal_meaning.specs.Grammar as grammar
use Rattle.pal_base.specs.View.{texts}
use Rattle.pal_base.proofs.Names.{stored_text, inserted}
use Rattle.pal_base.proofs.word.name_of.Goals as goal

pub unreachable-requires : goal.unreachable-requires
unreachable-requires c = c.in_default.ensures.cases.0 (IsUtf8-from_ascii c.args.run.now c.requires)

pub returns-clause-word : goal.returns-clause-word
returns-clause-word c =
    let s = c.in_ok-number.ensures.stored in
    ap grammar.Name (stored_text c.insert_full.new.self.keys c.in_ok-number.number c.in_ok-key.key s.0 s.1 s.2
    ∙ c.in_ok-key.ensures.ok ∙ c.in-Ok.ensures.cases.0)

pub returns-clause-grows : goal.returns-clause-grows
returns-clause-grows c =
    let i = inserted string_eq c.args.names.now.keys c.in_ok-key.key in
    (i.0, ap texts c.in_ok-number.ensures.keys ∙ i.1)
