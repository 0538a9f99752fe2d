use Rattle.std.proofs.Common.{◌∙◌, ℕ, List, ap}
use Rattle.std.specs.List.{list_any}
use Rattle.module_meaning.specs.TableRules.{same}
use Rattle.table_findings.specs.Fields.{words_of}
use Rattle.table_findings.proofs.Steps.{is_one}
use Rattle.table_findings.proofs.words.Words.has.Goals as goal

pub returns : goal.returns
returns c =
    c.is_among.ensures ∙ ap (λ (words : List (List ℕ)). list_any (same c.args.text.now) words) c.list.ensures ∙ is_one (words_of c.args.self) c.args.text.now
