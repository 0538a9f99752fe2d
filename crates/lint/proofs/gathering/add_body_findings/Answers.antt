use Rattle.std.proofs.Common.{◌≡◌, ◌++◌, List, ap, ◌∙◌}
use Rattle.pal_base.specs.View.{texts}
use Rattle.pal_base.specs.WrittenView.{program_of}
use Rattle.pal_meaning.specs.Syntax as written
use Rattle.lint.specs.DeclarationsView.{declared_in}
use Rattle.lint.specs.Does.{found_at_mentions}
use Rattle.lint.specs.Mentions.{Mention, all_mentions}
use Rattle.lint.specs.Recursion.{endless_procedures}
use Rattle.lint.specs.Views.{Found, found_all, mentions_seen}
use Rattle.lint.specs.declared.mentions.Mention as code_mention
use Rattle.lint.proofs.Blocks.{both_add}
use Rattle.lint.proofs.gathering.add_body_findings.Goals as goal

pub returns : goal.returns
returns c =
    let program = program_of c.args.program.now in
    let names = texts c.args.program.now.names.keys in
    let old = found_all c.args.findings.now.items in
    let all : mentions_seen names c.deref.result.now ≡ all_mentions program =
    ap (mentions_seen names) c.deref.ensures.value ∙ c.in_ok-add_all.ensures ∙ ap (λ (ms : List code_mention.Mention). mentions_seen names ms ++ all_mentions program) c.new-mentions.ensures.items in
    both_add c.add_endless_procedures.result old _ (found_all c.add_endless_procedures.new.findings.items) (found_at_mentions program.declarations (all_mentions program)) (endless_procedures program.declarations)
    (c.in_ok-add_at_mentions.ensures ∙ ap (λ (ds : List written.Declaration). old ++ found_at_mentions ds (mentions_seen names c.deref.result.now)) c.requires ∙ ap (λ (ms : List Mention). old ++ found_at_mentions program.declarations ms) all)
    (rw c.deref-2.ensures.value at c.add_endless_procedures.ensures)
