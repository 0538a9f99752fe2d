use Rattle.std.proofs.Common.{◌≡◌, ap, ◌∙◌}
use Rattle.std.specs.Prelude.{map}
use Rattle.pal_base.specs.View.{declaration_of, texts}
use Rattle.pal_base.specs.WrittenView.{program_of}
use Rattle.lint.specs.Mentions.{all_mentions, names_in}
use Rattle.lint.specs.Unused.{all_names, is_used}
use Rattle.lint.specs.UsedNames.{used_names}
use Rattle.lint.specs.Views.{found_all, mentions_seen}
use Rattle.lint.proofs.UsedNames.{if_same}
use Rattle.lint.proofs.unused.add_unused_declarations.Goals as goal

pub returns : goal.returns
returns c =
    let program = c.args.program.now in
    let names = texts program.names.keys in
    let all : mentions_seen names c.deref.result.now ≡ all_mentions (program_of program) = ap (mentions_seen names) c.deref.ensures.value ∙ c.in_ok-all.ensures in
    if_same (used_names c.in_ok-used.used) (all_names (program_of program)) (λ q. c.in_ok-used.ensures q ∙ ap (λ ms. is_used (names_in ms) q) all)
    (map (declaration_of names) program.declarations.items) (found_all c.args.findings.now.items) (found_all c.add_declarations.new.findings.items) c.add_declarations.result
    (rw c.deref-2.ensures.value at c.add_declarations.ensures)
