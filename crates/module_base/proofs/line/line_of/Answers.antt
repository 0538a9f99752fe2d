use Rattle.module_base.proofs.Prelude.{rules, ◌≡◌, ◌∙◌, None, option_copied}
use Rattle.module_base.proofs.Taken.{held_line, unsaid_line}
use Rattle.module_base.proofs.line.line_of.Goals as goal

pub returns : goal.returns
returns c =
    held_line c.args.mark.now c.args.text.now c.split_at.result.0.now (option_copied c.split_at.result.1) c.in_ok-tick.tick c.in_ok-written.written
    c.split_at.ensures.front c.split_at.ensures.behind (search rules) (search rules)

pub returns-in_err-written : goal.returns-in_err-written
returns-in_err-written c =
    let none : c.from_residual-in_err-written.result ≡ None = search rules in
    none ∙ unsaid_line c.args.mark.now c.args.text.now (option_copied c.split_at.result.1) c.split_at.ensures.behind (search rules)
