use Rattle.std.proofs.Common.{◌++◌, List, ℕ, ap, ◌∙◌}
use Rattle.trace_page.specs.Escaping.{escaped}
use Rattle.trace_page.proofs.page.Page.add.Goals as goal

pub returns : goal.returns
returns c = c.in_ok-push_escaped.ensures.text ∙ ap (λ (t : List ℕ). c.args.self.now.lines.items ++ escaped t) (c.as_slice.ensures.value ∙ c.in_ok-line.ensures)
