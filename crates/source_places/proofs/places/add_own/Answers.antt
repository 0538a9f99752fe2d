use Rattle.std.proofs.Common.{◌++◌, ℕ, List, map, ap, ◌∙◌}
use Rattle.std.specs.Prelude.{option_map}
use Rattle.pal_base.specs.View.{body_of, process_of, stack_body_of, texts}
use Rattle.pal_base.specs.declared.syntax.Process.{Process}
use Rattle.source_places.proofs.Added.{on_ok, three_added}
use Rattle.source_places.specs.Passing as passing
use Rattle.source_places.specs.Places as spec
use Rattle.source_places.proofs.places.add_own.Goals as goal

pub returns : goal.returns
returns c =
    let old = c.args.places.now.items in
    let p = c.args.program.now in
    let names = texts p.names.keys in
    let init = body_of names p.init.body in
    let handler = option_map (stack_body_of names) p.handler in
    let all : List ℕ → List ℕ → List ℕ → List Process → List ℕ = λ start after_init after_handler ps.
    old ++ ((spec.body_places start init ++ spec.handler_places after_init handler) ++ spec.processes_places after_handler (map (process_of names) ps)) in
    let start = c.next_body-start.result.now in
    let after_init = c.after_body-after_init.result.now in
    let after_handler = c.after_handler.result.now in
    let ps = p.processes.items in
    on_ok c.add_processes.result
    (λ e.
    three_added old (spec.body_places start init) (spec.handler_places after_init handler) (spec.processes_places after_handler (map (process_of names) c.as_slice-processes.result.now))
    (c.in_ok-add_body.ensures names) (c.in_ok-add_handler.ensures names) e
    ∙ ap (λ (qs : List Process). all start after_init after_handler qs) c.as_slice-processes.ensures.value
    ∙ ap (λ (text : List ℕ). all start after_init text ps) (c.after_handler.ensures names)
    ∙ ap (λ (text : List ℕ). all start text (spec.after_handler handler text) ps) (c.after_body-after_init.ensures names)
    ∙ ap (λ (text : List ℕ). all text (passing.after_body init text) (spec.after_handler handler (passing.after_body init text)) ps) c.next_body-start.ensures)
    (c.add_processes.ensures names)
