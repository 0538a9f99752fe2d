-- the locals of a process
use Rattle.std.proofs.Common.{rules, ◌≡◌, ◌≤◌, ◌-◌, ℕ, List, ap, sym, ◌∙◌}
use Rattle.std.specs.Option.{option_map}
use Rattle.std.specs.Prelude.{Option, slice_get}
use Rattle.std.proofs.lemmas.Option.{slice_get-map}
use Rattle.pal_base.specs.View.{process_of, texts}
use Rattle.pal_base.specs.WrittenView.{program_of}
use Rattle.pal_base.specs.declared.syntax.Process.{Process}
use Rattle.state_rows.specs.Named.{locals_of_process}
use Rattle.state_view.proofs.Named.{process_locals}
use Rattle.state_view.proofs.names.own_locals.Goals as goal

pub returns-in_default : goal.returns-in_default
returns-in_default c =
    let p = c.args.program.now in
    let names = texts p.names.keys in
    let place = c.args.place in
    let later : 2 ≤ place = search rules in
    c.locals_of.ensures names
    ∙ ap (λ (found : Option Process). locals_of_process (option_map (process_of names) found)) (c.process_at.ensures ∙ ap (λ (ps : List Process). slice_get ps (place - 2)) c.as_slice-in_default.ensures.value)
    ∙ sym (process_locals (program_of p) place later ∙ ap locals_of_process (slice_get-map (process_of names) p.processes.items (place - 2)))
