use Rattle.module.proofs.Prelude.{rules, ◌≡◌, ◌++◌, List, Ok, ap, ◌∙◌, DeviceLine, verdict_for, image_of, Image, machine_module, Machine, machine_of, elapse}
use Rattle.std.proofs.Common.{[], map, subst}
use Rattle.module.specs.NamedStates.{names_for}
use Rattle.module.specs.States.{rows_of}
use Rattle.module.specs.Naming.{written_in}
use Rattle.module.specs.Stating.{number_in}
use Rattle.module.proofs.NamedStates.{both_rows, names_after, only_added}
use Rattle.state_rows.specs.Named.{Source as Sourced}
use Rattle.state_view.specs.Sources.{source_in}
use Rattle.state_rows.specs.Rows.{rows_in}
use Rattle.module.proofs.naming_states.named_text.Goals as goal

pub returns-in_err-pass_over-clause-refused : goal.returns-in_err-pass_over-clause-refused
returns-in_err-pass_over-clause-refused c = absurd c.in_err-pass_over.ensures.made

pub returns-clause-text : goal.returns-clause-text
returns-clause-text c =
    let image = image_of c.args.image in
    let wanted = c.args.wanted in
    let sources = written_in c.args.sources in
    let m = machine_of c.in_ok-machine.machine in
    let last = machine_of c.pass_over.new.self in
    let lines = c.in_ok-lines.lines.items in
    let only = number_in c.args.only in
    let taken = subst (λ (i : Image). verdict_for i wanted.devices.now ≡ Ok lines) (ap (λ (x : Machine). x.image) c.in_ok-machine.ensures) c.in_ok-lines.ensures.taken in
    let behind = subst (λ (ls : List DeviceLine). last.standing ≡ (elapse (machine_module m.image).plan ls wanted.tick m.standing).state) c.as_slice.ensures.value c.in_ok-pass_over.ensures.state in
    let none : c.new-text.result.items ≡ [] = search rules in
    let empty : c.new-placed.result.items ≡ [] = search rules in
    let placed : map source_in c.as_slice-2.result.now ≡ sources =
    ap (map source_in) c.as_slice-2.ensures.value ∙ only_added (map source_in c.add_sources.new.sources.items) sources (ap (map source_in) empty) c.in_ok-add_sources.ensures in
    let named = subst (λ (ss : List Sourced). c.names.new.text.items ≡ c.state.new.text.items ++ rows_in wanted.form (names_for only last.image.items ss last.standing.members)) placed c.in_ok-names.ensures in
    let made = both_rows wanted.form (rows_of only last.image last.standing.now last.standing) (names_for only last.image.items sources last.standing.members) c.new-text.result.items c.state.new.text.items c.names.new.text.items none c.in_ok-state.ensures named in
    record {
      lines = lines;
      taken = taken;
      rows = made ∙ names_after image m last lines wanted.tick wanted.form only sources c.in_ok-machine.ensures c.in_ok-pass_over.ensures.image behind;
    }
