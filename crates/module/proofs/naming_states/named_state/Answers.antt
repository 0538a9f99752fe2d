use Rattle.module.proofs.Prelude.{rules, ◌≡◌, ◌≤◌, ℕ, List, Result, Err, sym, Appends, TakesBeginning, MOST_TICKS, image_at, image_of, RunFault}
use Rattle.std.proofs.Common.{Some, None, subst}
use Rattle.module.specs.NamedStates.{NamedStates, wanted_number}
use Rattle.module.specs.declared.fault.RunFault.TheVariants.{Write}
use Rattle.module.specs.Naming.{named_in, written_in}
use Rattle.module.specs.Stating.{number_in}
use Rattle.module.proofs.NamedStates.{named_refused, named_stated, none_named}
use Rattle.module.proofs.naming_states.named_state.Goals as goal

pub returns-in_default-clause-text : goal.returns-in_default-clause-text
returns-in_default-clause-text g c =
    let read = image_at c.args.image.now in
    let wanted = c.args.wanted in
    let few : wanted.tick ≤ MOST_TICKS = search rules in
    let none : wanted_number (image_of c.in_ok-image.image) (named_in wanted).partition ≡ None = search rules in
    none_named read (image_of c.in_ok-image.image) wanted.devices.now wanted.tick (named_in wanted) (written_in c.args.sources) (g.S.Sink.taken c.args.sink.now) c.in_ok-image.ensures few none

pub returns-in_err-text-clause-text : goal.returns-in_err-text-clause-text
returns-in_err-text-clause-text g c =
    let read = image_at c.args.image.now in
    let wanted = c.args.wanted in
    let sources = written_in c.args.sources in
    let old = g.S.Sink.taken c.args.sink.now in
    let fault = c.in_err-text.field-0.0 in
    let few : wanted.tick ≤ MOST_TICKS = search rules in
    let answer : c.from_residual-in_err-text.result ≡ Err fault = search rules in
    subst (λ (r : Result (Unit {0}) RunFault). NamedStates read wanted.devices.now wanted.tick (named_in wanted) sources old old r) (sym answer)
    (named_refused read (image_of c.in_ok-image.image) wanted.devices.now wanted.tick (named_in wanted) sources old fault c.in_ok-image.ensures few c.in_err-text.ensures.refused)

pub returns-in_err-put_all-clause-text : goal.returns-in_err-put_all-clause-text
returns-in_err-put_all-clause-text g c =
    let read = image_at c.args.image.now in
    let wanted = c.args.wanted in
    let sources = written_in c.args.sources in
    let taken = g.S.Sink.taken in
    let few : wanted.tick ≤ MOST_TICKS = search rules in
    let text = c.in_ok-text.text.items in
    let number : wanted_number (image_of c.in_ok-image.image) (named_in wanted).partition ≡ Some (number_in c.in-Some.only) = search rules in
    let s = named_stated read (image_of c.in_ok-image.image) wanted.devices.now wanted.tick (named_in wanted) sources (number_in c.in-Some.only) text c.in_ok-image.ensures few number c.in_ok-text.ensures.text in
    let answer : c.from_residual-in_err-put_all.result ≡ Err Write = search rules in
    subst (λ (r : Result (Unit {0}) RunFault). NamedStates read wanted.devices.now wanted.tick (named_in wanted) sources (taken c.args.sink.now) (taken c.put_all.new.sink) r) (sym answer)
    (text, s, subst (λ (bytes : List ℕ). TakesBeginning (taken c.args.sink.now) (taken c.put_all.new.sink) bytes) c.as_slice.ensures.value c.in_err-put_all.ensures.beginning)

pub returns-clause-text : goal.returns-clause-text
returns-clause-text g c =
    let read = image_at c.args.image.now in
    let wanted = c.args.wanted in
    let sources = written_in c.args.sources in
    let taken = g.S.Sink.taken in
    let few : wanted.tick ≤ MOST_TICKS = search rules in
    let text = c.in_ok-text.text.items in
    let number : wanted_number (image_of c.in_ok-image.image) (named_in wanted).partition ≡ Some (number_in c.in-Some.only) = search rules in
    let s = named_stated read (image_of c.in_ok-image.image) wanted.devices.now wanted.tick (named_in wanted) sources (number_in c.in-Some.only) text c.in_ok-image.ensures few number c.in_ok-text.ensures.text in
    (text, s, subst (λ (bytes : List ℕ). Appends (taken c.args.sink.now) (taken c.put_all.new.sink) bytes) c.as_slice.ensures.value c.in_ok-put_all.ensures.ok)
