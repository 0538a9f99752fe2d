use Rattle.module_base.proofs.Prelude.{rules, ◌≡◌, ◌∙◌, List, length, ◌<◌, Some, place_of_number, PortRow, words_of_port, at_number}
use Rattle.std.proofs.Common.{ap, sym}
use Rattle.module_base.proofs.Lawful.{words_at, words_past}
use Rattle.module_base.proofs.devices.words_of_end.Goals as goal

pub returns-in-Some-get : goal.returns-in-Some-get
returns-in-Some-get c =
    let found = c.in-Some-get.ensures.lookup in
    let within : c.from.result < length c.deref.result.now = search rules in
    let at : place_of_number c.in-Port.partition.0 ≡ Some c.in-Some.place = search rules in
    c.words_of_port.ensures
    ∙ ap (λ (ports : List PortRow). words_of_port (at_number ports c.in-Port.port.0)) c.as_slice.ensures.value
    ∙ sym (words_at c.args.image.now c.args.end c.in-Port.partition c.in-Port.port c.deref.result.now c.in-Some-get.item.now c.from.result
    c.in-Some.place c.in-Port.is at c.from.ensures c.deref.ensures.value within found.1)

pub returns-in-None : goal.returns-in-None
returns-in-None c =
    let at : place_of_number c.in-Port.partition.0 ≡ Some c.in-Some.place = search rules in
    words_past c.args.image.now c.args.end c.in-Port.partition c.in-Port.port c.deref.result.now c.from.result
    c.in-Some.place c.in-Port.is at c.from.ensures c.deref.ensures.value c.in-None.ensures.lookup.3
