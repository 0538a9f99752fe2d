use Rattle.std.proofs.Common.{rules, ◌≡◌, ap, sym, ◌∙◌, List, length, ◌<◌, Some}
use Rattle.apex_types.specs.Places.{place_of_number}
use Rattle.apex_types.specs.declared.row.PortRow.{PortRow}
use Rattle.module_meaning.specs.DeviceText.{words_of_port}
use Rattle.module_meaning.specs.Table.{at_number}
use Rattle.module_base.proofs.Lawful.{words_at, words_past}
use Rattle.image_findings.proofs.devices.words_of_end.Goals as goal

pub returns-in-Some-get : goal.returns-in-Some-get
returns-in-Some-get c =
    let found = c.in-Some-get.ensures.lookup in
    let within : c.from.result < length c.deref.result.now = search rules in
    let at : place_of_number c.in-Port.partition.0 ≡ Some c.in-Some.place = search rules in
    c.words_of_port.ensures
    ∙ ap (λ (ports : List PortRow). words_of_port (at_number ports c.in-Port.port.0)) c.as_slice.ensures.value
    ∙ sym (words_at c.args.image.now c.args.end c.in-Port.partition c.in-Port.port c.deref.result.now c.in-Some-get.item.now c.from.result
    c.in-Some.place c.in-Port.is at c.from.ensures c.deref.ensures.value within found.1)

pub returns-in-None : goal.returns-in-None
returns-in-None c =
    let at : place_of_number c.in-Port.partition.0 ≡ Some c.in-Some.place = search rules in
    words_past c.args.image.now c.args.end c.in-Port.partition c.in-Port.port c.deref.result.now c.from.result
    c.in-Some.place c.in-Port.is at c.from.ensures c.deref.ensures.value c.in-None.ensures.lookup.3
