use Rattle.std.proofs.Common.{◌≡◌, ◌∙◌, ◌+◌, ◌&&◌, not, map, drop, ap, is_ok, is_some}
use Rattle.apex_types.specs.declared.place.Place.TheVariants.{Slot}
use Rattle.apex_types.specs.declared.denotation.Denotation.TheVariants.{Scalar}
use Rattle.pal_meaning.specs.Resolve.{Entry, own_entries, find}
use Rattle.pal_base.specs.View.{texts, name_of}
use Rattle.pal.specs.Tables.{entries_of}
use Rattle.pal.proofs.Tables.{sees_step, fresh_step, own_left, flipped}
use Rattle.pal.proofs.scope.enter_names.Goals as goal

pub loop-index-preserved : goal.loop-index-preserved
loop-index-preserved c =
    let names = texts c.args.names.now.keys in
    let xs = c.args.identifiers.now in
    let i = c.loop-index.index in
    let b = c.args.before in
    let declared = entries_of c.args.declared.now in
    let first = entries_of c.args.own.now in
    let now = entries_of c.loop-index.own in
    let next = entries_of c.enter.new.self in
    let left = own_entries (b + i) (map (name_of names) (drop i xs)) in
    let later = own_entries (b + (i + 1)) (map (name_of names) (drop (i + 1) xs)) in
    let all = own_entries b (map (name_of names) xs) in
    let e : Entry = record { name = c.text_of-text.result.now; meaning = Scalar (Slot c.slot.result) } in
    let split = own_left (name_of names) xs i b _ c.text_of-text.result.now c.slot.result c.loop-index-test.true c.text_of-text.ensures c.slot.ensures in
    let f = is_ok c.loop-index.checked in
    let g = is_ok c.earliest-checked.result in
    let new = c.in_ok-is_new.is_new in
    let free : is_some c.get.result ≡ is_some (find e.name declared) = ap is_some c.get.ensures in
    let flag : g ≡ (f && (new && not (is_some (find e.name declared)))) =
    c.earliest-checked.ensures ∙ ap (λ b. f && b) (c.earliest.ensures ∙ ap (λ b. b && is_ok c.check_that-in-loop-index.result) c.check_that.ensures ∙ ap (λ b. new && b) (c.check_that-in-loop-index.ensures ∙ flipped (is_some c.get.result) c.is_none-is_free.result c.is_none-is_free.ensures ∙ ap not free)) in (
      sees_step first now next left later all e split c.in_ok-is_new.ensures.sees c.loop-index.invariant.0,
      fresh_step declared first now next left later all e new f g split flag c.in_ok-is_new.ensures.fresh c.loop-index.invariant.1,
    )
