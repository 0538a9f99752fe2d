use Rattle.std.proofs.Common.{◌≡◌, ◌∙◌, ◌+◌, ◌&&◌, [], map, drop, ap, is_ok}
use Rattle.pal_meaning.specs.Resolve.{Entry, no_counts, declaration_entries, after}
use Rattle.pal_base.specs.View.{texts, declaration_of, declared_of}
use Rattle.pal.specs.Tables.{entries_of, counts_of}
use Rattle.pal.proofs.Tables.{fresh_step, list_step, declaration_left, counts_next, and_unit}
use Rattle.pal.proofs.meanings.enter_declarations.Goals as goal

pub loop-declaration-preserved : goal.loop-declaration-preserved
loop-declaration-preserved c =
    let names = texts c.args.names.now.keys in
    let ports = c.args.ports.now in
    let ds = c.args.declarations.now in
    let i = c.loop-declaration.declaration-index in
    let x = c.declaration-item.result in
    let first = entries_of c.args.table.now in
    let now = entries_of c.loop-declaration.table in
    let next = entries_of c.enter.new.self in
    let left = declaration_entries ports (counts_of c.loop-declaration.counts) (map (declaration_of names) (drop i ds)) in
    let later = declaration_entries ports (counts_of c.unwrap_or-counts.result) (map (declaration_of names) (drop (i + 1) ds)) in
    let all = declaration_entries ports no_counts (map (declaration_of names) ds) in
    let e : Entry = record { name = c.text_of-text.result.now; meaning = c.meaning-meaning.result } in
    let split = declaration_left names ports ds i x
    (counts_of c.loop-declaration.counts) (counts_of c.unwrap_or-counts.result) c.text_of-text.result.now c.meaning-meaning.result
    c.loop-declaration-test.true c.declaration-item.is c.text_of-text.ensures (c.meaning-meaning.ensures names)
    (counts_next c.after.result c.loop-declaration.counts c.unwrap_or-counts.result (after (counts_of c.loop-declaration.counts) (declared_of names x.kind)) c.unwrap_or-counts.ensures (c.after.ensures names)) in
    let f = is_ok c.loop-declaration.checked in
    let g = is_ok c.earliest-checked.result in
    let new = c.in_ok-is_new.is_new in
    let flag : g ≡ (f && new) = c.earliest-checked.ensures ∙ ap (λ b. f && b) c.check_that.ensures in (
      fresh_step [] first now next left later all e new f g split (flag ∙ and_unit f new) c.in_ok-is_new.ensures.fresh c.loop-declaration.invariant.0,
      list_step first now next left later all e new f g split flag c.in_ok-is_new.ensures.behind c.loop-declaration.invariant.1,
    )
