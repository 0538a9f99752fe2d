-- the rows of one more declared name are written
use Rattle.std.proofs.Common.{◌≡◌, ◌+◌, ◌++◌, List, ℕ, map, drop, subst}
use Rattle.pal.proofs.Tables.{counts_next, declaration_left}
use Rattle.pal.specs.Tables.{counts_of}
use Rattle.pal_base.specs.View.{declaration_of, declared_of, texts}
use Rattle.pal_meaning.specs.Resolve.{Entry, after, declaration_entries}
use Rattle.state_rows.specs.Named.{meaning_rows}
use Rattle.state_rows.specs.Rows.{rows_in}
use Rattle.state_view.proofs.Named.{more_entries}
use Rattle.state_view.proofs.declared.write_declared.Goals as goal

pub loop-declaration-preserved : goal.loop-declaration-preserved
loop-declaration-preserved c =
    let form = c.args.of.now.form in
    let partition = c.args.of.now.name in
    let names = texts c.args.names.now.keys in
    let ports = c.args.ports.now in
    let ds = c.args.declarations.now in
    let i = c.loop-declaration.declaration-index in
    let x = c.declaration-item.result in
    let name = c.text_of-name.result.now in
    let denoted = c.meaning-denoted.result in
    let counts = counts_of c.loop-declaration.counts in
    let next = counts_of c.unwrap_or-counts.result in
    let e : Entry = record { name = name; meaning = denoted } in
    let split = declaration_left names ports ds i x counts next name denoted
    c.loop-declaration-test.true c.declaration-item.is c.text_of-name.ensures (c.meaning-denoted.ensures names)
    (counts_next c.after.result c.loop-declaration.counts c.unwrap_or-counts.result (after counts (declared_of names x.kind)) c.unwrap_or-counts.ensures (c.after.ensures names)) in
    let written = subst (λ (n : List ℕ). c.write_meaning.new.text.items ≡ c.loop-declaration.text.items ++ rows_in form (meaning_rows partition c.args.data.now n denoted)) c.as_bytes.ensures.value c.in_ok-write_meaning.ensures in
    more_entries form partition c.args.data.now e (declaration_entries ports counts (map (declaration_of names) (drop i ds))) (declaration_entries ports next (map (declaration_of names) (drop (i + 1) ds))) _ _ _ split c.loop-declaration.invariant written
