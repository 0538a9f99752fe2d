use Rattle.std.proofs.Common.{◌≡◌, ◌++◌, drop, map}
use Rattle.pal_base.specs.View.{name_of, texts}
use Rattle.state_rows.specs.Named.{slot_rows}
use Rattle.state_rows.specs.Rows.{rows_in}
use Rattle.state_rows.specs.States.{placed, placed_from}
use Rattle.state_view.specs.Chains.{chain_in}
use Rattle.state_view.proofs.chain.Chain.write_locals.Given as goal

-- what is written so far, and what the rest adds
abbrev pub invariant-loop-slot : goal.invariant-loop-slot
invariant-loop-slot l =
    let form = l.self.of.now.form in
    let seen = map (name_of (texts l.self.source.now.program.now.names.keys)) in
    let rows = slot_rows (chain_in l.self) l.place l.words in
    l.text.items ++ rows_in form (placed_from rows l.slot (seen (drop l.slot l.names))) ≡ l.initial.text.items ++ rows_in form (placed rows (seen l.names))
