-- the row of a frame, its parameters and its locals
use Rattle.std.proofs.Common.{rules, ◌≡◌, ◌++◌, ℤ, List, drop, length, map, ap, subst, sym, ◌∙◌}
use Rattle.std.proofs.lemmas.List.{length-map}
use Rattle.pal_base.specs.View.{name_of, texts}
use Rattle.state_rows.specs.Named.{frame_row, slot_rows}
use Rattle.state_rows.specs.Rows.{rows_in}
use Rattle.state_rows.specs.States.{placed}
use Rattle.state_view.specs.Chains.{chain_in, names_in}
use Rattle.state_view.proofs.Loops.{three}
use Rattle.state_view.proofs.chain.Chain.write_body.Goals as goal

pub returns : goal.returns
returns c =
    let form = c.args.self.now.of.now.form in
    let chain = chain_in c.args.self.now in
    let names = texts c.args.self.now.source.now.program.now.names.keys in
    let b = names_in names c.args.body in
    let words = c.args.words.now in
    let place = c.args.place in
    let count : length c.args.body.parameters.now ≡ length b.parameters = sym (length-map c.args.body.parameters.now (name_of names)) in
    let after : c.words_from-others.result.now ≡ drop (length b.parameters) words = c.words_from-others.ensures ∙ ap (λ n. drop n words) count in
    let written : c.write_locals-2.new.text.items ≡ c.write_locals.new.text.items ++ rows_in form (placed (slot_rows chain place (drop (length b.parameters) words)) b.locals) =
    subst (λ (ws : List ℤ). c.write_locals-2.new.text.items ≡ c.write_locals.new.text.items ++ rows_in form (placed (slot_rows chain place ws) b.locals)) after c.in_ok-write_locals-2.ensures in
    three form (frame_row chain place c.args.pc b) (placed (slot_rows chain place words) b.parameters) (placed (slot_rows chain place (drop (length b.parameters) words)) b.locals) _ _ _ _ c.in_ok-write_frame_row.ensures c.in_ok-write_locals.ensures written
