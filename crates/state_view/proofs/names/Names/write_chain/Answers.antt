-- the frames of a runner are read from its own body, its source and its stack
use Rattle.std.proofs.Common.{◌≡◌, ◌++◌, [], ℕ, List, map, subst}
use Rattle.std.specs.Prelude.{OnOk}
use Rattle.pal_base.specs.View.{name_of, texts}
use Rattle.state_rows.specs.Named.{chain_rows}
use Rattle.state_rows.specs.Rows.{rows_in}
use Rattle.state_view.specs.Sources.{source_in}
use Rattle.state_view.proofs.names.Names.write_chain.Goals as goal

pub returns : goal.returns
returns c =
    let form = c.args.self.now.of.now.form in
    let source = source_in c.args.self.now.source.now in
    let is_written : List (List ℕ) → ℕ → ℕ → Type 0 = λ locals pc fp. OnOk c.write.result (c.write.new.text.items ≡ c.args.text.now.items ++ rows_in form (chain_rows (record {
      partition = c.args.self.now.of.now.name;
      own = record { name = c.args.who.now; parameters = []; locals = locals };
      source = source;
      routines = c.args.self.now.routines.now;
      stack = c.args.stack.now;
    }) (record { pc = pc; fp = fp }))) in
    let mapped = map (name_of (texts c.args.self.now.source.now.program.now.names.keys)) c.own_locals.result.now in
    subst (λ (locals : List (List ℕ)). is_written locals c.args.context.now.pc c.args.context.now.fp) c.own_locals.ensures
    (subst (λ (pc : ℕ). is_written mapped pc c.args.context.now.fp) c.pc.ensures
    (subst (λ (fp : ℕ). is_written mapped c.pc.result fp) c.fp.ensures c.write.ensures))
