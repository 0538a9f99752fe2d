use Rattle.std.proofs.Common.{[], map, is_ok}
use Rattle.pal_meaning.specs.Resolve.{no_counts, declaration_entries, process_entries}
use Rattle.pal_base.specs.View.{texts, declaration_of, process_of}
use Rattle.pal.specs.Tables.{entries_of}
use Rattle.pal.proofs.Tables.{both_fresh}
use Rattle.pal.proofs.meanings.declared_names.Goals as goal

pub returns-clause-fresh : goal.returns-clause-fresh
returns-clause-fresh c =
    let names = texts c.args.program.now.names.keys in
    both_fresh [] (entries_of c.new-table.result) (entries_of c.enter_declarations.new.table) (entries_of c.enter_processes.new.table)
    (declaration_entries c.args.ports.now no_counts (map (declaration_of names) c.args.program.now.declarations.items))
    (process_entries 0 (map (process_of names) c.args.program.now.processes.items))
    (is_ok c.in_ok-one.one) (is_ok c.in_ok-other.other) (is_ok c.earliest.result) c.new-table.ensures c.earliest.ensures
    (rw (← c.deref.ensures.value) c.in_ok-one.ensures.fresh) (rw (← c.deref-2.ensures.value) c.in_ok-other.ensures.fresh)
