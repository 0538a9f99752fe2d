use Rattle.std.proofs.Common.{rules, ◌≡◌, ◌↔◌, Option, Some, sym, subst}
use Rattle.apex_types.specs.declared.identity.Runner.{Runner}
use Rattle.kernel_laws.specs.Choice.{Picks}
use Rattle.kernel_meaning.specs.Partition.{pick}
use Rattle.kernel_laws.proofs.Choosing.{chosen}
use Rattle.process_table_base.proofs.table.ProcessTable.pick.Goals as goal

pub returns-else-is_ready-clause-picks : goal.returns-else-is_ready-clause-picks
returns-else-is_ready-clause-picks c = λ number next p ordered.
    let same : c.pick_unless_held.result ≡ pick c.args.mode c.args.self.now = search rules in
    subst (λ (o : Option Runner). (o ≡ Some p) ↔ Picks number c.args.mode c.args.self.now p) (sym same) (chosen number next c.args.mode c.args.self.now p ordered)
