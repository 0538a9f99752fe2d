use Rattle.view_command.specs.declared.naming.Named.{Named}
use Rattle.view_command.proofs.Taken.{takes_in}
use Rattle.view_command.proofs.showing.read_named.Goals as goal

pub returns-in-None-clause-taken : goal.returns-in-None-clause-taken
returns-in-None-clause-taken g c =
    takes_in (g.T.TakeEvents.takes c.args.request.now.kept) (λ (n : Named _). n.taker) (g.R.Read.remaining c.args.text.reader) (record { taker = c.args.taker; names = c.args.names }) c.read_all.new.taker c.in_ok-read_all.ensures.taken
