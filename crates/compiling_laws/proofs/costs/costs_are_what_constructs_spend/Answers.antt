use Rattle.compiling_laws.proofs.Constructs.{body_costs, procedure_costs}
use Rattle.compiling_laws.proofs.costs.costs_are_what_constructs_spend.Goals as goal

pub returns : goal.returns
returns c = record { body = body_costs; procedure = procedure_costs }
