use Rattle.module.proofs.Prelude.{sym, partition_of, IsSourceRefusal}
use Rattle.std.proofs.Common.{subst}
use Rattle.module.proofs.Refused.{one_refused}
use Rattle.module.proofs.accepting.accept.Goals as goal

pub returns-in-Err-clause-refused : goal.returns-in-Err-clause-refused
returns-in-Err-clause-refused c =
    subst (IsSourceRefusal (partition_of c.args.row.now) c.args.source.now) (sym c.refused.ensures) (one_refused (partition_of c.args.row.now) c.args.source.now c.in-Err.fault c.in-Err.ensures.refused)
