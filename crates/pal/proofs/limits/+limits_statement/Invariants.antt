use Rattle.std.proofs.Common.{◌≡◌, drop}
use Rattle.pal_base.specs.View.{texts, block_of}
use Rattle.pal_meaning.specs.WellFormed.{keeps_block}
use Rattle.pal.proofs.limits.+limits_statement.Given as goal

abbrev pub invariant-check_block-loop-statement : goal.invariant-check_block-loop-statement
invariant-check_block-loop-statement l = keeps_block (block_of (texts l.names.keys) (drop l.statement-index l.block)) ≡ keeps_block (block_of (texts l.names.keys) l.block)
