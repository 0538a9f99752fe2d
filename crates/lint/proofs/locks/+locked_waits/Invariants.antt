use Rattle.std.proofs.Common.{◌≡◌, ◌++◌, drop}
use Rattle.pal_base.specs.View.{block_of, texts}
use Rattle.lint.specs.Locks.{waits_while_locked}
use Rattle.lint.specs.Views.{found_all}
use Rattle.lint.proofs.locks.+locked_waits.Given as goal

abbrev pub invariant-add_block-loop-statement : goal.invariant-add_block-loop-statement
invariant-add_block-loop-statement l =
    found_all l.findings.items ++ waits_while_locked l.locked (block_of (texts l.names.keys) (drop l.statement-index l.block)) ≡ found_all l.fn.findings.items ++ waits_while_locked l.before (block_of (texts l.names.keys) l.block)
