use Rattle.std.proofs.Common.{◌≡◌, ◌+◌, ◌≤◌, drop, length, ◌++◌}
use Rattle.apex_types.specs.declared.limits.TheConstants.{MOST_INSTRUCTIONS}
use Rattle.pal_meaning.specs.Program as cost
use Rattle.compiling_laws.specs.CompiledCode as code_of
use Rattle.pal_base.specs.ProgramView.{stmt_of, block_of}
use Rattle.compiler.proofs.emit.+emit_stmt.Given as goal

abbrev pub invariant-emit_block-loop-stmt : goal.invariant-emit_block-loop-stmt
invariant-emit_block-loop-stmt l =
    (l.code.items ++ code_of.block_code l.slots (length l.code.items) (block_of (drop l.stmt-index l.block)) ≡ l.fn.code.items ++ code_of.block_code l.slots (length l.fn.code.items) (block_of l.block))
    × (length l.code.items + cost.size_of_block (block_of (drop l.stmt-index l.block)) ≤ MOST_INSTRUCTIONS)

abbrev pub decreases-emit_stmt : goal.decreases-emit_stmt
decreases-emit_stmt l = cost.size_of_stmt (stmt_of l.stmt.now)

abbrev pub decreases-emit_block : goal.decreases-emit_block
decreases-emit_block l = cost.size_of_block (block_of l.block.now) + 1
