use Rattle.std.proofs.Common.{◌≡◌, ◌++◌, None, option_map, drop}
use Rattle.pal_base.specs.View.{block_of, texts}
use Rattle.lint.specs.Calls.{calls_behind}
use Rattle.lint.specs.Views.{calls_seen, created_of, scope_of}
use Rattle.lint.proofs.calls.+block_calls.Given as goal

abbrev pub invariant-add_block-loop-statement : goal.invariant-add_block-loop-statement
invariant-add_block-loop-statement l =
    calls_seen (texts l.names.keys) l.calls.items ++ calls_behind (scope_of (texts l.names.keys) l.scope) (option_map (created_of (texts l.names.keys)) l.created) (block_of (texts l.names.keys) (drop l.statement-index l.block)) ≡ calls_seen (texts l.names.keys) l.fn.calls.items ++ calls_behind (scope_of (texts l.names.keys) l.scope) None (block_of (texts l.names.keys) l.block)
