use Rattle.std.proofs.Common.{◌≡◌, ◌++◌, drop}
use Rattle.pal_base.specs.View.{block_of, texts}
use Rattle.lint.specs.Mentions.{in_block}
use Rattle.lint.specs.Views.{mentions_seen}
use Rattle.lint.proofs.mentions.+statement_mentions.Given as goal

abbrev pub invariant-add_block-loop-statement : goal.invariant-add_block-loop-statement
invariant-add_block-loop-statement l = mentions_seen (texts l.names.keys) l.mentions.items ++ in_block (block_of (texts l.names.keys) (drop l.statement-index l.block)) ≡ mentions_seen (texts l.names.keys) l.fn.mentions.items ++ in_block (block_of (texts l.names.keys) l.block)
