use Rattle.std.proofs.Common.{◌≡◌, ◌++◌, drop}
use Rattle.pal_base.specs.View.{exprs_of, links_of, texts}
use Rattle.lint.specs.Mentions.{in_exprs, in_links}
use Rattle.lint.specs.Views.{mentions_seen}
use Rattle.lint.proofs.mentions.+expression_mentions.Given as goal

abbrev pub invariant-add_expressions-loop-expression : goal.invariant-add_expressions-loop-expression
invariant-add_expressions-loop-expression l = mentions_seen (texts l.names.keys) l.mentions.items ++ in_exprs (exprs_of (texts l.names.keys) (drop l.expression-index l.expressions)) ≡ mentions_seen (texts l.names.keys) l.fn.mentions.items ++ in_exprs (exprs_of (texts l.names.keys) l.expressions)

abbrev pub invariant-add_links-loop-link : goal.invariant-add_links-loop-link
invariant-add_links-loop-link l = mentions_seen (texts l.names.keys) l.mentions.items ++ in_links (links_of (texts l.names.keys) (drop l.link-index l.links)) ≡ mentions_seen (texts l.names.keys) l.fn.mentions.items ++ in_links (links_of (texts l.names.keys) l.links)
