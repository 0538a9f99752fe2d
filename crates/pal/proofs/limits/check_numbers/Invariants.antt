use Rattle.std.proofs.Common.{◌≡◌, map, drop}
use Rattle.std.specs.List.{list_all}
use Rattle.pal_base.specs.View as view
use Rattle.pal_base.specs.View.{texts, name_of, expr_of, exprs_of, links_of, stmt_of, block_of}
use Rattle.pal_meaning.specs.WellFormed.{is_word}
use Rattle.pal.proofs.limits.check_numbers.Given as goal

abbrev pub invariant-loop-number : goal.invariant-loop-number
invariant-loop-number l = list_all is_word (map view.integer_of (drop l.number-index l.numbers)) ≡ list_all is_word (map view.integer_of l.numbers)
