use Rattle.std.proofs.Common.{◌≡◌, ℕ, List, None, option_map, drop}
use Rattle.pal_base.specs.View.{exprs_of}
use Rattle.lint.specs.Plain.{last_or, plains}
use Rattle.lint.specs.Views.{plain_of}
use Rattle.lint.proofs.plain.last_plain.Given as goal

abbrev pub invariant-loop-argument : goal.invariant-loop-argument
invariant-loop-argument l = (names : List (List ℕ)) → last_or (option_map (plain_of names) l.last) (plains (exprs_of names (drop l.argument-index l.arguments))) ≡ last_or None (plains (exprs_of names l.arguments))
