use Rattle.std.proofs.Common.{◌≡◌, ℕ, ◌++◌, List, map, drop}
use Rattle.pal_base.specs.View.{declaration_of}
use Rattle.lint.specs.Measures.{words_of_kind}
use Rattle.lint.proofs.declarations.words_of_kind.Given as goal

abbrev pub invariant-loop-declaration : goal.invariant-loop-declaration
invariant-loop-declaration l =
    (names : List (List ℕ)) → l.words.items ++ words_of_kind l.kind (map (declaration_of names) (drop l.declaration-index l.declarations)) ≡ words_of_kind l.kind (map (declaration_of names) l.declarations)
