use Rattle.pal_meaning.specs.Resolve.{resolve_arguments}
use Rattle.pal_base.specs.View as view
use Rattle.pal.specs.Scopes.{names_of, sees}
use Rattle.pal.proofs.Resolved.{no_arguments, no_kinds, none_behind}
use Rattle.pal.proofs.resolving.+push_arguments.Goals as goal

pub returns-in_default : goal.returns-in_default
returns-in_default t c =
    none_behind c.args.words.now.items (resolve_arguments (sees c.args.scope.now) c.args.kinds.now (view.exprs_of (names_of c.args.scope.now) c.args.arguments.now))
    (no_arguments (names_of c.args.scope.now) (sees c.args.scope.now) c.args.kinds.now c.args.arguments.now c.in_default.ensures'.cases)

pub returns-in_default-2 : goal.returns-in_default-2
returns-in_default-2 t c =
    none_behind c.args.words.now.items (resolve_arguments (sees c.args.scope.now) c.args.kinds.now (view.exprs_of (names_of c.args.scope.now) c.args.arguments.now))
    (no_kinds (sees c.args.scope.now) c.args.kinds.now (view.exprs_of (names_of c.args.scope.now) c.args.arguments.now) c.in_default.ensures.cases)
