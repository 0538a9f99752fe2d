use Rattle.pal_base.specs.View.{texts}
use Rattle.lint.proofs.declarations.Declarations.of.Goals as goal

pub invariant_of-result : goal.invariant_of-result
invariant_of-result c =
    let names = texts c.args.names.now.keys in
    record { measured = c.in_ok-measures.ensures; has_buffers = c.in_ok-buffers.ensures names; has_blackboards = c.in_ok-blackboards.ensures names }
