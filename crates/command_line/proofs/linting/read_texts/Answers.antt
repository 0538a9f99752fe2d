use Rattle.std.proofs.Common.{rules}
use Rattle.command_line.specs.Reading.{texts_of}
use Rattle.command_line.proofs.Linted.{accepted_have_trees, all_trees}
use Rattle.command_line.proofs.linting.read_texts.Goals as goal

pub returns-clause-read : goal.returns-clause-read
returns-clause-read c = record {
  accepted = c.in_ok-accepted.ensures.accepted;
  trees = all_trees (texts_of c.args.sources.now) c.new-trees.result.items c.add_trees.new.trees.items (search rules) c.in_ok-add_trees.ensures;
}

pub add_trees-requires : goal.add_trees-requires
add_trees-requires c = accepted_have_trees _ _ _ c.in_ok-accepted.ensures.accepted.programs
