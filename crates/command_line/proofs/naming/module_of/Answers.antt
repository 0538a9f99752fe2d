use Rattle.std.proofs.Common.{rules, ◌≡◌, ◌∙◌, ℕ, List, map, refl, subst, sym}
use Rattle.std.specs.Prelude.{Vec}
use Rattle.std.specs.declared.alloc.Global.{Global}
use Rattle.pal_base.specs.WrittenView.{program_of}
use Rattle.command_line.specs.Linting.{AreTrees, HaveTrees}
use Rattle.command_line.specs.Reading.{texts_of}
use Rattle.command_line.proofs.Linted.{all_trees}
use Rattle.command_line.proofs.NamedStates.{built_have_trees}
use Rattle.module.specs.Building.{IsImageOf}
use Rattle.command_line.proofs.naming.module_of.Goals as goal

pub returns-clause-built : goal.returns-clause-built
returns-clause-built c = record {
  built = subst (λ ts. IsImageOf c.args.table.now (texts_of ts) c.in_ok-image.image.items) c.as_slice.ensures.value c.in_ok-image.ensures.built;
  trees = map program_of c.add_trees.new.trees.items;
  are_trees = subst (λ ts. AreTrees (texts_of ts) (map program_of c.add_trees.new.trees.items)) c.as_slice-2.ensures.value
      (all_trees (texts_of c.as_slice-2.result.now) c.new-trees.result.items c.add_trees.new.trees.items (search rules) c.in_ok-add_trees.ensures);
  of_trees = refl;
}

pub add_trees-requires : goal.add_trees-requires
add_trees-requires c =
    let built = c.in_ok-image.ensures.built in
    subst (λ (ts : List (Vec ℕ Global)). HaveTrees (texts_of ts)) (c.as_slice.ensures.value ∙ sym c.as_slice-2.ensures.value)
    (built_have_trees built.rows.partitions (texts_of c.as_slice.result.now) built.programs built.accepted.accepted)
