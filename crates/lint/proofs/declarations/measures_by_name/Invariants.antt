use Rattle.std.proofs.Common.{◌≤◌, length, map, drop}
use Rattle.std.specs.HashMap.{get_by}
use Rattle.std.specs.Str.{bytes_eq}
use Rattle.pal_base.specs.View.{declaration_of, texts}
use Rattle.lint.specs.Measures.{AreMeasured}
use Rattle.lint.proofs.declarations.measures_by_name.Given as goal

abbrev pub invariant-loop-place : goal.invariant-loop-place
invariant-loop-place l = record {
  within : l.place ≤ length l.declarations;
  measured : AreMeasured (λ name. get_by (λ k. bytes_eq name k.now) l.measures) (map (declaration_of (texts l.names.keys)) (drop l.place l.declarations));
}

abbrev pub decreases-loop-place : goal.decreases-loop-place
decreases-loop-place l = l.place
