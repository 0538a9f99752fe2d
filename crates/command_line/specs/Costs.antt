-- The text of the costs of bodies: the exact bytes of each line.
use Rattle.std.specs.Prelude.{ℕ, List, [], ◌∷◌, ◌++◌, flat_map, codes}
use Rattle.std.specs.Fmt.{decimal}
use Rattle.pal.specs.declared.report.BodyCost.{BodyCost}
use Rattle.pal.specs.declared.report.BodyName.{BodyName}
use Rattle.pal.specs.declared.report.BodyName.TheVariants as body
use Rattle.module.specs.declared.costing.PartitionCosts.{PartitionCosts}

-- INIT, HANDLER, or the name of the process or the procedure
abbrev pub body_text : BodyName → List ℕ
body_text body.Init = codes "INIT"
body_text body.Handler = codes "HANDLER"
body_text (body.Process name) = name
body_text (body.Procedure name) = name

-- the line of a body of this partition
abbrev pub cost_line : List ℕ → BodyCost → List ℕ
cost_line partition b =
    partition ++ codes " " ++ body_text b.name ++ codes " instructions " ++ decimal b.instructions ++ codes " frame " ++ decimal b.frame ++ codes " cost " ++ decimal b.cost ++ 10 ∷ []

-- the lines of the bodies of a partition
abbrev pub partition_text : PartitionCosts → List ℕ
partition_text c = flat_map (cost_line c.partition) c.bodies.items

-- the text of the costs of a module: its partitions, in their order
abbrev pub costs_text : List PartitionCosts → List ℕ
costs_text costs = flat_map partition_text costs
