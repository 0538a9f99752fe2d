use Rattle.std.proofs.Common.{◌∷◌, [], refl}
use Rattle.machine_meaning.specs.ImageSpelling.{health}
use Rattle.image.proofs.Pieces.{last}
use Rattle.image.proofs.writing.tables.put_health.Goals as goal

pub returns : goal.returns
unfolding health
returns c =
    last c.extend_from_slice.result _ c.args.out.now.items
    (c.number_of_partition_action.result ∷ c.number_of_partition_action-2.result ∷ c.number_of_partition_action-3.result ∷ c.number_of_partition_action-4.result
    ∷ c.number_of_partition_action-5.result ∷ c.number_of_partition_action-6.result ∷ c.number_of_partition_action-7.result ∷ [])
    (health c.args.table.now) c.extend_from_slice.ensures.items
    (rw (
      c.number_of_partition_action.ensures,
      c.number_of_partition_action-2.ensures,
      c.number_of_partition_action-3.ensures,
      c.number_of_partition_action-4.ensures,
      c.number_of_partition_action-5.ensures,
      c.number_of_partition_action-6.ensures,
      c.number_of_partition_action-7.ensures,
    ) refl)
