use Rattle.image.proofs.Limits.{read_limits}
use Rattle.image.proofs.load.load_image.Goals as goal

pub judge-requires : goal.judge-requires
judge-requires c = read_limits c.args.bytes.now _ c.in_ok-fields.fields c.type_inv.bytes c.in_ok-fields.ensures
