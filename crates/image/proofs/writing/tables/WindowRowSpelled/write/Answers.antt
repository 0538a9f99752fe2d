use Rattle.std.proofs.Common.{refl, ap}
use Rattle.machine_meaning.specs.ImageSpelling.{window, truth, u8, u32}
use Rattle.image.proofs.Pieces.{four_pieces}
use Rattle.image.proofs.writing.tables.WindowRowSpelled.write.Goals as goal

pub returns : goal.returns
unfolding window
returns c =
    four_pieces c.args.out.now.items (u8 c.args.self.now.partition.0) (u32 c.args.self.now.offset) (u32 c.args.self.now.length) (u8 (truth c.args.self.now.release))
    _ c.to_le_bytes.result c.to_le_bytes-2.result _
    c.push.new.self.items c.extend_from_slice.new.self.items c.extend_from_slice-2.new.self.items c.push-2.new.self.items
    c.in_ok-push.ensures.items refl c.in_ok-extend_from_slice.ensures.items c.to_le_bytes.ensures c.in_ok-extend_from_slice-2.ensures.items c.to_le_bytes-2.ensures
    c.in_ok-push-2.ensures.items (ap u8 c.from.ensures)
