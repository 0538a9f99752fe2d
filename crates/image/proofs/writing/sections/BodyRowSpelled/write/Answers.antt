use Rattle.machine_meaning.specs.ImageSpelling.{body, u16, u32}
use Rattle.image.proofs.Pieces.{four_last}
use Rattle.image.proofs.writing.sections.BodyRowSpelled.write.Goals as goal

pub returns : goal.returns
unfolding body
returns c =
    four_last c.extend_from_slice-4.result c.args.out.now.items (u16 c.args.self.now.stack) (u32 c.args.self.now.entry) (u16 c.args.self.now.slots) (u32 c.args.self.now.frame)
    c.to_le_bytes.result c.to_le_bytes-2.result c.to_le_bytes-3.result c.to_le_bytes-4.result
    c.extend_from_slice.new.self.items c.extend_from_slice-2.new.self.items c.extend_from_slice-3.new.self.items c.extend_from_slice-4.new.self.items
    c.in_ok-extend_from_slice.ensures.items c.to_le_bytes.ensures c.in_ok-extend_from_slice-2.ensures.items c.to_le_bytes-2.ensures
    c.in_ok-extend_from_slice-3.ensures.items c.to_le_bytes-3.ensures c.extend_from_slice-4.ensures.items c.to_le_bytes-4.ensures
