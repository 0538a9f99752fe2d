use Rattle.std.proofs.Common.{refl}
use Rattle.machine_meaning.specs.ImageSpelling.{routine, u8, u16, u32}
use Rattle.image.proofs.Pieces.{four_last}
use Rattle.image.proofs.writing.sections.RoutineRowSpelled.write.Goals as goal

pub returns : goal.returns
unfolding routine
returns c =
    four_last c.extend_from_slice-3.result c.args.out.now.items (u32 c.args.self.now.entry) (u8 c.args.self.now.parameters) (u16 c.args.self.now.slots) (u32 c.args.self.now.frame)
    c.to_le_bytes.result _ c.to_le_bytes-2.result c.to_le_bytes-3.result
    c.extend_from_slice.new.self.items c.push.new.self.items c.extend_from_slice-2.new.self.items c.extend_from_slice-3.new.self.items
    c.in_ok-extend_from_slice.ensures.items c.to_le_bytes.ensures c.in_ok-push.ensures.items refl
    c.in_ok-extend_from_slice-2.ensures.items c.to_le_bytes-2.ensures c.extend_from_slice-3.ensures.items c.to_le_bytes-3.ensures
