use Rattle.std.proofs.Common.{ap}
use Rattle.machine_meaning.specs.ImageSpelling.{semaphore, discipline, u8, u32}
use Rattle.image.proofs.Pieces.{three_pieces}
use Rattle.image.proofs.writing.sections.SemaphoreRowSpelled.write.Goals as goal

pub returns : goal.returns
unfolding semaphore
returns c =
    three_pieces c.args.out.now.items (u32 c.args.self.now.value) (u32 c.args.self.now.maximum) (u8 (discipline c.args.self.now.discipline))
    c.to_le_bytes.result c.to_le_bytes-2.result (u8 c.number_of_discipline.result)
    c.extend_from_slice.new.self.items c.extend_from_slice-2.new.self.items c.push.new.self.items
    c.in_ok-extend_from_slice.ensures.items c.to_le_bytes.ensures c.in_ok-extend_from_slice-2.ensures.items c.to_le_bytes-2.ensures
    c.in_ok-push.ensures.items (ap u8 c.number_of_discipline.ensures)
