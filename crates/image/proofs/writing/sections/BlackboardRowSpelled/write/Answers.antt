use Rattle.std.proofs.Common.{refl}
use Rattle.machine_meaning.specs.ImageSpelling.{blackboard, u8}
use Rattle.image.proofs.Pieces.{last}
use Rattle.image.proofs.writing.sections.BlackboardRowSpelled.write.Goals as goal

pub returns : goal.returns
unfolding blackboard
returns c = last c.extend_from_slice.result _ c.args.out.now.items _ (u8 c.args.self.now.words) c.extend_from_slice.ensures.items refl
