use Rattle.std.proofs.Common.{rules}
use Rattle.apex_types.specs.Versions.{number_of}
use Rattle.machine_meaning.specs.Image.{magic}
use Rattle.machine_meaning.specs.ImageSpelling.{u8, u16, u32, module_action, front}
use Rattle.image.proofs.Lists.{four}
use Rattle.image.proofs.write.put_front.Goals as goal

pub returns : goal.returns
unfolding front
returns c =
    four c.args.out.now.items magic (u16 (number_of c.args.image.now.version)) (u32 c.args.image.now.schedule.frame) (u8 (module_action c.args.image.now.fault))
    c.extend_from_slice.new.self.items c.extend_from_slice-2.new.self.items c.extend_from_slice-3.new.self.items c.push.new.self.items
    (search rules) (search rules) (search rules) (search rules)
