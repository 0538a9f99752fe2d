use Rattle.processor.proofs.Spelling.{reads_back, spells_back}
use Rattle.processor.proofs.codec.encode_and_decode_agree.Goals as goal

pub returns : goal.returns
returns c = record { reads_back = reads_back; spells_back = spells_back }
