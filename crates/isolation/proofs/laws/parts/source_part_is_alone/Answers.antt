use Rattle.isolation.proofs.SourceLaw.{source_isolation as law}
use Rattle.isolation.proofs.laws.parts.source_part_is_alone.Goals as goal

pub returns : goal.returns
returns c = λ ms t sources text lines p row program n accepted taken e f. law ms t sources accepted text lines p row program n taken e f
