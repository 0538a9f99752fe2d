use Rattle.std.proofs.Common.{◌∙◌, ap, option_copied, refl}
use Rattle.image_findings.specs.Views.{parts_of}
use Rattle.image_findings.proofs.Pieces.{next_part, pushed}
use Rattle.image_findings.proofs.parts.parts.Goals as goal

pub loop-rest-preserved : goal.loop-rest-preserved
loop-rest-preserved c =
    let more = pushed c.loop-rest.parts.items c.push.new.self.items _ c.in_ok-push.ensures.items in
    c.loop-rest.invariant
    ∙ next_part (parts_of c.loop-rest.parts.items) (parts_of c.push.new.self.items) (option_copied c.loop-rest.rest) c.in-Some.text.now c.split_at.result.0.now (option_copied c.split_at.result.1) _
    (ap option_copied c.in-Some.is) c.split_at.ensures.front c.split_at.ensures.behind refl refl more
