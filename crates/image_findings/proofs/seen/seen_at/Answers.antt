use Rattle.image_findings.proofs.Cuts.{nothing_is_cut, whole_is_longer, whole_is_not_cut}
use Rattle.image_findings.proofs.seen.seen_at.Goals as goal

pub loop-cut-init : goal.loop-cut-init
loop-cut-init c =
    let bytes = c.args.bytes.now in
    record {
      cut = nothing_is_cut bytes;
      whole = whole_is_not_cut bytes c.requires;
      below = whole_is_longer bytes c.requires;
    }
