use Rattle.std.proofs.Common.{◌∙◌, ◌+◌, ◌++◌, pos, ap, replicate, vec_len, ℤ, List}
use Rattle.pal.proofs.Resolved.{zeros_behind}
use Rattle.pal.proofs.resolving.push_zeros.Goals as goal

pub returns : goal.returns
returns c =
    zeros_behind c.reserve.new.self.items c.resize.new.self.items (vec_len c.reserve.new.self) _ c.args.count
    c.reserve.new.self.ok.0 (ap (λ n. n + c.args.count) c.len.ensures) c.in_ok-resize.ensures.items
    ∙ ap (λ (xs : List ℤ). xs ++ replicate c.args.count (pos 0)) c.in_ok-reserve.ensures.items
