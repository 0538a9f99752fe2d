use Rattle.std.proofs.Common.{rules, ◌≡◌, ℕ, List, sym, subst, string_bytes}
use Rattle.trace_picture.specs.Page.{IsPicture}
use Rattle.command_line.proofs.loading.picture.Goals as goal

pub returns : goal.returns
returns c =
    let is : c.extend_from_slice.new.self.items ≡ string_bytes c.in_ok-drawn.drawn = search rules in
    subst (λ (bytes : List ℕ). ∥ IsPicture bytes ∥₁) (sym is) c.in_ok-drawn.ensures
