use Rattle.std.proofs.Common.{rules, ◌≡◌, ◌++◌, ap, string_bytes, is_ok}
use Rattle.trace_picture.specs.Element.{start_text, titled}
use Rattle.trace_picture.proofs.Pages.{titles, either}
use Rattle.trace_picture.proofs.page.Page.titled.Goals as goal

pub invariant_of-self : goal.invariant_of-self
invariant_of-self c =
    let tags = c.args.self.now.unended.items in
    let text = string_bytes c.args.self.now.text in
    let piece = c.as_str.result.now in
    let same : piece ≡ titled c.args.tag (start_text c.args.tag c.args.attributes.now) c.args.title.now = search rules in
    record {
      begun = either tags text (string_bytes c.push_str.new.self) piece (is_ok c.push_str.result) c.push_str.ensures.bytes
          (titles tags text (text ++ piece) c.args.title.now c.args.tag c.args.attributes.now (ap (λ p. text ++ p) same)) c.args.self.now.begun;
    }
