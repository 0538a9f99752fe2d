use Rattle.std.proofs.Common.{rules, ◌≡◌, ◌++◌, ap, string_bytes, is_ok}
use Rattle.trace_picture.specs.Escaped.{escaped}
use Rattle.trace_picture.proofs.Pages.{texts, either}
use Rattle.trace_picture.proofs.page.Page.text.Goals as goal

pub invariant_of-self : goal.invariant_of-self
invariant_of-self c =
    let tags = c.args.self.now.unended.items in
    let text = string_bytes c.args.self.now.text in
    let piece = c.as_str.result.now in
    let same : piece ≡ escaped c.args.text.now = search rules in
    record {
      begun = either tags text (string_bytes c.push_str.new.self) piece (is_ok c.push_str.result) c.push_str.ensures.bytes
          (texts tags text (text ++ piece) c.args.text.now (ap (λ p. text ++ p) same)) c.args.self.now.begun;
    }
