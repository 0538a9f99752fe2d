use Rattle.std.proofs.Common.{rules, string_bytes}
use Rattle.trace_picture.proofs.Pages.{opens}
use Rattle.trace_picture.proofs.page.Page.open.Goals as goal

pub invariant_of-self-2 : goal.invariant_of-self-2
invariant_of-self-2 c = record {
  begun = opens c.args.self.now.unended.items c.push.new.self.items (string_bytes c.args.self.now.text) (string_bytes c.push_str.new.self) c.args.tag c.args.attributes.now (search rules) (search rules) c.args.self.now.begun;
}
