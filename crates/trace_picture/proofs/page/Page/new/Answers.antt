use Rattle.std.proofs.Common.{rules, string_bytes}
use Rattle.trace_picture.proofs.Pages.{starts}
use Rattle.trace_picture.proofs.page.Page.new.Goals as goal

pub invariant_of-result : goal.invariant_of-result
invariant_of-result c = record { begun = starts c.new.result.items (string_bytes c.push_start.new.out) c.args.attributes.now (search rules) (search rules) }
