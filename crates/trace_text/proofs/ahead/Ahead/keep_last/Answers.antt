use Rattle.std.proofs.Common.{rules}
use Rattle.trace_text.proofs.Ranges.{last_range}
use Rattle.trace_text.proofs.ahead.Ahead.keep_last.Goals as goal

pub returns : goal.returns
returns c =
    let a = c.args.self.now in
    last_range a.buffer.items a.start a.end c.args.count a.ordered (search rules) c.requires
