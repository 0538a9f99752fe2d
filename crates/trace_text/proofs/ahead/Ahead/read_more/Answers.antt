use Rattle.std.proofs.Common.{arith, ◌++◌, take, drop, ap, ◌∙◌}
use Rattle.trace_text.specs.Stream.{ahead_bytes}
use Rattle.trace_text.proofs.Ranges.{kept_ahead, read_ahead, read_behind, same_front}
use Rattle.trace_text.proofs.ahead.Ahead.read_more.Goals as goal

pub returns-in_err-count-clause-kept : goal.returns-in_err-count-clause-kept
returns-in_err-count-clause-kept g c =
    let front = c.move_to_front.new.self in
    let same = same_front front.buffer.items c.read_behind.new.buffer.items front.start front.end c.move_to_front.ensures.start (c.in_err-count.ensures.front) in
    kept_ahead (g.R.Read.remaining c.args.reader.now) (g.R.Read.remaining c.read_behind.new.reader) (ahead_bytes c.args.self.now) _ c.in_err-count.ensures.kept (same ∙ c.move_to_front.ensures.bytes)

pub returns-clause-kept : goal.returns-clause-kept
returns-clause-kept g c =
    let front = c.move_to_front.new.self in
    let count = c.in_ok-count.count in
    let more = take count (drop front.end c.read_behind.new.buffer.items) in
    let longer = read_behind front.buffer.items c.read_behind.new.buffer.items front.start front.end count c.move_to_front.ensures.start (c.in_ok-count.ensures.front) (omega (arith, c.in_ok-count.ensures.fits, c.read_behind.new.buffer.ok.0)) in
    read_ahead (g.R.Read.remaining c.args.reader.now) (g.R.Read.remaining c.read_behind.new.reader) (ahead_bytes c.args.self.now) _ more c.in_ok-count.ensures.read (longer ∙ ap (λ xs. xs ++ more) c.move_to_front.ensures.bytes)
