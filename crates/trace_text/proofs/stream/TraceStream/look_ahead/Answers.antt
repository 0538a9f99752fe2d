use Rattle.std.proofs.Common.{rules}
use Rattle.trace_text.specs.Stream.{ahead_bytes}
use Rattle.trace_text.proofs.Streams.{sees}
use Rattle.trace_text.proofs.stream.TraceStream.look_ahead.Goals as goal

pub returns-clause-seen : goal.returns-clause-seen
returns-clause-seen g c =
    sees c.as_slice.result.now (ahead_bytes c.loop-self.self.ahead) (g.R.Read.remaining c.loop-self.self.reader) c.as_slice.ensures
    (c.loop-self-test.ensures.found (search rules))
