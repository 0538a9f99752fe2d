use Rattle.trace_text.specs.Stream.{left}
use Rattle.view_command.proofs.Compared.{AreBetween}
use Rattle.view_command.proofs.comparing.read_both.Given as goal

abbrev pub invariant-loop : goal.invariant-loop
invariant-loop g l =
    AreBetween (g.R.Read.remaining l.fn.one.reader) (g.Q.Read.remaining l.fn.other.reader) (left g.R.Read.remaining l.stream) (left g.Q.Read.remaining l.other_stream) l.fn.partition
    l.initial.comparison.parts.items l.comparison.parts.items l.stream.before.0 l.stream.lines l.other_stream.before.0 l.other_stream.lines l.counter l.line l.other_line
