-- The percentiles of the response times of a process.
use Rattle.trace_view.specs.Percentiles.{spread_of}
use Rattle.trace_view.specs.declared.responses.ResponseSpreads.{ResponseSpreads}
use Rattle.trace_view.specs.declared.responses.Responses.{Responses}

abbrev pub spreads_of : Responses → ResponseSpreads
spreads_of r = record {
  to_running = spread_of r.to_running.taken r.to_running.counts.entries;
  to_end = spread_of r.to_end.taken r.to_end.counts.entries;
}
