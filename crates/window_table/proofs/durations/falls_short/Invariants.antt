use Rattle.std.proofs.Common.{◌≡◌, ◌≤◌, ◌*◌, ℕ, false}
use Rattle.module_meaning.specs.Table.{falls_short, offered}
use Rattle.window_table.proofs.durations.falls_short.Given as goal

abbrev pub invariant-loop : goal.invariant-loop
invariant-loop l = record {
  start : l.low ≡ l.counter * l.period;
  so_far : falls_short l.counter l.number.0 l.period l.duration l.windows ≡ false;
  ended : (p low high : ℕ) → l.low ≤ low → offered p low high l.rest ≡ offered p low high l.windows;
}
