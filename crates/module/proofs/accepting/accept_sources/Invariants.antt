use Rattle.module.proofs.Prelude.{◌≡◌, length, map}
use Rattle.module.proofs.Refused.{AreBefore, IsNoneBefore}
use Rattle.module.proofs.accepting.accept_sources.Given as goal

abbrev pub invariant-loop-row : goal.invariant-loop-row
invariant-loop-row l = record {
  place : length l.accepted.items ≡ l.row-index;
  accepted : AreBefore l.rows (map (λ s. s.now) l.sources) l.row-index l.accepted.items;
  refused : IsNoneBefore l.rows (map (λ s. s.now) l.sources) l.row-index;
}
