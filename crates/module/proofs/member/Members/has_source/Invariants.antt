use Rattle.module.proofs.Prelude.{◌≡◌, ◌<◌, ◌+◌, ℕ, None, ports_from, at_number, messages_to_move, members_in}
use Rattle.module.proofs.member.Members.has_source.Given as goal

abbrev pub invariant-loop-place : goal.invariant-loop-place
invariant-loop-place g l = (q : ℕ) → q < l.place → messages_to_move (at_number (ports_from (members_in g.E.Executor l.self) l.partition.0) (q + 1)) ≡ None
