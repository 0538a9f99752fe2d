-- How many lines more may come.
use Rattle.std.proofs.Common.{◌≡◌, ℕ, ◌+◌, ◌-◌, Bool, true, false, cond, List, [], ◌∷◌, length, filter, refl, ◌∙◌, arith}
use Rattle.apex_types.specs.declared.event.Event.{Event}
use Rattle.trace_lines.specs.Limiting.{count_of, counts, left_after, left_behind}
use Rattle.trace_lines.specs.declared.limit.Limit.{Limit}

one_more : (b : Bool) (left : ℕ) (e : Event) (rest : List Event) → cond b (left - 1) left - length rest ≡ left - length (cond b (e ∷ rest) rest)
one_more true left e rest = omega arith
one_more false left e rest = refl

pub left_is : (l : Limit) (events : List Event) → left_after l events ≡ l.left - count_of l.what events
left_is l [] = omega arith
left_is l (e ∷ es) =
    left_is (record l { left = left_behind l e }) es
    ∙ one_more (counts l.what e.kind) l.left e (filter (λ (x : Event). counts l.what x.kind) es)
