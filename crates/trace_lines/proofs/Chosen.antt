-- The texts of chosen lines one by one are the text of the chosen lines.
use Rattle.std.proofs.Common.{◌≡◌, ℕ, Bool, true, false, cond, List, [], ◌∷◌, ◌++◌, flat_map, filter, refl, ap}
use Rattle.apex_types.specs.Line.{line_of, text_of}
use Rattle.apex_types.specs.declared.event.Event.{Event}
use Rattle.trace_lines.specs.Filters.{chosen_text, is_chosen, text_of_chosen}
use Rattle.trace_lines.specs.declared.filter.Filter.{Filter}

one_more : (b : Bool) (e : Event) (rest : List Event) (text : List ℕ) → text ≡ text_of rest → cond b (line_of e) [] ++ text ≡ text_of (cond b (e ∷ rest) rest)
one_more true e rest text same = ap (λ (t : List ℕ). line_of e ++ t) same
one_more false e rest text same = same

pub chosen_one_by_one : (f : Filter) (events : List Event) → flat_map (chosen_text f) events ≡ text_of_chosen f events
chosen_one_by_one f [] = refl
chosen_one_by_one f (e ∷ es) = one_more (is_chosen f e) e (filter (is_chosen f) es) (flat_map (chosen_text f) es) (chosen_one_by_one f es)
