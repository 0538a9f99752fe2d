use Rattle.std.proofs.Common.{rules, ◌≡◌, ◌<◌, ◌≤◌, ◌-◌, ◌%◌, ℕ, None, find, cond, Bool, sym, ap, ◌∙◌, arith}
use Rattle.std.specs.Prelude.{option_map, slice_get}
use Rattle.std.proofs.lemmas.Bool.{le-ltb, lt-ltb}
use Rattle.apex_types.specs.declared.row.WindowRow.{WindowRow}
use Rattle.kernel_meaning.specs.Windows.{is_within, ends_at}
use Rattle.window_table.specs.Edges.{until_edges}
use Rattle.window_table.specs.Schedules.{schedule_of}
use Rattle.window_table.specs.Spans.{owner_in, ended_before, next_edge}
use Rattle.window_table.proofs.Changes.{owner_stays, none_ends}
use Rattle.window_table.proofs.Spans.{edge_after, edge_is, ended_is, owner_is}
use Rattle.window_table.proofs.schedule.Schedule.span.Goals as goal
use Rattle.window_table.proofs.schedule.Schedule.span.Goals.{then-at, else-at}

pub overflow_sub-result : goal.overflow_sub-result
overflow_sub-result c =
    let frame = c.args.self.now.frame in
    let place = c.phase-place.result.0 in
    let ws = c.args.self.now.windows.items in
    let later = edge_after frame place ws c.phase-place.ensures.within in
    let edge = c.next_edge.ensures ∙ ap (λ (i : ℕ). next_edge frame place (slice_get ws i)) c.first_left_from-window.ensures in
    omega (arith, later, edge)

pub returns-clause-owner : goal.returns-clause-owner
returns-clause-owner c =
    let place = c.phase-place.result.0 in
    let ws = c.args.self.now.windows.items in
    c.owner_in.ensures ∙ ap (λ (i : ℕ). owner_in place (slice_get ws i)) c.first_left_from-window.ensures ∙ sym (owner_is c.args.self.now.frame place ws c.args.self.now.apart)
    ∙ ap (λ (p : ℕ). option_map (λ (w : WindowRow). w.partition.0) (find (is_within p) ws)) c.phase-place.ensures.place

pub returns-clause-ended : goal.returns-clause-ended
returns-clause-ended c =
    let at = c.args.moment.at in
    let frame = c.args.self.now.frame in
    let place = c.phase-place.result.0 in
    let ws = c.args.self.now.windows.items in
    let found = option_map (λ (w : WindowRow). w.partition.0) (find (ends_at frame ((at.now.0 - at.origin.0) % frame)) ws) in
    elim c.if-at.branch [
      | then-at w ↦
          let first : at.now.0 ≤ at.origin.0 = search rules in
          let none : option_map (λ p. p.0) c.if-at.ended ≡ None = search rules in
          none ∙ sym (ap (λ (b : Bool). cond b found None) (le-ltb at.origin.0 at.now.0 first))
      | else-at w ↦
          let before : option_map (λ p. p.0) c.if-at.ended ≡ ended_before frame place ws c.first_left_from-window.result = search rules in
          let later : at.origin.0 < at.now.0 = search rules in
          before ∙ ap (ended_before frame place ws) c.first_left_from-window.ensures ∙ sym (ended_is frame place ws c.args.self.now.apart c.phase-place.ensures.within)
          ∙ ap (λ (p : ℕ). option_map (λ (w : WindowRow). w.partition.0) (find (ends_at frame p) ws)) c.phase-place.ensures.place
          ∙ sym (ap (λ (b : Bool). cond b found None) (lt-ltb at.origin.0 at.now.0 later))
    ]

pub returns-clause-some : goal.returns-clause-some
returns-clause-some c =
    let frame = c.args.self.now.frame in
    let place = c.phase-place.result.0 in
    let ws = c.args.self.now.windows.items in
    let later = edge_after frame place ws c.phase-place.ensures.within in
    let edge = c.next_edge.ensures ∙ ap (λ (i : ℕ). next_edge frame place (slice_get ws i)) c.first_left_from-window.ensures in
    omega (arith, later, edge)

pub returns-clause-stays : goal.returns-clause-stays
returns-clause-stays c = λ i below.
    let frame = c.args.self.now.frame in
    let place = c.phase-place.result.0 in
    let ws = c.args.self.now.windows.items in
    let edge = c.next_edge.ensures ∙ ap (λ (i : ℕ). next_edge frame place (slice_get ws i)) c.first_left_from-window.ensures in
    let ticks : c.next_edge.result - place ≡ until_edges frame place ws = ap (λ (n : ℕ). n - place) edge ∙ sym (edge_is frame place ws c.args.self.now.apart c.phase-place.ensures.within) in
    owner_stays (schedule_of c.args.self.now) c.args.moment.at c.args.self.now.frame_there c.args.moment.past place c.phase-place.ensures.place (c.next_edge.result - place) ticks i below

pub returns-clause-none_ends : goal.returns-clause-none_ends
returns-clause-none_ends c = λ i there below.
    let frame = c.args.self.now.frame in
    let place = c.phase-place.result.0 in
    let ws = c.args.self.now.windows.items in
    let edge = c.next_edge.ensures ∙ ap (λ (i : ℕ). next_edge frame place (slice_get ws i)) c.first_left_from-window.ensures in
    let ticks : c.next_edge.result - place ≡ until_edges frame place ws = ap (λ (n : ℕ). n - place) edge ∙ sym (edge_is frame place ws c.args.self.now.apart c.phase-place.ensures.within) in
    none_ends (schedule_of c.args.self.now) c.args.moment.at c.args.self.now.frame_there c.args.moment.past place c.phase-place.ensures.place (c.next_edge.result - place) ticks i there below
