-- Each step of a partition continues the numbers.
use Rattle.kernel_laws.proofs.Prelude.{List, None, none-some, ProcessIndex, record_at, Option, Some, refl, subst, sym, ℕ, ℤ, ◌∙◌, ◌∷◌, ◌≡◌, ◌↔◌, ◌++◌, slice_set, ArrayVec, place_of, Discipline, Mode, StartCondition, EventKind, At, ListKey, PortId, Runner, Action, Entry, IsNumbered, Picks, Engine, breaks, then_clears, Kernel, of_ports, with_errors, with_ports, of_processes, chooses_with_handler, pick, treats_asked, treats_due, World, Member, act, act_all, admits, choice_phase, control_at, given, moved, place_of_port, spends_chosen, ticked, Moved, followed_by, clearing_phase, clears, Port, discipline_of, port_at, list_at, Processes, Queues, nothing, Step, RecordsAgree, Goes, IsInOrder, Numbers, called, take_all, May, nobody, may_asked, IsOrdered, chosen_among}
use Rattle.std.proofs.Common.{[], ap, append-nil}
use Rattle.std.proofs.lemmas.List.{map-append}
use Rattle.std.specs.Prelude.{map, slice_get}
use Rattle.apex_types.specs.declared.codes.Mode.TheVariants as mode
use Rattle.apex_types.specs.declared.identity.ListKey.TheVariants as key
use Rattle.apex_types.specs.Runners as action
use Rattle.kernel_meaning.specs.PortServices as arrival
use Rattle.engine_meaning.specs.Engine.{Ticked}
use Rattle.kernel_meaning.specs.Kernel.{of_ports_alone}
use Rattle.kernel_meaning.specs.Partition.{arrives, breaks_down, cold_start, due_phase, prepares, told, leaves, treating_phase, goes_out}
use Rattle.kernel_laws.proofs.Choosing as choosing
use Rattle.kernel_laws.specs.Numbers.{Taking, BecomesReady, become_ready}
use Rattle.kernel_laws.specs.GoingLast.{IsLastUnder}
use Rattle.kernel_laws.specs.OrderLaw.{GoesOn, HasBegunToWait, HasGoneLast, ReadyPlaces, TickGoes, kind_of, kinds, list_of_chosen, may_of_chosen, renumbered, takings_by}
use Rattle.kernel_laws.specs.WhoWaits.{WaitsForObject}
use Rattle.kernel_laws.proofs.OfKernel.{IsReady, Moves, breaks_moves, clears_moves, due_moves, of_ports_moves, then_clears_moves}
use Rattle.kernel_laws.proofs.LastOfEquals.{IsPutLast, asked_last}
use Rattle.kernel_laws.proofs.OfPorts.{admits_shares, arrives_shares}
use Rattle.kernel_laws.proofs.AskedTakings.{TakesIn, asked_takes, none_takes}
use Rattle.kernel_laws.proofs.ExactTakings.{called_by, others_by}
use Rattle.kernel_laws.proofs.OfServices.{choice_stays, handler_stays}
use Rattle.kernel_laws.proofs.Primitives.{called_after, take_after}
use Rattle.kernel_laws.proofs.RecordChoice.{runs_ready}
use Rattle.kernel_laws.proofs.RecordRows.{IsCaller}
use Rattle.kernel_laws.proofs.RecordKernel.{then_clears_agrees, clears_agrees, breaks_agrees}
use Rattle.kernel_laws.proofs.RecordObjects.{arrives_agrees, admits_agree}
use Rattle.kernel_laws.proofs.RecordTick.{due_agrees, choice_agrees, choice_runs, acts_same, asked_agrees}
use Rattle.kernel_laws.proofs.Shares.{each_put}
use Rattle.kernel_laws.proofs.WaitBegins.{asked_behind, asked_caller}
use Rattle.kernel_laws.proofs.WaitRows.{caller_waits_not}

kinds_told : (name : List ℕ) (at : At) (kinds : List EventKind) → kinds ≡ map kind_of (told name at kinds)
kinds_told name at [] = refl
kinds_told name at (k ∷ ks) = ap (λ rest. k ∷ rest) (kinds_told name at ks)

module _ (d : ListKey → Discipline) (names : List (List ℕ)) where
  ready_of : (n : Numbers) (k : Kernel) → IsOrdered d names n k → IsReady d names k
  ready_of n k h = record { named = h.named; objects = h.objects; ports = h.ports }

  picks_allowed : (n : Numbers) (k : Kernel) → IsOrdered d names n k → (p : Runner) → (pick k.mode (chosen_among k) ≡ Some p ↔ Picks n.ready k.mode (chosen_among k) p)
  picks_allowed n k h p =
      let g = handler_stays d names k.mode (with_errors k) h.named in
      choosing.chosen n.ready n.next k.mode (chosen_among k) p (subst (IsNumbered n.ready n.next) (sym g.ready) h.order.ready)

  leaves_moves : (k : Kernel) (place : ℕ) → IsReady d names k → Moves d names nobody k (of_ports_alone k (arrival.leaves k.ports place))
  leaves_moves k place h = by_port (port_at k.ports place) refl
    where
      still : Goes d names nobody k.processes (nothing k.processes)
      still = record { takings = []; follows = λ n o. o; named = h.named; told = refl; allowed = tt }

      by_first : (x : Port) (ms : List (ArrayVec ℤ)) → port_at k.ports place ≡ Some x → Moves d names nobody k (of_ports_alone k (arrival.leaves_first k.ports place x ms))
      by_first x [] q = record { goes = still; objects = h.objects; ports = h.ports }
      by_first x (m ∷ rest) q = record {
        goes = record { takings = []; follows = λ n o. o; named = h.named; told = refl; allowed = tt };
        objects = h.objects;
        ports = each_put (λ i y. discipline_of y.row.kind ≡ d (key.Port i)) k.ports.ports place (record x { messages = rest }) h.ports (h.ports place x q);
      }

      by_port : (o : Option Port) → port_at k.ports place ≡ o → Moves d names nobody k (of_ports_alone k (arrival.leaves_of k.ports place o))
      by_port None q = record { goes = still; objects = h.objects; ports = h.ports }
      by_port (Some x) q = by_first x x.messages q

-- those that become ready, if there are no others
abbrev alone : List ℕ → Numbers → Numbers
alone places n = take_all (become_ready places ++ []) n

alone_is : (places : List ℕ) (n : Numbers) → alone places n ≡ take_all (become_ready places) n
alone_is places n = ap (λ (ts : List Taking). take_all ts n) (append-nil (become_ready places))

ready_after : (ps qs : List ℕ) (n : Numbers) → alone (ps ++ qs) n ≡ alone qs (alone ps n)
ready_after ps qs n =
    alone_is (ps ++ qs) n ∙ (ap (λ (ts : List Taking). take_all ts n) (map-append BecomesReady ps qs) ∙ (take_after (become_ready ps) (become_ready qs) n
    ∙ (ap (take_all (become_ready qs)) (sym (alone_is ps n)) ∙ sym (alone_is qs (alone ps n)))))

module _ {C : Type 0} (d : ListKey → Discipline) (names : List (List ℕ)) where
  act_keeps : (n : Numbers) (e : Engine C) (a : Action) (w : World C) → IsOrdered d names n w.kernel → IsOrdered d names n (act e a w).kernel
  act_keeps n e (action.Begin p) w h = h
  act_keeps n e (action.Stop p) w h = h
  act_keeps n e action.StopAll w h = record { order = h.order; records = h.records; named = h.named; objects = h.objects; ports = h.ports }
  act_keeps n e (action.Reply p answer) w h = h
  act_keeps n e action.Restore w h = h
  act_keeps n e (action.Write place array) w h = h
  act_keeps n e (action.Queue error) w h = record { order = h.order; records = h.records; named = h.named; objects = h.objects; ports = h.ports }

  all_keep : (n : Numbers) (e : Engine C) (actions : List Action) (w : World C) → IsOrdered d names n w.kernel → IsOrdered d names n (act_all e actions w).kernel
  all_keep n e [] w h = h
  all_keep n e (a ∷ rest) w h = all_keep n e rest (act e a w) (act_keeps n e a w h)

  -- a step that continues the numbers, with the places of those that become ready in it
  abbrev pub Going : May → Numbers → Moved C → Type 0
  Going may n m = (ready : List ℕ) × GoesOn d names may n ready m

  moved_goes : (at : At) (e : Engine C) (may : May) (n : Numbers) (s : Step Kernel) (w : World C) → IsOrdered d names n w.kernel → TakesIn d names may w.kernel s
      → RecordsAgree s.part.processes → Going may n (moved at e s w)
  moved_goes at e may n s w h g agree =
      let m : Moved C = moved at e s w in
      let goes = g.moves.goes in
      let places : List ℕ = g.exact.0 in
      let told : s.lines ≡ kinds m = kinds_told w.kernel.fixed.name at s.lines in
      let takings : goes.takings ≡ takings_by may places m =
      g.exact.1 ∙ (ap (λ (ls : List EventKind). become_ready places ++ others_by may ls s.part.processes) told
      ∙ ap (λ (t : Processes). become_ready places ++ others_by may (kinds m) t) (sym (acts_same e s.actions (record w { kernel = s.part })))) in (
        places,
        record {
          called = called_by names may s.lines s.part.processes goes.takings g.exact goes.told ∙ ap called told;
          ordered = subst (λ (ts : List Taking). IsOrdered d names (take_all ts n) m.world.kernel) takings
              (all_keep (take_all goes.takings n) e s.actions (record w { kernel = s.part })
              (record { order = goes.follows n h.order; records = agree; named = goes.named; objects = g.moves.objects; ports = g.moves.ports }));
        },
      )

  -- nobody goes last or begins to wait
  quietly_goes : (at : At) (e : Engine C) (n : Numbers) (s : Step Kernel) (w : World C) → IsOrdered d names n w.kernel → Moves d names nobody w.kernel s
      → RecordsAgree s.part.processes → Going nobody n (moved at e s w)
  quietly_goes at e n s w h g agree = moved_goes at e nobody n s w h (none_takes d names at w.kernel (ready_of d names n w.kernel h) nobody s refl refl g) agree

  -- one step, then another from the world after it
  followed_goes : (n : Numbers) (m : Moved C) (rest : World C → Moved C) (ps qs : List ℕ) → GoesOn d names nobody n ps m → GoesOn d names nobody (renumbered nobody ps m n) qs (rest m.world)
      → GoesOn d names nobody n (ps ++ qs) (followed_by m rest)
  followed_goes n m rest ps qs g h = record {
    called = map-append (slice_get names) ps qs
        ∙ (ap (λ xs. xs ++ map (slice_get names) qs) g.called
        ∙ (ap (λ xs. called (kinds m) ++ xs) h.called
        ∙ (sym (called_after (kinds m) (kinds (rest m.world))) ∙ ap called (sym (map-append kind_of m.lines (rest m.world).lines)))));
    ordered = subst (λ (k : Numbers). IsOrdered d names k (rest m.world).world.kernel) (sym (ready_after ps qs n)) h.ordered;
  }

  treating_goes : (e : Engine C) (at : At) (n : Numbers) (w : World C) → IsOrdered d names n w.kernel → Going nobody n (treating_phase e at w)
  treating_goes e at n w h = quietly_goes at e n (of_processes w.kernel (treats_due at w.kernel).step) w h (due_moves d names at w.kernel (ready_of d names n w.kernel h)) (due_agrees at w.kernel h.records)

  clearing_goes : (e : Engine C) (at : At) (clears : Option Mode) (n : Numbers) (w : World C) → IsOrdered d names n w.kernel → Going nobody n (clearing_phase e at clears w)
  clearing_goes e at clears n w h = quietly_goes at e n (then_clears w.kernel clears) w h (then_clears_moves d names nobody w.kernel clears (ready_of d names n w.kernel h)) (then_clears_agrees w.kernel clears h.records)

  due_goes : (e : Engine C) (at : At) (n : Numbers) (w : World C) → IsOrdered d names n w.kernel → Going nobody n (due_phase e at w)
  due_goes e at n w h =
      let t = treating_goes e at n w h in
      let g = t.1 in
      let c = clearing_goes e at (treats_due at w.kernel).clears (renumbered nobody t.0 (treating_phase e at w) n) (treating_phase e at w).world g.ordered in
      (t.0 ++ c.0, followed_goes n (treating_phase e at w) (clearing_phase e at (treats_due at w.kernel).clears) t.0 c.0 g c.1)

  choice_keeps : (e : Engine C) (at : At) (n : Numbers) (w : World C) → IsOrdered d names n w.kernel → IsOrdered d names n (choice_phase e at w).world.kernel
  choice_keeps e at n w h =
      let s = chooses_with_handler w.kernel in
      let g = choice_stays d names w.kernel h.named in
      all_keep n e s.actions (record w { kernel = s.part })
      (record {
        order = subst (λ (q : Queues). IsInOrder d n s.part.processes.ready q) (sym g.queues) (subst (λ (q : List Entry). IsInOrder d n q w.kernel.processes.queues) (sym g.ready) h.order);
        records = choice_agrees w.kernel h.records;
        named = g.named;
        objects = h.objects;
        ports = h.ports;
      })

  -- the picked runner runs
  chosen_runs : (e : Engine C) (at : At) (w : World C) → RecordsAgree w.kernel.processes → (choice_phase e at w).world.kernel.processes.running ≡ pick w.kernel.mode (chosen_among w.kernel)
  chosen_runs e at w h =
      let s = chooses_with_handler w.kernel in
      ap (λ (t : Processes). t.running) (acts_same e s.actions (record w { kernel = s.part })) ∙ choice_runs w.kernel h

  -- the tick of a runner continues the numbers
  spends_goes : (e : Engine C) (at : At) (n : Numbers) (w : World C) (o : Option Runner) → w.kernel.processes.running ≡ o → IsOrdered d names n w.kernel → Going (may_of_chosen e w o) n (spends_chosen e at o w)
  spends_goes e at n w None is h = ([], record { called = refl; ordered = h })
  spends_goes e at n w (Some p) is h =
      let r : Ticked (Option C) = ticked e (control_at w.controls (place_of p)) w.words in
      let t : Step Kernel = treats_asked at w.kernel p r.asks (given r.asks r.words) in
      let caller : IsCaller w.kernel.processes p = runs_ready w.kernel.processes h.records p is in
      moved_goes at e (may_asked p r.asks) n t (record w { controls = slice_set w.controls (place_of p) r.control; words = r.words }) h
      (asked_takes d names at w.kernel (ready_of d names n w.kernel h) p caller (caller_waits_not w.kernel.processes h.records p caller) r.asks (given r.asks r.words))
      (asked_agrees at w.kernel h.records p caller r.asks (given r.asks r.words))

  -- who has to go last does
  spends_last : (e : Engine C) (at : At) (n : Numbers) (w : World C) (o : Option Runner) → w.kernel.processes.running ≡ o → IsOrdered d names n w.kernel
      → HasGoneLast (may_of_chosen e w o) w.kernel.processes.ready (spends_chosen e at o w)
  spends_last e at n w None is h = record { goes = λ q own. absurd (none-some q.0 own); stays = λ q own. absurd (none-some q.0 own) }
  spends_last e at n w (Some p) is h = record { goes = λ q own. let g = at_end q own in g.goes; stays = λ q own. let g = at_end q own in g.stays }
    where
      r : Ticked (Option C)
      r = ticked e (control_at w.controls (place_of p)) w.words

      t : Step Kernel
      t = treats_asked at w.kernel p r.asks (given r.asks r.words)

      m : Moved C
      m = spends_chosen e at (Some p) w

      at_end : (q : ProcessIndex) → (may_of_chosen e w (Some p)).go_last ≡ Some q.0 → IsPutLast q w.kernel.processes.ready (map kind_of m.lines) m.world.kernel.processes
      at_end q own =
          let v : World C = record w { controls = slice_set w.controls (place_of p) r.control; words = r.words; kernel = t.part } in
          subst (λ (ls : List EventKind). IsPutLast q w.kernel.processes.ready ls m.world.kernel.processes) (kinds_told w.kernel.fixed.name at t.lines)
          (subst (λ (s : Processes). IsPutLast q w.kernel.processes.ready t.lines s) (sym (acts_same e t.actions v))
          (asked_last n.ready n.next at w.kernel h.order.ready q p r.asks (given r.asks r.words) (runs_ready w.kernel.processes h.records p is) own))

  -- and who begins to wait is the last in the list that its call names
  spends_begun : (e : Engine C) (at : At) (n : Numbers) (w : World C) (o : Option Runner) → w.kernel.processes.running ≡ o → IsOrdered d names n w.kernel
      → HasBegunToWait d (may_of_chosen e w o) (list_of_chosen e w o) w.kernel.processes.queues (spends_chosen e at o w)
  spends_begun e at n w None is h q list own named there = absurd (none-some q.0 own)
  spends_begun e at n w (Some p) is h q list own named there =
      let r = ticked e (control_at w.controls (place_of p)) w.words in
      let t = treats_asked at w.kernel p r.asks (given r.asks r.words) in
      let v : World C = record w { controls = slice_set w.controls (place_of p) r.control; words = r.words; kernel = t.part } in
      subst (λ (s : Processes). WaitsForObject (record_at s.rows q) → IsLastUnder (d list) q (list_at s.queues list)) (sym (acts_same e t.actions v))
      (asked_behind d n.waiting n.next at w.kernel h.objects h.ports h.order.queues q
      (caller_waits_not w.kernel.processes h.records p (runs_ready w.kernel.processes h.records p is) q (asked_caller p r.asks q own)) list there p r.asks (given r.asks r.words) own named)

  pub tick_goes : (n : Numbers) (e : Engine C) (at : At) (w : World C) → IsOrdered d names n w.kernel → (places : ReadyPlaces) × TickGoes d names n places e at w
  tick_goes n e at w h =
      let due = due_goes e at n w h in
      let g = due.1 in
      let then : Numbers = renumbered nobody due.0 (due_phase e at w) n in
      let k = choice_keeps e at then (due_phase e at w).world g.ordered in
      let rest = spends_goes e at then (prepares e at w).world (prepares e at w).world.kernel.processes.running refl k in (
        record { due = due.0; rest = rest.0 },
        record {
          due = g;
          picks = picks_allowed d names then (due_phase e at w).world.kernel g.ordered;
          runs = chosen_runs e at (due_phase e at w).world g.ordered.records;
          prepared = k;
          spent = rest.1;
          last = spends_last e at then (prepares e at w).world (prepares e at w).world.kernel.processes.running refl k;
          begun = spends_begun e at then (prepares e at w).world (prepares e at w).world.kernel.processes.running refl k;
        },
      )

  pub cold_start_goes : (n : Numbers) (at : At) (c : StartCondition) (x : Member C) → IsOrdered d names n x.world.kernel → Going nobody n (cold_start at c x)
  cold_start_goes n at c x h =
      quietly_goes at x.engine n (clears x.world.kernel mode.ColdStart c) x.world h (clears_moves d names nobody x.world.kernel mode.ColdStart c (ready_of d names n x.world.kernel h))
      (clears_agrees x.world.kernel mode.ColdStart c h.records)

  pub breaks_down_goes : (n : Numbers) (at : At) (x : Member C) → IsOrdered d names n x.world.kernel → Going nobody n (breaks_down at x)
  breaks_down_goes n at x h = quietly_goes at x.engine n (breaks x.world.kernel) x.world h (breaks_moves d names nobody x.world.kernel (ready_of d names n x.world.kernel h)) (breaks_agrees x.world.kernel h.records)

  pub arrives_goes : (n : Numbers) (at : At) (port : PortId) (m : ArrayVec ℤ) (x : Member C) → IsOrdered d names n x.world.kernel → Going nobody n (arrives at port m x)
  arrives_goes n at port m x h =
      quietly_goes at x.engine n (of_ports x.world.kernel (arrival.arrives at (with_ports x.world.kernel) (place_of_port port) m)) x.world h
      (of_ports_moves d names nobody x.world.kernel _ (ready_of d names n x.world.kernel h)
      (arrives_shares d names nobody at (with_ports x.world.kernel) (place_of_port port) m (record { named = h.named; fit = h.ports })))
      (arrives_agrees (with_ports x.world.kernel) h.records at (place_of_port port) m)

  pub admits_goes : (n : Numbers) (at : At) (port : PortId) (x : Member C) → IsOrdered d names n x.world.kernel → Going nobody n (admits at port x)
  admits_goes n at port x h =
      quietly_goes at x.engine n (of_ports x.world.kernel (arrival.admits (with_ports x.world.kernel) (place_of_port port))) x.world h
      (of_ports_moves d names nobody x.world.kernel _ (ready_of d names n x.world.kernel h)
      (admits_shares d names nobody (with_ports x.world.kernel) (place_of_port port) (record { named = h.named; fit = h.ports })))
      (admits_agree (with_ports x.world.kernel) (place_of_port port) h.records)

  pub leaves_goes : (n : Numbers) (at : At) (port : PortId) (x : Member C) → IsOrdered d names n x.world.kernel → Going nobody n (leaves at port x)
  leaves_goes n at port x h =
      quietly_goes at x.engine n (of_ports_alone x.world.kernel (arrival.leaves x.world.kernel.ports (place_of_port port))) x.world h
      (leaves_moves d names x.world.kernel (place_of_port port) (ready_of d names n x.world.kernel h)) h.records

  -- a message that goes out by a channel changes nothing
  pub goes_out_goes : (n : Numbers) (at : At) (channel : List ℕ) (m : ArrayVec ℤ) (x : Member C) → IsOrdered d names n x.world.kernel → Going nobody n (goes_out at channel m x)
  goes_out_goes n at channel m x h = ([], record { called = refl; ordered = h })
