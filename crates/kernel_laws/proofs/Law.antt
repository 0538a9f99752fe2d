-- The order in every run of a module.
use Rattle.kernel_laws.proofs.Prelude.{◌≡◌, ◌↔◌, ℕ, List, Some, subst, slice_get, Discipline, DeviceLine, ListKey, Entry, at_number, Kernel, Module, Stepped, Member, waiting, IsReleasedFirst, Happening, all_happen, members_after, Numbers, first_numbers, IsOrdered, AreOrdered, disciplines_of, names_of}
use Rattle.std.proofs.Common.{ap}
use Rattle.kernel_laws.proofs.WaitingOrder.{released_first}
use Rattle.kernel_laws.specs.Names.{HaveOwnNames}
use Rattle.kernel_laws.specs.RunLaw.{RunGoes, RunIsNumbered, HasOrder, HoldsReady, numbers_in}
use Rattle.kernel_laws.proofs.Runs.{run_is}
use Rattle.kernel_laws.proofs.Through.{goes_at, goes_through, ends_ordered, ordered_through}

-- if all lists are in order at first
pub run_goes : {C : Type 0} (m : Module C) (devices : List DeviceLine) (n : ℕ) → AreOrdered (disciplines_of m.members) (names_of m.members) (λ p. first_numbers) m.members → RunGoes m devices n
run_goes {C = C} m devices n h =
    let r = run_is m devices n in
    record {
      history = r.history;
      members = ap (λ (a : Stepped (List (Member C))). a.state) r.same;
      lines = ap (λ (a : Stepped (List (Member C))). a.lines) r.same;
      order = goes_through (disciplines_of m.members) (names_of m.members) r.history (λ p. first_numbers) m.members h;
    }

-- if the processes have names of their own, too
pub run_is_numbered : {C : Type 0} (m : Module C) (devices : List DeviceLine) (n : ℕ) → ((p : ℕ) → HaveOwnNames (names_of m.members p)) → AreOrdered (disciplines_of m.members) (names_of m.members) (λ p. first_numbers) m.members
    → RunIsNumbered m devices n
run_is_numbered {C = C} m devices n own h =
    let r = run_is m devices n in
    let order : (before : List Happening) → AreOrdered (disciplines_of m.members) (names_of m.members) (numbers_in m before) (all_happen before m.members).state =
    λ before. ordered_through (disciplines_of m.members) (names_of m.members) own before (λ p. first_numbers) m.members h in
    record {
      history = r.history;
      members = ap (λ (a : Stepped (List (Member C))). a.state) r.same;
      lines = ap (λ (a : Stepped (List (Member C))). a.lines) r.same;
      order = λ before after e. order before;
      moves = λ before after p move e. goes_at (disciplines_of m.members) (names_of m.members) own (numbers_in m before) (all_happen before m.members).state p move (order before);
    }

-- the states after n ticks
pub state_has_order : {C : Type 0} (m : Module C) (devices : List DeviceLine) (n p : ℕ) (x : Member C) → RunGoes m devices n → at_number (members_after m devices n) p ≡ Some x → HasOrder m p x
state_has_order {C = C} m devices n p x run e =
    let end = ends_ordered (disciplines_of m.members) (names_of m.members) run.history (λ q. first_numbers) m.members run.order in
    (end.0 p, end.1 p x (subst (λ (ms : List (Member C)). at_number ms p ≡ Some x) run.members e))

pub listed_are_ready : {C : Type 0} (m : Module C) (p : ℕ) (x : Member C) → HasOrder m p x → HoldsReady x
listed_are_ready m p x h = let order = h.1 in let agree = order.records in agree.listed

pub head_is_first : (d : ListKey → Discipline) (names : List (List ℕ)) (n : Numbers) (k : Kernel) (list : ListKey) (e : Entry) → IsOrdered d names n k
    → (slice_get (waiting k.processes list) 0 ≡ Some e ↔ IsReleasedFirst (d list) n.waiting (waiting k.processes list) e)
head_is_first d names n k list e h = released_first d n.waiting n.next list e k.processes.queues h.order.queues
