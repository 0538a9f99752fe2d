-- How often a process stands in each waiting list, when one leaves all lists or joins one of them.
use Rattle.kernel_laws.proofs.Prelude.{◌≡◌, ◌⊎◌, inl, inr, ℕ, zero, suc, ◌+◌, ◌<◌, ◌≤◌, Bool, true, false, cond, nat_eq, List, ◌∷◌, ◌++◌, refl, sym, subst, ◌∙◌, arith, eqb-true, eqb-false, is_some, slice_get, slice_set, Discipline, ListKey, ProcessIndex, Priority, Runner, Entry, entry, is_same, joins, list_at, list_in, Queues, without}
use Rattle.std.proofs.Common.{not, [], ap}
use Rattle.std.proofs.lemmas.Bool.{false≢true}
use Rattle.apex_types.specs.declared.codes.Discipline.TheVariants as discipline
use Rattle.apex_types.specs.declared.identity.ListKey.TheVariants as key
use Rattle.apex_types.specs.declared.identity.Runner.TheVariants as runner
use Rattle.apex_types.specs.declared.limits.TheConstants.{MOST_OBJECTS}
use Rattle.kernel_meaning.specs.Processes.{leaves_queues}
use Rattle.kernel_meaning.specs.Queues.{each_list, emptied, joined, no_entries, put_list, without_in_all}
use Rattle.kernel_laws.specs.Ready.{times_listed}
use Rattle.kernel_laws.specs.WhoWaits.{has_list}
use Rattle.kernel_laws.proofs.Places.{some_set, some_map}
use Rattle.kernel_laws.proofs.ReadyLists.{behind-times, one_if, test_other, test_same, without-none}
use Rattle.kernel_laws.proofs.WaitingOrder.{at_emptied, at_put, at_without}

-- ---- one list

-- the others stand in it as often when p has left
others_stay : (p q : ℕ) (es : List Entry) → nat_eq p q ≡ false → times_listed q (without p es) ≡ times_listed q es
others_stay p q [] other = refl
others_stay p q (e ∷ es) other = by_test (nat_eq p e.process.0) refl (others_stay p q es other)
  where
    by_test : (b : Bool) → nat_eq p e.process.0 ≡ b → times_listed q (without p es) ≡ times_listed q es
        → times_listed q (cond (not b) (e ∷ without p es) (without p es)) ≡ one_if (nat_eq q e.process.0) + times_listed q es
    by_test true same rest =
        let none : one_if (nat_eq q e.process.0) ≡ 0 = test_other q e.process.0 (λ k. eqb-false p q other (eqb-true p e.process.0 same ∙ sym k)) in
        omega (arith, none, rest)
    by_test false same rest = omega (arith, rest)

times_last : (e : Entry) (q : ℕ) (es : List Entry) → times_listed q (es ++ e ∷ []) ≡ one_if (nat_eq q e.process.0) + times_listed q es
times_last e q [] = refl
times_last e q (x ∷ xs) = omega (arith, times_last e q xs)

times_joined : (d : Discipline) (e : Entry) (q : ℕ) (es : List Entry) → times_listed q (joined d e es) ≡ one_if (nat_eq q e.process.0) + times_listed q es
times_joined discipline.Fifo e q es = times_last e q es
times_joined discipline.Priority e q es = behind-times e q es

-- ---- all lists

-- how often a process stands in a list
abbrev pub times : Queues → ListKey → ProcessIndex → ℕ
times queues k p = times_listed p.0 (list_at queues k)

-- the place of an object of any kind
abbrev pub place_in : ListKey → ℕ
place_in (key.Semaphore place) = place
place_in (key.Event place) = place
place_in (key.Buffer place) = place
place_in (key.Blackboard place) = place
place_in (key.Port place) = place

-- each kind has its lists
abbrev pub HasLists : Queues → Type 0
HasLists queues = (k : ListKey) → place_in k < MOST_OBJECTS → has_list queues k ≡ true

-- ---- lists are changed, and none is lost

pub there_each : (change : List Entry → List Entry) (queues : Queues) (k : ListKey) → has_list queues k ≡ true → has_list (each_list change queues) k ≡ true
there_each change queues (key.Semaphore place) h = some_map change queues.semaphores place h
there_each change queues (key.Event place) h = some_map change queues.events place h
there_each change queues (key.Buffer place) h = some_map change queues.buffers place h
there_each change queues (key.Blackboard place) h = some_map change queues.blackboards place h
there_each change queues (key.Port place) h = some_map change queues.ports place h

there_put : (queues : Queues) (k : ListKey) (list : List Entry) (j : ListKey) → has_list queues j ≡ true → has_list (put_list queues k list) j ≡ true
there_put queues (key.Semaphore place) list (key.Semaphore other) h = some_set queues.semaphores place other list h
there_put queues (key.Event place) list (key.Event other) h = some_set queues.events place other list h
there_put queues (key.Buffer place) list (key.Buffer other) h = some_set queues.buffers place other list h
there_put queues (key.Blackboard place) list (key.Blackboard other) h = some_set queues.blackboards place other list h
there_put queues (key.Port place) list (key.Port other) h = some_set queues.ports place other list h
there_put queues _ list _ h = h

-- a list that is put where there was one
in_put_there : (lists : List (List Entry)) (place : ℕ) (list : List Entry) → is_some (slice_get lists place) ≡ true → list_in (slice_set lists place list) place ≡ list
in_put_there [] place list h = absurd (false≢true h)
in_put_there (first ∷ lists) zero list h = refl
in_put_there (first ∷ lists) (suc place) list h = in_put_there lists place list h

pub put_there : (queues : Queues) (k : ListKey) (list : List Entry) → has_list queues k ≡ true → list_at (put_list queues k list) k ≡ list
put_there queues (key.Semaphore place) list h = in_put_there queues.semaphores place list h
put_there queues (key.Event place) list h = in_put_there queues.events place list h
put_there queues (key.Buffer place) list h = in_put_there queues.buffers place list h
put_there queues (key.Blackboard place) list h = in_put_there queues.blackboards place list h
put_there queues (key.Port place) list h = in_put_there queues.ports place list h

-- ---- a process leaves

none_left : (queues : Queues) (k : ListKey) (p : ProcessIndex) → times (without_in_all p.0 queues) k p ≡ 0
none_left queues k p = ap (times_listed p.0) (at_without p.0 queues k) ∙ without-none p.0 (list_at queues k)

same_left : (queues : Queues) (k : ListKey) (p q : ProcessIndex) → nat_eq p.0 q.0 ≡ false → times (without_in_all p.0 queues) k q ≡ times queues k q
same_left queues k p q other = ap (times_listed q.0) (at_without p.0 queues k) ∙ others_stay p.0 q.0 (list_at queues k) other

pub own_leaves : (queues : Queues) (k : ListKey) (p : Runner) (q : ProcessIndex) → p ≡ runner.Process q → times (leaves_queues p queues) k q ≡ 0
own_leaves queues k p q is = subst (λ (z : Runner). times (leaves_queues z queues) k q ≡ 0) (sym is) (none_left queues k q)

pub other_leaves : (queues : Queues) (k : ListKey) (p : Runner) (q : ProcessIndex) → is_same p (runner.Process q) ≡ false → times (leaves_queues p queues) k q ≡ times queues k q
other_leaves queues k runner.Init q other = refl
other_leaves queues k runner.Handler q other = refl
other_leaves queues k (runner.Process p) q other = same_left queues k p q other

pub fewer_left : (queues : Queues) (k : ListKey) (p : Runner) (q : ProcessIndex) → times (leaves_queues p queues) k q ≤ times queues k q
fewer_left queues k runner.Init q = omega arith
fewer_left queues k runner.Handler q = omega arith
fewer_left queues k (runner.Process p) q = by_test (nat_eq p.0 q.0) refl
  where
    by_test : (b : Bool) → nat_eq p.0 q.0 ≡ b → times (without_in_all p.0 queues) k q ≤ times queues k q
    by_test true e =
        let none : times (without_in_all p.0 queues) k q ≡ 0 = subst (λ (n : ℕ). times_listed n (list_at (without_in_all p.0 queues) k) ≡ 0) (eqb-true p.0 q.0 e) (none_left queues k p) in
        omega (arith, none)
    by_test false e = let same = same_left queues k p q e in omega (arith, same)

pub lists_left : (queues : Queues) (p : Runner) → HasLists queues → HasLists (leaves_queues p queues)
lists_left queues runner.Init h = h
lists_left queues runner.Handler h = h
lists_left queues (runner.Process p) h = λ k few. there_each (without p.0) queues k (h k few)

-- ---- a process joins a list

module _ (queues : Queues) (k : ListKey) (d : Discipline) (p : ProcessIndex) (v : Priority) where
  abbrev others : Queues
  others = without_in_all p.0 queues

  abbrev longer : List Entry
  longer = joined d (entry p v) (list_at others k)

  own_longer : times_listed p.0 longer ≡ 1
  own_longer =
      let one : one_if (nat_eq p.0 p.0) ≡ 1 = test_same p.0 p.0 refl in
      let none = none_left queues k p in
      omega (arith, times_joined d (entry p v) p.0 (list_at others k), one, none)

  -- it stands in this list once, and in no other
  pub own_joins : (j : ListKey) → (times (joins k d (entry p v) queues) j p ≡ 0) ⊎ ((j ≡ k) × (times (joins k d (entry p v) queues) j p ≡ 1))
  own_joins j = by_place (at_put others k longer j)
    where
      by_place : (list_at (joins k d (entry p v) queues) j ≡ list_at others j) ⊎ ((j ≡ k) × (list_at (joins k d (entry p v) queues) j ≡ longer))
          → (times (joins k d (entry p v) queues) j p ≡ 0) ⊎ ((j ≡ k) × (times (joins k d (entry p v) queues) j p ≡ 1))
      by_place (inl same) = inl (ap (times_listed p.0) same ∙ none_left queues j p)
      by_place (inr put) = inr (put.0, ap (times_listed p.0) put.1 ∙ own_longer)

  pub stands_joined : has_list queues k ≡ true → times (joins k d (entry p v) queues) k p ≡ 1
  stands_joined h = ap (times_listed p.0) (put_there others k longer (there_each (without p.0) queues k h)) ∙ own_longer

  -- the others stand where they stood
  pub other_joins : (j : ListKey) (q : ProcessIndex) → nat_eq p.0 q.0 ≡ false → times (joins k d (entry p v) queues) j q ≡ times queues j q
  other_joins j q other = by_place (at_put others k longer j)
    where
      other_longer : times_listed q.0 longer ≡ times queues k q
      other_longer =
          let none : one_if (nat_eq q.0 p.0) ≡ 0 = test_other q.0 p.0 (λ e. eqb-false p.0 q.0 other (sym e)) in
          let same = same_left queues k p q other in
          omega (arith, times_joined d (entry p v) q.0 (list_at others k), none, same)

      by_place : (list_at (joins k d (entry p v) queues) j ≡ list_at others j) ⊎ ((j ≡ k) × (list_at (joins k d (entry p v) queues) j ≡ longer)) → times (joins k d (entry p v) queues) j q ≡ times queues j q
      by_place (inl same) = ap (times_listed q.0) same ∙ same_left queues j p q other
      by_place (inr put) = ap (times_listed q.0) put.1 ∙ (other_longer ∙ ap (λ (i : ListKey). times queues i q) (sym put.0))

  pub lists_joined : HasLists queues → HasLists (joins k d (entry p v) queues)
  lists_joined h j few = there_put others k longer j (there_each (without p.0) queues j (h j few))

-- ---- all lists are emptied

pub none_emptied : (queues : Queues) (k : ListKey) (p : ProcessIndex) → times (emptied queues) k p ≡ 0
none_emptied queues k p = ap (times_listed p.0) (at_emptied queues k)

pub lists_emptied : (queues : Queues) → HasLists queues → HasLists (emptied queues)
lists_emptied queues h k few = there_each no_entries queues k (h k few)
