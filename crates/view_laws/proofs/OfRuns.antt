-- What the windows count for each tick of a run is what the processor does in it.
use Rattle.std.proofs.Common.{◌≡◌, ◌<◌, ◌≤◌, ℕ, zero, suc, Bool, true, false, List, [], ◌∷◌, length, map, Option, Some, None, refl, sym, ap, ◌∙◌, subst, arith}
use Rattle.std.specs.Prelude.{◌+◌, ◌-◌, option_map, slice_get}
use Rattle.std.proofs.lemmas.List.{length-map}
use Rattle.std.proofs.lemmas.Option.{none-some, same_Some, slice_get-map}
use Rattle.apex_types.specs.Limits.{MOST_TICKS}
use Rattle.apex_types.specs.Versions.{costs_of}
use Rattle.apex_types.specs.declared.cost.Costs.{Costs}
use Rattle.apex_types.specs.declared.device.DeviceLine.{DeviceLine}
use Rattle.apex_types.specs.declared.event.Event.{Event}
use Rattle.apex_types.specs.declared.identity.At.{At}
use Rattle.isolation.proofs.Law.{members_named}
use Rattle.isolation.proofs.OfImage.{image_all_apart}
use Rattle.isolation.proofs.SourceLaw.{all_apart}
use Rattle.isolation.proofs.Steps.{AreApart, name_of}
use Rattle.kernel_meaning.specs.Partition.{Member}
use Rattle.kernel_meaning.specs.Windows.{Schedule, owner, tick_from}
use Rattle.machine_meaning.specs.Image.{Image}
use Rattle.machine_meaning.specs.ImageLimits.{IsLawful}
use Rattle.machine_meaning.specs.MachineMeaning.{machine_members, machine_module, machine_trace}
use Rattle.module_meaning.specs.Accepted.{AreAccepted, IsModule}
use Rattle.module_meaning.specs.Module.{Module, Plan, trace}
use Rattle.module_meaning.specs.SourceMeaning.{source_members, source_module, source_trace}
use Rattle.module_meaning.specs.Standing.{IsNow}
use Rattle.module_meaning.specs.Table.{Partition, Table, at_number}
use Rattle.pal_meaning.specs.Program.{Program}
use Rattle.state_laws.specs.Spending.{before_owner_in, chosen_by, owner_in, owner_of, worker, worker_at, worker_of}
use Rattle.state_laws.specs.Told.{told, worker_by_lines}
use Rattle.state_laws.proofs.OfImages.{image_worker}
use Rattle.state_laws.proofs.OfModules.{module_worker}
use Rattle.trace_windows.specs.Frames.{Frames}
use Rattle.trace_windows.specs.Frames as frames
use Rattle.trace_windows.specs.Standings.{at_first, in_run}
use Rattle.trace_windows.specs.Counts.{capped, ticks_for}
use Rattle.trace_windows.specs.Runs.{AreBefore, AreInOrder, AreSharesOf}
use Rattle.trace_windows.specs.Uses.{is_same, one_if, ticks_used, use_by, use_of}
use Rattle.trace_windows.specs.declared.counted.Row.{Row}
use Rattle.trace_windows.specs.declared.usage.Use.{Use}
use Rattle.trace_windows.proofs.Counting.{alike}
use Rattle.view_laws.specs.Reading.{frames_after, use_told, use_unless, use_with, worker_told}
use Rattle.view_laws.specs.Spent.{name_of_item, name_of_row, names_of_image, names_of_table, use_at, use_in}
use Rattle.view_laws.proofs.Lines.{AreUpTo, owner_up_to, up_to_are, use_is_told}
use Rattle.view_laws.proofs.Run.{HasFrames, run_count, run_frames, run_now, run_order, run_up_to}

-- ---- a place behind the last

past : {A B : Type 0} (xs : List A) (ys : List B) (i : ℕ) → length xs ≡ length ys → slice_get xs i ≡ None → slice_get ys i ≡ None
past [] [] i l e = refl
past [] (y ∷ ys) i l e = absurd (omega (arith, l))
past (x ∷ xs) [] i l e = refl
past (x ∷ xs) (y ∷ ys) zero l e = absurd (none-some x (sym e))
past (x ∷ xs) (y ∷ ys) (suc i) l e = past xs ys i (omega (arith, l)) e

pub there_too : {A B : Type 0} (xs : List A) (ys : List B) (p : ℕ) (x : A) → length xs ≡ length ys → at_number xs p ≡ Some x → (y : B) × (at_number ys p ≡ Some y)
there_too xs ys zero x l e = absurd (none-some x e)
there_too [] [] (suc i) x l e = absurd (none-some x e)
there_too [] (y ∷ ys) (suc i) x l e = absurd (none-some x e)
there_too (z ∷ xs) [] (suc i) x l e = absurd (omega (arith, l))
there_too (z ∷ xs) (y ∷ ys) (suc zero) x l e = (y, refl)
there_too (z ∷ xs) (y ∷ ys) (suc (suc i)) x l e = there_too xs ys (suc i) x (omega (arith, l)) e

no_number : {A B : Type 0} (xs : List A) (ys : List B) (p : ℕ) → length xs ≡ length ys → at_number xs p ≡ None → at_number ys p ≡ None
no_number xs ys zero l e = refl
no_number xs ys (suc i) l e = past xs ys i l e

-- ---- any run in which the lines of each partition tell who works

module _ {C : Type 0} (m : Module C) (names : List (List ℕ)) (devices : List DeviceLine) (n : ℕ) (many : length names ≡ length m.members)
    (works : (p : ℕ) (name : List ℕ) → at_number names p ≡ Some name → owner_in m devices n ≡ Some p → worker_by_lines n (told name (trace m devices (suc n))) ≡ worker m devices n) where
  abbrev lines : List Event
  lines = trace m devices (suc n)

  abbrev f : Frames
  f = frames_after frames.at_first lines

  abbrev ms : List (Member C)
  ms = (before_owner_in m devices n).state

  module _ (at : At) (here : (before_owner_in m devices n).at ≡ Some at) where
    works_in : (p : ℕ) → owner m.plan.schedule at ≡ Some p → (o : Option (List ℕ)) → at_number names p ≡ o → worker_told n lines o ≡ worker m devices n
    works_in p owns None e =
        sym (ap (λ (o : Option At). worker_of m.plan o ms) here ∙ ap (worker_at at ms) owns ∙ ap (chosen_by at) (no_number names ms p (many ∙ sym (run_count m devices n)) e))
    works_in p owns (Some name) e = works p name e (ap (owner_of m.plan) here ∙ owns)

    use_owned : (o : Option ℕ) → owner m.plan.schedule at ≡ o → use_with o (λ p. worker_told n lines (at_number names p)) ≡ use_with o (λ p. worker m devices n)
    use_owned None e = refl
    use_owned (Some p) e = ap (use_by p) (works_in p e (at_number names p) refl)

  use_spent : (o : Option At) → (before_owner_in m devices n).at ≡ o → IsNow n o → HasFrames o f → use_told m.plan.schedule names lines n ≡ use_at m.plan o (worker m devices n)
  use_spent None here e h = ap (λ (b : Bool). use_unless b (owner m.plan.schedule (tick_from f.origin n)) (λ p. worker_told n lines (at_number names p))) h
  use_spent (Some at) here e h =
      ap (λ (b : Bool). use_unless b (owner m.plan.schedule (tick_from f.origin n)) (λ p. worker_told n lines (at_number names p))) h.0
      ∙ ap (λ (i : ℕ). use_with (owner m.plan.schedule (tick_from i n)) (λ p. worker_told n lines (at_number names p))) h.1
      ∙ ap (λ (i : ℕ). use_with (owner m.plan.schedule (tick_from at.origin.0 i)) (λ p. worker_told n lines (at_number names p))) (sym e)
      ∙ use_owned at here (owner m.plan.schedule at) refl

  pub run_use : use_told m.plan.schedule names lines n ≡ use_in m devices n
  run_use = use_spent (before_owner_in m devices n).at refl (run_now m devices n) (run_frames m devices n)

pub run_uses : {C : Type 0} (m : Module C) (names : List (List ℕ)) (devices : List DeviceLine) (n t : ℕ) → length names ≡ length m.members → AreApart names → t < n → n ≤ MOST_TICKS
    → ((p : ℕ) (name : List ℕ) → at_number names p ≡ Some name → owner_in m devices t ≡ Some p → worker_by_lines t (told name (trace m devices (suc t))) ≡ worker m devices t)
    → use_of m.plan.schedule (at_first names) (trace m devices n) t ≡ use_in m devices t
run_uses m names devices n t many apart l few works =
    use_is_told m.plan.schedule names (trace m devices n) t apart (run_order m devices n) (omega (arith, l, few))
    ∙ ap (λ (ls : List Event). use_told m.plan.schedule names ls t) (run_up_to m devices n t l)
    ∙ run_use m names devices t many works

-- ---- the owners, the order of the lines, and the shares, in any run

owner_so : (plan : Plan) (o : Option At) (f : Frames) (t : ℕ) → IsNow t o → HasFrames o f → frames.owner_by plan.schedule f t ≡ owner_of plan o
owner_so plan None f t e h = ap (λ (b : Bool). frames.owner_if b (owner plan.schedule (tick_from f.origin t))) h
owner_so plan (Some at) f t e h =
    ap (λ (b : Bool). frames.owner_if b (owner plan.schedule (tick_from f.origin t))) h.0
    ∙ ap (λ (i : ℕ). owner plan.schedule (tick_from i t)) h.1
    ∙ ap (λ (i : ℕ). owner plan.schedule (tick_from at.origin.0 i)) (sym e)

pub run_owners : {C : Type 0} (m : Module C) (devices : List DeviceLine) (n t : ℕ) → t < n → frames.owner_in m.plan.schedule frames.at_first (trace m devices n) t ≡ owner_in m devices t
run_owners m devices n t l =
    owner_up_to m.plan.schedule frames.at_first (trace m devices n) t
    ∙ ap (λ (ls : List Event). frames.owner_by m.plan.schedule (frames_after frames.at_first ls) t) (run_up_to m devices n t l)
    ∙ owner_so m.plan (before_owner_in m devices t).at (frames_after frames.at_first (trace m devices (suc t))) t (run_now m devices t) (run_frames m devices t)

pub before_in_order : (until from : ℕ) (lines : List Event) → until ≤ MOST_TICKS → from ≤ until → AreInOrder from lines → AreUpTo until lines → AreBefore until from lines
before_in_order until from [] l k h g = k
before_in_order until from (e ∷ es) l k h g =
    let low = h.0 in
    let up = g.0 in
    let is : in_run e.tick.0 ≡ e.tick.0 = omega (arith, up, l) in
    (omega (arith, is, low), subst (λ (n : ℕ). AreBefore until n es) (sym is) (before_in_order until e.tick.0 es l up h.1 g.1))

up_to_later : (n m : ℕ) (lines : List Event) → n ≤ m → AreUpTo n lines → AreUpTo m lines
up_to_later n m [] l h = tt
up_to_later n m (e ∷ es) l h = let up = h.0 in (omega (arith, up, l), up_to_later n m es l h.1)

pub run_before : {C : Type 0} (m : Module C) (devices : List DeviceLine) (n until : ℕ) → n ≤ until → until ≤ MOST_TICKS → AreBefore until 0 (trace m devices n)
run_before m devices zero until l few = omega arith
run_before m devices (suc n) until l few =
    before_in_order until 0 (trace m devices (suc n)) few (omega arith) (run_order m devices (suc n))
    (up_to_later n until (trace m devices (suc n)) (omega (arith, l)) (subst (AreUpTo n) (run_up_to m devices (suc n) n (omega arith)) (up_to_are n (trace m devices (suc n)))))

-- no more ticks than there are
few_ticks : (used : ℕ → Use) (u : Use) (from n : ℕ) → ticks_used used u from n ≤ n
few_ticks used u from zero = omega arith
few_ticks used u from (suc n) = let h = few_ticks used u from n in let k = one_most (is_same (used (from + n)) u) in omega (arith, h, k)
  where
    one_most : (b : Bool) → one_if b ≤ 1
    one_most true = omega arith
    one_most false = omega arith

pub shares_so : (schedule : Schedule) (names : List (List ℕ)) (used : ℕ → Use) (events : List Event) (from until n : ℕ) (rows : List Row) → until ≤ n → n ≤ MOST_TICKS
    → ((t : ℕ) → t < n → use_of schedule (at_first names) events t ≡ used t) → AreSharesOf schedule names from until events rows → (u : Use) → ticks_for u rows ≡ ticks_used used u from (until - from)
shares_so schedule names used events from until n rows l few same shares u =
    let k = few_ticks used u from (until - from) in
    let fits : capped (ticks_used used u from (until - from)) ≡ ticks_used used u from (until - from) = omega (arith, k, l, few) in
    shares u ∙ ap capped (alike (use_of schedule (at_first names) events) used u from from (until - from) (λ i h. same (from + i) (omega (arith, h, l)))) ∙ fits

-- ---- rows with names

-- a name is of a row
pub named_row : {A : Type 0} (f : A → List ℕ) (xs : List A) (p : ℕ) (name : List ℕ) → at_number (map f xs) p ≡ Some name → (x : A) × ((at_number xs p ≡ Some x) × (f x ≡ name))
named_row f xs zero name e = absurd (none-some name e)
named_row f xs (suc i) name e = by_row (slice_get xs i) refl
  where
    by_row : (o : Option _) → slice_get xs i ≡ o → (x : _) × ((slice_get xs i ≡ Some x) × (f x ≡ name))
    by_row None g = absurd (none-some name (sym (slice_get-map f xs i ∙ ap (option_map f) g) ∙ e))
    by_row (Some x) g = (x, (g, same_Some (f x) name (sym (slice_get-map f xs i ∙ ap (option_map f) g) ∙ e)))

-- ---- images

pub image_many : (image : Image) → length (names_of_image image) ≡ length (machine_members (costs_of image.version) image.schedule 1 image.items)
image_many image =
    let a = ap (λ (ns : List (List ℕ)). length ns) (members_named (costs_of image.version) image.schedule 1 image.items) in
    sym a ∙ length-map (machine_members (costs_of image.version) image.schedule 1 image.items) name_of

pub image_uses : (image : Image) (devices : List DeviceLine) (n t : ℕ) → IsLawful image → t < n → n ≤ MOST_TICKS
    → use_of image.schedule (at_first (names_of_image image)) (machine_trace image devices n) t ≡ use_in (machine_module image) devices t
image_uses image devices n t lawful l few =
    run_uses (machine_module image) (names_of_image image) devices n t (image_many image) (image_all_apart image lawful) l few
    (λ p name e owns.
    let r = named_row name_of_item image.items p name e in
    let c = r.1 in
    subst (λ (x : List ℕ). worker_by_lines t (told x (machine_trace image devices (suc t))) ≡ worker (machine_module image) devices t) c.1 (image_worker image devices t p r.0 lawful c.0 owns))

-- ---- modules

pub sourced : (costs : Costs) (s : Schedule) (number : ℕ) (rows : List Partition) (sources : List (List ℕ)) (programs : List Program) → AreAccepted rows sources programs → map name_of (source_members costs s number rows programs) ≡ map name_of_row rows
sourced costs s number [] [] [] h = refl
sourced costs s number [] [] (q ∷ qs) h = absurd h
sourced costs s number [] (t ∷ ts) qs h = absurd h
sourced costs s number (r ∷ rs) [] qs h = absurd h
sourced costs s number (r ∷ rs) (t ∷ ts) [] h = absurd h
sourced costs s number (r ∷ rs) (t ∷ ts) (q ∷ qs) h = ap (λ (ns : List (List ℕ)). r.name ∷ ns) (sourced costs s (number + 1) rs ts qs h.1)

pub module_many : (table : List ℕ) (sources : List (List ℕ)) (t : Table) (programs : List Program) → IsModule table sources t programs → length (names_of_table t) ≡ length (source_members t.costs t.schedule 1 t.partitions programs)
module_many table sources t programs accepted =
    sym (ap (λ (ns : List (List ℕ)). length ns) (sourced t.costs t.schedule 1 t.partitions sources programs accepted.accepted)) ∙ length-map (source_members t.costs t.schedule 1 t.partitions programs) name_of

pub module_uses : (table : List ℕ) (sources : List (List ℕ)) (t : Table) (programs : List Program) (devices : List DeviceLine) (n i : ℕ) → IsModule table sources t programs → i < n → n ≤ MOST_TICKS
    → use_of t.schedule (at_first (names_of_table t)) (source_trace t programs devices n) i ≡ use_in (source_module t programs) devices i
module_uses table sources t programs devices n i accepted l few =
    run_uses (source_module t programs) (names_of_table t) devices n i (module_many table sources t programs accepted) apart l few
    (λ p name e owns.
    let r = named_row name_of_row t.partitions p name e in
    let c = r.1 in
    subst (λ (x : List ℕ). worker_by_lines i (told x (source_trace t programs devices (suc i))) ≡ worker (source_module t programs) devices i) c.1 (module_worker table sources t programs devices i accepted p r.0 c.0 owns))
  where
    apart : AreApart (names_of_table t)
    apart = subst AreApart (sourced t.costs t.schedule 1 t.partitions sources programs accepted.accepted) (all_apart accepted.rows.0 t programs accepted.rows.2)
