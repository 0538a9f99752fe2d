-- Which part of the findings a finding on NORMAL or on creation comes from.
use Rattle.std.proofs.Common.{◌≡◌, ◌≢◌, ◌⊎◌, ℕ, suc, ◌+◌, Bool, true, false, List, [], ◌∷◌, ◌++◌, Option, Some, None, inl, inr, refl, sym, ap, ◌∙◌, subst}
use Rattle.std.specs.Prelude.{◌&&◌, flat_map, if◌then◌else◌, slice_get}
use Rattle.std.specs.List.{list_any}
use Rattle.std.proofs.lemmas.Bool.{false≢true}
use Rattle.apex_types.specs.declared.denotation.ObjectKind.{ObjectKind}
use Rattle.apex_types.specs.declared.denotation.ObjectKind.TheVariants as object
use Rattle.apex_types.specs.declared.row.PortRow.{PortRow}
use Rattle.apex_types.specs.declared.service.Service.{Service}
use Rattle.module_meaning.specs.Table.{Partition}
use Rattle.pal_meaning.specs.Syntax as written
use Rattle.lint.specs.Arrays.{array_of, is_beyond, long_length, long_length_of, name_or_none, small_array, small_array_of}
use Rattle.lint.specs.Calls.{Call, all_calls, calls_of_init, calls_of_procedures, done_in}
use Rattle.lint.specs.Does.{found_at_call, found_at_mention, unset_number}
use Rattle.lint.specs.Findings.{body_findings, creation_findings, findings, port_findings, round_findings, wait_findings}
use Rattle.lint.specs.Lives.{Creation, NormalMode, Signal, Wait, Wanted, all_never_signalled, found, is_kind, long_capacity, may_wait, never_signalled, takes_no_error, handler_never_created, lacking, meets, never_created, never_normal, never_started, object_kind, objects_never_created, processes_never_created, wait_in_init, waits_in_init, without_wait, without_waits}
use Rattle.lint.specs.Locks.{locked_after, locked_in_body, locked_in_kind, locked_waits, wait_while_locked, waits_while_locked, waits_while_locked_in}
use Rattle.lint.specs.Mentions.{Mention, Read, Element, Apply, Write, ByZero, Test, Ask, Leave, Endless, all_mentions}
use Rattle.lint.specs.Plain.{Plain, first_of, name_in, plains}
use Rattle.lint.specs.Ports.{better_row, contradicts_direction, contradicts_kind, is_for_ports, port_of_call, undeclared_port, unknown_port, wrong_use, wrong_use_of}
use Rattle.lint.specs.Recursion.{endless_procedure}
use Rattle.lint.specs.Services.{numbered_kind, port_direction, port_kind, sent_kind, stored_kind, takes_number}
use Rattle.lint.specs.Unused.{all_names, names_of, unused, unused_declaration, unused_in_body, unused_in_handler, unused_in_kind, unused_names}
use Rattle.lint.specs.Uses.{is_unset}
use Rattle.lint.specs.Views.{Found, if_so}
use Rattle.lint.specs.declared.finding.FindingKind.{FindingKind}
use Rattle.lint.specs.declared.finding.FindingKind.TheVariants as finding
use Rattle.lint_laws.specs.Among.{IsListed}

listed_in : (f : Found) (a b : List Found) → IsListed f (a ++ b) → IsListed f a ⊎ IsListed f b
listed_in f [] b h = inr h
listed_in f (x ∷ a) b (inl e) = inl (inl e)
listed_in f (x ∷ a) b (inr h) = later (listed_in f a b h)
  where
    later : IsListed f a ⊎ IsListed f b → IsListed f (x ∷ a) ⊎ IsListed f b
    later (inl k) = inl (inr k)
    later (inr k) = inr k

-- ---- findings of other kinds

watched : FindingKind → Bool
watched finding.NeverCreated = true
watched finding.NeverNormal = true
watched _ = false

abbrev ArePlain : List Found → Type 0
ArePlain [] = Unit {0}
ArePlain (f ∷ fs) = (watched f.kind ≡ false) × ArePlain fs

plain_absent : (f : Found) (fs : List Found) → watched f.kind ≡ true → ArePlain fs → IsListed f fs → ⊥
plain_absent f [] w p h = h
plain_absent f (g ∷ gs) w p (inl e) = false≢true (sym p.0 ∙ ap (λ (x : Found). watched x.kind) e ∙ w)
plain_absent f (g ∷ gs) w p (inr h) = plain_absent f gs w p.1 h

-- it is in the first of two lists
first_part : (f : Found) (a b : List Found) → watched f.kind ≡ true → ArePlain b → IsListed f (a ++ b) → IsListed f a
first_part f a b w p h = by_part (listed_in f a b h)
  where
    by_part : IsListed f a ⊎ IsListed f b → IsListed f a
    by_part (inl k) = k
    by_part (inr k) = absurd (plain_absent f b w p k)

both : (a b : List Found) → ArePlain a → ArePlain b → ArePlain (a ++ b)
both [] b h k = k
both (x ∷ a) b h k = (h.0, both a b h.1 k)

either : (b : Bool) (x y : List Found) → ArePlain x → ArePlain y → ArePlain (if b then x else y)
either true x y h k = h
either false x y h k = k

each : {A : Type 0} (g : A → List Found) → ((x : A) → ArePlain (g x)) → (xs : List A) → ArePlain (flat_map g xs)
each g h [] = tt
each g h (x ∷ xs) = both (g x) (flat_map g xs) (h x) (each g h xs)

better_plain : (own : ℕ) (ds : List written.Declaration) (rows : List Partition) → ArePlain (better_row own ds rows)
unfolding watched
better_plain own ds [] = tt
better_plain own ds (row ∷ rows) = either _ (record { kind = finding.FitsAnother; subject = row.name } ∷ []) (better_row own ds rows) (refl, tt) (better_plain own ds rows)

so_plain : (b : Bool) (f : Found) → watched f.kind ≡ false → ArePlain (if_so b f)
so_plain true f h = (h, tt)
so_plain false f h = tt

wrong_use_plain : (c : Call) (o : Option PortRow) → ArePlain (wrong_use_of c o)
unfolding watched
wrong_use_plain c None = tt
wrong_use_plain c (Some row) =
    let kind : Found = record { kind = finding.WrongKind; subject = row.name } in
    let direction : Found = record { kind = finding.WrongDirection; subject = row.name } in
    let b = contradicts_kind (port_kind c.service) row in
    let d = contradicts_direction (port_direction c.service) row.direction in
    both (if_so b kind) (if_so d direction) (so_plain b kind refl) (so_plain d direction refl)

length_plain : (ports : List PortRow) (ds : List written.Declaration) (o : Option ObjectKind) (c : Call) → ArePlain (long_length_of ports ds o c)
unfolding watched
length_plain ports ds None c = tt
length_plain ports ds (Some k) c = either _ (_ ∷ []) [] (refl, tt) tt

array_plain : (ports : List PortRow) (ds : List written.Declaration) (o : Option ObjectKind) (c : Call) → ArePlain (small_array_of ports ds o c)
unfolding watched
array_plain ports ds None c = tt
array_plain ports ds (Some k) c = either _ (_ ∷ []) [] (refl, tt) tt

call_plain : (ports : List PortRow) (ds : List written.Declaration) (c : Call) → ArePlain (found_at_call ports ds c)
unfolding watched
call_plain ports ds c =
    let uses = wrong_use ports c in
    let arrays = small_array ports ds c in
    let lengths = long_length ports ds c in
    let name : Found = record { kind = finding.UnsetNumber; subject = name_or_none (name_in (first_of c.arguments)) } in
    let at_port = either (is_for_ports (port_kind c.service)) (wrong_use_of c (port_of_call ports (numbered_kind c.service) c)) [] (wrong_use_plain c (port_of_call ports (numbered_kind c.service) c)) tt in
    let both_arrays = both uses arrays at_port (array_plain ports ds (stored_kind c.service) c) in
    let all = both (uses ++ arrays) lengths both_arrays (length_plain ports ds (sent_kind c.service) c) in
    both (uses ++ arrays ++ lengths) (unset_number c) all (so_plain (takes_number c.service && is_unset c.id) name refl)

mention_plain : (ds : List written.Declaration) (m : Mention) → ArePlain (found_at_mention ds m)
unfolding watched
mention_plain ds (Element array index) = either _ (_ ∷ []) [] (refl, tt) tt
mention_plain ds ByZero = (refl, tt)
mention_plain ds Endless = (refl, tt)
mention_plain ds (Read name) = tt
mention_plain ds (Apply name arguments) = tt
mention_plain ds (Write name thing) = tt
mention_plain ds Test = tt
mention_plain ds (Ask may_wait) = tt
mention_plain ds Leave = tt

procedure_plain : (k : written.Kind) (name : List ℕ) → ArePlain (endless_procedure k name)
unfolding watched
procedure_plain (written.Procedure parameters body) name = either _ (_ ∷ []) [] (refl, tt) tt
procedure_plain (written.Variable value) name = tt
procedure_plain (written.Array size values) name = tt
procedure_plain (written.Semaphore first maximum discipline) name = tt
procedure_plain written.Event name = tt
procedure_plain (written.Buffer words messages discipline) name = tt
procedure_plain (written.Blackboard words) name = tt
procedure_plain written.Port name = tt

bodies_plain : (p : written.Program) → ArePlain (body_findings p)
bodies_plain p =
    both _ _ (each (found_at_mention p.declarations) (mention_plain p.declarations) (all_mentions p)) (each (λ d. endless_procedure d.kind d.name) (λ d. procedure_plain d.kind d.name) p.declarations)

signals_plain : (calls : List Call) (kind : ObjectKind) (number : ℕ) (ds : List written.Declaration) → ArePlain (all_never_signalled calls kind number ds)
unfolding watched
signals_plain calls kind number [] = tt
signals_plain calls kind number (d ∷ ds) =
    let f = found finding.NeverSignalled d.name in
    let one = either (list_any (meets (Wait kind number d.name)) calls) (lacking (Signal kind number d.name) calls f) [] (either (list_any (meets (Signal kind number d.name)) calls) [] (f ∷ []) tt (refl, tt)) tt in
    let rest = all_never_signalled calls kind (number + 1) ds in
    either (is_kind kind (object_kind d.kind)) (never_signalled calls kind number d.name ++ rest) (all_never_signalled calls kind number ds)
    (both (never_signalled calls kind number d.name) rest one (signals_plain calls kind (number + 1) ds)) (signals_plain calls kind number ds)

error_plain : (done : List Mention) (calls : List Call) (o : Option written.StackBody) → ArePlain (takes_no_error done calls o)
unfolding watched
error_plain done calls None = tt
error_plain done calls (Some b) = either _ [] (_ ∷ []) tt (refl, tt)

handler_plain : (calls : List Call) (o : Option written.StackBody) → ArePlain (handler_never_created calls o)
unfolding watched
handler_plain calls None = tt
handler_plain calls (Some b) = either _ [] (_ ∷ []) tt (refl, tt)

started_plain : (calls : List Call) (number : ℕ) (ps : List written.Process) → ArePlain (never_started calls number ps)
unfolding watched
started_plain calls number [] = tt
started_plain calls number (p ∷ ps) = both _ (never_started calls (number + 1) ps) (either _ [] (found finding.NeverStarted p.name ∷ []) tt (refl, tt)) (started_plain calls (number + 1) ps)

declaration_plain : (names : List (List ℕ)) (k : written.Kind) (name : List ℕ) → ArePlain (unused_declaration names k name)
unfolding watched
declaration_plain names (written.Variable value) name = either _ [] (found finding.UnusedVariable name ∷ []) tt (refl, tt)
declaration_plain names (written.Array size values) name = either _ [] (found finding.UnusedVariable name ∷ []) tt (refl, tt)
declaration_plain names (written.Procedure parameters body) name = either _ [] (found finding.UnusedProcedure name ∷ []) tt (refl, tt)
declaration_plain names (written.Semaphore first maximum discipline) name = tt
declaration_plain names written.Event name = tt
declaration_plain names (written.Buffer words messages discipline) name = tt
declaration_plain names (written.Blackboard words) name = tt
declaration_plain names written.Port name = tt

body_plain : (parameters : List (List ℕ)) (b : written.Body) → ArePlain (unused_in_body parameters b)
unfolding watched
body_plain parameters b =
    both _ _ (each (unused (names_of b) finding.UnusedParameter) (λ n. either _ [] (found finding.UnusedParameter n ∷ []) tt (refl, tt)) parameters)
    (each (unused (names_of b) finding.UnusedVariable) (λ n. either _ [] (found finding.UnusedVariable n ∷ []) tt (refl, tt)) b.locals)

unused_handler_plain : (o : Option written.StackBody) → ArePlain (unused_in_handler o)
unused_handler_plain None = tt
unused_handler_plain (Some b) = body_plain [] b.body

kind_plain : (k : written.Kind) → ArePlain (unused_in_kind k)
kind_plain (written.Procedure parameters body) = body_plain parameters body
kind_plain (written.Variable value) = tt
kind_plain (written.Array size values) = tt
kind_plain (written.Semaphore first maximum discipline) = tt
kind_plain written.Event = tt
kind_plain (written.Buffer words messages discipline) = tt
kind_plain (written.Blackboard words) = tt
kind_plain written.Port = tt

unused_plain : (p : written.Program) → ArePlain (unused_names p)
unused_plain p =
    both _ _ (both _ _ (both _ _ (both _ _ (each (λ d. unused_declaration (all_names p) d.kind d.name) (λ d. declaration_plain (all_names p) d.kind d.name) p.declarations)
    (body_plain [] p.init.body)) (unused_handler_plain p.handler)) (each (λ q. unused_in_body [] q.body) (λ q. body_plain [] q.body) p.processes)) (each (λ d. unused_in_kind d.kind) (λ d. kind_plain d.kind) p.declarations)

ports_plain : (rows : List Partition) (ports : List PortRow) (p : written.Program) → ArePlain (port_findings rows ports p)
unfolding watched
ports_plain rows ports p =
    both _ _ (both _ _ (both _ _ (each (unknown_port ports) (λ d. either _ (record { kind = finding.UnknownPort; subject = d.name } ∷ []) [] (refl, tt) tt) p.declarations)
    (better_plain _ p.declarations rows)) (each (undeclared_port p.declarations) (λ r. either _ [] (record { kind = finding.UndeclaredPort; subject = r.name } ∷ []) tt (refl, tt)) ports))
    (each (found_at_call ports p.declarations) (call_plain ports p.declarations) (all_calls p))

waits_plain : (p : written.Program) → ArePlain (waits_in_init p)
unfolding watched
waits_plain p = each wait_in_init (λ c. either _ (_ ∷ []) [] (refl, tt) tt) (calls_of_init p)

locked_plain : (locked : Bool) (s : Service) (arguments : List Plain) → ArePlain (wait_while_locked locked s arguments)
unfolding watched
locked_plain locked s arguments = either _ (_ ∷ []) [] (refl, tt) tt

mutual
  locked_block_plain : (locked : Bool) (b : written.Block) → ArePlain (waits_while_locked locked b)
  locked_block_plain locked written.NoStmt = tt
  locked_block_plain locked (written.MoreStmts s rest) = both _ _ (locked_stmt_plain locked s) (locked_block_plain (locked_after locked s) rest)

  locked_stmt_plain : (locked : Bool) (s : written.Stmt) → ArePlain (waits_while_locked_in locked s)
  locked_stmt_plain locked (written.CallService s arguments targets) = locked_plain locked s (plains arguments)
  locked_stmt_plain locked (written.If test block) = locked_block_plain locked block
  locked_stmt_plain locked (written.IfElse test block other) = both _ _ (locked_block_plain locked block) (locked_block_plain locked other)
  locked_stmt_plain locked (written.While test block) = locked_block_plain locked block
  locked_stmt_plain locked (written.Assign target value) = tt
  locked_stmt_plain locked (written.AssignElement array index value) = tt
  locked_stmt_plain locked (written.Work ticks) = tt
  locked_stmt_plain locked (written.Return value) = tt

locked_kind_plain : (k : written.Kind) → ArePlain (locked_in_kind k)
locked_kind_plain (written.Procedure parameters body) = locked_block_plain false body.block
locked_kind_plain (written.Variable value) = tt
locked_kind_plain (written.Array size values) = tt
locked_kind_plain (written.Semaphore first maximum discipline) = tt
locked_kind_plain written.Event = tt
locked_kind_plain (written.Buffer words messages discipline) = tt
locked_kind_plain (written.Blackboard words) = tt
locked_kind_plain written.Port = tt

locks_plain : (p : written.Program) → ArePlain (locked_waits p)
locks_plain p = both _ _ (each (λ q. locked_in_body q.body) (λ q. locked_block_plain false q.body.block) p.processes) (each (λ d. locked_in_kind d.kind) (λ d. locked_kind_plain d.kind) p.declarations)

periods_plain : (p : written.Program) → ArePlain (round_findings p)
unfolding watched
periods_plain p =
    let done = done_in p in
    let procedures = calls_of_procedures done p.declarations in
    both _ _ (both _ _ (each (without_wait done procedures) (λ q. either q.period.negative [] _ tt (either _ [] (found finding.NoPeriodicWait q.name ∷ []) tt (refl, tt))) p.processes)
    (each long_capacity (λ q. either _ (found finding.LongCapacity q.name ∷ []) [] (refl, tt) tt) p.processes)) (error_plain done procedures p.handler)

-- ---- the three parts that remain

-- those on creation
abbrev made_part : written.Program → List Found
made_part p = objects_never_created (all_calls p) p.declarations ++ processes_never_created (all_calls p) p.processes

-- the others of the same group
later_plain : (f : Found) (p : written.Program) → watched f.kind ≡ true → IsListed f (creation_findings p) → IsListed f (made_part p)
later_plain f p w h =
    let calls = all_calls p in
    let start = made_part p ++ handler_never_created calls p.handler in
    let started = start ++ never_started calls 1 p.processes in
    let semaphores = all_never_signalled calls object.Semaphore 1 p.declarations in
    let events = all_never_signalled calls object.Event 1 p.declarations in
    let one = first_part f (started ++ semaphores) events w (signals_plain calls object.Event 1 p.declarations) h in
    let two = first_part f started semaphores w (signals_plain calls object.Semaphore 1 p.declarations) one in
    let three = first_part f start (never_started calls 1 p.processes) w (started_plain calls 1 p.processes) two in
    first_part f (made_part p) (handler_never_created calls p.handler) w (handler_plain calls p.handler) three

-- on creation, or on NORMAL
watched_part : (f : Found) (rows : List Partition) (ports : List PortRow) (p : written.Program) → watched f.kind ≡ true → IsListed f (findings rows ports p)
    → (IsListed f (objects_never_created (all_calls p) p.declarations) ⊎ IsListed f (processes_never_created (all_calls p) p.processes)) ⊎ IsListed f (never_normal p)
watched_part f rows ports p w h =
    let own = port_findings rows ports p ++ body_findings p in
    let made = own ++ creation_findings p in
    let all = first_part f (made ++ wait_findings p) (unused_names p) w (unused_plain p) h in
    by_part (listed_in f made (wait_findings p) all)
  where
    by_made : IsListed f (port_findings rows ports p ++ body_findings p) ⊎ IsListed f (creation_findings p) → IsListed f (objects_never_created (all_calls p) p.declarations) ⊎ IsListed f (processes_never_created (all_calls p) p.processes)
    by_made (inl k) = absurd (plain_absent f _ w (both _ _ (ports_plain rows ports p) (bodies_plain p)) k)
    by_made (inr k) = listed_in f (objects_never_created (all_calls p) p.declarations) (processes_never_created (all_calls p) p.processes) (later_plain f p w k)

    by_part : IsListed f (port_findings rows ports p ++ body_findings p ++ creation_findings p) ⊎ IsListed f (wait_findings p) → (IsListed f (objects_never_created (all_calls p) p.declarations) ⊎ IsListed f (processes_never_created (all_calls p) p.processes)) ⊎ IsListed f (never_normal p)
    by_part (inl k) = inl (by_made (listed_in f (port_findings rows ports p ++ body_findings p) (creation_findings p) k))
    by_part (inr k) = inr (first_part f (never_normal p) (round_findings p) w (periods_plain p) (first_part f (never_normal p ++ round_findings p) (waits_in_init p) w (waits_plain p) (first_part f (never_normal p ++ round_findings p ++ waits_in_init p) (locked_waits p) w (locks_plain p) k)))

-- ---- what each of them says

listed_flat : {A : Type 0} (f : Found) (g : A → List Found) (xs : List A) → IsListed f (flat_map g xs) → (x : A) × (i : ℕ) × (slice_get xs i ≡ Some x) × IsListed f (g x)
listed_flat f g [] h = absurd h
listed_flat {A = A} f g (x ∷ xs) h = by_part (listed_in f (g x) (flat_map g xs) h) (listed_flat f g xs)
  where
    by_part : IsListed f (g x) ⊎ IsListed f (flat_map g xs) → (IsListed f (flat_map g xs) → (y : A) × (i : ℕ) × (slice_get xs i ≡ Some y) × IsListed f (g y)) → (y : A) × (i : ℕ) × (slice_get (x ∷ xs) i ≡ Some y) × IsListed f (g y)
    by_part (inl k) rest = (x, 0, refl, k)
    by_part (inr k) rest = let r = rest k in (r.0, suc r.1, r.2, r.3)

lacks : (wanted : Wanted) (calls : List Call) (x f : Found) → IsListed f (lacking wanted calls x) → (list_any (meets wanted) calls ≡ false) × (x ≡ f)
lacks wanted calls x f h = by_test (list_any (meets wanted) calls) h
  where
    by_test : (b : Bool) → IsListed f (if b then [] else x ∷ []) → (b ≡ false) × (x ≡ f)
    by_test true k = absurd k
    by_test false (inl e) = (refl, e)
    by_test false (inr k) = absurd k

created_is : (calls : List Call) (o : Option ObjectKind) (name : List ℕ) (f : Found) → IsListed f (never_created calls o name) → found finding.NeverCreated name ≡ f
created_is calls None name f h = absurd h
created_is calls (Some k) name f h = let l = lacks (Creation k name) calls (found finding.NeverCreated name) f h in l.1

abbrev kind_in : Found → FindingKind
kind_in f = f.kind

abbrev subject_in : Found → List ℕ
subject_in f = f.subject

pub normal_is_listed : (rows : List Partition) (ports : List PortRow) (p : written.Program) → IsListed (found finding.NeverNormal []) (findings rows ports p) → list_any (meets NormalMode) (calls_of_init p ++ calls_of_procedures (done_in p) p.declarations) ≡ false
unfolding watched
normal_is_listed rows ports p h = by_part (watched_part (found finding.NeverNormal []) rows ports p refl h)
  where
    other : (name : List ℕ) → found finding.NeverCreated name ≡ found finding.NeverNormal [] → ⊥
    other name e = let k : finding.NeverCreated ≡ finding.NeverNormal = ap kind_in e in cc

    by_part : (IsListed (found finding.NeverNormal []) (objects_never_created (all_calls p) p.declarations) ⊎ IsListed (found finding.NeverNormal []) (processes_never_created (all_calls p) p.processes)) ⊎ IsListed (found finding.NeverNormal []) (never_normal p)
        → list_any (meets NormalMode) (calls_of_init p ++ calls_of_procedures (done_in p) p.declarations) ≡ false
    by_part (inl (inl k)) = let r = listed_flat _ (λ d. never_created (all_calls p) (object_kind d.kind) d.name) p.declarations k in absurd (other r.0.name (created_is (all_calls p) (object_kind r.0.kind) r.0.name _ r.3))
    by_part (inl (inr k)) = let r = listed_flat _ (λ q. never_created (all_calls p) (Some object.Process) q.name) p.processes k in absurd (other r.0.name (created_is (all_calls p) (Some object.Process) r.0.name _ r.3))
    by_part (inr k) = let l = lacks NormalMode (calls_of_init p ++ calls_of_procedures (done_in p) p.declarations) (found finding.NeverNormal []) _ k in l.0

-- if no declaration has the name of the process
pub creation_is_listed : (rows : List Partition) (ports : List PortRow) (p : written.Program) (name : List ℕ) → ((i : ℕ) (d : written.Declaration) → slice_get p.declarations i ≡ Some d → d.name ≢ name)
    → IsListed (found finding.NeverCreated name) (findings rows ports p) → list_any (meets (Creation object.Process name)) (all_calls p) ≡ false
unfolding watched
creation_is_listed rows ports p name apart h = by_part (watched_part (found finding.NeverCreated name) rows ports p refl h)
  where
    by_part : (IsListed (found finding.NeverCreated name) (objects_never_created (all_calls p) p.declarations) ⊎ IsListed (found finding.NeverCreated name) (processes_never_created (all_calls p) p.processes)) ⊎ IsListed (found finding.NeverCreated name) (never_normal p)
        → list_any (meets (Creation object.Process name)) (all_calls p) ≡ false
    by_part (inl (inl k)) =
        let r = listed_flat _ (λ d. never_created (all_calls p) (object_kind d.kind) d.name) p.declarations k in
        absurd (apart r.1 r.0 r.2 (ap subject_in (created_is (all_calls p) (object_kind r.0.kind) r.0.name _ r.3)))
    by_part (inl (inr k)) =
        let r = listed_flat _ (λ q. never_created (all_calls p) (Some object.Process) q.name) p.processes k in
        let l = lacks (Creation object.Process r.0.name) (all_calls p) (found finding.NeverCreated r.0.name) _ r.3 in
        subst (λ (n : List ℕ). list_any (meets (Creation object.Process n)) (all_calls p) ≡ false) (ap subject_in l.1) l.0
    by_part (inr k) =
        let l = lacks NormalMode (calls_of_init p ++ calls_of_procedures (done_in p) p.declarations) (found finding.NeverNormal []) _ k in
        let e : finding.NeverNormal ≡ finding.NeverCreated = ap kind_in l.1 in
        absurd (cc)
