-- The roles of the names of a program, by its entries with their meanings.
use Rattle.finding_laws.proofs.Prelude.{◌≡◌, ℕ, ◌+◌, Bool, cond, ◌∷◌, ◌++◌, Option, Some, is_some, ◌∙◌, append_assoc, append-nil, bytes_eq, map-append, Denotation, MOST_PROCESSES, Slot, PortRow, Counts, after, declaration_entries, declared_meaning, find, no_counts, own_entries, process_entries, scope_of, Entry, declaration_entry, is_nothing, own_entry, process_entry, role_of, Role}
use Rattle.std.proofs.Common.{true, false, not, List, [], map, None, refl, sym, ap}
use Rattle.std.specs.Option.{unwrap_or}
use Rattle.apex_types.specs.declared.denotation.Denotation.TheVariants as denotation
use Rattle.pal_meaning.specs.Resolve as meant
use Rattle.pal_meaning.specs.Resolve.{counted}
use Rattle.pal_meaning.specs.Syntax as written
use Rattle.source_findings.specs.Bodies.{all_before, with_own}
use Rattle.source_findings.specs.Roles.{declared_entries, declared_role, entry, or_else}
use Rattle.source_findings.specs.declared.roles.Role.TheVariants as role

-- the role of a name with this meaning
abbrev pub role_as : Option Denotation → Role
role_as None = role.Nothing
role_as (Some (denotation.Scalar place)) = role.Variable
role_as (Some (denotation.Array place size)) = role.Array
role_as (Some (denotation.Object kind number)) = role.Object kind
role_as (Some (denotation.Procedure number parameters)) = role.Procedure parameters

abbrev pub to_role : meant.Entry → Entry
to_role e = entry e.name (role_as (Some e.meaning))

role_step : (b : Bool) (m : Denotation) (r : Role) (o : Option Denotation) → r ≡ role_as o → cond b (role_as (Some m)) r ≡ role_as (cond b (Some m) o)
role_step true m r o h = refl
role_step false m r o h = h

pub same_role : (name : List ℕ) (es : List meant.Entry) → role_of name (map to_role es) ≡ role_as (find name es)
same_role name [] = refl
same_role name (e ∷ es) = role_step (bytes_eq e.name name) e.meaning (role_of name (map to_role es)) (find name es) (same_role name es)

both_roles : (own declared : Option Denotation) → or_else (role_as own) (role_as declared) ≡ role_as (meant.or_else own declared)
both_roles None declared = refl
both_roles (Some (denotation.Scalar place)) declared = refl
both_roles (Some (denotation.Array place size)) declared = refl
both_roles (Some (denotation.Object kind number)) declared = refl
both_roles (Some (denotation.Procedure number parameters)) declared = refl

-- in a body
pub in_scope : (name : List ℕ) (own declared : List meant.Entry) → or_else (role_of name (map to_role own)) (role_of name (map to_role declared)) ≡ role_as (scope_of own declared name)
in_scope name own declared =
    ap (λ r. or_else r (role_of name (map to_role declared))) (same_role name own)
    ∙ ap (λ r. or_else (role_as (find name own)) r) (same_role name declared)
    ∙ both_roles (find name own) (find name declared)

pub known : (o : Option Denotation) → not (is_nothing (role_as o)) ≡ is_some o
known None = refl
known (Some (denotation.Scalar place)) = refl
known (Some (denotation.Array place size)) = refl
known (Some (denotation.Object kind number)) = refl
known (Some (denotation.Procedure number parameters)) = refl

pub unknown : (o : Option Denotation) → is_nothing (role_as o) ≡ not (is_some o)
unknown None = refl
unknown (Some (denotation.Scalar place)) = refl
unknown (Some (denotation.Array place size)) = refl
unknown (Some (denotation.Object kind number)) = refl
unknown (Some (denotation.Procedure number parameters)) = refl

-- ---- the entries of declarations, processes, parameters and locals

same_declared : (ports : List PortRow) (c : Counts) (name : List ℕ) (k : written.Kind) → role_as (Some (declared_meaning ports c name k)) ≡ declared_role k
same_declared ports c name (written.Variable value) = refl
same_declared ports c name (written.Array size values) = refl
same_declared ports c name (written.Semaphore first maximum discipline) = refl
same_declared ports c name written.Event = refl
same_declared ports c name (written.Buffer words messages discipline) = refl
same_declared ports c name (written.Blackboard words) = refl
same_declared ports c name written.Port = refl
same_declared ports c name (written.Procedure parameters body) = refl

pub declaration_is : (ports : List PortRow) (c : Counts) (d : written.Declaration) → to_role (record { name = d.name; meaning = declared_meaning ports c d.name d.kind }) ≡ declaration_entry d
declaration_is ports c d = ap (entry d.name) (same_declared ports c d.name d.kind)

-- the counts after a declaration
abbrev pub next_counts : Counts → written.Declaration → Counts
next_counts c d = unwrap_or (after c d.kind) c

pub declarations_are : (ports : List PortRow) (c : Counts) (ds : List written.Declaration) → map to_role (declaration_entries ports c ds) ≡ map declaration_entry ds
declarations_are ports c [] = refl
declarations_are ports c (d ∷ ds) =
    ap (λ e. e ∷ map to_role (declaration_entries ports (next_counts c d) ds)) (declaration_is ports c d)
    ∙ ap (λ es. declaration_entry d ∷ es) (declarations_are ports (next_counts c d) ds)

pub processes_are : (count : ℕ) (ps : List written.Process) → map to_role (process_entries count ps) ≡ map process_entry ps
processes_are count [] = refl
processes_are count (p ∷ ps) = ap (λ es. process_entry p ∷ es) (processes_are (unwrap_or (counted MOST_PROCESSES count 1) count) ps)

pub all_are : (ports : List PortRow) (p : written.Program) → map to_role (meant.declared_entries ports p) ≡ declared_entries p
all_are ports p =
    map-append to_role (declaration_entries ports no_counts p.declarations) (process_entries 0 p.processes)
    ∙ ap (λ es. es ++ map to_role (process_entries 0 p.processes)) (declarations_are ports no_counts p.declarations)
    ∙ ap (λ es. map declaration_entry p.declarations ++ es) (processes_are 0 p.processes)

pub one_more : (before : List meant.Entry) (e : meant.Entry) → map to_role before ++ to_role e ∷ [] ≡ map to_role (before ++ e ∷ [])
one_more before e = sym (map-append to_role before (e ∷ []))

pub own_are : (place : ℕ) (before : List meant.Entry) (names : List (List ℕ)) → with_own (map to_role before) names ≡ map to_role (before ++ own_entries place names)
own_are place before [] = ap (map to_role) (sym (append-nil before))
own_are place before (x ∷ xs) =
    let e : meant.Entry = record { name = x; meaning = denotation.Scalar (Slot (meant.slot place)) } in
    ap (λ es. with_own es xs) (one_more before e)
    ∙ own_are (place + 1) (before ++ e ∷ []) xs
    ∙ ap (map to_role) (append_assoc before (e ∷ []) (own_entries (place + 1) xs))

pub own_both : (before : List Entry) (xs ys : List (List ℕ)) → with_own before (xs ++ ys) ≡ with_own (with_own before xs) ys
own_both before [] ys = refl
own_both before (x ∷ xs) ys = own_both (before ++ own_entry x ∷ []) xs ys

pub before_processes : (before : List Entry) (ds : List written.Declaration) → all_before before ds ≡ before ++ map declaration_entry ds
before_processes before [] = sym (append-nil before)
before_processes before (d ∷ ds) = before_processes (before ++ declaration_entry d ∷ []) ds ∙ append_assoc before (declaration_entry d ∷ []) (map declaration_entry ds)
