-- A name is wrong if and only if one is found: one that appears twice, or names nothing.
use Rattle.finding_laws.proofs.Prelude.{◌≡◌, ℕ, ◌+◌, ◌&&◌, ◌||◌, Bool, ◌∷◌, ◌++◌, Option, Some, ◌∙◌, append_assoc, inr, cases_Bool, lt-ltb, le-ltb, length-append, nat_lt, is_none, if◌then◌else◌, ChannelEnd, ChannelText, PartitionText, TableText, WindowText, has_unknown_end, port_number, is_among, one, Row}
use Rattle.std.proofs.Common.{arith, true, false, not, List, [], None, length, map, refl, sym, ap, inl}
use Rattle.std.specs.List.{list_any}
use Rattle.std.specs.Prelude.{codes}
use Rattle.apex_types.specs.declared.row.ChannelEnd.TheVariants as ends
use Rattle.module_meaning.specs.Table.{has_twice}
use Rattle.module_meaning.specs.TableRules.{end_of, has_same_names, has_unknown_name, is_unknown_window, number_from, port_from, same}
use Rattle.finding_laws.specs.Any.{has_any}
use Rattle.finding_laws.proofs.Found.{any_unless, or_assoc, or_first, two}
use Rattle.finding_laws.proofs.Twice.{behind_none, twice_behind}
use Rattle.finding_laws.proofs.Numbers.{same_itself, same_symm}
use Rattle.table_findings.specs.Findings.{SameName}
use Rattle.table_findings.specs.Limits.{partition_row}
use Rattle.table_findings.specs.Names.{Channels, Named, Partitions, Ports, channel_names, channel_row, destinations_of, ends_from, ends_of, first_same, is_end, names, partition_names, partition_of, partitions_of, port_names, repeated, same_from, same_names, same_ports_from, subject_in, unknown}

-- ---- names that appear twice

-- the names of some rows
twice_named : {A : Type 0} (name : A → List ℕ) (xs : List A) → has_twice (λ x y. same (name x) (name y)) xs ≡ has_twice same (map name xs)
unfolding has_twice
twice_named name [] = refl
twice_named name (x ∷ xs) = rw (twice_named name xs) (ap (λ (b : Bool). b || has_twice same (map name xs)) (any_named xs))
  where
    any_named : (ys : List _) → list_any (λ y. same (name x) (name y)) ys ≡ list_any (same (name x)) (map name ys)
    any_named [] = refl
    any_named (y ∷ ys) = ap (λ (b : Bool). same (name x) (name y) || b) (any_named ys)

same_any : (named : Named) (front : List (List ℕ)) (k i : ℕ) (name : List ℕ) (rest : List (List ℕ)) → i ≡ k + length front
    → has_any (elim (first_same name k (front ++ name ∷ rest)) [ None ↦ [] | Some earlier ↦ if nat_lt earlier i then one (subject_in named (record { index = i; name = Some name })) (Some (codes "name")) (SameName name earlier) else [] ])
    ≡ list_any (same name) front
same_any named [] k i name rest is = rw (same_itself name, le-ltb k i (omega arith)) refl
same_any named (f ∷ front) k i name rest is = elim (cases_Bool (same name f)) [
  | inl e ↦ rw (e, lt-ltb k i (omega arith)) refl
  | inr e ↦ rw e (same_any named front (k + 1) i name rest (omega arith))
]

same_from_any : (named : Named) (all front names : List (List ℕ)) (i : ℕ) → all ≡ front ++ names → i ≡ length front → twice_behind same front names ≡ has_any (same_from named all i names)
same_from_any named all front [] i whole is = refl
same_from_any named all front (name ∷ names) i whole is =
    two _ _ _ _ (rw whole (sym (same_any named front 0 i name names (omega arith))))
    (same_from_any named all (front ++ name ∷ []) names (i + 1) (whole ∙ sym (append_assoc front (name ∷ []) names)) (rw (length-append front (name ∷ [])) (omega arith)))

same_names_any : (named : Named) (all : List (List ℕ)) → has_twice same all ≡ has_any (same_names named all)
same_names_any named all = behind_none same same_symm all ∙ same_from_any named all [] all 0 refl refl

same_ports_any : (i : ℕ) (ps : List PartitionText) → list_any (λ p. has_twice (λ q r. same q.name r.name) p.ports) ps ≡ has_any (same_ports_from i ps)
same_ports_any i [] = refl
same_ports_any i (p ∷ ps) =
    two _ _ _ _ (twice_named (λ q. q.name) p.ports ∙ same_names_any (Ports (partition_row i p)) (port_names p.ports)) (same_ports_any (i + 1) ps)

repeated_any : (t : TableText) → has_same_names t ≡ has_any (repeated t)
unfolding has_same_names
repeated_any t =
    or_assoc (has_twice (λ p q. same p.name q.name) t.partitions) (has_twice (λ c d. same c.name d.name) t.channels) (list_any (λ p. has_twice (λ q r. same q.name r.name) p.ports) t.partitions)
    ∙ two _ _ _ _ (twice_named (λ p. p.name) t.partitions ∙ same_names_any Partitions (partition_names t.partitions))
    (two _ _ _ _ (twice_named (λ c. c.name) t.channels ∙ same_names_any Channels (channel_names t.channels)) (same_ports_any 0 t.partitions))

-- ---- names that name nothing

pub none_numbered : {A : Type 0} (n : ℕ) (test : A → Bool) (xs : List A) → is_none (number_from n test xs) ≡ not (list_any test xs)
unfolding number_from
none_numbered n test [] = refl
none_numbered n test (x ∷ xs) = elim (test x) as (λ b. is_none (if b then Some n else number_from (n + 1) test xs) ≡ not (b || list_any test xs)) [
  | true ↦ refl
  | false ↦ none_numbered (n + 1) test xs
]

among : (name : List ℕ) (ps : List PartitionText) → list_any (λ p. same p.name name) ps ≡ is_among name (partition_names ps)
among name [] = refl
among name (p ∷ ps) = rw (same_symm p.name name, among name ps) refl

window_any : (ps : List PartitionText) (i : ℕ) (w : WindowText) → is_unknown_window ps w ≡ has_any (partition_of (partition_names ps) i w)
window_any ps i w =
    none_numbered 1 (λ p. same p.name w.partition) ps ∙ ap not (among w.partition ps) ∙ sym (any_unless (is_among w.partition (partition_names ps)) _ _ refl refl)

windows_any : (ps : List PartitionText) (i : ℕ) (ws : List WindowText) → list_any (is_unknown_window ps) ws ≡ has_any (partitions_of (partition_names ps) i ws)
windows_any ps i [] = refl
windows_any ps i (w ∷ ws) = two _ _ _ _ (window_any ps i w) (windows_any ps (i + 1) ws)

first_end : (n : ℕ) (o : Option ℕ) (rest : Option ChannelEnd) → is_none (elim o [ Some q ↦ Some (ends.Port (record { 0 = n }) (record { 0 = q })) | None ↦ rest ]) ≡ is_none o && is_none rest
first_end n None rest = refl
first_end n (Some q) rest = refl

neither : (a b : Bool) → not a && not b ≡ not (a || b)
neither true b = refl
neither false b = refl

no_port : (n : ℕ) (ps : List PartitionText) (text : List ℕ) → is_none (port_from n ps text) ≡ not (list_any (λ p. list_any (λ q. same text (p.name ++ 46 ∷ q.name)) p.ports) ps)
unfolding port_from
no_port n [] text = refl
no_port n (p ∷ ps) text =
    first_end n (port_number p text) (port_from (n + 1) ps text)
    ∙ rw (none_numbered 1 (λ q. same text (p.name ++ 46 ∷ q.name)) p.ports, no_port (n + 1) ps text) (neither (list_any (λ q. same text (p.name ++ 46 ∷ q.name)) p.ports) (list_any (λ r. list_any (λ q. same text (r.name ++ 46 ∷ q.name)) r.ports) ps))

no_end : (ps : List PartitionText) (text : List ℕ) → is_none (end_of ps text) ≡ not (is_end ps text)
unfolding end_of
no_end ps text = elim (same text (codes "DEVICE")) as (λ b. is_none (if b then Some ends.Device else port_from 1 ps text) ≡ not (b || list_any (λ p. list_any (λ q. same text (p.name ++ 46 ∷ q.name)) p.ports) ps)) [
  | true ↦ refl
  | false ↦ no_port 1 ps text
]

destinations_any : (ps : List PartitionText) (r : Row) (i : ℕ) (ds : List (List ℕ)) → list_any (λ d. is_none (end_of ps d)) ds ≡ has_any (destinations_of ps r i ds)
destinations_any ps r i [] = refl
destinations_any ps r i (d ∷ ds) = two _ _ _ _ (no_end ps d ∙ sym (any_unless (is_end ps d) _ _ refl refl)) (destinations_any ps r (i + 1) ds)

channel_any : (ps : List PartitionText) (i : ℕ) (c : ChannelText) → has_unknown_end ps c ≡ has_any (ends_of ps i c)
channel_any ps i c = two _ _ _ _ (no_end ps c.source ∙ sym (any_unless (is_end ps c.source) _ _ refl refl)) (destinations_any ps (channel_row i c) 0 c.destinations)

channels_any : (ps : List PartitionText) (i : ℕ) (cs : List ChannelText) → list_any (has_unknown_end ps) cs ≡ has_any (ends_from ps i cs)
channels_any ps i [] = refl
channels_any ps i (c ∷ cs) = two _ _ _ _ (channel_any ps i c) (channels_any ps (i + 1) cs)

unknown_any : (t : TableText) → has_unknown_name t ≡ has_any (unknown t)
unfolding has_unknown_name
unknown_any t = two _ _ _ _ (windows_any t.partitions 0 t.windows) (channels_any t.partitions 0 t.channels)

pub names_any : (t : TableText) → has_same_names t || has_unknown_name t ≡ has_any (names t)
names_any t = two _ _ _ _ (repeated_any t) (unknown_any t)

pub partitions_differ : (t : TableText) → has_same_names t ≡ false → has_twice (λ (p q : PartitionText). same p.name q.name) t.partitions ≡ false
unfolding has_same_names
partitions_differ t h = or_first _ _ (or_first _ _ h)
