-- What an end of a channel names, as the rules and the findings see it: the device, or a port of the table.
use Rattle.finding_laws.proofs.Prelude.{◌≡◌, ◌≤◌, ℕ, suc, ◌+◌, ◌-◌, ◌||◌, eqb, ◌∷◌, ◌++◌, Some, ◌∙◌, codes, inr, ℤ, and_left, and_right, cases_Bool, true≢false, nat_list_eq_equiv, is_none, slice_get, is_name, ChannelEnd, PartitionText, PortText, exceeds_times, has_many_ports, port_number, is_device}
use Rattle.std.proofs.Common.{arith, true, false, not, List, [], None, refl, sym, inl}
use Rattle.std.specs.List.{list_any}
use Rattle.apex_types.specs.declared.row.ChannelEnd.TheVariants as ends
use Rattle.module_meaning.specs.TableRules.{end_of, exceeds_partition, exceeds_port, number_from, same}
use Rattle.module_meaning.specs.TableRules as rule
use Rattle.finding_laws.proofs.Found.{or_first, or_second}
use Rattle.table_findings.specs.Ends.{port_at, port_from, port_named}

abbrev pub end_at : ℕ → ℕ → ChannelEnd
end_at n k = ends.Port (record { 0 = n }) (record { 0 = k })

abbrev port_text : List ℕ → PortText → List ℕ
port_text partition q = partition ++ 46 ∷ q.name

-- the port that a text names among those of a partition, of which the first has number m
data Named (partition : List ℕ) (m : ℕ) (qs : List PortText) (text : List ℕ) : Type 0 where
  no_one : number_from m (λ q. same text (partition ++ 46 ∷ q.name)) qs ≡ None → port_named partition qs text ≡ None → Named partition m qs text
  this : (k : ℕ) (q : PortText) → number_from m (λ q. same text (partition ++ 46 ∷ q.name)) qs ≡ Some k → port_named partition qs text ≡ Some q → m ≤ k → slice_get qs (k - m) ≡ Some q
      → same text (port_text partition q) ≡ true → exceeds_port q ≡ false → Named partition m qs text

later : (partition : List ℕ) (m : ℕ) (q : PortText) (qs : List PortText) (text : List ℕ) → same text (port_text partition q) ≡ false → Named partition (m + 1) qs text → Named partition m (q ∷ qs) text
unfolding number_from
later partition m q qs text e (no_one a b) = no_one (rw e a) (rw e b)
later partition m q qs text e (this k r a b le at is kept) =
    let place : k - m ≡ suc (k - (m + 1)) = omega (arith, le) in this k r (rw e a) (rw e b) (omega (arith, le)) (rw place at) is kept

named : (partition : List ℕ) (m : ℕ) (qs : List PortText) (text : List ℕ) → list_any exceeds_port qs ≡ false → Named partition m qs text
unfolding number_from
named partition m [] text kept = no_one refl refl
named partition m (q ∷ qs) text kept = elim (cases_Bool (same text (port_text partition q))) [
  | inl e ↦ (let place : m - m ≡ 0 = omega arith in this m q (rw e refl) (rw e refl) (omega arith) (rw place refl) e (or_first (exceeds_port q) (list_any exceeds_port qs) kept))
  | inr e ↦ later partition m q qs text e (named partition (m + 1) qs text (or_second (exceeds_port q) (list_any exceeds_port qs) kept))
]

-- the port that a text names among those of partitions, of which the first has place i
data Found (i : ℕ) (ps : List PartitionText) (text : List ℕ) : Type 0 where
  nowhere : rule.port_from (i + 1) ps text ≡ None → port_from i ps text ≡ None → Found i ps text
  here : (n k : ℕ) (r : PartitionText) (q : PortText) → rule.port_from (i + 1) ps text ≡ Some (end_at (n + 1) k) → port_from i ps text ≡ Some (n, q) → i ≤ n → slice_get ps (n - i) ≡ Some r → slice_get r.ports (k - 1) ≡ Some q
      → same text (port_text r.name q) ≡ true → exceeds_port q ≡ false → Found i ps text

further : (i : ℕ) (p : PartitionText) (ps : List PartitionText) (text : List ℕ) → port_number p text ≡ None → port_named p.name p.ports text ≡ None → Found (i + 1) ps text → Found i (p ∷ ps) text
unfolding rule.port_from
further i p ps text a b (nowhere x y) = nowhere (rw (rule.port_from, a) x) (rw (port_from, b) y)
further i p ps text a b (here n k r q x y le at in_row is kept) =
    let place : n - i ≡ suc (n - (i + 1)) = omega (arith, le) in here n k r q (rw (rule.port_from, a) x) (rw (port_from, b) y) (omega (arith, le)) (rw place at) in_row is kept

first_or_further : (i : ℕ) (p : PartitionText) (ps : List PartitionText) (text : List ℕ) → Named p.name 1 p.ports text → Found (i + 1) ps text → Found i (p ∷ ps) text
unfolding rule.port_from
first_or_further i p ps text (no_one a b) rest = further i p ps text a b rest
first_or_further i p ps text (this k q a b le at is kept) rest =
    let place : i - i ≡ 0 = omega arith in here i k p q (rw (rule.port_from, a) refl) (rw (port_from, b) refl) (omega arith) (rw place refl) at is kept

ports_kept : (frame : ℤ) (p : PartitionText) → exceeds_partition frame p ≡ false → list_any exceeds_port p.ports ≡ false
unfolding exceeds_partition
ports_kept frame p h = or_second (not (is_name p.name) || exceeds_times frame p || has_many_ports p) (list_any exceeds_port p.ports) h

found : (frame : ℤ) (i : ℕ) (ps : List PartitionText) (text : List ℕ) → list_any (exceeds_partition frame) ps ≡ false → Found i ps text
unfolding rule.port_from
found frame i [] text kept = nowhere refl refl
found frame i (p ∷ ps) text kept =
    first_or_further i p ps text (named p.name 1 p.ports text (ports_kept frame p (or_first (exceeds_partition frame p) (list_any (exceeds_partition frame) ps) kept)))
    (found frame (i + 1) ps text (or_second (exceeds_partition frame p) (list_any (exceeds_partition frame) ps) kept))

-- a text without a dot is none with one
without_dot : (text a b : List ℕ) → list_any (λ c. eqb c 46) text ≡ false → same text (a ++ 46 ∷ b) ≡ false
without_dot [] [] b h = refl
without_dot [] (y ∷ a) b h = refl
without_dot (x ∷ text) [] b h = and_left (eqb x 46) (same text b) (or_first (eqb x 46) (list_any (λ c. eqb c 46) text) h)
without_dot (x ∷ text) (y ∷ a) b h = and_right (eqb x y) (same text (a ++ 46 ∷ b)) (without_dot text a b (or_second (eqb x 46) (list_any (λ c. eqb c 46) text) h))

-- what a text at an end names
pub data Met (ps : List PartitionText) (text : List ℕ) : Type 0 where
  device : is_device text ≡ true → end_of ps text ≡ Some ends.Device → port_at ps text ≡ None → Met ps text
  port : (n k : ℕ) (r : PartitionText) (q : PortText) → is_device text ≡ false → end_of ps text ≡ Some (end_at (n + 1) k) → port_at ps text ≡ Some (n, q) → slice_get ps n ≡ Some r → slice_get r.ports (k - 1) ≡ Some q
      → same text (r.name ++ 46 ∷ q.name) ≡ true → exceeds_port q ≡ false → Met ps text

-- the device is no port
not_device : (text a b : List ℕ) → is_device text ≡ true → same text (a ++ 46 ∷ b) ≡ true → ⊥
not_device text a b e is = true≢false (sym is ∙ nat_list_eq_equiv.congr text (codes "DEVICE") (a ++ 46 ∷ b) e ∙ without_dot (codes "DEVICE") a b refl)

met_device : (ps : List PartitionText) (text : List ℕ) → is_device text ≡ true → Found 0 ps text → Met ps text
unfolding end_of
met_device ps text e (nowhere a b) = device e (rw e refl) b
met_device ps text e (here n k r q a b le at in_row is kept) = absurd (not_device text r.name q.name e is)

met_port : (ps : List PartitionText) (text : List ℕ) → is_device text ≡ false → is_none (end_of ps text) ≡ false → Found 0 ps text → Met ps text
unfolding end_of
met_port ps text e known (nowhere a b) = absurd (true≢false (rw (e, a) at known))
met_port ps text e known (here n k r q a b le at in_row is kept) = let place : n - 0 ≡ n = omega arith in port n k r q e (rw e a) b (rw place at at) in_row is kept

pub met : (frame : ℤ) (ps : List PartitionText) (text : List ℕ) → list_any (exceeds_partition frame) ps ≡ false → is_none (end_of ps text) ≡ false → Met ps text
met frame ps text kept known = elim (cases_Bool (is_device text)) [
  | inl e ↦ met_device ps text e (found frame 0 ps text kept)
  | inr e ↦ met_port ps text e known (found frame 0 ps text kept)
]

abbrev pub AreMet : List PartitionText → List (List ℕ) → Type 0
AreMet ps [] = Unit {0}
AreMet ps (text ∷ texts) = Met ps text × AreMet ps texts

pub all_met : (frame : ℤ) (ps : List PartitionText) (texts : List (List ℕ)) → list_any (exceeds_partition frame) ps ≡ false → list_any (λ d. is_none (end_of ps d)) texts ≡ false → AreMet ps texts
all_met frame ps [] kept known = tt
all_met frame ps (text ∷ texts) kept known = (
  met frame ps text kept (or_first (is_none (end_of ps text)) (list_any (λ d. is_none (end_of ps d)) texts) known),
  all_met frame ps texts kept (or_second (is_none (end_of ps text)) (list_any (λ d. is_none (end_of ps d)) texts) known),
)

pub met_append : (ps : List PartitionText) (xs ys : List (List ℕ)) → AreMet ps xs → AreMet ps ys → AreMet ps (xs ++ ys)
met_append ps [] ys a b = b
met_append ps (x ∷ xs) ys a b = (a.0, met_append ps xs ys a.1 b)
