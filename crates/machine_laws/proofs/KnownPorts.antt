-- An end of a channel that a text names is a port of one of the table's partitions, or the device.
use Rattle.std.proofs.Common.{◌≡◌, ℕ, zero, suc, ◌+◌, ◌-◌, ◌≤◌, ◌<◌, Bool, true, false, cond, List, [], ◌∷◌, ◌++◌, length, map, Option, Some, None, refl, sym, ap, ◌∙◌, arith, length-append, append_assoc, subst}
use Rattle.std.specs.Prelude.{◌==◌, slice_get, is_none, codes, unwrap_or}
use Rattle.std.specs.List.{list_any}
use Rattle.std.specs.Option.{option_map}
use Rattle.std.proofs.lemmas.Bool.{or_from, ne_eqb}
use Rattle.std.proofs.lemmas.List.{length-map}
use Rattle.std.proofs.lemmas.Option.{slice_get-map}
use Rattle.apex_types.specs.declared.row.ChannelEnd.{ChannelEnd}
use Rattle.apex_types.specs.declared.row.ChannelEnd.TheVariants as ends
use Rattle.module_meaning.specs.Table.{Partition}
use Rattle.module_meaning.specs.TableRules.{same, PartitionText, ChannelText}
use Rattle.module_meaning.specs.Table.{◌>>=◌}
use Rattle.module_meaning.specs.TableRules.{port_number, port_from, end_of, channel_row, port_row, partition_row}
use Rattle.module_meaning.specs.ImageRules.{is_unknown_port, has_unknown_port}
use Rattle.machine_meaning.proofs.Beside.{at_seam}
use Rattle.machine_laws.proofs.AcceptedTable.{number_small}

there : {A : Type 0} (xs : List A) (k : ℕ) → k < length xs → is_none (slice_get xs k) ≡ false
there [] k h = absurd (omega arith)
there (x ∷ xs) zero h = refl
there (x ∷ xs) (suc k) h = there xs k (omega arith)

-- the port with a number from 1 on among those of a partition, which follows others
port_there : (rows : List Partition) (n q : ℕ) (row : Partition) → 1 ≤ n → 1 ≤ q → slice_get rows (n - 1) ≡ Some row → q - 1 < length row.ports → is_unknown_port rows (ends.Port (record { 0 = n }) (record { 0 = q })) ≡ false
port_there rows n q row some port at few =
    let got : (slice_get rows (n - 1) >>= λ r. slice_get r.ports (q - 1)) ≡ slice_get row.ports (q - 1) = ap (λ (o : Option Partition). o >>= λ r. slice_get r.ports (q - 1)) at in
    or_from _ _ (or_from (n == 0) (q == 0) (ne_eqb n 0 (λ e. omega (arith, e))) (ne_eqb q 0 (λ e. omega (arith, e)))) (ap is_none got ∙ there row.ports (q - 1) few)

abbrev port_or : ℕ → Option ℕ → Option ChannelEnd → Option ChannelEnd
port_or n o rest = elim o [ Some q ↦ Some (ends.Port (record { 0 = n }) (record { 0 = q })) | None ↦ rest ]

known_or : (rows : List Partition) (n : ℕ) (row : Partition) (o : Option ℕ) (rest : Option ChannelEnd) (e : ChannelEnd) → 1 ≤ n → slice_get rows (n - 1) ≡ Some row → ((q : ℕ) → o ≡ Some q → (1 ≤ q) × (q - 1 < length row.ports)) → (rest ≡ Some e → is_unknown_port rows e ≡ false) → port_or n o rest ≡ Some e → is_unknown_port rows e ≡ false
known_or rows n row None rest e some at few others h = others h
known_or rows n row (Some q) rest e some at few others h =
    let is : ends.Port (record { 0 = n }) (record { 0 = q }) ≡ e = cc in
    let f = few q refl in
    subst (λ (x : ChannelEnd). is_unknown_port rows x ≡ false) is (port_there rows n q row some f.0 at f.1)

known_from : (front ps : List PartitionText) (n : ℕ) (text : List ℕ) (e : ChannelEnd) → n ≡ length front + 1 → port_from n ps text ≡ Some e → is_unknown_port (map partition_row (front ++ ps)) e ≡ false
unfolding port_from
known_from front [] n text e at h = absurd cc
known_from front (p ∷ ps) n text e at h =
    let rows = map partition_row (front ++ p ∷ ps) in
    let got : slice_get rows (n - 1) ≡ Some (partition_row p) = slice_get-map partition_row (front ++ p ∷ ps) (n - 1) ∙ ap (option_map partition_row) (at_seam front p ps (n - 1) (omega (arith, at))) in
    let more : front ++ p ∷ ps ≡ (front ++ p ∷ []) ++ ps = sym (append_assoc front (p ∷ []) ps) in
    known_or rows n (partition_row p) (port_number p text) (port_from (n + 1) ps text) e (omega (arith, at)) got
    (λ q k. let s = number_small 1 _ p.ports q k in (s.0, omega (arith, s.0, s.1, length-map p.ports port_row)))
    (λ k. subst (λ (xs : List PartitionText). is_unknown_port (map partition_row xs) e ≡ false) (sym more) (known_from (front ++ p ∷ []) ps (n + 1) text e (omega (arith, at, length-append front (p ∷ []))) k)) h

device_or : (rows : List Partition) (b : Bool) (rest : Option ChannelEnd) → ((e : ChannelEnd) → rest ≡ Some e → is_unknown_port rows e ≡ false) → is_unknown_port rows (unwrap_or (cond b (Some ends.Device) rest) ends.Device) ≡ false
device_or rows true rest others = refl
device_or rows false None others = refl
device_or rows false (Some e) others = others e refl

-- the end that a text names
end_known : (ps : List PartitionText) (text : List ℕ) → is_unknown_port (map partition_row ps) (unwrap_or (end_of ps text) ends.Device) ≡ false
unfolding end_of
end_known ps text = device_or (map partition_row ps) (same text (codes "DEVICE")) (port_from 1 ps text) (λ e h. known_from [] ps 1 text e refl h)

ends_known : (ps : List PartitionText) (texts : List (List ℕ)) → list_any (is_unknown_port (map partition_row ps)) (map (λ d. unwrap_or (end_of ps d) ends.Device) texts) ≡ false
ends_known ps [] = refl
ends_known ps (d ∷ ds) = or_from _ _ (end_known ps d) (ends_known ps ds)

pub ports_known : (ps : List PartitionText) (cs : List ChannelText) → has_unknown_port (map partition_row ps) (map (channel_row ps) cs) ≡ false
ports_known ps [] = refl
ports_known ps (c ∷ cs) = or_from _ _ (or_from _ _ (end_known ps c.source) (ends_known ps c.destinations)) (ports_known ps cs)
