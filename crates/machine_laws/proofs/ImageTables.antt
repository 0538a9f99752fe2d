-- Rows of the module table.
use Rattle.std.proofs.Common.{◌≡◌, ℕ, zero, suc, ◌-◌, ◌^◌, ◌<◌, ◌≤◌, Bool, true, false, cond, eqb, ltb, List, [], ◌++◌, Ok, refl, sym, ap, subst, ◌∙◌, arith, lit<}
use Rattle.std.specs.Prelude.{◌&&◌, ◌==◌}
use Rattle.std.specs.Int.{w32, w64}
use Rattle.std.proofs.lemmas.Bool.{ltb-false, le-ltb, eqb-true}
use Rattle.apex_types.specs.declared.version.Limits.{Limits}
use Rattle.machine_laws.proofs.VersionLimits.{AreBytes}
use Rattle.apex_types.specs.declared.limits.TheConstants.{MOST_DEPTH, MOST_DESTINATIONS, MOST_PORTS, MOST_TICKS}
use Rattle.apex_types.specs.declared.codes.Discipline.{Discipline}
use Rattle.apex_types.specs.declared.codes.Discipline.TheVariants.{Fifo}
use Rattle.apex_types.specs.declared.codes.PartitionAction.{PartitionAction}
use Rattle.apex_types.specs.declared.row.HealthTable.{HealthTable}
use Rattle.apex_types.specs.declared.row.PortKind.{PortKind}
use Rattle.apex_types.specs.declared.row.PortKind.TheVariants.{Sampling, Queuing}
use Rattle.apex_types.specs.declared.row.PortRow.{PortRow}
use Rattle.apex_types.specs.declared.row.WindowRow.{WindowRow}
use Rattle.apex_types.specs.declared.row.ChannelEnd.{ChannelEnd}
use Rattle.apex_types.specs.declared.row.ChannelEnd.TheVariants.{Device, Port}
use Rattle.module_meaning.specs.Table.{Partition, Channel}
use Rattle.machine_meaning.specs.Image.{Item}
use Rattle.machine_meaning.specs.ImageSpelling.{u8, u32, u64, name, list, truth, direction, discipline, partition_action, health, port_kind, port_fields, port, partition, section, window, channel_end, channel, item}
use Rattle.machine_meaning.specs.ImageReading.{Order, Read, ◌>>=◌, byte_at, number_at, limited_at, small_at, fresh_name_at, choice_at, truth_of, direction_of, discipline_of, partition_action_of, list_at, health_at, sampling_at, queuing_at, kind_at, is_port, port_at, is_partition, partition_at, section_at, item_at, last_end, not_before, offset_at, window_at, end_between, channel_end_at, is_channel, channel_at}
use Rattle.machine_meaning.specs.ImageLimits.{IsFrom, IsPortKind, IsPort, IsPartition, IsSection, IsItem, IsWindow, IsEnd, IsChannel}
use Rattle.machine_laws.proofs.ImageFields.{bind_ok, guard_ok, Takes, Reads, said, said_where, made, first, last, assoc3, assoc4, assoc5}
use Rattle.machine_laws.proofs.ImageNumbers.{wide32, wide64, byte_reads, number_reads, limited_reads, small_reads}
use Rattle.machine_laws.proofs.ImageNames.{fresh_reads}
use Rattle.machine_laws.proofs.ImageChoices.{truth_reads, direction_reads, discipline_reads, partition_action_reads}
use Rattle.machine_laws.proofs.ImageLists.{list_reads}
use Rattle.machine_laws.proofs.ImageBodies.{section_reads}

abbrev action : PartitionAction → List ℕ
action a = u8 (partition_action a)

abbrev action_at : List ℕ → Read PartitionAction
action_at = choice_at partition_action_of

pub health_reads : Reads health_at health (λ _. Unit {0})
unfolding health_at health
health_reads = said health_at _ health _ (λ _. Unit {0})
    (first action_at _ (λ (t : HealthTable). t.deadline_missed) action (λ t. action t.application_error ++ (action t.numeric_error ++ (action t.illegal_request ++ (action t.stack_overflow ++ (action t.memory_violation ++ action t.hardware_fault))))) _ _
    partition_action_reads
    (λ a p. first action_at _ (λ (t : HealthTable). t.application_error) action (λ t. action t.numeric_error ++ (action t.illegal_request ++ (action t.stack_overflow ++ (action t.memory_violation ++ action t.hardware_fault)))) _ _
    partition_action_reads
    (λ b p. first action_at _ (λ (t : HealthTable). t.numeric_error) action (λ t. action t.illegal_request ++ (action t.stack_overflow ++ (action t.memory_violation ++ action t.hardware_fault))) _ _
    partition_action_reads
    (λ c p. first action_at _ (λ (t : HealthTable). t.illegal_request) action (λ t. action t.stack_overflow ++ (action t.memory_violation ++ action t.hardware_fault)) _ _
    partition_action_reads
    (λ d p. first action_at _ (λ (t : HealthTable). t.stack_overflow) action (λ t. action t.memory_violation ++ action t.hardware_fault) _ _
    partition_action_reads
    (λ e p. first action_at _ (λ (t : HealthTable). t.memory_violation) action (λ t. action t.hardware_fault) _ _
    partition_action_reads
    (λ f p. last action_at (λ h. record { deadline_missed = a; application_error = b; numeric_error = c; illegal_request = d; stack_overflow = e; memory_violation = f; hardware_fault = h }) (λ (t : HealthTable). t.hardware_fault) action _ partition_action_reads (λ h. refl))
    (λ f t p g. ap (λ (t : HealthTable). t.memory_violation) g.1))
    (λ e t p g. ap (λ (t : HealthTable). t.stack_overflow) g.1.1))
    (λ d t p g. ap (λ (t : HealthTable). t.illegal_request) g.1.1.1))
    (λ c t p g. ap (λ (t : HealthTable). t.numeric_error) g.1.1.1.1))
    (λ b t p g. ap (λ (t : HealthTable). t.application_error) g.1.1.1.1.1))
    (λ a t p g. ap (λ (t : HealthTable). t.deadline_missed) g.1.1.1.1.1.1))
    (λ t. refl)
    (λ t g. tt)
    (λ t g. (tt, (tt, (tt, (tt, (tt, (tt, (tt, refl))))))))

-- ---- ports

zero_is : (n : ℕ) → IsFrom 0 0 n → 0 ≡ n
zero_is n h = omega (arith, h.most)

abbrev refresh_of : PortKind → ℕ
refresh_of (Sampling refresh) = refresh
refresh_of (Queuing depth order) = 0

nothing_else : IsFrom 0 0 0
nothing_else = record { least = omega arith; most = omega arith }

kind_number : (k : PortKind) → IsFrom 0 1 (port_kind k)
kind_number (Sampling refresh) = record { least = omega arith; most = omega arith }
kind_number (Queuing depth order) = record { least = omega arith; most = omega arith }

is_sampling : (k : PortKind) → IsPortKind k × (port_kind k ≡ 0) → IsFrom 0 MOST_TICKS (refresh_of k) × (IsFrom 0 0 0 × (IsFrom 0 0 0 × (k ≡ Sampling (refresh_of k))))
is_sampling (Sampling refresh) h = (h.0, (nothing_else, (nothing_else, refl)))
is_sampling (Queuing depth order) h = absurd cc

sampling_reads : Reads sampling_at port_fields (λ k. IsPortKind k × (port_kind k ≡ 0))
unfolding sampling_at port_fields
sampling_reads = said_where sampling_at (λ k. u64 (refresh_of k) ++ (u8 0 ++ (u8 0 ++ []))) port_fields _ (λ k. IsPortKind k × (port_kind k ≡ 0))
    (first (limited_at w64 0 MOST_TICKS) _ refresh_of u64 (λ k. u8 0 ++ (u8 0 ++ [])) (IsFrom 0 MOST_TICKS) _
    (limited_reads w64 (2 ^ 64) wide64 0 MOST_TICKS (lit< tt))
    (λ refresh p. first (small_at 0 0) _ (λ _. 0) u8 (λ k. u8 0 ++ []) (IsFrom 0 0) _
    (small_reads 0 0 (lit< tt))
    (λ depth q. first (small_at 0 0) (λ order. Ok (Sampling refresh, order.1)) (λ _. 0) u8 (λ k. []) (IsFrom 0 0) (λ _ k. k ≡ Sampling refresh)
    (small_reads 0 0 (lit< tt))
    (λ order r. made (Sampling refresh))
    (λ order k r g. zero_is order r))
    (λ depth k q g. zero_is depth q))
    (λ refresh k p g. ap refresh_of g.1.1))
    (λ k g. sym (ap port_fields g.1.1.1))
    (λ k g. subst (λ (y : PortKind). IsPortKind y × (port_kind y ≡ 0)) (sym g.1.1.1) (g.0, refl))
    is_sampling

abbrev depth_of : PortKind → ℕ
depth_of (Sampling refresh) = 0
depth_of (Queuing depth order) = depth

abbrev order_of : PortKind → Discipline
order_of (Sampling refresh) = Fifo
order_of (Queuing depth order) = order

is_queuing : (k : PortKind) → IsPortKind k × (port_kind k ≡ 1) → IsFrom 0 0 0 × (IsFrom 1 MOST_DEPTH (depth_of k) × (Unit {0} × (k ≡ Queuing (depth_of k) (order_of k))))
is_queuing (Sampling refresh) h = absurd cc
is_queuing (Queuing depth order) h = (nothing_else, (h.0, (tt, refl)))

queuing_reads : Reads queuing_at port_fields (λ k. IsPortKind k × (port_kind k ≡ 1))
unfolding queuing_at port_fields
queuing_reads = said_where queuing_at (λ k. u64 0 ++ (u8 (depth_of k) ++ u8 (discipline (order_of k)))) port_fields _ (λ k. IsPortKind k × (port_kind k ≡ 1))
    (first (limited_at w64 0 0) _ (λ _. 0) u64 (λ k. u8 (depth_of k) ++ u8 (discipline (order_of k))) (IsFrom 0 0) _
    (limited_reads w64 (2 ^ 64) wide64 0 0 (lit< tt))
    (λ refresh p. first (small_at 1 MOST_DEPTH) _ depth_of u8 (λ k. u8 (discipline (order_of k))) (IsFrom 1 MOST_DEPTH) _
    (small_reads 1 MOST_DEPTH (lit< tt))
    (λ depth q. last (choice_at discipline_of) (λ order. Queuing depth order) order_of (λ a. u8 (discipline a)) (λ _. Unit {0}) discipline_reads (λ a. refl))
    (λ depth k q g. ap depth_of g.1))
    (λ refresh k p g. zero_is refresh p))
    (λ k g. sym (ap port_fields g.1.1.1))
    (λ k g. subst (λ (y : PortKind). IsPortKind y × (port_kind y ≡ 1)) (sym g.1.1.1) (g.1.0, refl))
    is_queuing

-- the fields of the kind of a number
kind_reads : (number : ℕ) → IsFrom 0 1 number → Reads (kind_at number) port_fields (λ k. IsPortKind k × (port_kind k ≡ number))
unfolding kind_at
kind_reads zero h = sampling_reads
kind_reads (suc zero) h = queuing_reads
kind_reads (suc (suc n)) h = absurd (omega (arith, h.most))

pub port_reads : (limits : Limits) → limits.words < 2 ^ 8 → (before : List PortRow) → Reads (port_at limits before) port (IsPort limits before)
unfolding port_at port
port_reads limits small before = said (port_at limits before) _ port _ (IsPort limits before)
    (first (fresh_name_at (is_port before)) _ (λ (r : PortRow). r.name) name (λ r. u8 (port_kind r.kind) ++ (u8 (direction r.direction) ++ (u8 r.words ++ port_fields r.kind))) _ _
    (fresh_reads (is_port before))
    (λ text p. first (small_at 0 1) _ (λ (r : PortRow). port_kind r.kind) u8 (λ r. u8 (direction r.direction) ++ (u8 r.words ++ port_fields r.kind)) (IsFrom 0 1) _
    (small_reads 0 1 (lit< tt))
    (λ number q. first (choice_at direction_of) _ (λ (r : PortRow). r.direction) (λ a. u8 (direction a)) (λ r. u8 r.words ++ port_fields r.kind) _ _
    direction_reads
    (λ way r. first (small_at 1 limits.words) _ (λ (r : PortRow). r.words) u8 (λ r. port_fields r.kind) (IsFrom 1 limits.words) _
    (small_reads 1 limits.words small)
    (λ words s. last (kind_at number) (λ kind. record { name = text; kind = kind; direction = way; words = words }) (λ (r : PortRow). r.kind) port_fields _ (kind_reads number q) (λ a. refl))
    (λ words row s g. ap (λ (r : PortRow). r.words) g.1))
    (λ way row r g. ap (λ (r : PortRow). r.direction) g.1.1))
    (λ number row q g. g.1.1.0.1))
    (λ text row p g. ap (λ (r : PortRow). r.name) g.1.1.1.1))
    (λ r. assoc5 (name r.name) (u8 (port_kind r.kind)) (u8 (direction r.direction)) (u8 r.words) (port_fields r.kind))
    (λ r g. record { name = g.0.0; fresh = g.0.1; kind = g.1.1.1.1.0.0; words = g.1.1.1.0 })
    (λ r g. ((g.name, g.fresh), (kind_number r.kind, (tt, (g.words, ((g.kind, refl), refl))))))

-- ---- partitions

pub partition_reads : (limits : Limits) → limits.words < 2 ^ 8 → (frame : ℕ) → frame < 2 ^ 32 → (before : List Item) → Reads (partition_at limits frame before) partition (IsPartition limits frame before)
unfolding partition_at partition
partition_reads limits words frame small before = said (partition_at limits frame before) _ partition _ (IsPartition limits frame before)
    (first (fresh_name_at (is_partition before)) _ (λ (r : Partition). r.name) name (λ r. u32 r.period ++ (u32 r.duration ++ (health r.health ++ list port r.ports))) _ _
    (fresh_reads (is_partition before))
    (λ text p. first (limited_at w32 1 frame) _ (λ (r : Partition). r.period) u32 (λ r. u32 r.duration ++ (health r.health ++ list port r.ports)) (IsFrom 1 frame) _
    (limited_reads w32 (2 ^ 32) wide32 1 frame small)
    (λ period q. first (limited_at w32 0 period) _ (λ (r : Partition). r.duration) u32 (λ r. health r.health ++ list port r.ports) (IsFrom 0 period) _
    (limited_reads w32 (2 ^ 32) wide32 0 period (omega (arith, q.most, small)))
    (λ duration r. first health_at _ (λ (r : Partition). r.health) health (λ r. list port r.ports) _ _
    health_reads
    (λ table s. last (list_at 0 MOST_PORTS (port_at limits)) (λ ports. record { name = text; period = period; duration = duration; health = table; ports = ports }) (λ (r : Partition). r.ports) (list port) _
    (list_reads (port_at limits) port (IsPort limits) 0 MOST_PORTS (lit< tt) (port_reads limits words)) (λ a. refl))
    (λ table row s g. ap (λ (r : Partition). r.health) g.1))
    (λ duration row r g. ap (λ (r : Partition). r.duration) g.1.1))
    (λ period row q g. ap (λ (r : Partition). r.period) g.1.1.1))
    (λ text row p g. ap (λ (r : Partition). r.name) g.1.1.1.1))
    (λ r. assoc5 (name r.name) (u32 r.period) (u32 r.duration) (health r.health) (list port r.ports))
    (λ r g. record { name = g.0.0; fresh = g.0.1; period = g.1.0; duration = g.1.1.0; port_count = g.1.1.1.1.0.0; ports = g.1.1.1.1.0.1 })
    (λ r g. ((g.name, g.fresh), (g.period, (g.duration, (tt, ((g.port_count, g.ports), refl))))))

pub item_reads : (limits : Limits) → AreBytes limits → (frame : ℕ) → frame < 2 ^ 32 → (before : List Item) → Reads (item_at limits frame before) item (IsItem limits frame before)
unfolding item_at item
item_reads limits bytes frame small before = said (item_at limits frame before) _ item _ (IsItem limits frame before)
    (first (partition_at limits frame before) _ (λ (it : Item). it.partition) partition (λ it. section it.section) (IsPartition limits frame before) _
    (partition_reads limits bytes.words frame small before)
    (λ row p. last (section_at limits row.period) (λ s. record { partition = row; section = s }) (λ (it : Item). it.section) section (IsSection limits row.period) (section_reads limits bytes row.period) (λ a. refl))
    (λ row it p g. ap (λ (it : Item). it.partition) g.1))
    (λ it. refl)
    (λ it g. record { partition = g.0; section = g.1.0 })
    (λ it g. (g.partition, (g.section, refl)))

-- ---- windows

offset_reads : (end : ℕ) → Reads (offset_at end) u32 (λ n. (n < 2 ^ 32) × (end ≤ n))
unfolding offset_at
offset_reads end = record {
  takes = λ bytes x fits e.
      let a = bind_ok (number_at w32 bytes) (not_before end) x e in
      let g = guard_ok (ltb a.0.0 end) Order a.0 x a.2 in
      let p = (number_reads w32 (2 ^ 32) wide32).takes bytes a.0 fits a.1 in
      let from : end ≤ a.0.0 = ltb-false _ _ g.0 in
      subst (λ (y : ℕ × List ℕ). Takes bytes (u32 y.0) y.1 × ((y.0 < 2 ^ 32) × (end ≤ y.0))) g.1 (p.0, (p.1, from));
  again = λ n rest good.
      let f : ltb n end ≡ false = le-ltb _ _ good.1 in
      ap (λ (y : Read ℕ). y >>= not_before end) ((number_reads w32 (2 ^ 32) wide32).again n rest good.0) ∙ rw f refl;
}

pub window_reads : (before : List WindowRow) → Reads (window_at before) window (IsWindow before)
unfolding window_at window
window_reads before = said (window_at before) _ window _ (IsWindow before)
    (first byte_at _ (λ (r : WindowRow). r.partition.0) u8 (λ r. u32 r.offset ++ (u32 r.length ++ u8 (truth r.release))) _ _
    byte_reads
    (λ number p. first (offset_at (last_end before)) _ (λ (r : WindowRow). r.offset) u32 (λ r. u32 r.length ++ u8 (truth r.release)) _ _
    (offset_reads (last_end before))
    (λ offset q. first (limited_at w32 1 (2 ^ 32 - 1)) _ (λ (r : WindowRow). r.length) u32 (λ r. u8 (truth r.release)) (IsFrom 1 (2 ^ 32 - 1)) _
    (limited_reads w32 (2 ^ 32) wide32 1 (2 ^ 32 - 1) (lit< tt))
    (λ span r. last (choice_at truth_of) (λ release. record { partition = record { 0 = number }; offset = offset; length = span; release = release }) (λ (r : WindowRow). r.release) (λ a. u8 (truth a)) _ truth_reads (λ a. refl))
    (λ span row r g. ap (λ (r : WindowRow). r.length) g.1))
    (λ offset row q g. ap (λ (r : WindowRow). r.offset) g.1.1))
    (λ number row p g. ap (λ (r : WindowRow). r.partition.0) g.1.1.1))
    (λ r. assoc4 (u8 r.partition.0) (u32 r.offset) (u32 r.length) (u8 (truth r.release)))
    (λ r g. record { partition = g.0; offset = g.1.0.0; after = g.1.0.1; length = g.1.1.0 })
    (λ r g. (g.partition, ((g.offset, g.after), (g.length, (tt, refl)))))

-- ---- channels

abbrev partition_of : ChannelEnd → ℕ
partition_of Device = 0
partition_of (Port p q) = p.0

abbrev port_of : ChannelEnd → ℕ
port_of Device = 0
port_of (Port p q) = q.0

ends_back : (p q : ℕ) (b : Bool) → (b ≡ true → (p ≡ 0) × (q ≡ 0)) → (partition_of (cond b Device (Port (record { 0 = p }) (record { 0 = q }))) ≡ p) × (port_of (cond b Device (Port (record { 0 = p }) (record { 0 = q }))) ≡ q)
ends_back p q true is = (sym (is refl).0, sym (is refl).1)
ends_back p q false is = (refl, refl)

both_zero : (p q : ℕ) (a b : Bool) → (a ≡ true → p ≡ 0) → (b ≡ true → q ≡ 0) → (a && b) ≡ true → (p ≡ 0) × (q ≡ 0)
both_zero p q true true f g h = (f refl, g refl)
both_zero p q true false f g h = absurd cc
both_zero p q false b f g h = absurd cc

between : (p q : ℕ) → (partition_of (end_between p q) ≡ p) × (port_of (end_between p q) ≡ q)
between p q = ends_back p q ((p == 0) && (q == 0)) (both_zero p q (eqb p 0) (eqb q 0) (eqb-true p 0) (eqb-true q 0))

end_good : (p q : ℕ) (b : Bool) → p < 2 ^ 8 → q < 2 ^ 8 → ((p == 0) && (q == 0)) ≡ b → IsEnd (cond b Device (Port (record { 0 = p }) (record { 0 = q })))
end_good p q true a b h = tt
end_good p q false a b h = (a, b, h)

is_end : (e : ChannelEnd) → IsEnd e → (partition_of e < 2 ^ 8) × ((port_of e < 2 ^ 8) × (e ≡ end_between (partition_of e) (port_of e)))
is_end Device good = (lit< tt, (lit< tt, refl))
is_end (Port p q) good = (good.0, (good.1, rw (good.2) refl))

pub end_reads : Reads channel_end_at channel_end IsEnd
unfolding channel_end_at channel_end
end_reads = said_where channel_end_at (λ e. u8 (partition_of e) ++ u8 (port_of e)) channel_end _ IsEnd
    (first byte_at _ partition_of u8 (λ e. u8 (port_of e)) _ (λ p e. (port_of e < 2 ^ 8) × (e ≡ end_between p (port_of e)))
    byte_reads
    (λ p small. last byte_at (λ q. end_between p q) port_of u8 (λ n. n < 2 ^ 8) byte_reads (λ q. (between p q).1))
    (λ p e small g. ap partition_of g.1 ∙ (between p (port_of e)).0))
    (elim [ Device ↦ λ g. refl | Port p q ↦ λ g. refl ])
    (λ e g. subst IsEnd (sym g.1.1) (end_good (partition_of e) (port_of e) ((partition_of e == 0) && (port_of e == 0)) g.0 g.1.0 refl))
    is_end

pub channel_reads : (before : List Channel) → Reads (channel_at before) channel (IsChannel before)
unfolding channel_at channel
channel_reads before = said (channel_at before) _ channel _ (IsChannel before)
    (first (fresh_name_at (is_channel before)) _ (λ (r : Channel). r.name) name (λ r. channel_end r.source ++ list channel_end r.destinations) _ _
    (fresh_reads (is_channel before))
    (λ text p. first channel_end_at _ (λ (r : Channel). r.source) channel_end (λ r. list channel_end r.destinations) IsEnd _
    end_reads
    (λ source q. last (list_at 1 MOST_DESTINATIONS (λ _. channel_end_at)) (λ destinations. record { name = text; source = source; destinations = destinations }) (λ (r : Channel). r.destinations) (list channel_end) _
    (list_reads (λ _. channel_end_at) channel_end (λ _. IsEnd) 1 MOST_DESTINATIONS (lit< tt) (λ _. end_reads)) (λ a. refl))
    (λ source row q g. ap (λ (r : Channel). r.source) g.1))
    (λ text row p g. ap (λ (r : Channel). r.name) g.1.1))
    (λ r. assoc3 (name r.name) (channel_end r.source) (list channel_end r.destinations))
    (λ r g. record { name = g.0.0; fresh = g.0.1; source = g.1.0; count = g.1.1.0.0; destinations = g.1.1.0.1 })
    (λ r g. ((g.name, g.fresh), (g.source, ((g.count, g.destinations), refl))))
