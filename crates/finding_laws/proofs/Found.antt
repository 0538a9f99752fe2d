-- A rule is broken if and only if there is a finding.
use Rattle.finding_laws.proofs.Prelude.{◌≡◌, ◌≤◌, ℕ, ℤ, pos, ◌+◌, ◌||◌, Bool, cond, ◌∷◌, ◌++◌, Option, Some, ◌∙◌, codes, false≢true, periods_there, has_odd_period, ◌==◌, ◌%◌, int_lt, nat_abs, nat_lt, is_name, ChannelText, KindText, PartitionText, PortText, Queuing, Sampling, TableText, WindowText, is_outside, cost_keys, exceeds_limits, exceeds_times, has_costs_outside, has_many_ports, partition_row, MOST_CHANNELS, MOST_DEPTH, MOST_DESTINATIONS, MOST_FRAME_TICKS, MOST_PORTS, MOST_TICKS, MOST_WINDOWS, MOST_WORDS, AreFew, Finding, Row, Subject, Module}
use Rattle.std.proofs.Common.{arith, true, false, not, List, [], None, length, map, refl, sym, ap}
use Rattle.std.specs.List.{list_any}
use Rattle.module_meaning.specs.TableRules.{is_outside_cost, exceeds_counts, exceeds_kind, exceeds_port, exceeds_partition, exceeds_rows, exceeds_window, exceeds_channel, is_count_outside, overlaps_after}
use Rattle.apex_types.specs.declared.limits.TheConstants.{MOST_COST, MOST_PARTITIONS}
use Rattle.finding_laws.specs.Any.{has_any}
use Rattle.table_findings.specs.Limits.{below, channel_at, partition_row as row_of_partition, port_at, channel_limits, channels_from, costs_at, costs_limits, count, counts, kind, limits, most_period, name, outside, partition_limits, partitions_from, port_limits, ports_from, sizes, times, window_limits, windows_from}
use Rattle.table_findings.specs.Schedule.{early, late, partition_at, window_at, odd_period, odd_periods, odd_periods_from, overlaps_from, placed, window_end}
use Rattle.table_findings.specs.Subjects.{Costs}

pub any_append : (xs ys : List Finding) → has_any (xs ++ ys) ≡ has_any xs || has_any ys
any_append [] ys = refl
any_append (x ∷ xs) ys = refl

-- findings that are there where a test is passed
pub any_if : (test : Bool) (xs ys : List Finding) → has_any xs ≡ true → has_any ys ≡ false → has_any (cond test xs ys) ≡ test
any_if true xs ys some none = some
any_if false xs ys some none = none

-- ---- overlaps

placed_any : (frame before : ℤ) (i : ℕ) (w : WindowText) → has_any (placed frame before i w) ≡ int_lt w.offset before || int_lt frame (window_end w)
placed_any frame before i w =
    any_append (early before i w) (late frame i w)
    ∙ ap (λ (b : Bool). b || has_any (late frame i w)) (any_if (int_lt w.offset before) _ _ refl refl)
    ∙ ap (λ (b : Bool). int_lt w.offset before || b) (any_if (int_lt frame (window_end w)) _ _ refl refl)

pub or_assoc : (a b c : Bool) → (a || b) || c ≡ a || (b || c)
or_assoc true b c = refl
or_assoc false b c = refl

pub overlaps_any : (frame before : ℤ) (i : ℕ) (ws : List WindowText) → overlaps_after frame before ws ≡ has_any (overlaps_from frame before i ws)
unfolding overlaps_after
overlaps_any frame before i [] = refl
overlaps_any frame before i (w ∷ ws) =
    rw (overlaps_any frame (window_end w) (i + 1) ws)
    (ap (λ (b : Bool). b || has_any (overlaps_from frame (window_end w) (i + 1) ws)) (sym (placed_any frame before i w))
    ∙ sym (any_append (placed frame before i w) (overlaps_from frame (window_end w) (i + 1) ws)))

-- ---- limits

pub any_unless : (test : Bool) (xs ys : List Finding) → has_any xs ≡ false → has_any ys ≡ true → has_any (cond test xs ys) ≡ not test
any_unless true xs ys none some = none
any_unless false xs ys none some = some

-- the findings of two parts
pub two : (xs ys : List Finding) (a b : Bool) → a ≡ has_any xs → b ≡ has_any ys → a || b ≡ has_any (xs ++ ys)
two xs ys a b one other = rw (one, other) (sym (any_append xs ys))

outside_any : (s : Subject) (key : List ℕ) (low : ℕ) (high z : ℤ) → is_outside low high z ≡ has_any (outside s key low high z)
outside_any s key low high z = sym (any_if (is_outside low high z) _ _ refl refl)

below_any : (s : Subject) (key : List ℕ) (low : ℕ) (z : ℤ) → int_lt z (pos low) ≡ has_any (below s key low z)
below_any s key low z = sym (any_if (int_lt z (pos low)) _ _ refl refl)

count_any : (s : Subject) (key : List ℕ) (low high n : ℕ) → nat_lt n low || nat_lt high n ≡ has_any (count s key low high n)
count_any s key low high n = sym (any_if (nat_lt n low || nat_lt high n) _ _ refl refl)

name_any : (s : Subject) (text : List ℕ) → not (is_name text) ≡ has_any (name s text)
name_any s text = sym (any_unless (is_name text) _ _ refl refl)

kind_any : (s : Subject) (k : KindText) → exceeds_kind k ≡ has_any (kind s k)
unfolding exceeds_kind
kind_any s (Sampling refresh) = outside_any s (codes "refresh") 0 (pos MOST_TICKS) refresh
kind_any s (Queuing depth discipline) = outside_any s (codes "depth") 1 (pos MOST_DEPTH) depth

port_any : (s : Subject) (p : PortText) → exceeds_port p ≡ has_any (port_limits s p)
unfolding exceeds_port
port_any s p = or_assoc (not (is_name p.name)) (is_outside 1 (pos MOST_WORDS) p.words) (exceeds_kind p.kind) ∙ two _ _ _ _ (name_any s p.name) (two _ _ _ _ (outside_any s (codes "words") 1 (pos MOST_WORDS) p.words) (kind_any s p.kind))

ports_any : (r : Row) (i : ℕ) (ps : List PortText) → list_any exceeds_port ps ≡ has_any (ports_from r i ps)
ports_any r i [] = refl
ports_any r i (p ∷ ps) = two _ _ _ _ (port_any (port_at r i p) p) (ports_any r (i + 1) ps)

-- four parts of a partition
partition_parts : (a t d e : Bool) → ((a || t) || d) || e ≡ a || (t || (d || e))
partition_parts true t d e = refl
partition_parts false t d e = or_assoc t d e

-- the second is looked at where the first does not hold
or_unless : (a b : Bool) → a || b ≡ a || cond a false b
or_unless true b = refl
or_unless false b = refl

unless_any : (a b : Bool) (xs : List Finding) → b ≡ has_any xs → cond a false b ≡ has_any (cond a [] xs)
unless_any true b xs h = refl
unless_any false b xs h = h

times_any : (s : Subject) (frame : ℤ) (p : PartitionText) → exceeds_times frame p ≡ has_any (times s frame p)
times_any s frame p =
    or_unless (is_outside 1 frame p.period) (is_outside 0 p.period p.duration)
    ∙ two _ _ _ _ (outside_any s (codes "period") 1 frame p.period) (unless_any (is_outside 1 frame p.period) _ _ (outside_any s (codes "duration") 0 p.period p.duration))

partition_any : (frame : ℤ) (i : ℕ) (p : PartitionText) → exceeds_partition frame p ≡ has_any (partition_limits frame i p)
unfolding exceeds_partition
partition_any frame i p =
    partition_parts (not (is_name p.name)) (exceeds_times frame p) (has_many_ports p) (list_any exceeds_port p.ports)
    ∙ two _ _ _ _ (name_any (partition_at i p) p.name)
    (two _ _ _ _ (times_any (partition_at i p) frame p) (two _ _ _ _ (count_any (partition_at i p) (codes "port") 0 MOST_PORTS (length p.ports)) (ports_any (row_of_partition i p) 0 p.ports)))

partitions_any : (frame : ℤ) (i : ℕ) (ps : List PartitionText) → list_any (exceeds_partition frame) ps ≡ has_any (partitions_from frame i ps)
partitions_any frame i [] = refl
partitions_any frame i (p ∷ ps) = two _ _ _ _ (partition_any frame i p) (partitions_any frame (i + 1) ps)

window_any : (i : ℕ) (w : WindowText) → exceeds_window w ≡ has_any (window_limits i w)
unfolding exceeds_window
window_any i w = two _ _ _ _ (below_any (window_at i w) (codes "offset") 0 w.offset) (below_any (window_at i w) (codes "length") 1 w.length)

windows_any : (i : ℕ) (ws : List WindowText) → list_any exceeds_window ws ≡ has_any (windows_from i ws)
windows_any i [] = refl
windows_any i (w ∷ ws) = two _ _ _ _ (window_any i w) (windows_any (i + 1) ws)

channel_any : (i : ℕ) (c : ChannelText) → exceeds_channel c ≡ has_any (channel_limits i c)
unfolding exceeds_channel
channel_any i c = two _ _ _ _ (name_any (channel_at i c) c.name) (count_any (channel_at i c) (codes "destinations") 1 MOST_DESTINATIONS (length c.destinations))

channels_any : (i : ℕ) (cs : List ChannelText) → list_any exceeds_channel cs ≡ has_any (channels_from i cs)
channels_any i [] = refl
channels_any i (c ∷ cs) = two _ _ _ _ (channel_any i c) (channels_any (i + 1) cs)

-- ---- costs

costs_at_any : (keys : List (List ℕ)) (numbers : List ℤ) → length numbers ≤ length keys → list_any is_outside_cost numbers ≡ has_any (costs_at keys numbers)
unfolding is_outside_cost
costs_at_any [] [] h = refl
costs_at_any [] (number ∷ numbers) h = absurd (omega (arith, h))
costs_at_any (key ∷ keys) [] h = refl
costs_at_any (key ∷ keys) (number ∷ numbers) h = two _ _ _ _ (outside_any Costs key 1 (pos MOST_COST) number) (costs_at_any keys numbers (omega (arith, h)))

costs_any : (costs : Option (List ℤ)) → AreFew costs → has_costs_outside costs ≡ has_any (costs_limits costs)
costs_any None few = refl
costs_any (Some numbers) few = costs_at_any cost_keys numbers few

-- ---- the table

sizes_any : (t : TableText) → (is_count_outside 1 MOST_PARTITIONS t.partitions || is_count_outside 1 MOST_WINDOWS t.windows) || is_count_outside 0 MOST_CHANNELS t.channels ≡ has_any (sizes t)
sizes_any t =
    or_assoc (is_count_outside 1 MOST_PARTITIONS t.partitions) (is_count_outside 1 MOST_WINDOWS t.windows) (is_count_outside 0 MOST_CHANNELS t.channels)
    ∙ two _ _ _ _ (count_any Module (codes "partition") 1 MOST_PARTITIONS (length t.partitions))
    (two _ _ _ _ (count_any Module (codes "window") 1 MOST_WINDOWS (length t.windows)) (count_any Module (codes "channel") 0 MOST_CHANNELS (length t.channels)))

count_parts : (f p w c : Bool) → ((f || p) || w) || c ≡ f || ((p || w) || c)
count_parts true p w c = refl
count_parts false p w c = refl

counts_any : (t : TableText) → exceeds_counts t ≡ has_any (counts t)
unfolding exceeds_counts
counts_any t =
    count_parts (is_outside 1 (pos MOST_FRAME_TICKS) t.frame) (is_count_outside 1 MOST_PARTITIONS t.partitions) (is_count_outside 1 MOST_WINDOWS t.windows) (is_count_outside 0 MOST_CHANNELS t.channels)
    ∙ two _ _ _ _ (outside_any Module (codes "frame") 1 (pos MOST_FRAME_TICKS) t.frame) (sizes_any t)

-- the rule takes windows and channels before costs and partitions
limit_parts : (c w h k p : Bool) → ((c || (w || h)) || k) || p ≡ c || (k || (p || (w || h)))
limit_parts true w h k p = refl
limit_parts false true h true p = refl
limit_parts false true h false true = refl
limit_parts false true h false false = refl
limit_parts false false true true p = refl
limit_parts false false true false true = refl
limit_parts false false true false false = refl
limit_parts false false false true p = refl
limit_parts false false false false true = refl
limit_parts false false false false false = refl

pub or_first : (a b : Bool) → a || b ≡ false → a ≡ false
or_first true b h = h
or_first false b h = refl

pub or_second : (a b : Bool) → a || b ≡ false → b ≡ false
or_second true b h = absurd (false≢true (sym h))
or_second false b h = h

-- what is looked at by another measure only where something is found before
with_first : (a r k b c : Bool) → (a ≡ false → b ≡ c) → ((a || r) || k) || b ≡ ((a || r) || k) || c
with_first true r k b c h = refl
with_first false r k b c h = ap (λ (x : Bool). (r || k) || x) (h refl)

-- a frame within its limits is the greatest period
frame_kept : (t : TableText) → exceeds_counts t ≡ false → most_period t.frame ≡ t.frame
unfolding exceeds_counts
frame_kept t kept =
    let first = or_first (is_outside 1 (pos MOST_FRAME_TICKS) t.frame) _ (or_first _ (is_count_outside 1 MOST_WINDOWS t.windows) (or_first _ (is_count_outside 0 MOST_CHANNELS t.channels) kept)) in
    ap (λ (b : Bool). cond b (pos MOST_FRAME_TICKS) t.frame) first

pub limits_any : (t : TableText) → AreFew t.costs → exceeds_limits t ≡ has_any (limits t)
unfolding exceeds_rows
limits_any t few =
    with_first (exceeds_counts t) (list_any exceeds_window t.windows || list_any exceeds_channel t.channels) (has_costs_outside t.costs) (list_any (exceeds_partition t.frame) t.partitions) (list_any (exceeds_partition (most_period t.frame)) t.partitions) (λ kept. ap (λ (frame : ℤ). list_any (exceeds_partition frame) t.partitions) (sym (frame_kept t kept)))
    ∙ limit_parts (exceeds_counts t) (list_any exceeds_window t.windows) (list_any exceeds_channel t.channels) (has_costs_outside t.costs) (list_any (exceeds_partition (most_period t.frame)) t.partitions)
    ∙ two _ _ _ _ (counts_any t) (two _ _ _ _ (costs_any t.costs few) (two _ _ _ _ (partitions_any (most_period t.frame) 0 t.partitions) (two _ _ _ _ (windows_any 0 t.windows) (channels_any 0 t.channels))))

-- ---- periods

odd_any : (frame i : ℕ) (p : PartitionText) → (nat_abs p.period == 0) ≡ false → not (frame % nat_abs p.period == 0) ≡ has_any (odd_period frame i p)
odd_any frame i p there =
    ap (λ (b : Bool). not (b || (frame % nat_abs p.period == 0))) (sym there)
    ∙ sym (any_unless (nat_abs p.period == 0 || frame % nat_abs p.period == 0) _ _ refl refl)

odds_any : (frame i : ℕ) (ps : List PartitionText) → list_any (λ p. p.period == 0) (map partition_row ps) ≡ false → has_odd_period frame (map partition_row ps) ≡ has_any (odd_periods_from frame i ps)
odds_any frame i [] there = refl
odds_any frame i (p ∷ ps) there =
    two _ _ _ _ (odd_any frame i p (or_first (nat_abs p.period == 0) (list_any (λ p. p.period == 0) (map partition_row ps)) there))
    (odds_any frame (i + 1) ps (or_second (nat_abs p.period == 0) (list_any (λ p. p.period == 0) (map partition_row ps)) there))

pub odd_periods_any : (t : TableText) → exceeds_limits t ≡ false → has_odd_period (nat_abs t.frame) (map partition_row t.partitions) ≡ has_any (odd_periods t)
odd_periods_any t kept =
    odds_any (nat_abs t.frame) 0 t.partitions
    (periods_there t.frame t.partitions (or_second (exceeds_counts t || exceeds_rows t || has_costs_outside t.costs) (list_any (exceeds_partition t.frame) t.partitions) kept))
