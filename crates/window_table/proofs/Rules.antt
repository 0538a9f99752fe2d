-- The consequences of limits that are kept.
use Rattle.std.proofs.Common.{◌≡◌, ◌≤◌, ℕ, zero, suc, ℤ, pos, negsuc, nat_abs, Bool, true, false, not, ◌||◌, ◌==◌, nat_lt, List, [], ◌∷◌, length, map, refl, sym, ap, arith}
use Rattle.std.proofs.lemmas.List.{length-map}
use Rattle.std.specs.List.{list_any}
use Rattle.std.proofs.lemmas.Bool.{false≢true}
use Rattle.std.proofs.lemmas.Bool.Decides.{nat_tests}
use Rattle.apex_types.specs.declared.limits.TheConstants.{MOST_FRAME_TICKS, MOST_PARTITIONS, MOST_WINDOWS}
use Rattle.apex_types.specs.NameText.{is_name}
use Rattle.module_meaning.specs.TableRules.{PartitionText, TableText}
use Rattle.module_meaning.specs.TableRules.{exceeds_partition, exceeds_times, exceeds_port, exceeds_counts, exceeds_window, is_outside, has_many_ports, is_count_outside, partition_row, exceeds_rows, exceeds_channel, has_unknown_name, is_unknown_window, has_unknown_end}

pub or_first : (a b : Bool) → (a || b) ≡ false → a ≡ false
or_first true b h = h
or_first false b h = refl

pub or_second : (a b : Bool) → (a || b) ≡ false → b ≡ false
or_second true b h = absurd (false≢true (sym h))
or_second false b h = h

or_both : (a b : Bool) → a ≡ false → b ≡ false → (a || b) ≡ false
or_both true b h k = h
or_both false b h k = k

one_few : (frame : ℤ) (p : PartitionText) → exceeds_partition frame p ≡ false → has_many_ports p ≡ false
unfolding exceeds_partition
one_few frame p h = or_second (not (is_name p.name) || exceeds_times frame p) (has_many_ports p) (or_first (not (is_name p.name) || exceeds_times frame p || has_many_ports p) (list_any exceeds_port p.ports) h)

one_time : (frame : ℤ) (p : PartitionText) → exceeds_partition frame p ≡ false → is_outside 1 frame p.period ≡ false
unfolding exceeds_partition
one_time frame p h = or_first (is_outside 1 frame p.period) _ (or_second (not (is_name p.name)) (exceeds_times frame p) (or_first (not (is_name p.name) || exceeds_times frame p) (has_many_ports p) (or_first (not (is_name p.name) || exceeds_times frame p || has_many_ports p) (list_any exceeds_port p.ports) h)))

suc_there : (n : ℕ) → (suc n == 0) ≡ false
suc_there n = grind (arith, nat_tests)

period_there : (frame z : ℤ) → is_outside 1 frame z ≡ false → (nat_abs z == 0) ≡ false
period_there frame (pos zero) h = absurd (false≢true (sym h))
period_there frame (pos (suc n)) h = suc_there n
period_there frame (negsuc n) h = absurd (false≢true (sym h))

-- each partition has few ports
pub few_ports : (frame : ℤ) (ps : List PartitionText) → list_any (exceeds_partition frame) ps ≡ false → list_any has_many_ports ps ≡ false
few_ports frame [] h = refl
few_ports frame (p ∷ ps) h = or_both (has_many_ports p) (list_any has_many_ports ps) (one_few frame p (or_first (exceeds_partition frame p) (list_any (exceeds_partition frame) ps) h)) (few_ports frame ps (or_second (exceeds_partition frame p) (list_any (exceeds_partition frame) ps) h))

-- no period is 0
pub periods_there : (frame : ℤ) (ps : List PartitionText) → list_any (exceeds_partition frame) ps ≡ false → list_any (λ p. p.period == 0) (map partition_row ps) ≡ false
periods_there frame [] h = refl
periods_there frame (p ∷ ps) h = or_both (nat_abs p.period == 0) (list_any (λ p. p.period == 0) (map partition_row ps)) (period_there frame p.period (one_time frame p (or_first (exceeds_partition frame p) (list_any (exceeds_partition frame) ps) h))) (periods_there frame ps (or_second (exceeds_partition frame p) (list_any (exceeds_partition frame) ps) h))

pub frame_kept : (t : TableText) → exceeds_counts t ≡ false → is_outside 1 (pos MOST_FRAME_TICKS) t.frame ≡ false
unfolding exceeds_counts
frame_kept t h = or_first (is_outside 1 (pos MOST_FRAME_TICKS) t.frame) _ (or_first (is_outside 1 (pos MOST_FRAME_TICKS) t.frame || is_count_outside 1 MOST_PARTITIONS t.partitions) _ (or_first (is_outside 1 (pos MOST_FRAME_TICKS) t.frame || is_count_outside 1 MOST_PARTITIONS t.partitions || is_count_outside 1 MOST_WINDOWS t.windows) _ h))

few_kept : (n : ℕ) → (nat_lt n 1 || nat_lt MOST_PARTITIONS n) ≡ false → n ≤ MOST_PARTITIONS
few_kept n h = let k = or_second (nat_lt n 1) (nat_lt MOST_PARTITIONS n) h in grind (arith, nat_tests)

pub few_partitions : (t : TableText) → exceeds_counts t ≡ false → length t.partitions ≤ MOST_PARTITIONS
unfolding exceeds_counts
few_partitions t h = few_kept (length t.partitions) (or_second (is_outside 1 (pos MOST_FRAME_TICKS) t.frame) (is_count_outside 1 MOST_PARTITIONS t.partitions) (or_first (is_outside 1 (pos MOST_FRAME_TICKS) t.frame || is_count_outside 1 MOST_PARTITIONS t.partitions) _ (or_first (is_outside 1 (pos MOST_FRAME_TICKS) t.frame || is_count_outside 1 MOST_PARTITIONS t.partitions || is_count_outside 1 MOST_WINDOWS t.windows) _ h)))

pub windows_within : (t : TableText) → exceeds_rows t ≡ false → list_any exceeds_window t.windows ≡ false
unfolding exceeds_rows
windows_within t h = or_first (list_any exceeds_window t.windows) (list_any exceeds_channel t.channels) h

pub channels_within : (t : TableText) → exceeds_rows t ≡ false → list_any exceeds_channel t.channels ≡ false
unfolding exceeds_rows
channels_within t h = or_second (list_any exceeds_window t.windows) (list_any exceeds_channel t.channels) h

pub windows_known : (t : TableText) → has_unknown_name t ≡ false → list_any (is_unknown_window t.partitions) t.windows ≡ false
unfolding has_unknown_name
windows_known t h = or_first (list_any (is_unknown_window t.partitions) t.windows) (list_any (has_unknown_end t.partitions) t.channels) h

pub ends_known : (t : TableText) → has_unknown_name t ≡ false → list_any (has_unknown_end t.partitions) t.channels ≡ false
unfolding has_unknown_name
ends_known t h = or_second (list_any (is_unknown_window t.partitions) t.windows) (list_any (has_unknown_end t.partitions) t.channels) h

-- two lists that give the same rows are as long
pub rows_few : {X Y Z : Type 0} (f : X → Z) (g : Y → Z) (xs : List X) (ys : List Y) → map f xs ≡ map g ys → length xs ≤ MOST_PARTITIONS → length ys ≤ MOST_PARTITIONS
rows_few f g xs ys same few = let e = simp length-map at (ap length same) in omega arith
