-- A period offers a partition less than its duration if and only if one is found.
use Rattle.finding_laws.proofs.Prelude.{◌≡◌, ℕ, suc, ◌+◌, ◌||◌, Bool, ◌∷◌, ◌∙◌, inr, cases_Bool, sum_by-cons, WindowRow, ◌==◌, if◌then◌else◌, nat_abs, nat_lt, unwrap_or, has_short_period, PartitionText, TableText, WindowText, exceeds_limits, has_costs_outside, partition_number, partition_row, window_row, periods_there}
use Rattle.std.proofs.Common.{arith, zero, ◌*◌, ◌/◌, true, false, List, [], map, refl, sym, ap, inl}
use Rattle.std.specs.List.{list_any}
use Rattle.module_meaning.specs.Table.{falls_short, falls_short_from, common, has_twice, offered}
use Rattle.module_meaning.specs.TableRules.{exceeds_counts, exceeds_partition, exceeds_rows, same}
use Rattle.finding_laws.specs.Any.{has_any}
use Rattle.finding_laws.proofs.Found.{or_first, or_second, two}
use Rattle.finding_laws.proofs.Numbers.{AreNumbered, are_numbered, have_same_name}
use Rattle.table_findings.specs.Durations.{first_short, short_of, short_period, short_periods, short_periods_from}
use Rattle.table_findings.specs.Durations as text

-- a period that begins at this tick offers less than the duration
is_short_at : PartitionText → List WindowText → ℕ → Bool
is_short_at p ws low = nat_lt (text.offered p.name low (low + nat_abs p.period) ws) (nat_abs p.duration)

-- a short one is found among the first periods
is_found : ℕ → PartitionText → List WindowText → ℕ → ℕ → Bool
is_found i p ws k low = has_any (short_of i p (first_short k low p ws))

either_way : (a b : Bool) → a || b ≡ b || a
either_way true true = refl
either_way true false = refl
either_way false true = refl
either_way false false = refl

suc_times : (k n : ℕ) → suc k * n ≡ n + k * n
suc_times k n = grind arith

-- the last of them
last_found : (i : ℕ) (p : PartitionText) (ws : List WindowText) (k low at : ℕ) → at ≡ low + k * nat_abs p.period → is_found i p ws (suc k) low ≡ is_found i p ws k low || is_short_at p ws at
unfolding is_found is_short_at
last_found i p ws zero low at is =
    let here : low ≡ at = omega (arith, is) in
    elim (cases_Bool (is_short_at p ws low)) [
      | inl e ↦ rw (← here, e) refl
      | inr e ↦ rw (← here, e) refl
    ]
last_found i p ws (suc k) low at is = elim (cases_Bool (is_short_at p ws low)) [
  | inl e ↦ rw e refl
  | inr e ↦ rw e (last_found i p ws k (low + nat_abs p.period) at (let more = suc_times k (nat_abs p.period) in omega (arith, is, more)))
]

offered_is : (all : List PartitionText) (n : ℕ) (name : List ℕ) (low high : ℕ) (ws : List WindowText) → ((word : List ℕ) → (unwrap_or (partition_number all word) 0 == n) ≡ same word name)
    → offered n low high (map (window_row all) ws) ≡ text.offered name low high ws
unfolding offered
offered_is all n name low high [] is = refl
offered_is all n name low high (w ∷ ws) is =
    sum_by-cons (λ (row : WindowRow). if row.partition.0 == n then common low high row else 0) (window_row all w) (map (window_row all) ws)
    ∙ ap (λ (b : Bool). (if b then text.common low high w else 0) + offered n low high (map (window_row all) ws)) (is w.partition)
    ∙ ap (λ (x : ℕ). (if same w.partition name then text.common low high w else 0) + x) (offered_is all n name low high ws is)

falls_any : (all : List PartitionText) (n i : ℕ) (p : PartitionText) (ws : List WindowText) (k : ℕ) → ((word : List ℕ) → (unwrap_or (partition_number all word) 0 == n) ≡ same word p.name)
    → falls_short k n (nat_abs p.period) (nat_abs p.duration) (map (window_row all) ws) ≡ is_found i p ws k 0
unfolding falls_short is_found is_short_at
falls_any all n i p ws zero is = refl
falls_any all n i p ws (suc k) is =
    let end : (k + 1) * nat_abs p.period ≡ k * nat_abs p.period + nat_abs p.period = grind arith in
    rw (end, offered_is all n p.name (k * nat_abs p.period) (k * nat_abs p.period + nat_abs p.period) ws is, falls_any all n i p ws k is)
    (either_way (is_short_at p ws (k * nat_abs p.period)) (is_found i p ws k 0) ∙ sym (last_found i p ws k 0 (k * nat_abs p.period) (omega arith)))

short_any : (all : List PartitionText) (frame n i : ℕ) (p : PartitionText) (ws : List WindowText) → (nat_abs p.period == 0) ≡ false → ((word : List ℕ) → (unwrap_or (partition_number all word) 0 == n) ≡ same word p.name)
    → falls_short (frame / nat_abs p.period) n (nat_abs p.period) (nat_abs p.duration) (map (window_row all) ws) ≡ has_any (short_period frame ws i p)
unfolding is_found
short_any all frame n i p ws there is = rw there (falls_any all n i p ws (frame / nat_abs p.period) is)

shorts_any : (all : List PartitionText) (frame n i : ℕ) (ws : List WindowText) (ps : List PartitionText) → list_any (λ p. p.period == 0) (map partition_row ps) ≡ false → AreNumbered all n ps
    → falls_short_from n (record { frame = frame; windows = map (window_row all) ws }) (map partition_row ps) ≡ has_any (short_periods_from frame ws i ps)
unfolding falls_short_from
shorts_any all frame n i ws [] there are = refl
shorts_any all frame n i ws (p ∷ ps) there are =
    two _ _ _ _ (short_any all frame n i p ws (or_first (nat_abs p.period == 0) (list_any (λ q. q.period == 0) (map partition_row ps)) there) are.0)
    (shorts_any all frame (n + 1) (i + 1) ws ps (or_second (nat_abs p.period == 0) (list_any (λ q. q.period == 0) (map partition_row ps)) there) are.1)

pub short_periods_any : (t : TableText) → exceeds_limits t ≡ false → has_twice have_same_name t.partitions ≡ false
    → has_short_period (record { frame = nat_abs t.frame; windows = map (window_row t.partitions) t.windows }) (map partition_row t.partitions) ≡ has_any (short_periods t)
short_periods_any t kept apart =
    shorts_any t.partitions (nat_abs t.frame) 1 0 t.windows t.partitions
    (periods_there t.frame t.partitions (or_second (exceeds_counts t || exceeds_rows t || has_costs_outside t.costs) (list_any (exceeds_partition t.frame) t.partitions) kept))
    (are_numbered t.partitions apart)
