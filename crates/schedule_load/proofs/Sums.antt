-- Each tick of the frame is counted once: for the partition that owns it, or as a tick without an owner.
use Rattle.std.proofs.Common.{◌≡◌, ℕ, zero, suc, ◌+◌, ◌<◌, ◌≤◌, true, false, ◌||◌, cond, nat_lt, List, [], ◌∷◌, length, Option, Some, None, option_map, find, refl, ap, ◌∙◌, arith, inl, inr}
use Rattle.std.specs.List.{list_any}
use Rattle.std.proofs.lemmas.Bool.{cases_lt, eq-eqb, ne_eqb, ltb-false, or_parts}
use Rattle.std.proofs.lemmas.List.Sums.{sum_by-cons}
use Rattle.apex_types.specs.declared.row.WindowRow.{WindowRow}
use Rattle.kernel_meaning.specs.Windows.{Schedule, is_within, phase, tick_from}
use Rattle.module_meaning.specs.Table.{Table, Partition}
use Rattle.module_meaning.specs.ImageRules.{has_wrong_window, is_wrong_window}
use Rattle.schedule_load.specs.Load.{owned_ticks, partition_load, partition_loads}
use Rattle.schedule_load.specs.Ownership.{is_of, owner_at, ticks_of}
use Rattle.schedule_load.specs.declared.load.PartitionLoad.{PartitionLoad}
use Rattle.schedule_load.proofs.Counts.{ticks_of-none, ticks_of-stretch}

-- ---- an owner

-- it is none, or one of `count` partitions
abbrev IsKnown : ℕ → Option ℕ → Type 0
IsKnown count None = Unit {0}
IsKnown count (Some q) = (1 ≤ q) × (q ≤ count)

known_window : (frame count : ℕ) (w : WindowRow) → is_wrong_window frame count w ≡ false → IsKnown count (Some w.partition.0)
known_window frame count w right =
    let numbers = or_parts (nat_lt w.partition.0 1 || nat_lt count w.partition.0) (nat_lt frame (w.offset + w.length)) right in
    let each = or_parts (nat_lt w.partition.0 1) (nat_lt count w.partition.0) numbers.0 in
    (ltb-false w.partition.0 1 each.0, ltb-false count w.partition.0 each.1)

known_owner : (frame count place : ℕ) (ws : List WindowRow) → list_any (is_wrong_window frame count) ws ≡ false → IsKnown count (option_map (λ (w : WindowRow). w.partition.0) (find (is_within place) ws))
known_owner frame count place [] right = tt
known_owner frame count place (w ∷ ws) right =
    let parts = or_parts (is_wrong_window frame count w) (list_any (is_wrong_window frame count) ws) right in
    elim (is_within place w) as (λ b. IsKnown count (option_map (λ (w : WindowRow). w.partition.0) (cond b (Some w) (find (is_within place) ws)))) [
      | true ↦ known_window frame count w parts.0
      | false ↦ known_owner frame count place ws parts.1
    ]

-- ---- a tick

-- how many of `count` partitions, the first of which has this number, own a tick with this owner
abbrev owners : (number count : ℕ) → Option ℕ → ℕ
owners number zero o = 0
owners number (suc count) o = cond (is_of (Some number) o) 1 0 + owners (number + 1) count o

none_owns : (number count : ℕ) → owners number count None ≡ 0
none_owns number zero = refl
none_owns number (suc count) = ap (λ n. 0 + n) (none_owns (number + 1) count)

too_low : (number count q : ℕ) → q < number → owners number count (Some q) ≡ 0
too_low number zero q low = refl
too_low number (suc count) q low =
    ap (λ b. cond b 1 0 + owners (number + 1) count (Some q)) (ne_eqb number q (λ is. omega (arith, is, low)))
    ∙ ap (λ n. 0 + n) (too_low (number + 1) count q (omega (arith, low)))

one_owns : (number count q : ℕ) → number ≤ q → q < number + count → owners number count (Some q) ≡ 1
one_owns number zero q low high = absurd (omega (arith, low, high))
one_owns number (suc count) q low high = elim (cases_lt number q) [
  | inl more ↦
      ap (λ b. cond b 1 0 + owners (number + 1) count (Some q)) (ne_eqb number q (λ is. omega (arith, is, more)))
      ∙ ap (λ n. 0 + n) (one_owns (number + 1) count q (omega (arith, more)) (omega (arith, high)))
  | inr less ↦
      ap (λ b. cond b 1 0 + owners (number + 1) count (Some q)) (eq-eqb number q (omega (arith, low, less)))
      ∙ ap (λ n. 1 + n) (too_low (number + 1) count q (omega (arith, less)))
]

counted_once : (count : ℕ) (o : Option ℕ) → IsKnown count o → owners 1 count o + cond (is_of None o) 1 0 ≡ 1
counted_once count None known = ap (λ n. n + 1) (none_owns 1 count)
counted_once count (Some q) known = ap (λ n. n + 0) (one_owns 1 count q known.0 (omega (arith, known.1)))

-- ---- many ticks

-- the ticks from `low` up to `high` that `count` partitions own, the first of which has this number
abbrev owned : Schedule → (number count low high : ℕ) → ℕ
owned s number zero low high = 0
owned s number (suc count) low high = ticks_of s (Some number) low high + owned s (number + 1) count low high

of_loads : (s : Schedule) (number : ℕ) (ps : List Partition) → owned_ticks (partition_loads s number ps) ≡ owned s number (length ps) 0 s.frame
of_loads s number [] = refl
of_loads s number (p ∷ ps) =
    sum_by-cons (λ (load : PartitionLoad). load.ticks) (partition_load s number p) (partition_loads s (number + 1) ps)
    ∙ ap (λ n. ticks_of s (Some number) 0 s.frame + n) (of_loads s (number + 1) ps)

nothing_owned : (s : Schedule) (number count low high : ℕ) → high ≤ low → owned s number count low high ≡ 0
nothing_owned s number zero low high over = refl
nothing_owned s number (suc count) low high over =
    ap (λ n. n + owned s (number + 1) count low high) (ticks_of-none s (Some number) low high over)
    ∙ ap (λ n. 0 + n) (nothing_owned s (number + 1) count low high over)

one_tick : (s : Schedule) (who : Option ℕ) (low high : ℕ) → low < high → ticks_of s who low high ≡ cond (is_of who (owner_at s low)) 1 0 + ticks_of s who (low + 1) high
one_tick s who low high there =
    ticks_of-stretch s who (owner_at s low) low 1 high (omega (arith, there)) (λ i below. (let same : low + i ≡ low = omega (arith, below) in ap (owner_at s) same))

tick_owned : (s : Schedule) (number count low high : ℕ) → low < high → owned s number count low high ≡ owners number count (owner_at s low) + owned s number count (low + 1) high
tick_owned s number zero low high there = refl
tick_owned s number (suc count) low high there =
    let here = cond (is_of (Some number) (owner_at s low)) 1 0 in
    let first = one_tick s (Some number) low high there in
    let others = tick_owned s (number + 1) count low high there in
    let a = ticks_of s (Some number) (low + 1) high in
    let b = owners (number + 1) count (owner_at s low) in
    let c = owned s (number + 1) count (low + 1) high in
    let parts : here + a + (b + c) ≡ here + b + (a + c) = omega arith in
    ap (λ n. n + owned s (number + 1) count low high) first ∙ ap (λ n. here + a + n) others ∙ parts

all_counted : (s : Schedule) (count n low high : ℕ) → low + n ≡ high → ((tick : ℕ) → IsKnown count (owner_at s tick)) → owned s 1 count low high + ticks_of s None low high ≡ n
all_counted s count zero low high is known =
    let over : high ≤ low = omega (arith, is) in
    ap (λ m. m + ticks_of s None low high) (nothing_owned s 1 count low high over) ∙ ap (λ m. 0 + m) (ticks_of-none s None low high over)
all_counted s count (suc n) low high is known =
    let there : low < high = omega (arith, is) in
    let here = owners 1 count (owner_at s low) in
    let none = cond (is_of None (owner_at s low)) 1 0 in
    let a = owned s 1 count (low + 1) high in
    let b = ticks_of s None (low + 1) high in
    let parts : here + a + (none + b) ≡ here + none + (a + b) = omega arith in
    let rest = all_counted s count n (low + 1) high (omega (arith, is)) known in
    let once = counted_once count (owner_at s low) (known low) in
    let all : 1 + n ≡ suc n = omega arith in
    ap (λ m. m + ticks_of s None low high) (tick_owned s 1 count low high there)
    ∙ ap (λ m. here + a + m) (one_tick s None low high there)
    ∙ parts ∙ ap (λ m. m + (a + b)) once ∙ ap (λ m. 1 + m) rest ∙ all

pub ticks_add_up : (t : Table) → has_wrong_window t.schedule (length t.partitions) ≡ false → owned_ticks (partition_loads t.schedule 1 t.partitions) + ticks_of t.schedule None 0 t.schedule.frame ≡ t.schedule.frame
ticks_add_up t right =
    let s = t.schedule in
    let count = length t.partitions in
    let all : 0 + s.frame ≡ s.frame = omega arith in
    ap (λ n. n + ticks_of s None 0 s.frame) (of_loads s 1 t.partitions)
    ∙ all_counted s count s.frame 0 s.frame all (λ tick. known_owner s.frame count (phase s (tick_from 0 tick)) s.windows right)
