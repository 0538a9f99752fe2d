-- Ticks of a partition, one after another, whatever it belongs to.
use Rattle.lone_partition.proofs.Prelude.{◌≡◌, ℕ, zero, suc, ◌+◌, ◌-◌, ◌<◌, ◌≤◌, Bool, true, false, List, ◌++◌, length, refl, sym, ap, subst, ◌∙◌, append_assoc, arith, text_of, Event, At, Member, at_tick, Stepped, goes, next_tick, then_goes, Sent, HasSent, IsMade, ticks_by}
use Rattle.std.proofs.Common.{cond, nat_le}
use Rattle.apex_types.specs.declared.limits.TheConstants.{MOST_EVENTS}
use Rattle.kernel_meaning.specs.Partition.{Moved, World, advances, followed_by, with_world}
use Rattle.kernel_meaning.specs.Windows.{tick_from}
use Rattle.kernel_laws.specs.Bursts.{Burst}
use Rattle.partition.specs.Gathering.{joined, no_ticks, ticks_within}
use Rattle.partition.specs.Members.{HasAdvanced}
use Rattle.partition.specs.declared.rooms.TheConstants.{LINES_FOR_TICK}
use Rattle.partition.proofs.Gathering.{some_ticks}
use Rattle.lone_partition.proofs.Written.{then_made}

module _ {C : Type 0} where
  -- ---- as many as the buffer has room for

  abbrev moved_by : Burst (World C) ℕ (List Event) → Moved C
  moved_by b = record { world = b.control; lines = b.told }

  abbrev AreTicks : (origin t : ℕ) → Member C → Burst (World C) ℕ (List Event) → Type 0
  AreTicks origin t x b = ticks_by b.ticks (tick_from origin t) x ≡ moved_by b

  burst_is_ticks : (origin room n t : ℕ) (x : Member C) → AreTicks origin t x (ticks_within x.engine origin room n x.world t)
  burst_is_ticks origin room zero t x = refl
  burst_is_ticks origin room (suc n) t x =
      let k = advances (tick_from origin t) x in
      let b = ticks_within x.engine origin (room - length k.lines) n k.world (t + 1) in
      let one_more : 1 + b.ticks ≡ suc b.ticks = omega arith in
      let rest : AreTicks origin (t + 1) (with_world x k.world) b = burst_is_ticks origin (room - length k.lines) n (t + 1) (with_world x k.world) in
      let step : (q : Bool) → AreTicks origin t x (cond q (joined k.lines 1 b) (no_ticks x.world t)) =
      λ q. elim q as (λ q. AreTicks origin t x (cond q (joined k.lines 1 b) (no_ticks x.world t))) [
        | true ↦ ap (λ j. ticks_by j (tick_from origin t) x) one_more ∙ ap (λ (m : Moved C). followed_by k (λ w. m)) rest
        | false ↦ refl
      ] in
      step (nat_le LINES_FOR_TICK room)

  pub buffer_made : (at : At) (k n : ℕ) (x y : Member C) (told : List Event) (old new : Sent) → HasAdvanced at k x y told n → HasSent old new (text_of told) → IsMade (goes (ticks_by n at) x) y old new
  buffer_made at k n x y told old new h sent =
      let count : (ticks_within x.engine at.origin.0 MOST_EVENTS k x.world at.now.0).ticks ≡ n = ap (λ (b : Burst (World C) ℕ (List Event)). b.ticks) h.1 in
      let made : ticks_by n at x ≡ record { world = y.world; lines = told } =
      ap (λ j. ticks_by j at x) (sym count) ∙ burst_is_ticks at.origin.0 MOST_EVENTS k at.now.0 x ∙ ap moved_by h.1 in
      record {
        state = h.0 ∙ ap (λ (m : Moved C). with_world x m.world) (sym made);
        sent = subst (λ (m : Moved C). HasSent old new (text_of m.lines)) (sym made) sent;
      }

  -- at least one tick is made
  pub buffer_some : (at : At) (k n : ℕ) (x y : Member C) (told : List Event) → HasAdvanced at k x y told n → 0 < k → 0 < n
  buffer_some at k n x y told h some =
      let room : LINES_FOR_TICK ≤ MOST_EVENTS = omega arith in
      subst (λ (b : Burst (World C) ℕ (List Event)). 0 < b.ticks) h.1 (some_ticks x.engine at.origin.0 MOST_EVENTS at.now.0 k x.world room some)

  -- ---- one buffer after another

  -- n ticks, then m more
  ticks_more : (n m : ℕ) (at : At) (x : Member C) → goes (ticks_by (n + m) at) x ≡ then_goes (goes (ticks_by n at) x) (goes (ticks_by m (at_tick at (at.now.0 + n))))
  ticks_more zero m at x =
      let same : 0 + m ≡ m = omega arith in
      let here : at.now.0 ≡ at.now.0 + 0 = omega arith in
      ap (λ j. goes (ticks_by j at) x) same ∙ ap (λ t. goes (ticks_by m (at_tick at t)) x) here
  ticks_more (suc n) m at x =
      let k = advances at x in
      let y = with_world x k.world in
      let a = ticks_by n (next_tick at) y in
      let rest : ℕ → Moved C = λ t. ticks_by m (at_tick at t) (with_world x a.world) in
      let one_more : suc n + m ≡ suc (n + m) = omega arith in
      let there : at.now.0 + 1 + n ≡ at.now.0 + suc n = omega arith in
      ap (λ j. goes (ticks_by j at) x) one_more
      ∙ ap (λ (g : Stepped (Member C)). record { state = g.state; lines = k.lines ++ g.lines }) (ticks_more n m (next_tick at) y)
      ∙ ap (λ t. record { state = with_world x (rest t).world; lines = k.lines ++ (a.lines ++ (rest t).lines) }) there
      ∙ ap (λ (ls : List Event). record { state = with_world x (rest (at.now.0 + suc n)).world; lines = ls }) (sym (append_assoc k.lines a.lines (rest (at.now.0 + suc n)).lines))

  -- of the ticks that remain, m are made
  pub fewer_left : (most left m : ℕ) (at now : At) (x y z : Member C) (old mid new : Sent) → left ≤ most → m ≤ left → now ≡ at_tick at (at.now.0 + (most - left))
      → IsMade (goes (ticks_by (most - left) at) x) y old mid → IsMade (goes (ticks_by m now) y) z mid new → IsMade (goes (ticks_by (most - (left - m)) at) x) z old new
  fewer_left most left m at now x y z old mid new few within is_now made h =
      let there = at_tick at (at.now.0 + (most - left)) in
      let count : most - left + m ≡ most - (left - m) = omega (arith, few, within) in
      subst (λ n. IsMade (goes (ticks_by n at) x) z old new) count
      (then_made (goes (ticks_by m there)) y (ticks_more (most - left) m at x) made (subst (λ (a : At). IsMade (goes (ticks_by m a) y) z mid new) is_now h))
