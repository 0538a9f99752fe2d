-- Ticks of a member, one after another.
use Rattle.std.proofs.Common.{◌≡◌, ◌≤◌, ◌<◌, ℕ, ◌+◌, ◌-◌, List, [], ◌++◌, length, refl, ap, sym, subst, ◌∙◌}
use Rattle.apex_types.specs.declared.event.Event.{Event}
use Rattle.apex_types.specs.declared.identity.At.{At}
use Rattle.apex_types.specs.declared.limits.TheConstants.{MOST_EVENTS}
use Rattle.kernel_meaning.specs.Partition.{Member, World, with_world}
use Rattle.kernel_meaning.specs.Windows.{at_tick}
use Rattle.partition.specs.Gathering.{Gathers}
use Rattle.partition.specs.Members.{HasAdvanced, HasGone}
use Rattle.partition.specs.declared.rooms.TheConstants.{LINES_FOR_TICK}
use Rattle.partition.proofs.Gathering.{gathers_all, gathers_more, gathers_none}

pub gone_to : {C : Type 0} (at : At) (room n : ℕ) (x z : Member C) (v : World C) (lines : List Event) → z ≡ with_world x v → Gathers x.engine at.origin.0 room x.world at.now.0 n lines v → HasGone at room x z lines n
gone_to at room n x z v lines same gathers =
    let world : v ≡ z.world = sym (ap (λ (y : Member _). y.world) same) in
    (same ∙ ap (with_world x) world, subst (Gathers x.engine at.origin.0 room x.world at.now.0 n lines) world gathers)

pub gone_none : {C : Type 0} (at : At) (room : ℕ) (x : Member C) → HasGone at room x x [] 0
gone_none at room x = (refl, gathers_none x.engine at.origin.0 room at.now.0 x.world)

pub gone_more : {C : Type 0} (at : At) (room n m : ℕ) (x y z : Member C) (before after : List Event) → HasGone at room x y before n → HasGone (at_tick at (at.now.0 + n)) (room - length before) y z after m → HasGone at room x z (before ++ after) (n + m)
gone_more at room n m x y z before after first second =
    let o = at.origin.0 in
    let t = at.now.0 in
    let engine : y.engine ≡ x.engine = ap (λ (v : Member _). v.engine) first.0 in (
      second.0 ∙ ap (λ e. record { engine = e; world = z.world }) engine,
      gathers_more x.engine o room t n m x.world y.world z.world before after first.1 (subst (λ e. Gathers e o (room - length before) y.world (t + n) m after z.world) engine second.1),
    )

-- all ticks are made, or there is no room for one more
pub gone_all : {C : Type 0} (at : At) (n k : ℕ) (x y : Member C) (told : List Event) → HasGone at MOST_EVENTS x y told n → n ≤ k → (n < k → MOST_EVENTS - length told < LINES_FOR_TICK) → HasAdvanced at k x y told n
gone_all at n k x y told h within full = (h.0, gathers_all x.engine at.origin.0 MOST_EVENTS at.now.0 n k x.world y.world told h.1 within full)
