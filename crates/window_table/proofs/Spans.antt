-- Windows that follow one another: the first that ends after a place of the frame says who owns the
-- place, whose window ends there, and where the next edge is.
use Rattle.std.proofs.Common.{◌≡◌, ℕ, zero, suc, ◌+◌, ◌-◌, ◌%◌, ◌<◌, ◌≤◌, ◌==◌, Bool, true, false, cond, ◌&&◌, nat_le, nat_lt, find, List, [], ◌∷◌, Option, Some, None, length, refl, sym, ap, subst, ◌∙◌, arith, inl, inr}
use Rattle.std.specs.Prelude.{option_map, slice_get}
use Rattle.std.proofs.Math.Nat.{mod-eq_of_lt, mod_self}
use Rattle.std.proofs.lemmas.Bool.{lt-ltb, le-ltb, lt-leb, leb-true, ne_eqb, eqb-true, eq-eqb, and_parts, cases_lt}
use Rattle.apex_types.specs.declared.row.WindowRow.{WindowRow}
use Rattle.kernel_meaning.specs.Windows.{is_within, ends_at}
use Rattle.kernel_laws.proofs.WindowOrder.{AreInOrder}
use Rattle.window_table.specs.Edges.{until_edge, until_edges}
use Rattle.window_table.specs.Orders.{AreApart}
use Rattle.window_table.specs.Spans.{end_of, first_left, is_over, is_left, is_first_left, owner_in, ended_in, ended_behind, ended_before, next_edge}
use Rattle.window_table.proofs.Apart.{in_order}
use Rattle.window_table.proofs.Changes.{until_one}

abbrev partition_of : WindowRow → ℕ
partition_of w = w.partition.0

-- ---- the owner

-- a place before all windows is in none
none_within : (frame low place : ℕ) (ws : List WindowRow) → AreInOrder frame low ws → place < low → find (is_within place) ws ≡ None
none_within frame low place [] h before = refl
none_within frame low place (w ∷ ws) h before =
    ap (λ (b : Bool). cond (b && nat_lt place (w.offset + w.length)) (Some w) (find (is_within place) ws)) (lt-leb w.offset place (omega (arith, h.0, before)))
    ∙ none_within frame (w.offset + w.length) place ws h.3 (omega (arith, h.0, before))

never : (b : Bool) → (b && false) ≡ false
never true = refl
never false = refl

always : (b : Bool) → (b && true) ≡ b
always true = refl
always false = refl

owner_found : (frame low place : ℕ) (ws : List WindowRow) → AreInOrder frame low ws → option_map partition_of (find (is_within place) ws) ≡ owner_in place (slice_get ws (first_left place ws))
owner_found frame low place [] h = refl
owner_found frame low place (w ∷ ws) h = elim (cases_lt place (end_of w)) [
  | inl p ↦
      ap (λ (b : Bool). option_map partition_of (cond (nat_le w.offset place && b) (Some w) (find (is_within place) ws))) (lt-ltb place (end_of w) p)
      ∙ ap (λ (b : Bool). option_map partition_of (cond b (Some w) (find (is_within place) ws))) (always (nat_le w.offset place))
      ∙ ap (λ (o : Option WindowRow). option_map partition_of (cond (nat_le w.offset place) (Some w) o)) (none_within frame (w.offset + w.length) place ws h.3 p)
      ∙ either (nat_le w.offset place)
      ∙ sym (ap (λ (b : Bool). owner_in place (slice_get (w ∷ ws) (cond b 0 (suc (first_left place ws))))) (lt-ltb place (end_of w) p))
  | inr p ↦
      ap (λ (b : Bool). option_map partition_of (cond (nat_le w.offset place && b) (Some w) (find (is_within place) ws))) (le-ltb place (end_of w) (omega (arith, p)))
      ∙ ap (λ (b : Bool). option_map partition_of (cond b (Some w) (find (is_within place) ws))) (never (nat_le w.offset place))
      ∙ owner_found frame (w.offset + w.length) place ws h.3
      ∙ sym (ap (λ (b : Bool). owner_in place (slice_get (w ∷ ws) (cond b 0 (suc (first_left place ws))))) (le-ltb place (end_of w) (omega (arith, p))))
]
  where
    either : (b : Bool) → option_map partition_of (cond b (Some w) None) ≡ cond b (Some w.partition.0) None
    either true = refl
    either false = refl

-- ---- the first window that ends after a place

-- a window ends after the place from which on all of them are
later_end : (frame low i : ℕ) (ws : List WindowRow) (v : WindowRow) → AreInOrder frame low ws → slice_get ws i ≡ Some v → low ≤ end_of v
later_end frame low i [] v h e = absurd cc
later_end frame low zero (w ∷ ws) v h e = let same : w ≡ v = cc in omega (arith, h.0, ap (λ (x : WindowRow). end_of x) same)
later_end frame low (suc i) (w ∷ ws) v h e = let rest = later_end frame (w.offset + w.length) i ws v h.3 e in omega (arith, h.0, rest)

first_of_all : (place : ℕ) (ws : List WindowRow) → is_left place (slice_get ws 0) ≡ true → first_left place ws ≡ 0
first_of_all place [] h = refl
first_of_all place (w ∷ ws) h = ap (λ (b : Bool). cond b 0 (suc (first_left place ws))) h

behind_one : (place : ℕ) (w : WindowRow) (ws : List WindowRow) (i : ℕ) → end_of w ≤ place → first_left place ws ≡ i → first_left place (w ∷ ws) ≡ suc i
behind_one place w ws i over e = ap (λ (b : Bool). cond b 0 (suc (first_left place ws))) (le-ltb place (end_of w) over) ∙ ap suc e

first_behind : (frame low place i : ℕ) (ws : List WindowRow) (v : WindowRow) → AreInOrder frame low ws → slice_get ws i ≡ Some v → end_of v ≤ place → is_left place (slice_get ws (suc i)) ≡ true → first_left place ws ≡ suc i
first_behind frame low place i [] v h e over left = absurd cc
first_behind frame low place zero (w ∷ ws) v h e over left = let same : w ≡ v = cc in behind_one place w ws 0 (omega (arith, over, ap (λ (x : WindowRow). end_of x) same)) (first_of_all place ws left)
first_behind frame low place (suc i) (w ∷ ws) v h e over left =
    let later = later_end frame (w.offset + w.length) i ws v h.3 e in
    behind_one place w ws (suc i) (omega (arith, over, later)) (first_behind frame (w.offset + w.length) place i ws v h.3 e over left)

first_over : (frame place i : ℕ) (ws : List WindowRow) (o : Option WindowRow) → AreInOrder frame 0 ws → slice_get ws i ≡ o → is_over place o ≡ true → is_left place (slice_get ws (suc i)) ≡ true → first_left place ws ≡ suc i
first_over frame place i ws None h e over left = absurd cc
first_over frame place i ws (Some v) h e over left = first_behind frame 0 place i ws v h e (leb-true (end_of v) place over) left

in_place : (frame place i : ℕ) (ws : List WindowRow) → AreInOrder frame 0 ws → is_first_left place ws i ≡ true → first_left place ws ≡ i
in_place frame place zero ws h is = first_of_all place ws is
in_place frame place (suc i) ws h is =
    let both = and_parts (is_left place (slice_get ws (suc i))) (is_over place (slice_get ws i)) is in
    first_over frame place i ws (slice_get ws i) h refl both.1 both.0

-- what passes the test is the first one
pub is_the_first : (frame place i : ℕ) (ws : List WindowRow) → AreApart frame ws → is_first_left place ws i ≡ true → i ≡ first_left place ws
is_the_first frame place i ws h is = sym (in_place frame place i ws (in_order frame 0 ws h) is)

-- ---- the window that ends at a place

-- an end of a window after a place within the frame is at another place
end_apart : (frame place e : ℕ) → 0 < place → place < e → e ≤ frame → (e % frame == place) ≡ false
end_apart frame place e some before within = elim (cases_lt e frame) [
  | inl l ↦ let same : e % frame ≡ e = mod-eq_of_lt l in ne_eqb (e % frame) place (λ is. omega (arith, same, is, before))
  | inr g ↦ let whole : e ≡ frame = omega (arith, g, within) in let none : e % frame ≡ 0 = ap (λ (n : ℕ). n % frame) whole ∙ mod_self frame in ne_eqb (e % frame) place (λ is. omega (arith, none, is, some))
]

none_ends : (frame low place : ℕ) (ws : List WindowRow) → AreInOrder frame low ws → 0 < place → place ≤ low → find (ends_at frame place) ws ≡ None
none_ends frame low place [] h some before = refl
none_ends frame low place (w ∷ ws) h some before =
    ap (λ (b : Bool). cond b (Some w) (find (ends_at frame place) ws)) (end_apart frame place (end_of w) some (omega (arith, h.0, h.1, before)) h.2)
    ∙ none_ends frame (w.offset + w.length) place ws h.3 some (omega (arith, h.0, before))

first_after : (frame low place : ℕ) (ws : List WindowRow) → AreInOrder frame low ws → place ≤ low → first_left place ws ≡ 0
first_after frame low place [] h before = refl
first_after frame low place (w ∷ ws) h before = ap (λ (b : Bool). cond b 0 (suc (first_left place ws))) (lt-ltb place (end_of w) (omega (arith, h.0, h.1, before)))

other_behind : (place i : ℕ) (w : WindowRow) (ws : List WindowRow) → (end_of w == place) ≡ false → ended_behind place ws i ≡ ended_in place (slice_get (w ∷ ws) i)
other_behind place zero w ws e = sym (ap (λ (b : Bool). cond b (Some w.partition.0) None) e)
other_behind place (suc i) w ws e = refl

ended_found : (frame low place : ℕ) (ws : List WindowRow) → AreInOrder frame low ws → 0 < place → place < frame → option_map partition_of (find (ends_at frame place) ws) ≡ ended_behind place ws (first_left place ws)
ended_found frame low place [] h some within = refl
ended_found frame low place (w ∷ ws) h some within = elim (cases_lt place (end_of w)) [
  | inl p ↦
      ap (λ (b : Bool). option_map partition_of (cond b (Some w) (find (ends_at frame place) ws))) (end_apart frame place (end_of w) some p h.2)
      ∙ ap (option_map partition_of) (none_ends frame (w.offset + w.length) place ws h.3 some (omega (arith, p)))
      ∙ sym (ap (λ (b : Bool). ended_behind place (w ∷ ws) (cond b 0 (suc (first_left place ws)))) (lt-ltb place (end_of w) p))
  | inr p ↦
      let same : end_of w % frame ≡ end_of w = mod-eq_of_lt (omega (arith, p, within)) in
      ap (λ (n : ℕ). option_map partition_of (cond (n == place) (Some w) (find (ends_at frame place) ws))) same
      ∙ either (end_of w == place) refl (ended_found frame (w.offset + w.length) place ws h.3 some within)
      ∙ sym (ap (λ (b : Bool). ended_behind place (w ∷ ws) (cond b 0 (suc (first_left place ws)))) (le-ltb place (end_of w) p))
]
  where
    either : (b : Bool) → (end_of w == place) ≡ b → option_map partition_of (find (ends_at frame place) ws) ≡ ended_behind place ws (first_left place ws) → option_map partition_of (cond b (Some w) (find (ends_at frame place) ws)) ≡ ended_in place (slice_get (w ∷ ws) (first_left place ws))
    either true e rest =
        let is : end_of w ≡ place = eqb-true (end_of w) place e in
        sym (ap (λ (i : ℕ). ended_in place (slice_get (w ∷ ws) i)) (first_after frame (w.offset + w.length) place ws h.3 (omega (arith, is)))
        ∙ ap (λ (b : Bool). cond b (Some w.partition.0) None) e)
    either false e rest = rest ∙ other_behind place (first_left place ws) w ws e

end_with_frame : (frame e : ℕ) → 1 ≤ e → e ≤ frame → (e % frame == 0) ≡ (e == frame)
end_with_frame frame e some within = elim (cases_lt e frame) [
  | inl l ↦
      let same : e % frame ≡ e = mod-eq_of_lt l in
      ne_eqb (e % frame) 0 (λ is. omega (arith, same, is, some)) ∙ sym (ne_eqb e frame (λ is. omega (arith, is, l)))
  | inr g ↦
      let whole : e ≡ frame = omega (arith, g, within) in
      ap (λ (n : ℕ). n % frame == 0) whole ∙ ap (λ (n : ℕ). n == 0) (mod_self frame) ∙ sym (ap (λ (n : ℕ). n == frame) whole ∙ eq-eqb frame frame refl)
]

last_ended : (frame low : ℕ) (ws : List WindowRow) → AreInOrder frame low ws → option_map partition_of (find (ends_at frame 0) ws) ≡ ended_in frame (slice_get ws (length ws - 1))
last_ended frame low [] h = refl
last_ended frame low (w ∷ []) h = ap (λ (b : Bool). option_map partition_of (cond b (Some w) None)) (end_with_frame frame (end_of w) (omega (arith, h.1)) h.2) ∙ either (end_of w == frame)
  where
    either : (b : Bool) → option_map partition_of (cond b (Some w) None) ≡ cond b (Some w.partition.0) None
    either true = refl
    either false = refl
last_ended frame low (w ∷ v ∷ ws) h =
    let inside : end_of w < frame = omega (arith, h.3.0, h.3.1, h.3.2) in
    let other : (end_of w == frame) ≡ false = ne_eqb (end_of w) frame (λ is. omega (arith, is, inside)) in
    let place : length (w ∷ v ∷ ws) - 1 ≡ suc (length (v ∷ ws) - 1) = omega arith in
    ap (λ (b : Bool). option_map partition_of (cond b (Some w) (find (ends_at frame 0) (v ∷ ws)))) (end_with_frame frame (end_of w) (omega (arith, h.1)) h.2 ∙ other)
    ∙ last_ended frame (w.offset + w.length) (v ∷ ws) h.3
    ∙ sym (ap (λ (i : ℕ). ended_in frame (slice_get (w ∷ v ∷ ws) i)) place)

-- ---- the next edge

until_after : (frame place edge : ℕ) → place < edge → until_edge frame place edge ≡ edge - place
until_after frame place edge p = ap (λ (b : Bool). cond b (edge - place) (frame - place)) (lt-ltb place edge p)

until_before : (frame place edge : ℕ) → edge ≤ place → until_edge frame place edge ≡ frame - place
until_before frame place edge p = ap (λ (b : Bool). cond b (edge - place) (frame - place)) (le-ltb place edge p)

-- the end of a window
until_end : (frame place e : ℕ) → place < e → e ≤ frame → until_edge frame place (e % frame) ≡ e - place
until_end frame place e after within = elim (cases_lt e frame) [
  | inl l ↦ ap (until_edge frame place) (mod-eq_of_lt l) ∙ until_after frame place e after
  | inr g ↦
      let whole : e ≡ frame = omega (arith, g, within) in
      ap (until_edge frame place) (ap (λ (n : ℕ). n % frame) whole ∙ mod_self frame) ∙ until_before frame place 0 (omega arith) ∙ ap (λ (n : ℕ). n - place) (sym whole)
]

-- no edge of later windows is nearer than their begin
edges_later : (frame low place : ℕ) (ws : List WindowRow) → AreInOrder frame low ws → place < low → low ≤ frame → low - place ≤ until_edges frame place ws
edges_later frame low place [] h before within = omega (arith, before, within)
edges_later frame low place (w ∷ ws) h before within =
    let o = until_after frame place w.offset (omega (arith, h.0, before)) in
    let e = until_end frame place (end_of w) (omega (arith, h.0, h.1, before)) h.2 in
    let r = edges_later frame (w.offset + w.length) place ws h.3 (omega (arith, h.0, before)) h.2 in
    omega (arith, o, e, r, h.0, before)

next_of : (frame place : ℕ) (w : WindowRow) (ws : List WindowRow) → AreInOrder frame (end_of w) ws → end_of w ≤ frame → place < end_of w → until_edges frame place (w ∷ ws) ≡ next_edge frame place (Some w) - place
next_of frame place w ws h within before =
    let e = until_end frame place (end_of w) before within in
    let r = edges_later frame (end_of w) place ws h before within in
    elim (cases_lt place w.offset) [
      | inl l ↦
          let o = until_after frame place w.offset l in
          let n : next_edge frame place (Some w) ≡ w.offset = ap (λ (b : Bool). cond b w.offset (end_of w)) (lt-ltb place w.offset l) in
          omega (arith, o, e, r, n, l)
      | inr g ↦
          let o = until_before frame place w.offset g in
          let n : next_edge frame place (Some w) ≡ end_of w = ap (λ (b : Bool). cond b w.offset (end_of w)) (le-ltb place w.offset g) in
          omega (arith, o, e, r, n, within)
    ]

edge_found : (frame low place : ℕ) (ws : List WindowRow) → AreInOrder frame low ws → place < frame → until_edges frame place ws ≡ next_edge frame place (slice_get ws (first_left place ws)) - place
edge_found frame low place [] h within = refl
edge_found frame low place (w ∷ ws) h within = elim (cases_lt place (end_of w)) [
  | inl p ↦ next_of frame place w ws h.3 h.2 p ∙ sym (ap (λ (b : Bool). next_edge frame place (slice_get (w ∷ ws) (cond b 0 (suc (first_left place ws)))) - place) (lt-ltb place (end_of w) p))
  | inr p ↦
      let same : end_of w % frame ≡ end_of w = mod-eq_of_lt (omega (arith, p, within)) in
      let o = until_before frame place w.offset (omega (arith, p)) in
      let e : until_edge frame place (end_of w % frame) ≡ frame - place = ap (until_edge frame place) same ∙ until_before frame place (end_of w) p in
      let most = until_one frame place ws in
      let skip : until_edges frame place (w ∷ ws) ≡ until_edges frame place ws = omega (arith, o, e, most) in
      skip ∙ edge_found frame (w.offset + w.length) place ws h.3 within
      ∙ sym (ap (λ (b : Bool). next_edge frame place (slice_get (w ∷ ws) (cond b 0 (suc (first_left place ws)))) - place) (le-ltb place (end_of w) p))
]

-- the next edge comes later
pub edge_after : (frame place : ℕ) (ws : List WindowRow) → place < frame → place < next_edge frame place (slice_get ws (first_left place ws))
edge_after frame place [] within = within
edge_after frame place (w ∷ ws) within = elim (cases_lt place (end_of w)) [
  | inl p ↦ subst (λ (i : ℕ). place < next_edge frame place (slice_get (w ∷ ws) i)) (sym (ap (λ (b : Bool). cond b 0 (suc (first_left place ws))) (lt-ltb place (end_of w) p))) (either p)
  | inr p ↦ subst (λ (i : ℕ). place < next_edge frame place (slice_get (w ∷ ws) i)) (sym (ap (λ (b : Bool). cond b 0 (suc (first_left place ws))) (le-ltb place (end_of w) p))) (edge_after frame place ws within)
]
  where
    either : place < end_of w → place < next_edge frame place (Some w)
    either p = elim (cases_lt place w.offset) [
      | inl l ↦ subst (λ (b : Bool). place < cond b w.offset (end_of w)) (sym (lt-ltb place w.offset l)) l
      | inr g ↦ subst (λ (b : Bool). place < cond b w.offset (end_of w)) (sym (le-ltb place w.offset g)) p
    ]

-- ---- as the code meets them

pub ended_is : (frame place : ℕ) (ws : List WindowRow) → AreApart frame ws → place < frame → option_map partition_of (find (ends_at frame place) ws) ≡ ended_before frame place ws (first_left place ws)
ended_is frame zero ws h within = last_ended frame 0 ws (in_order frame 0 ws h)
ended_is frame (suc place) ws h within = ended_found frame 0 (suc place) ws (in_order frame 0 ws h) (omega arith) within ∙ sym (ap (λ (b : Bool). cond b (ended_in frame (slice_get ws (length ws - 1))) (ended_behind (suc place) ws (first_left (suc place) ws))) (ne_eqb (suc place) 0 (λ is. omega (arith, is))))

pub owner_is : (frame place : ℕ) (ws : List WindowRow) → AreApart frame ws → option_map partition_of (find (is_within place) ws) ≡ owner_in place (slice_get ws (first_left place ws))
owner_is frame place ws h = owner_found frame 0 place ws (in_order frame 0 ws h)

pub edge_is : (frame place : ℕ) (ws : List WindowRow) → AreApart frame ws → place < frame → until_edges frame place ws ≡ next_edge frame place (slice_get ws (first_left place ws)) - place
edge_is frame place ws h within = edge_found frame 0 place ws (in_order frame 0 ws h) within
