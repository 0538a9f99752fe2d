-- Up to the next edge of a window the owner stays, and no window ends.
use Rattle.std.proofs.Common.{◌≡◌, ℕ, zero, suc, ◌+◌, ◌-◌, ◌%◌, ◌<◌, ◌≤◌, min, false, ◌&&◌, cond, nat_lt, nat_le, find, List, [], ◌∷◌, Some, None, refl, sym, ap, ◌∙◌, arith, subst, inl, inr, ◌⊎◌}
use Rattle.std.specs.Prelude.{option_map}
use Rattle.std.proofs.Math.Nat.{mod-eq_of_lt, mod-add-mod}
use Rattle.std.proofs.lemmas.Nat.{mod_below}
use Rattle.std.proofs.lemmas.Bool.{lt-ltb, le-ltb, le-leb, lt-leb, ne_eqb}
use Rattle.apex_types.specs.declared.identity.At.{At}
use Rattle.apex_types.specs.declared.row.WindowRow.{WindowRow}
use Rattle.kernel_meaning.specs.Windows.{Schedule, at_tick, phase, is_within, ends_at, owner, ended}
use Rattle.window_table.specs.Edges.{until_edge, until_edges}

apart : (a b : ℕ) → (a < b) ⊎ (b ≤ a)
apart a zero = inr (omega arith)
apart zero (suc b) = inl (omega arith)
apart (suc a) (suc b) = elim (apart a b) [ inl h ↦ inl (omega (arith, h)) | inr h ↦ inr (omega (arith, h)) ]

-- ---- an edge

edge_at_most : (frame place edge i : ℕ) → i < until_edge frame place edge → place < edge → place + i < edge
edge_at_most frame place edge i below h =
    let is : until_edge frame place edge ≡ edge - place = ap (λ b. cond b (edge - place) (frame - place)) (lt-ltb place edge h) in
    omega (arith, is, below, h)

-- no more than is left of the frame
edges_at_most : (frame place : ℕ) (ws : List WindowRow) → until_edges frame place ws ≤ frame - place
edges_at_most frame place [] = omega arith
edges_at_most frame place (w ∷ ws) =
    let h = edges_at_most frame place ws in
    let o = until_edge frame place w.offset in
    let e = until_edge frame place ((w.offset + w.length) % frame) in
    omega (arith, h)

pub until_one : (frame place : ℕ) (ws : List WindowRow) → until_edges frame place ws ≡ min (frame - place) (until_edges frame place ws)
until_one frame place ws = let h = edges_at_most frame place ws in omega (arith, h)

-- ---- a window

-- the comparisons stay
starts_stays : (place offset i : ℕ) → (place < offset → place + i < offset) → nat_le offset (place + i) ≡ nat_le offset place
starts_stays place offset i h = elim (apart place offset) [
  | inl p ↦ lt-leb offset (place + i) (h p) ∙ sym (lt-leb offset place p)
  | inr p ↦ le-leb offset (place + i) (omega (arith, p)) ∙ sym (le-leb offset place p)
]

ends_stays : (place end i : ℕ) → (place < end → place + i < end) → nat_lt (place + i) end ≡ nat_lt place end
ends_stays place end i h = elim (apart place end) [
  | inl p ↦ lt-ltb (place + i) end (h p) ∙ sym (lt-ltb place end p)
  | inr p ↦ le-ltb (place + i) end (omega (arith, p)) ∙ sym (le-ltb place end p)
]

-- the end of a window, as long as the frame lasts
end_stays : (frame place end i : ℕ) → 0 < frame → place + i < frame → (place < end % frame → place + i < end % frame) → place < end → place + i < end
end_stays frame place end i there within h p = elim (apart end frame) [
  | inl q ↦
      let same : end % frame ≡ end = mod-eq_of_lt q in
      let r : place + i < end % frame = h (omega (arith, same, p)) in
      omega (arith, same, r)
  | inr q ↦ omega (arith, q, within)
]

-- a property of the head of the windows, and of the others
first_edge : (x y z i : ℕ) → i < min (min x y) z → i < x
first_edge x y z i h = omega (arith, h)

second_edge : (x y z i : ℕ) → i < min (min x y) z → i < y
second_edge x y z i h = omega (arith, h)

other_edges : (x y z i : ℕ) → i < min (min x y) z → i < z
other_edges x y z i h = omega (arith, h)

window_stays : (frame place i : ℕ) (w : WindowRow) (ws : List WindowRow) → 0 < frame → place + i < frame → i < until_edges frame place (w ∷ ws) → is_within (place + i) w ≡ is_within place w
window_stays frame place i w ws there within below =
    let o = until_edge frame place w.offset in
    let e = until_edge frame place ((w.offset + w.length) % frame) in
    let starts : nat_le w.offset (place + i) ≡ nat_le w.offset place = starts_stays place w.offset i (edge_at_most frame place w.offset i (first_edge o e (until_edges frame place ws) i below)) in
    let ends : nat_lt (place + i) (w.offset + w.length) ≡ nat_lt place (w.offset + w.length) =
    ends_stays place (w.offset + w.length) i (end_stays frame place (w.offset + w.length) i there within (edge_at_most frame place ((w.offset + w.length) % frame) i (second_edge o e (until_edges frame place ws) i below))) in
    ap (λ b. b && nat_lt (place + i) (w.offset + w.length)) starts ∙ ap (λ b. nat_le w.offset place && b) ends

window_goes_on : (frame place i : ℕ) (w : WindowRow) (ws : List WindowRow) → 0 < i → i < until_edges frame place (w ∷ ws) → ends_at frame (place + i) w ≡ false
window_goes_on frame place i w ws there below =
    let o = until_edge frame place w.offset in
    let e = until_edge frame place ((w.offset + w.length) % frame) in
    let edge = (w.offset + w.length) % frame in
    let stays = edge_at_most frame place edge i (second_edge o e (until_edges frame place ws) i below) in
    elim (apart place edge) [
      | inl p ↦ let q = stays p in ne_eqb edge (place + i) (λ is. omega (arith, is, q))
      | inr p ↦ ne_eqb edge (place + i) (λ is. omega (arith, is, p, there))
    ]

-- ---- of all windows

within_stays : (frame place i : ℕ) (ws : List WindowRow) → 0 < frame → place + i < frame → i < until_edges frame place ws → find (is_within (place + i)) ws ≡ find (is_within place) ws
within_stays frame place i [] there within below = refl
within_stays frame place i (w ∷ ws) there within below =
    let o = until_edge frame place w.offset in
    let e = until_edge frame place ((w.offset + w.length) % frame) in
    ap (λ b. cond b (Some w) (find (is_within (place + i)) ws)) (window_stays frame place i w ws there within below)
    ∙ ap (λ r. cond (is_within place w) (Some w) r) (within_stays frame place i ws there within (other_edges o e (until_edges frame place ws) i below))

none_at_edge : (frame place i : ℕ) (ws : List WindowRow) → 0 < i → i < until_edges frame place ws → find (ends_at frame (place + i)) ws ≡ None
none_at_edge frame place i [] there below = refl
none_at_edge frame place i (w ∷ ws) there below =
    let o = until_edge frame place w.offset in
    let e = until_edge frame place ((w.offset + w.length) % frame) in
    ap (λ b. cond b (Some w) (find (ends_at frame (place + i)) ws)) (window_goes_on frame place i w ws there below)
    ∙ none_at_edge frame place i ws there (other_edges o e (until_edges frame place ws) i below)

-- ---- of a tick

later_phase : (s : Schedule) (at : At) → 0 < s.frame → at.origin.0 ≤ at.now.0 → (i : ℕ) → phase s at + i < s.frame → phase s (at_tick at (at.now.0 + i)) ≡ phase s at + i
later_phase s at there past i within =
    let far : at.now.0 + i - at.origin.0 ≡ (at.now.0 - at.origin.0) + i = omega (arith, past) in
    ap (λ n. n % s.frame) far ∙ sym (mod-add-mod (at.now.0 - at.origin.0) s.frame i) ∙ mod-eq_of_lt within

in_frame : (s : Schedule) (place n i : ℕ) → n ≡ until_edges s.frame place s.windows → i < n → place < s.frame → place + i < s.frame
in_frame s place n i is below small = let h = edges_at_most s.frame place s.windows in omega (arith, h, is, below, small)

pub owner_stays : (s : Schedule) (at : At) → 0 < s.frame → at.origin.0 ≤ at.now.0 → (place : ℕ) → place ≡ phase s at → (n : ℕ) → n ≡ until_edges s.frame place s.windows → (i : ℕ) → i < n → owner s (at_tick at (at.now.0 + i)) ≡ owner s at
owner_stays s at there past place here n is i below =
    let small : place < s.frame = subst (λ p. p < s.frame) (sym here) (mod_below (at.now.0 - at.origin.0) s.frame there) in
    let within : place + i < s.frame = in_frame s place n i is below small in
    let later : phase s (at_tick at (at.now.0 + i)) ≡ place + i = later_phase s at there past i (subst (λ p. p + i < s.frame) here within) ∙ ap (λ p. p + i) (sym here) in
    let found : find (is_within (place + i)) s.windows ≡ find (is_within place) s.windows = within_stays s.frame place i s.windows there within (subst (λ m. i < m) is below) in
    ap (λ p. option_map (λ (w : WindowRow). w.partition.0) (find (is_within p) s.windows)) later
    ∙ ap (λ o. option_map (λ (w : WindowRow). w.partition.0) o) found
    ∙ ap (λ p. option_map (λ (w : WindowRow). w.partition.0) (find (is_within p) s.windows)) here

pub none_ends : (s : Schedule) (at : At) → 0 < s.frame → at.origin.0 ≤ at.now.0 → (place : ℕ) → place ≡ phase s at → (n : ℕ) → n ≡ until_edges s.frame place s.windows → (i : ℕ) → 0 < i → i < n → ended s (at_tick at (at.now.0 + i)) ≡ None
none_ends s at there past place here n is i some below =
    let small : place < s.frame = subst (λ p. p < s.frame) (sym here) (mod_below (at.now.0 - at.origin.0) s.frame there) in
    let within : place + i < s.frame = in_frame s place n i is below small in
    let later : phase s (at_tick at (at.now.0 + i)) ≡ place + i = later_phase s at there past i (subst (λ p. p + i < s.frame) here within) ∙ ap (λ p. p + i) (sym here) in
    let none : find (ends_at s.frame (place + i)) s.windows ≡ None = none_at_edge s.frame place i s.windows some (subst (λ m. i < m) is below) in
    ap (λ b. cond b (option_map (λ (w : WindowRow). w.partition.0) (find (ends_at s.frame (phase s (at_tick at (at.now.0 + i)))) s.windows)) None) (lt-ltb at.origin.0 (at.now.0 + i) (omega (arith, past, some)))
    ∙ ap (λ p. option_map (λ (w : WindowRow). w.partition.0) (find (ends_at s.frame p) s.windows)) later
    ∙ ap (λ o. option_map (λ (w : WindowRow). w.partition.0) o) none
