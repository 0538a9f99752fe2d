-- A number of ticks within the limits is a cost in one way.
use Rattle.std.proofs.Common.{◌≡◌, ◌<◌, ◌≤◌, ℕ, Bool, true, false, List, [], ◌∷◌, length, slice_index_or, Some, None, refl, ap, arith}
use Rattle.std.proofs.Math.Bool.{Bool-set}
use Rattle.apex_types.specs.Costs.{is_cost, ticks, cost_if, cost_of_ticks, from_order}
use Rattle.apex_types.specs.declared.cost.TickCost.{TickCost}

within_if : (n : ℕ) (is : Bool) (e : is_cost n ≡ is) (within : is_cost n ≡ true) → Some (ticks n within) ≡ cost_if n is e
within_if n true e within = ap (λ w. Some (ticks n w)) (Bool-set (is_cost n) true within e)
within_if n false e within = absurd cc

-- a number of ticks that is a cost
pub is_of_ticks : (n : ℕ) (within : is_cost n ≡ true) → Some (ticks n within) ≡ cost_of_ticks n
unfolding cost_of_ticks
is_of_ticks n within = within_if n (is_cost n) refl within

none_if : (n : ℕ) (is : Bool) (e : is_cost n ≡ is) → is_cost n ≡ false → None ≡ cost_if n is e
none_if n true e outside = absurd cc
none_if n false e outside = refl

-- a number of ticks that is none
pub is_no_cost : (n : ℕ) → is_cost n ≡ false → None ≡ cost_of_ticks n
unfolding cost_of_ticks
is_no_cost n outside = none_if n (is_cost n) refl outside

-- as many costs as keys, each in its place
pub in_order : (xs : List TickCost) (low : 15 ≤ length xs) (high : length xs < 16) (a b c d e f g h i j k l m n o : TickCost) → a ≡ slice_index_or xs 0 a → b ≡ slice_index_or xs 1 b → c ≡ slice_index_or xs 2 c → d ≡ slice_index_or xs 3 d → e ≡ slice_index_or xs 4 e → f ≡ slice_index_or xs 5 f → g ≡ slice_index_or xs 6 g → h ≡ slice_index_or xs 7 h → i ≡ slice_index_or xs 8 i → j ≡ slice_index_or xs 9 j → k ≡ slice_index_or xs 10 k → l ≡ slice_index_or xs 11 l → m ≡ slice_index_or xs 12 m → n ≡ slice_index_or xs 13 n → o ≡ slice_index_or xs 14 o → Some (record { literal = a; scalar = b; array = c; add = d; mul = e; div = f; logic = g; branch = h; jump = i; call = j; ret = k; create = l; message = m; service = n; end = o }) ≡ from_order xs
in_order [] low high _ _ _ _ _ _ _ _ _ _ _ _ _ _ _ _ _ _ _ _ _ _ _ _ _ _ _ _ _ _ = absurd (omega (arith, low))
in_order (x0 ∷ []) low high _ _ _ _ _ _ _ _ _ _ _ _ _ _ _ _ _ _ _ _ _ _ _ _ _ _ _ _ _ _ = absurd (omega (arith, low))
in_order (x0 ∷ x1 ∷ []) low high _ _ _ _ _ _ _ _ _ _ _ _ _ _ _ _ _ _ _ _ _ _ _ _ _ _ _ _ _ _ = absurd (omega (arith, low))
in_order (x0 ∷ x1 ∷ x2 ∷ []) low high _ _ _ _ _ _ _ _ _ _ _ _ _ _ _ _ _ _ _ _ _ _ _ _ _ _ _ _ _ _ = absurd (omega (arith, low))
in_order (x0 ∷ x1 ∷ x2 ∷ x3 ∷ []) low high _ _ _ _ _ _ _ _ _ _ _ _ _ _ _ _ _ _ _ _ _ _ _ _ _ _ _ _ _ _ = absurd (omega (arith, low))
in_order (x0 ∷ x1 ∷ x2 ∷ x3 ∷ x4 ∷ []) low high _ _ _ _ _ _ _ _ _ _ _ _ _ _ _ _ _ _ _ _ _ _ _ _ _ _ _ _ _ _ = absurd (omega (arith, low))
in_order (x0 ∷ x1 ∷ x2 ∷ x3 ∷ x4 ∷ x5 ∷ []) low high _ _ _ _ _ _ _ _ _ _ _ _ _ _ _ _ _ _ _ _ _ _ _ _ _ _ _ _ _ _ = absurd (omega (arith, low))
in_order (x0 ∷ x1 ∷ x2 ∷ x3 ∷ x4 ∷ x5 ∷ x6 ∷ []) low high _ _ _ _ _ _ _ _ _ _ _ _ _ _ _ _ _ _ _ _ _ _ _ _ _ _ _ _ _ _ = absurd (omega (arith, low))
in_order (x0 ∷ x1 ∷ x2 ∷ x3 ∷ x4 ∷ x5 ∷ x6 ∷ x7 ∷ []) low high _ _ _ _ _ _ _ _ _ _ _ _ _ _ _ _ _ _ _ _ _ _ _ _ _ _ _ _ _ _ = absurd (omega (arith, low))
in_order (x0 ∷ x1 ∷ x2 ∷ x3 ∷ x4 ∷ x5 ∷ x6 ∷ x7 ∷ x8 ∷ []) low high _ _ _ _ _ _ _ _ _ _ _ _ _ _ _ _ _ _ _ _ _ _ _ _ _ _ _ _ _ _ = absurd (omega (arith, low))
in_order (x0 ∷ x1 ∷ x2 ∷ x3 ∷ x4 ∷ x5 ∷ x6 ∷ x7 ∷ x8 ∷ x9 ∷ []) low high _ _ _ _ _ _ _ _ _ _ _ _ _ _ _ _ _ _ _ _ _ _ _ _ _ _ _ _ _ _ = absurd (omega (arith, low))
in_order (x0 ∷ x1 ∷ x2 ∷ x3 ∷ x4 ∷ x5 ∷ x6 ∷ x7 ∷ x8 ∷ x9 ∷ x10 ∷ []) low high _ _ _ _ _ _ _ _ _ _ _ _ _ _ _ _ _ _ _ _ _ _ _ _ _ _ _ _ _ _ = absurd (omega (arith, low))
in_order (x0 ∷ x1 ∷ x2 ∷ x3 ∷ x4 ∷ x5 ∷ x6 ∷ x7 ∷ x8 ∷ x9 ∷ x10 ∷ x11 ∷ []) low high _ _ _ _ _ _ _ _ _ _ _ _ _ _ _ _ _ _ _ _ _ _ _ _ _ _ _ _ _ _ = absurd (omega (arith, low))
in_order (x0 ∷ x1 ∷ x2 ∷ x3 ∷ x4 ∷ x5 ∷ x6 ∷ x7 ∷ x8 ∷ x9 ∷ x10 ∷ x11 ∷ x12 ∷ []) low high _ _ _ _ _ _ _ _ _ _ _ _ _ _ _ _ _ _ _ _ _ _ _ _ _ _ _ _ _ _ = absurd (omega (arith, low))
in_order (x0 ∷ x1 ∷ x2 ∷ x3 ∷ x4 ∷ x5 ∷ x6 ∷ x7 ∷ x8 ∷ x9 ∷ x10 ∷ x11 ∷ x12 ∷ x13 ∷ []) low high _ _ _ _ _ _ _ _ _ _ _ _ _ _ _ _ _ _ _ _ _ _ _ _ _ _ _ _ _ _ = absurd (omega (arith, low))
in_order (x0 ∷ x1 ∷ x2 ∷ x3 ∷ x4 ∷ x5 ∷ x6 ∷ x7 ∷ x8 ∷ x9 ∷ x10 ∷ x11 ∷ x12 ∷ x13 ∷ x14 ∷ []) low high a b c d e f g h i j k l m n o ea eb ec ed ee ef eg eh ei ej ek el em en eo = rw (ea, eb, ec, ed, ee, ef, eg, eh, ei, ej, ek, el, em, en, eo) refl
in_order (x0 ∷ x1 ∷ x2 ∷ x3 ∷ x4 ∷ x5 ∷ x6 ∷ x7 ∷ x8 ∷ x9 ∷ x10 ∷ x11 ∷ x12 ∷ x13 ∷ x14 ∷ x15 ∷ rest) low high _ _ _ _ _ _ _ _ _ _ _ _ _ _ _ _ _ _ _ _ _ _ _ _ _ _ _ _ _ _ = absurd (omega (arith, high))
