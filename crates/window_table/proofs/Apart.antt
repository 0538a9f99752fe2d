-- Windows that follow one another: as a test and as a statement, and the windows of one partition.
use Rattle.std.proofs.Common.{◌≡◌, ℕ, ◌+◌, ◌≤◌, Bool, true, false, List, [], ◌∷◌, refl, sym, subst, arith}
use Rattle.std.specs.Prelude.{filter, ◌||◌, nat_lt, if◌then◌else◌}
use Rattle.std.proofs.lemmas.Bool.{or_parts, or_from, ltb-false, le-ltb}
use Rattle.apex_types.specs.declared.row.WindowRow.{WindowRow}
use Rattle.kernel_meaning.specs.WindowFacts.{BeginWithin}
use Rattle.kernel_laws.proofs.WindowOrder.{AreInOrder, begin_within}
use Rattle.window_table.specs.Orders.{is_one_astray, AreApart}

pub in_order : (frame low : ℕ) (ws : List WindowRow) → is_one_astray frame low ws ≡ false → AreInOrder frame low ws
in_order frame low [] h = tt
in_order frame low (w ∷ ws) h =
    let a = or_parts (nat_lt w.offset low || nat_lt w.length 1 || nat_lt frame (w.offset + w.length)) (is_one_astray frame (w.offset + w.length) ws) h in
    let b = or_parts (nat_lt w.offset low || nat_lt w.length 1) (nat_lt frame (w.offset + w.length)) a.0 in
    let c = or_parts (nat_lt w.offset low) (nat_lt w.length 1) b.0 in
    (ltb-false w.offset low c.0, ltb-false w.length 1 c.1, ltb-false frame (w.offset + w.length) b.1, in_order frame (w.offset + w.length) ws a.1)

none_astray : (frame low : ℕ) (ws : List WindowRow) → AreInOrder frame low ws → is_one_astray frame low ws ≡ false
none_astray frame low [] h = refl
none_astray frame low (w ∷ ws) h =
    or_from (nat_lt w.offset low || nat_lt w.length 1 || nat_lt frame (w.offset + w.length)) (is_one_astray frame (w.offset + w.length) ws)
    (or_from (nat_lt w.offset low || nat_lt w.length 1) (nat_lt frame (w.offset + w.length))
    (or_from (nat_lt w.offset low) (nat_lt w.length 1) (le-ltb w.offset low h.0) (le-ltb w.length 1 h.1))
    (le-ltb frame (w.offset + w.length) h.2))
    (none_astray frame (w.offset + w.length) ws h.3)

-- windows in order are apart
pub apart : (frame : ℕ) (ws : List WindowRow) → AreInOrder frame 0 ws → AreApart frame ws
apart frame ws h = none_astray frame 0 ws h

-- windows that are apart begin within the frame
pub begin : (frame : ℕ) (ws : List WindowRow) → AreApart frame ws → BeginWithin frame ws
begin frame ws h = begin_within frame 0 ws (in_order frame 0 ws h)

-- ---- windows taken out of others

from_lower : (frame low lower : ℕ) (ws : List WindowRow) → lower ≤ low → AreInOrder frame low ws → AreInOrder frame lower ws
from_lower frame low lower [] least h = tt
from_lower frame low lower (w ∷ ws) least h = (omega (arith, least, h.0), h.1, h.2, h.3)

some_in_order : (frame low : ℕ) (own : WindowRow → Bool) (ws : List WindowRow) → AreInOrder frame low ws → AreInOrder frame low (filter own ws)
some_in_order frame low own [] h = tt
some_in_order frame low own (w ∷ ws) h =
    let rest = some_in_order frame (w.offset + w.length) own ws h.3 in
    elim (own w) as (λ b. AreInOrder frame low (if b then w ∷ filter own ws else filter own ws)) [
      | true ↦ (h.0, h.1, h.2, rest)
      | false ↦ from_lower frame (w.offset + w.length) low (filter own ws) (omega (arith, h.0)) rest
    ]

-- windows taken out of windows that are apart are apart
pub some_apart : (frame : ℕ) (own : WindowRow → Bool) (windows taken : List WindowRow) → taken ≡ filter own windows → AreApart frame windows → AreApart frame taken
some_apart frame own windows taken is h = subst (AreApart frame) (sym is) (apart frame (filter own windows) (some_in_order frame 0 own windows (in_order frame 0 windows h)))
