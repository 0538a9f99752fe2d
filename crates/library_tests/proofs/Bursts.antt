-- Ticks of a script, one and many together.
use Rattle.std.proofs.Common.{◌≡◌, ℕ, zero, suc, ◌+◌, ◌-◌, ◌<◌, ◌≤◌, ℤ, List, [], ◌∷◌, true, false, map, refl, ap, sym, ◌∙◌, arith}
use Rattle.std.specs.Prelude.{Option, Some, None, slice_get, slice_set}
use Rattle.std.proofs.lemmas.Option.{none-some, same_Some}
use Rattle.std.proofs.lemmas.List.{map-set}
use Rattle.engine_meaning.specs.Engine.{Asks, Nothing}
use Rattle.kernel_meaning.specs.Partition.{control_at, ticked}
use Rattle.kernel_laws.specs.Bursts.{Told, Burst, later, burst, is_nothing, told_of}
use Rattle.kernel_laws.proofs.Until.{later_later, stops, ticked_once}
use Rattle.partition_base.specs.Bursting.{at_place, burst_at, tick_at_place, ticked_at}
use Rattle.partition_base.proofs.Bursts.{burst_none}
use Rattle.library_tests.specs.Plays.{control_of}
use Rattle.library_tests.specs.Scripts.{script_engine}
use Rattle.library_tests.specs.declared.part.Part.{Part}

abbrev playing : List (List Asks) → Option (List Asks) → List ℤ → Told (Option (List Asks)) (List ℤ) Asks
playing scripts c words = told_of (ticked (script_engine scripts) c words)

-- a tick of a script changes no data
same_words : (scripts : List (List Asks)) (c : Option (List Asks)) (words : List ℤ) → words ≡ (ticked (script_engine scripts) c words).words
same_words scripts None words = refl
same_words scripts (Some []) words = refl
same_words scripts (Some (asks ∷ rest)) words = refl

-- a tick by what it leads to
plays_to : (scripts : List (List Asks)) (c d : Option (List Asks)) (words : List ℤ) (asks : Asks)
    → d ≡ (ticked (script_engine scripts) c words).control → asks ≡ (ticked (script_engine scripts) c words).asks
    → playing scripts c words ≡ record { control = d; words = words; told = asks }
plays_to scripts c d words asks to told =
    let t = ticked (script_engine scripts) c words in
    ap (λ x. record { control = x; words = t.words; told = t.asks }) (sym to)
    ∙ ap (λ y. record { control = d; words = y; told = t.asks }) (sym (same_words scripts c words))
    ∙ ap (λ z. record { control = d; words = words; told = z }) (sym told)

-- a tick that asks for something is the last
pub ends_at : (scripts : List (List Asks)) (k left : ℕ) (c d : Option (List Asks)) (words : List ℤ) (asks : Asks) (b : Burst (Option (List Asks)) (List ℤ) Asks)
    → 0 < left → left ≤ k → later (k - left) (burst (ticked (script_engine scripts)) left c words) ≡ b
    → d ≡ (ticked (script_engine scripts) c words).control → asks ≡ (ticked (script_engine scripts) c words).asks → is_nothing asks ≡ false
    → record { control = d; words = words; told = asks; ticks = k - (left - 1) } ≡ b
ends_at scripts k left c d words asks b some within so_far to told loud =
    let count : k - (left - 1) ≡ k - left + 1 = omega (arith, some, within) in
    let whole : suc (left - 1) ≡ left = omega (arith, some) in
    ap (λ t. record { control = d; words = words; told = asks; ticks = t }) count
    ∙ ap (later (k - left)) (sym (stops is_nothing Nothing (playing scripts) (left - 1) c d words words asks (plays_to scripts c d words asks to told) loud)
    ∙ ap (λ n. burst (ticked (script_engine scripts)) n c words) whole)
    ∙ so_far

-- after a tick that asks for nothing come the others
pub goes_on : (scripts : List (List Asks)) (k left : ℕ) (c d : Option (List Asks)) (words : List ℤ) (asks : Asks) (b : Burst (Option (List Asks)) (List ℤ) Asks)
    → 0 < left → left ≤ k → later (k - left) (burst (ticked (script_engine scripts)) left c words) ≡ b
    → d ≡ (ticked (script_engine scripts) c words).control → asks ≡ (ticked (script_engine scripts) c words).asks → is_nothing asks ≡ true
    → later (k - (left - 1)) (burst (ticked (script_engine scripts)) (left - 1) d words) ≡ b
goes_on scripts k left c d words asks b some within so_far to told quiet =
    let others = burst (ticked (script_engine scripts)) (left - 1) d words in
    let count : k - (left - 1) ≡ k - left + 1 = omega (arith, some, within) in
    let whole : suc (left - 1) ≡ left = omega (arith, some) in
    ap (λ t. later t others) count
    ∙ sym (later_later (k - left) 1 others)
    ∙ ap (later (k - left)) (sym (ticked_once is_nothing Nothing (playing scripts) (left - 1) c d words words asks (plays_to scripts c d words asks to told) quiet)
    ∙ ap (λ n. burst (ticked (script_engine scripts)) n c words) whole)
    ∙ so_far

-- no tick is left
pub all_done : (scripts : List (List Asks)) (k left : ℕ) (c : Option (List Asks)) (words : List ℤ) (b : Burst (Option (List Asks)) (List ℤ) Asks)
    → left ≤ 0 → later (k - left) (burst (ticked (script_engine scripts)) left c words) ≡ b → record { control = c; words = words; told = Nothing; ticks = k } ≡ b
all_done scripts k left c words b done so_far =
    let none : 0 ≡ left = omega (arith, done) in
    let all : k ≡ k - 0 + 0 = omega arith in
    ap (λ t. record { control = c; words = words; told = Nothing; ticks = t }) all
    ∙ ap (λ l. later (k - l) (burst (ticked (script_engine scripts)) l c words)) none
    ∙ so_far

-- ---- of one of the parts

part_there : (parts : List Part) (p : ℕ) (part : Part) → slice_get parts p ≡ Some part → control_of part ≡ control_at (map control_of parts) p
part_there [] p part e = absurd (none-some part e)
part_there (x ∷ parts) zero part e = ap control_of (sym (same_Some x part e))
part_there (x ∷ parts) (suc p) part e = part_there parts p part e

no_part : (parts : List Part) (p : ℕ) → slice_get parts p ≡ None → control_at (map control_of parts) p ≡ None
no_part [] p e = refl
no_part (x ∷ parts) zero e = absurd (none-some x (sym e))
no_part (x ∷ parts) (suc p) e = no_part parts p e

none_set : (parts : List Part) (p : ℕ) (c : Option (List Asks)) → slice_get parts p ≡ None → slice_set (map control_of parts) p c ≡ map control_of parts
none_set [] zero c e = refl
none_set [] (suc p) c e = refl
none_set (x ∷ parts) zero c e = absurd (none-some x (sym e))
none_set (x ∷ parts) (suc p) c e = ap (λ l. control_of x ∷ l) (none_set parts p c e)

pub ticked_part : (scripts : List (List Asks)) (parts : List Part) (p : ℕ) (part new : Part) (words : List ℤ) (asks : Asks) → slice_get parts p ≡ Some part
    → control_of new ≡ (ticked (script_engine scripts) (control_of part) words).control → asks ≡ (ticked (script_engine scripts) (control_of part) words).asks
    → record { control = map control_of (slice_set parts p new); words = words; asks = asks } ≡ ticked_at (script_engine scripts) p (map control_of parts) words
ticked_part scripts parts p part new words asks here to told =
    let controls = map control_of parts in
    let t = ticked (script_engine scripts) (control_of part) words in
    ap (λ l. record { control = l; words = words; asks = asks }) (map-set control_of parts p new)
    ∙ ap (λ c. record { control = slice_set controls p c; words = words; asks = asks }) to
    ∙ ap (λ ws. record { control = slice_set controls p t.control; words = ws; asks = asks }) (same_words scripts (control_of part) words)
    ∙ ap (λ a. record { control = slice_set controls p t.control; words = t.words; asks = a }) told
    ∙ ap (λ c. tick_at_place p controls (ticked (script_engine scripts) c words)) (part_there parts p part here)

pub no_part_ticks : (scripts : List (List Asks)) (parts : List Part) (p : ℕ) (words : List ℤ) → slice_get parts p ≡ None
    → record { control = map control_of parts; words = words; asks = Nothing } ≡ ticked_at (script_engine scripts) p (map control_of parts) words
no_part_ticks scripts parts p words none =
    let controls = map control_of parts in
    ap (λ l. record { control = l; words = words; asks = Nothing }) (sym (none_set parts p None none))
    ∙ ap (λ c. tick_at_place p controls (ticked (script_engine scripts) c words)) (sym (no_part parts p none))

pub played : (scripts : List (List Asks)) (parts : List Part) (p k ticks : ℕ) (part new : Part) (words : List ℤ) (asks : Asks) → slice_get parts p ≡ Some part
    → record { control = control_of new; words = words; told = asks; ticks = ticks } ≡ burst (ticked (script_engine scripts)) k (control_of part) words
    → record { control = map control_of (slice_set parts p new); words = words; told = asks; ticks = ticks } ≡ burst_at (script_engine scripts) k p (map control_of parts) words
played scripts parts p k ticks part new words asks here one =
    let controls = map control_of parts in
    ap (λ l. record { control = l; words = words; told = asks; ticks = ticks }) (map-set control_of parts p new)
    ∙ ap (at_place p controls) (one ∙ ap (λ c. burst (ticked (script_engine scripts)) k c words) (part_there parts p part here))

pub nobody_plays : (scripts : List (List Asks)) (parts : List Part) (p k : ℕ) (words : List ℤ) → slice_get parts p ≡ None
    → record { control = map control_of parts; words = words; told = Nothing; ticks = k } ≡ burst_at (script_engine scripts) k p (map control_of parts) words
nobody_plays scripts parts p k words none =
    let controls = map control_of parts in
    ap (λ l. record { control = l; words = words; told = Nothing; ticks = k }) (sym (none_set parts p None none))
    ∙ ap (at_place p controls) (sym (burst_none (script_engine scripts) k words) ∙ ap (λ c. burst (ticked (script_engine scripts)) k c words) (sym (no_part parts p none)))
