-- The number of a tick and its 13 digits.
use Rattle.std.proofs.Common.{◌≡◌, ℕ, zero, suc, ◌+◌, ◌-◌, ◌*◌, ◌/◌, ◌%◌, ◌^◌, ◌<◌, ◌≤◌, Bool, true, false, cond, List, [], ◌∷◌, length, map, Some, None, refl, sym, ap, subst, ◌∙◌, arith}
use Rattle.std.specs.Prelude.{fold, nat_le, ◌&&◌, ◌==◌}
use Rattle.std.specs.List.{list_all}
use Rattle.std.proofs.Math.Nat.{div-div-eq-div-mul, pow-suc}
use Rattle.std.proofs.lemmas.Bool.{and_parts, and_from, leb-true, le-leb, lt-ltb, eqb-true, cond-true}
use Rattle.apex_types.specs.Limits.{MOST_TICKS}
use Rattle.apex_types.specs.Line.{thirteen_digits, space}
use Rattle.apex_types.specs.declared.identity.Ticks.{Ticks}
use Rattle.module_meaning.specs.DeviceText.{if_at_most}
use Rattle.engine_meaning.specs.Digits.{is_digit, decimal_value}
use Rattle.trace_text.specs.Reading.{tick_of, tick_with}
use Rattle.text_lines.proofs.Pieces.{is_ink}
use Rattle.trace_text.proofs.Spells.{Spells, same_some}

-- the value of that number followed by these digits
abbrev value : ℕ → List ℕ → ℕ
value v ds = fold (λ (n d : ℕ). n * 10 + (d - 48)) v ds

-- the powers of ten below `10 ^ k`, the highest first
abbrev units : ℕ → List ℕ
units zero = []
units (suc k) = 10 ^ k ∷ units k

abbrev digits_at : List ℕ → ℕ → List ℕ
digits_at us n = map (λ u. 48 + n / u % 10) us

digit_low : (d : ℕ) → is_digit d ≡ true → (48 ≤ d) × (d ≤ 57)
digit_low d h = let p = and_parts (nat_le 48 d) (nat_le d 57) h in (leb-true 48 d p.0, leb-true d 57 p.1)

tenth : (n k : ℕ) → n / 10 ^ suc k ≡ n / 10 ^ k / 10
tenth n k = ap (λ (m : ℕ). n / m) (pow-suc 10 k) ∙ sym (div-div-eq-div-mul n (10 ^ k) 10)

-- the digits after a number are below its unit
in_front : (ds : List ℕ) (v : ℕ) → list_all is_digit ds ≡ true → value v ds / 10 ^ length ds ≡ v
in_front [] v h = omega arith
in_front (d ∷ ds) v h =
    let p = and_parts (is_digit d) (list_all is_digit ds) h in
    let low = digit_low d p.0 in
    let next : ℕ = v * 10 + (d - 48) in
    let whole : value next ds / 10 ^ length ds ≡ next = in_front ds next p.1 in
    tenth (value next ds) (length ds) ∙ ap (λ (n : ℕ). n / 10) whole ∙ omega (arith, low.0, low.1)

both_of : (a b : ℕ) (cs ds : List ℕ) → a ≡ b → cs ≡ ds → a ∷ cs ≡ b ∷ ds
both_of a b cs ds e f = cc

-- digits are those of their number
digits_back : (ds : List ℕ) (v : ℕ) → list_all is_digit ds ≡ true → digits_at (units (length ds)) (value v ds) ≡ ds
digits_back [] v h = refl
digits_back (d ∷ ds) v h =
    let p = and_parts (is_digit d) (list_all is_digit ds) h in
    let low = digit_low d p.0 in
    let next : ℕ = v * 10 + (d - 48) in
    let whole : value next ds / 10 ^ length ds ≡ next = in_front ds next p.1 in
    let head : 48 + value next ds / 10 ^ length ds % 10 ≡ d = ap (λ (n : ℕ). 48 + n % 10) whole ∙ omega (arith, low.0, low.1) in
    both_of (48 + value next ds / 10 ^ length ds % 10) d (digits_at (units (length ds)) (value next ds)) ds head (digits_back ds next p.1)

-- the number of its digits is the number
value_again : (k n v : ℕ) → v ≡ n / 10 ^ k → value v (digits_at (units k) n) ≡ n
value_again zero n v e = e ∙ omega arith
value_again (suc k) n v e =
    let q : ℕ = n / 10 ^ k in
    let front : v ≡ q / 10 = e ∙ tenth n k in
    value_again k n (v * 10 + (48 + n / 10 ^ k % 10 - 48)) (omega (arith, front))

a_digit : (n : ℕ) → is_digit (48 + n % 10) ≡ true
a_digit n = and_from (nat_le 48 (48 + n % 10)) (nat_le (48 + n % 10) 57) (le-leb 48 (48 + n % 10) (omega arith)) (le-leb (48 + n % 10) 57 (omega arith))

all_digits : (us : List ℕ) (n : ℕ) → list_all is_digit (digits_at us n) ≡ true
all_digits [] n = refl
all_digits (u ∷ us) n = and_from (is_digit (48 + n / u % 10)) (list_all is_digit (digits_at us n)) (a_digit (n / u)) (all_digits us n)

all_ink : (us : List ℕ) (n : ℕ) → list_all is_ink (digits_at us n) ≡ true
all_ink [] n = refl
all_ink (u ∷ us) n = and_from (is_ink (48 + n / u % 10)) (list_all is_ink (digits_at us n)) (lt-ltb space (48 + n / u % 10) (omega arith)) (all_ink us n)

thirteen : (n : ℕ) → thirteen_digits n ≡ digits_at (units 13) n
thirteen n = refl

-- the 13 digits of a number are digits
digits_pass : (n : ℕ) → ((length (thirteen_digits n) == 13) && list_all is_digit (thirteen_digits n)) ≡ true
digits_pass n = all_digits (units 13) n

number_again : (n : ℕ) → n < 10 ^ 13 → decimal_value (thirteen_digits n) ≡ n
unfolding decimal_value
number_again n low = value_again 13 n 0 (omega (arith, low))

number_back : (ds : List ℕ) → length ds ≡ 13 → list_all is_digit ds ≡ true → thirteen_digits (decimal_value ds) ≡ ds
unfolding decimal_value
number_back ds len h = subst (λ (k : ℕ). digits_at (units k) (value 0 ds) ≡ ds) len (digits_back ds 0 h)

guarded : (t : Bool) (n : ℕ) (x : Ticks) → tick_with (cond t (Some n) None) ≡ Some x → (t ≡ true) × (record { 0 = n } ≡ x)
guarded true n x e = (refl, same_some (record { 0 = n }) x e)
guarded false n x e = cc

digits_of : (t : Bool) (ds : List ℕ) (x : Ticks) → cond t (tick_with (if_at_most 1099511627775 (decimal_value ds))) None ≡ Some x → (t ≡ true) × (decimal_value ds ≤ 1099511627775) × (record { 0 = decimal_value ds } ≡ x)
digits_of true ds x e =
    let g = guarded (nat_le (decimal_value ds) 1099511627775) (decimal_value ds) x e in
    (refl, leb-true (decimal_value ds) 1099511627775 g.0, g.1)
digits_of false ds x e = cc

abbrev pub tick_text : Ticks → List ℕ
tick_text t = thirteen_digits t.0

pub tick_spells : Spells tick_of tick_text (λ t. t.0 < MOST_TICKS)
tick_spells = record {
  takes = λ bs t e.
      let g = digits_of ((length bs == 13) && list_all is_digit bs) bs t e in
      let p = and_parts (length bs == 13) (list_all is_digit bs) g.0 in
      let n : decimal_value bs ≡ t.0 = ap (λ (x : Ticks). x.0) g.2 in
      (ap thirteen_digits (sym n) ∙ number_back bs (eqb-true (length bs) 13 p.0) p.1, omega (arith, n, g.1));
  again = λ t low.
      cond-true ((length (thirteen_digits t.0) == 13) && list_all is_digit (thirteen_digits t.0)) (tick_with (if_at_most 1099511627775 (decimal_value (thirteen_digits t.0)))) None (digits_pass t.0)
      ∙ ap (λ (n : ℕ). tick_with (if_at_most 1099511627775 n)) (number_again t.0 (omega (arith, low)))
      ∙ ap tick_with (cond-true (nat_le t.0 1099511627775) (Some t.0) None (le-leb t.0 1099511627775 (omega (arith, low))));
  ink = λ t low. all_ink (units 13) t.0;
}
