-- The digits of numbers of the same thousand, and the digit of a return code.
use Rattle.std.proofs.Common.{◌≡◌, ℕ, ◌+◌, ◌/◌, ◌%◌, ◌*◌, ◌-◌, ◌<◌, ◌≤◌, [], ◌∷◌, refl, ap, arith}
use Rattle.std.proofs.lemmas.Fmt.{decimal_digit}
use Rattle.std.specs.Fmt.{decimal}
use Rattle.std.specs.Prelude.{slice_set}
use Rattle.apex_types.specs.CodeWords.{return_code_number}
use Rattle.apex_types.specs.Stamps.{with_last_digits}
use Rattle.apex_types.specs.declared.codes.ReturnCode.{ReturnCode}
use Rattle.apex_types.specs.declared.codes.ReturnCode.TheVariants as code
use Rattle.apex_types.specs.Line.{thirteen_digits}

pub same_thousand : (a b x y z : ℕ) → a / 1000 ≡ b / 1000 → x ≡ 48 + b / 100 % 10 → y ≡ 48 + b / 10 % 10 → z ≡ 48 + b / 1 % 10 → slice_set (slice_set (slice_set (thirteen_digits a) 10 x) 11 y) 12 z ≡ thirteen_digits b
same_thousand a b x y z same first second third =
    let h3 : a / 1000 ≡ b / 1000 = same in
    let h4 : a / 10000 ≡ b / 10000 = omega (arith, same) in
    let h5 : a / 100000 ≡ b / 100000 = omega (arith, same) in
    let h6 : a / 1000000 ≡ b / 1000000 = omega (arith, same) in
    let h7 : a / 10000000 ≡ b / 10000000 = omega (arith, same) in
    let h8 : a / 100000000 ≡ b / 100000000 = omega (arith, same) in
    let h9 : a / 1000000000 ≡ b / 1000000000 = omega (arith, same) in
    let h10 : a / 10000000000 ≡ b / 10000000000 = omega (arith, same) in
    let h11 : a / 100000000000 ≡ b / 100000000000 = omega (arith, same) in
    let h12 : a / 1000000000000 ≡ b / 1000000000000 = omega (arith, same) in
    rw (first, second, third, h3, h4, h5, h6, h7, h8, h9, h10, h11, h12) refl

-- the last three digits of a number of the same thousand, by its distance from the first of that
pub same_from : (a b from : ℕ) → from ≡ 1000 * (a / 1000) → from ≤ b → b - from < 1000 → with_last_digits (thirteen_digits a) (b - from) ≡ thirteen_digits b
same_from a b from is le lt =
    same_thousand a b (48 + (b - from) / 100) (48 + (b - from) / 10 % 10) (48 + (b - from) % 10) (omega arith) (ap (λ n. 48 + n) (omega arith)) (ap (λ n. 48 + n) (omega arith)) (ap (λ n. 48 + n) (omega arith))

code_below : (c : ReturnCode) → return_code_number c < 10
code_below code.NoError = omega arith
code_below code.NoAction = omega arith
code_below code.NotAvailable = omega arith
code_below code.InvalidParam = omega arith
code_below code.InvalidConfig = omega arith
code_below code.InvalidMode = omega arith
code_below code.TimedOut = omega arith

pub code_digit : (c : ReturnCode) → decimal (return_code_number c) ≡ (48 + return_code_number c) ∷ []
code_digit c = decimal_digit (return_code_number c) (code_below c)
