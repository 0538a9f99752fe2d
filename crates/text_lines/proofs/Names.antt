-- A name has neither a space nor a line feed.
use Rattle.std.proofs.Common.{◌≡◌, ℕ, true, List, [], ◌∷◌, length, refl, arith, ◌+◌}
use Rattle.std.specs.Prelude.{nat_le, ◌&&◌}
use Rattle.std.specs.List.{list_all}
use Rattle.std.proofs.lemmas.Bool.{and_parts, and_from}
use Rattle.std.proofs.lemmas.Bool.Decides.{nat_tests}
use Rattle.apex_types.specs.declared.limits.TheConstants.{MOST_NAME_BYTES}
use Rattle.apex_types.specs.NameText.{is_name, is_name_byte, is_lower_case}
use Rattle.text_lines.proofs.Pieces.{is_ink}

lower_case_ink : (c : ℕ) → is_lower_case c ≡ true → is_ink c ≡ true
lower_case_ink c h = grind (arith, nat_tests)

name_byte_ink : (c : ℕ) → is_name_byte c ≡ true → is_ink c ≡ true
name_byte_ink c h = grind (arith, nat_tests)

name_bytes_ink : (cs : List ℕ) → list_all is_name_byte cs ≡ true → list_all is_ink cs ≡ true
name_bytes_ink [] h = refl
name_bytes_ink (c ∷ cs) h =
    let p = and_parts (is_name_byte c) (list_all is_name_byte cs) h in
    and_from (is_ink c) (list_all is_ink cs) (name_byte_ink c p.0) (name_bytes_ink cs p.1)

pub name_ink : (name : List ℕ) → is_name name ≡ true → list_all is_ink name ≡ true
name_ink [] h = cc
name_ink (c ∷ cs) h =
    let p = and_parts (is_lower_case c && list_all is_name_byte cs) (nat_le (length cs + 1) MOST_NAME_BYTES) h in
    let q = and_parts (is_lower_case c) (list_all is_name_byte cs) p.0 in
    and_from (is_ink c) (list_all is_ink cs) (lower_case_ink c q.0) (name_bytes_ink cs q.1)
