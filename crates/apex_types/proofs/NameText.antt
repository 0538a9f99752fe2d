-- The text of a name is ASCII, and a text that lies in the bytes of a name with zeros after it is stored.
use Rattle.std.proofs.Common.{◌≡◌, ℕ, ◌<◌, List, [], ◌∷◌, ◌++◌, length, take, drop, replicate, true, sym, ap, arith}
use Rattle.std.proofs.lemmas.Bool.{and_parts}
use Rattle.std.proofs.lemmas.Bool.Decides.{nat_tests}
use Rattle.std.proofs.lemmas.List.{drop-replicate}
use Rattle.std.proofs.Math.Seq.{take-append_seam}
use Rattle.std.proofs.lemmas.Str.{IsUtf8-from_ascii}
use Rattle.std.proofs.lemmas.Str.Ascii.{IsAscii-nil, IsAscii-cons}
use Rattle.std.specs.List.{list_all}
use Rattle.std.specs.Str.{IsAscii, IsUtf8}
use Rattle.apex_types.specs.declared.limits.TheConstants.{MOST_NAME_BYTES}
use Rattle.apex_types.specs.NameText.{is_lower_case, is_name, is_name_byte}
use Rattle.apex_types.specs.StoredName.{IsStored}

lower_case_below : (c : ℕ) → is_lower_case c ≡ true → c < 128
lower_case_below c h = grind (arith, nat_tests)

name_byte_below : (c : ℕ) → is_name_byte c ≡ true → c < 128
name_byte_below c h = grind (arith, nat_tests)

name_bytes_IsAscii : (cs : List ℕ) → list_all is_name_byte cs ≡ true → IsAscii cs
name_bytes_IsAscii [] h = IsAscii-nil
name_bytes_IsAscii (c ∷ cs) h =
    let parts = and_parts (is_name_byte c) (list_all is_name_byte cs) h in
    IsAscii-cons c cs (name_byte_below c parts.0) (name_bytes_IsAscii cs parts.1)

name_IsAscii : (text : List ℕ) → is_name text ≡ true → IsAscii text
name_IsAscii [] h = IsAscii-nil
name_IsAscii (c ∷ cs) h =
    let parts = and_parts _ _ h in
    let front = and_parts (is_lower_case c) (list_all is_name_byte cs) parts.0 in
    IsAscii-cons c cs (lower_case_below c front.0) (name_bytes_IsAscii cs front.1)

pub name_IsUtf8 : (text : List ℕ) → is_name text ≡ true → IsUtf8 text
name_IsUtf8 text h = IsUtf8-from_ascii text (name_IsAscii text h)

-- the bytes of a name with zeros after it
pub name_IsStored : (text : List ℕ) → is_name text ≡ true → IsStored (text ++ drop (length text) (replicate MOST_NAME_BYTES 0)) (length text)
name_IsStored text h =
    let front : take (length text) (text ++ drop (length text) (replicate MOST_NAME_BYTES 0)) ≡ text = take-append_seam text (drop (length text) (replicate MOST_NAME_BYTES 0)) in
    record {
      form = rw front h;
      rest = rw front (ap (λ zeros. text ++ zeros) (sym (drop-replicate (length text) MOST_NAME_BYTES 0)));
      len_is = ap length front;
    }
