-- Bytes that begin as no image are refused as all that begin so.
use Rattle.std.proofs.Common.{◌≡◌, ℕ, ◌≤◌, Bool, true, false, List, ◌++◌, length, take, drop, Ok, Err, refl, sym, ap, ◌∙◌, arith}
use Rattle.std.specs.Int.{from_le_bytes, w16}
use Rattle.std.specs.Prelude.{nat_le, nat_lt, not}
use Rattle.std.specs.Str.{bytes_eq}
use Rattle.std.proofs.lemmas.Bool.{and_parts, leb-true, ltb-true, not-true}
use Rattle.std.proofs.lemmas.List.{drop-append-le, length-append, length-drop, take-append-le}
use Rattle.machine_meaning.specs.Image.{magic}
use Rattle.machine_meaning.specs.ImageReading.{Foreign, image_at, fields_at, version_at, magic_at, bytes_at}
use Rattle.text_beginnings.specs.Settled.{has_other_magic, has_other_version, is_version, settles_image}
use Rattle.text_beginnings.proofs.Stained.{either, refute}

eight : (bytes : List ℕ) → 8 ≤ length bytes → bytes_at 8 bytes ≡ Ok (take 8 bytes, drop 8 bytes)
unfolding bytes_at
eight bytes long =
    let room : nat_lt (length bytes) 8 ≡ false = refute (nat_lt (length bytes) 8) (λ short. omega (arith, long, ltb-true (length bytes) 8 short)) in
    rw (room) refl

other_magic : (bytes : List ℕ) → 8 ≤ length bytes → bytes_eq (take 8 bytes) magic ≡ false → image_at bytes ≡ Err Foreign
unfolding image_at fields_at version_at magic_at
other_magic bytes long other = rw (eight bytes long, other) refl

-- the magic, and two bytes that are the number of no version
of_version : (bytes : List ℕ) → 10 ≤ length bytes → bytes_eq (take 8 bytes) magic ≡ true → is_version (from_le_bytes w16 (take 2 (drop 8 bytes))) ≡ false → image_at bytes ≡ Err Foreign
unfolding image_at fields_at version_at magic_at
of_version bytes long same other =
    let room : nat_lt (length (drop 8 bytes)) 2 ≡ false = refute (nat_lt (length (drop 8 bytes)) 2) (λ short. omega (arith, long, length-drop 8 bytes, ltb-true (length (drop 8 bytes)) 2 short)) in
    rw (eight bytes (omega (arith, long)), same, room, other) refl

other_version : (bytes : List ℕ) → 10 ≤ length bytes → is_version (from_le_bytes w16 (take 2 (drop 8 bytes))) ≡ false → image_at bytes ≡ Err Foreign
other_version bytes long other = by (bytes_eq (take 8 bytes) magic) refl
  where
    by : (t : Bool) → bytes_eq (take 8 bytes) magic ≡ t → image_at bytes ≡ Err Foreign
    by true same = of_version bytes long same other
    by false differs = other_magic bytes (omega (arith, long)) differs

by_magic : (bytes rest : List ℕ) → has_other_magic bytes ≡ true → image_at (bytes ++ rest) ≡ image_at bytes
by_magic bytes rest s =
    let parts = and_parts (nat_le 8 (length bytes)) (not (bytes_eq (take 8 bytes) magic)) s in
    let long : 8 ≤ length bytes = leb-true 8 (length bytes) parts.0 in
    let other : bytes_eq (take 8 bytes) magic ≡ false = not-true (bytes_eq (take 8 bytes) magic) parts.1 in
    other_magic (bytes ++ rest) (omega (arith, long, length-append bytes rest)) (ap (λ t. bytes_eq t magic) (take-append-le 8 bytes rest long) ∙ other)
    ∙ sym (other_magic bytes long other)

by_version : (bytes rest : List ℕ) → has_other_version bytes ≡ true → image_at (bytes ++ rest) ≡ image_at bytes
by_version bytes rest s =
    let number : List ℕ → ℕ = λ t. from_le_bytes w16 (take 2 t) in
    let parts = and_parts (nat_le 10 (length bytes)) (not (is_version (number (drop 8 bytes)))) s in
    let long : 10 ≤ length bytes = leb-true 10 (length bytes) parts.0 in
    let other : is_version (number (drop 8 bytes)) ≡ false = not-true (is_version (number (drop 8 bytes))) parts.1 in
    let behind : take 2 (drop 8 (bytes ++ rest)) ≡ take 2 (drop 8 bytes) =
    ap (take 2) (drop-append-le 8 bytes rest (omega arith)) ∙ take-append-le 2 (drop 8 bytes) rest (omega (arith, long, length-drop 8 bytes)) in
    other_version (bytes ++ rest) (omega (arith, long, length-append bytes rest)) (ap (λ t. is_version (from_le_bytes w16 t)) behind ∙ other)
    ∙ sym (other_version bytes long other)

pub no_image : (bytes rest : List ℕ) → settles_image bytes ≡ true → image_at (bytes ++ rest) ≡ image_at bytes
no_image bytes rest s = either (has_other_magic bytes) (has_other_version bytes) s (by_magic bytes rest) (by_version bytes rest)
