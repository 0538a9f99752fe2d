-- Nothing ends within a field, and all bytes are their own beginning.
use Rattle.std.proofs.Common.{◌≡◌, ℕ, ◌<◌, true, false, List, [], ◌∷◌, length, take, refl, sym, ap, ◌∙◌, arith}
use Rattle.std.proofs.lemmas.Bool.{false≢true}
use Rattle.machine_meaning.specs.ImageReading.{image_at, fields_at, version_at, magic_at, bytes_at}
use Rattle.image_findings.specs.Seen.{is_cut, is_truncated}

pub nothing_is_cut : (bytes : List ℕ) → is_cut 0 bytes ≡ true
unfolding image_at fields_at version_at magic_at bytes_at
nothing_is_cut bytes = refl

take_whole : (bytes : List ℕ) → take (length bytes) bytes ≡ bytes
take_whole [] = refl
take_whole (byte ∷ bytes) = ap (λ (bs : List ℕ). byte ∷ bs) (take_whole bytes)

pub whole_is_not_cut : (bytes : List ℕ) → is_truncated (image_at bytes) ≡ false → is_cut (length bytes) bytes ≡ false
whole_is_not_cut bytes whole = ap (λ (bs : List ℕ). is_truncated (image_at bs)) (take_whole bytes) ∙ whole

-- bytes that do not end within a field are some
pub whole_is_longer : (bytes : List ℕ) → is_truncated (image_at bytes) ≡ false → 0 < length bytes
whole_is_longer [] whole = absurd (false≢true (sym whole ∙ nothing_is_cut []))
whole_is_longer (byte ∷ bytes) whole = omega arith
