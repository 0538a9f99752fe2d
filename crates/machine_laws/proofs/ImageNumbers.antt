-- Numbers, names and choices of an image.
use Rattle.std.proofs.Common.{◌≡◌, ℕ, ◌^◌, ◌<◌, ◌≤◌, Bool, true, false, cond, ltb, List, [], ◌∷◌, ◌++◌, length, take, drop, Ok, Err, refl, sym, ap, subst, ◌∙◌, arith}
use Rattle.std.specs.Prelude.{◌||◌}
use Rattle.std.specs.Int.{Width, w16, w32, w64, byte_len, from_le_bytes, to_le_bytes}
use Rattle.std.proofs.lemmas.Bool.{ltb-false, le-ltb}
use Rattle.std.proofs.lemmas.List.{take_at, drop_at, take-append-drop, length-append, length-take}
use Rattle.std.proofs.lemmas.Nat.{le_bytes_2, le_bytes_4, le_bytes_8, from_le_bytes-to_le_bytes_2, from_le_bytes-to_le_bytes_4, from_le_bytes-to_le_bytes_8}
use Rattle.machine_meaning.specs.ImageSpelling.{u8}
use Rattle.machine_meaning.specs.ImageReading.{Fault, Truncated, Limit, Read, ◌>>=◌, number_at, byte_at, within, limited_at, small_at}
use Rattle.machine_meaning.specs.ImageLimits.{IsFrom}
use Rattle.machine_laws.proofs.ImageFields.{IsBytes, IsBytes-drop, IsBytes-take, IsBytes-rest, bind_ok, guard_ok, ok_is, Takes, Reads}

pub record IsWide (w : Width) (limit : ℕ) : Type 0 where
  pub len : (n : ℕ) → length (to_le_bytes w n) ≡ byte_len w
  pub back : (bytes : List ℕ) → length bytes ≡ byte_len w → IsBytes bytes → to_le_bytes w (from_le_bytes w bytes) ≡ bytes
  pub again : (n : ℕ) → n < limit → from_le_bytes w (to_le_bytes w n) ≡ n
  pub below : (bytes : List ℕ) → IsBytes bytes → from_le_bytes w bytes < limit

pub wide16 : IsWide w16 (2 ^ 16)
wide16 = record {
  len = λ n. refl;
  back = λ bytes len fits. le_bytes_2 bytes _ len fits refl;
  again = λ n lt. from_le_bytes-to_le_bytes_2 n lt;
  below = λ bytes fits. omega (arith, fits 0, fits 1);
}

pub wide32 : IsWide w32 (2 ^ 32)
wide32 = record {
  len = λ n. refl;
  back = λ bytes len fits. le_bytes_4 bytes _ len fits refl;
  again = λ n lt. from_le_bytes-to_le_bytes_4 n lt;
  below = λ bytes fits. omega (arith, fits 0, fits 1, fits 2, fits 3);
}

pub wide64 : IsWide w64 (2 ^ 64)
wide64 = record {
  len = λ n. refl;
  back = λ bytes len fits. le_bytes_8 bytes _ len fits refl;
  again = λ n lt. from_le_bytes-to_le_bytes_8 n lt;
  below = λ bytes fits. omega (arith, fits 0, fits 1, fits 2, fits 3, fits 4, fits 5, fits 6, fits 7);
}

number_takes : (w : Width) (limit : ℕ) (wide : IsWide w limit) (bytes : List ℕ) (x : ℕ × List ℕ) → IsBytes bytes → number_at w bytes ≡ Ok x → Takes bytes (to_le_bytes w x.0) x.1 × (x.0 < limit)
number_takes w limit wide bytes x fits e =
    let g = guard_ok (ltb (length bytes) (byte_len w)) Truncated (from_le_bytes w (take (byte_len w) bytes), drop (byte_len w) bytes) x e in
    let long : byte_len w ≤ length bytes = ltb-false _ _ g.0 in
    let front : to_le_bytes w (from_le_bytes w (take (byte_len w) bytes)) ≡ take (byte_len w) bytes = wide.back (take (byte_len w) bytes) (omega (arith, length-take (byte_len w) bytes)) (IsBytes-take (byte_len w) bytes fits) in
    subst (λ (y : ℕ × List ℕ). Takes bytes (to_le_bytes w y.0) y.1 × (y.0 < limit)) g.1
    (record { parts = sym (take-append-drop (byte_len w) bytes) ∙ ap (λ (t : List ℕ). t ++ drop (byte_len w) bytes) (sym front); rest_fits = IsBytes-drop (byte_len w) bytes fits }, wide.below (take (byte_len w) bytes) (IsBytes-take (byte_len w) bytes fits))

number_again : (w : Width) (limit : ℕ) (wide : IsWide w limit) (n : ℕ) (rest : List ℕ) → n < limit → number_at w (to_le_bytes w n ++ rest) ≡ Ok (n, rest)
number_again w limit wide n rest lt =
    let len = wide.len n in
    let long : ltb (length (to_le_bytes w n ++ rest)) (byte_len w) ≡ false = le-ltb _ _ (omega (arith, length-append (to_le_bytes w n) rest)) in
    rw (long, take_at (to_le_bytes w n) rest (byte_len w) len, drop_at (to_le_bytes w n) rest (byte_len w) len, wide.again n lt) refl

pub number_reads : (w : Width) (limit : ℕ) → IsWide w limit → Reads (number_at w) (to_le_bytes w) (λ n. n < limit)
number_reads w limit wide = record { takes = number_takes w limit wide; again = number_again w limit wide }

byte_takes : (bytes : List ℕ) (x : ℕ × List ℕ) → IsBytes bytes → byte_at bytes ≡ Ok x → Takes bytes (u8 x.0) x.1 × (x.0 < 2 ^ 8)
byte_takes [] x fits e = absurd cc
byte_takes (b ∷ bytes) x fits e =
    subst (λ (y : ℕ × List ℕ). Takes (b ∷ bytes) (u8 y.0) y.1 × (y.0 < 2 ^ 8)) (ok_is (b, bytes) x e) (record { parts = refl; rest_fits = IsBytes-rest b bytes fits }, fits 0)

pub byte_reads : Reads byte_at u8 (λ n. n < 2 ^ 8)
byte_reads = record { takes = byte_takes; again = λ n rest lt. refl }

-- a test by two orders that did not fail
guards_ok : {A : Type 0} (a b : Bool) (d : Fault) (x y : A) → cond (a || b) (Err d) (Ok x) ≡ Ok y → (a ≡ false) × (b ≡ false) × (x ≡ y)
guards_ok true b d x y e = absurd cc
guards_ok false true d x y e = absurd cc
guards_ok false false d x y e = (refl, refl, cc)

within_reads : (at : List ℕ → Read ℕ) (s : ℕ → List ℕ) (limit low high : ℕ) → high < limit → Reads at s (λ n. n < limit) → Reads (λ bytes. at bytes >>= within low high) s (IsFrom low high)
within_reads at s limit low high small r = record {
  takes = λ bytes x fits e.
      let a = bind_ok (at bytes) (within low high) x e in
      let g = guards_ok (ltb a.0.0 low) (ltb high a.0.0) Limit a.0 x a.2 in
      let p = r.takes bytes a.0 fits a.1 in
      let from : low ≤ a.0.0 = ltb-false _ _ g.0 in
      let to : a.0.0 ≤ high = ltb-false _ _ g.1 in
      subst (λ (y : ℕ × List ℕ). Takes bytes (s y.0) y.1 × IsFrom low high y.0) g.2 (p.0, record { least = from; most = to });
  again = λ n rest good.
      let lt : n < limit = omega (arith, good.most) in
      let f : ltb n low ≡ false = le-ltb _ _ good.least in
      let t : ltb high n ≡ false = le-ltb _ _ good.most in
      ap (λ (y : Read ℕ). y >>= within low high) (r.again n rest lt) ∙ rw (f, t) refl;
}

pub limited_reads : (w : Width) (limit : ℕ) → IsWide w limit → (low high : ℕ) → high < limit → Reads (limited_at w low high) (to_le_bytes w) (IsFrom low high)
unfolding limited_at
limited_reads w limit wide low high small = within_reads (number_at w) (to_le_bytes w) limit low high small (number_reads w limit wide)

pub small_reads : (low high : ℕ) → high < 2 ^ 8 → Reads (small_at low high) u8 (IsFrom low high)
unfolding small_at
small_reads low high small = within_reads byte_at u8 (2 ^ 8) low high small byte_reads
