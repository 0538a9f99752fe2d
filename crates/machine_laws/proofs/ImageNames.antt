-- Words, names and choices of an image.
use Rattle.std.proofs.Common.{◌+◌, ◌≡◌, ℕ, ◌^◌, ◌<◌, ◌≤◌, ℤ, Bool, true, false, cond, ltb, List, [], ◌∷◌, ◌++◌, length, take, drop, Option, Some, None, Ok, Err, refl, sym, ap, subst, ◌∙◌, arith, lit<}
use Rattle.std.specs.Prelude.{◌&&◌, FitsSigned, nat_le}
use Rattle.std.specs.List.{list_all}
use Rattle.std.specs.Int.{w64, cast_signed, cast_unsigned}
use Rattle.std.proofs.Math.Facts.{Fits-of_z, sfits_to_z}
use Rattle.std.proofs.lemmas.Int.{to_z-of_z, of_z-to_z}
use Rattle.std.proofs.lemmas.Bool.{ltb-false, le-ltb, leb-true}
use Rattle.std.proofs.lemmas.List.{take_at, drop_at, take-append-drop, length-append, length-take}
use Rattle.apex_types.specs.declared.limits.TheConstants.{MOST_NAME_BYTES}
use Rattle.apex_types.specs.NameText.{is_name, is_lower_case, is_name_byte}
use Rattle.machine_meaning.specs.ImageSpelling.{u8, u64, i64, name}
use Rattle.machine_meaning.specs.ImageReading.{Fault, Truncated, Limit, Order, Read, ◌>>=◌, number_at, byte_at, word_at, small_at, bytes_at, name_at, fresh_name_at, chosen, choice_at}
use Rattle.machine_meaning.specs.ImageLimits.{IsFrom}
use Rattle.machine_laws.proofs.ImageFields.{IsBytes-drop, bind_ok, guard_ok, ok_is, Takes, Takes-then, Reads}
use Rattle.machine_laws.proofs.ImageNumbers.{wide64, number_reads, byte_reads, small_reads}

-- ---- signed numbers

pub word_reads : Reads word_at i64 (FitsSigned w64)
unfolding word_at
word_reads = record {
  takes = λ bytes x fits e.
      let a = bind_ok (number_at w64 bytes) (λ n. Ok (cast_signed w64 n.0, n.1)) x e in
      let p = (number_reads w64 (2 ^ 64) wide64).takes bytes a.0 fits a.1 in
      let back : cast_unsigned w64 (cast_signed w64 a.0.0) ≡ a.0.0 = of_z-to_z w64 a.0.0 p.1 in
      let taken : Takes bytes (i64 (cast_signed w64 a.0.0)) a.0.1 = subst (λ (n : ℕ). Takes bytes (u64 n) a.0.1) (sym back) p.0 in
      subst (λ (y : ℤ × List ℕ). Takes bytes (i64 y.0) y.1 × FitsSigned w64 y.0) (ok_is (cast_signed w64 a.0.0, a.0.1) x a.2) (taken, sfits_to_z {w = w64} (record { fits = p.1 }));
  again = λ z rest fits.
      ap (λ (y : Read ℕ). y >>= λ n. Ok (cast_signed w64 n.0, n.1)) ((number_reads w64 (2 ^ 64) wide64).again (cast_unsigned w64 z) rest (Fits-of_z {w = w64} fits).fits)
      ∙ ap (λ (y : ℤ). Ok (y, rest)) (to_z-of_z w64 z fits);
}

-- ---- bytes as they are

pub bytes_reads : (n : ℕ) → Reads (bytes_at n) (λ bytes. bytes) (λ bytes. length bytes ≡ n)
unfolding bytes_at
bytes_reads n = record {
  takes = λ bytes x fits e.
      let g = guard_ok (ltb (length bytes) n) Truncated (take n bytes, drop n bytes) x e in
      let long : n ≤ length bytes = ltb-false _ _ g.0 in
      subst (λ (y : List ℕ × List ℕ). Takes bytes y.0 y.1 × (length y.0 ≡ n)) g.1
      (record { parts = sym (take-append-drop n bytes); rest_fits = IsBytes-drop n bytes fits }, omega (arith, length-take n bytes));
  again = λ a rest len.
      let long : ltb (length (a ++ rest)) n ≡ false = le-ltb _ _ (omega (arith, length-append a rest)) in
      rw (long, take_at a rest n len, drop_at a rest n len) refl;
}

-- ---- names

-- a test that held
pub held : {A : Type 0} (b : Bool) (d : Fault) (x y : A) → cond b (Ok x) (Err d) ≡ Ok y → (b ≡ true) × (x ≡ y)
held true d x y e = (refl, cc)
held false d x y e = absurd cc

is_short : (cs : List ℕ) (a b : Bool) → (a && b && nat_le (length cs + 1) MOST_NAME_BYTES) ≡ true → length cs + 1 ≤ MOST_NAME_BYTES
is_short cs true true h = leb-true (length cs + 1) MOST_NAME_BYTES h
is_short cs true false h = absurd cc
is_short cs false b h = absurd cc

name_size : (text : List ℕ) → is_name text ≡ true → IsFrom 1 MOST_NAME_BYTES (length text)
name_size [] h = absurd cc
name_size (c ∷ cs) h =
    let short = is_short cs (is_lower_case c) (list_all is_name_byte cs) h in
    record { least = omega arith; most = omega arith }

pub name_reads : Reads name_at name (λ text. is_name text ≡ true)
unfolding name_at name
name_reads = record {
  takes = λ bytes x fits e.
      let a = bind_ok (small_at 1 MOST_NAME_BYTES bytes) (λ size. bytes_at size.0 size.1 >>= λ text. cond (is_name text.0) (Ok text) (Err Limit)) x e in
      let b = bind_ok (bytes_at a.0.0 a.0.1) (λ text. cond (is_name text.0) (Ok text) (Err Limit)) x a.2 in
      let g = held (is_name b.0.0) Limit b.0 x b.2 in
      let p = (small_reads 1 MOST_NAME_BYTES (lit< tt)).takes bytes a.0 fits a.1 in
      let q = (bytes_reads a.0.0).takes a.0.1 b.0 p.0.rest_fits b.1 in
      let both = Takes-then bytes (u8 a.0.0) a.0.1 b.0.0 b.0.1 p.0 q.0 in
      let sized : Takes bytes (u8 (length b.0.0) ++ b.0.0) b.0.1 = subst (λ (n : ℕ). Takes bytes (u8 n ++ b.0.0) b.0.1) (sym q.1) both in
      subst (λ (y : List ℕ × List ℕ). Takes bytes (u8 (length y.0) ++ y.0) y.1 × (is_name y.0 ≡ true)) g.1 (sized, g.0);
  again = λ text rest good.
      ap (λ (y : Read ℕ). y >>= λ size. bytes_at size.0 size.1 >>= λ t. cond (is_name t.0) (Ok t) (Err Limit)) ((small_reads 1 MOST_NAME_BYTES (lit< tt)).again (length text) (text ++ rest) (name_size text good))
      ∙ ap (λ (y : Read (List ℕ)). y >>= λ t. cond (is_name t.0) (Ok t) (Err Limit)) ((bytes_reads (length text)).again text rest refl)
      ∙ rw good refl;
}

-- a name that none before it has
pub fresh_reads : (is_used : List ℕ → Bool) → Reads (fresh_name_at is_used) name (λ text. (is_name text ≡ true) × (is_used text ≡ false))
unfolding fresh_name_at
fresh_reads is_used = record {
  takes = λ bytes x fits e.
      let a = bind_ok (name_at bytes) (λ text. cond (is_used text.0) (Err Order) (Ok text)) x e in
      let g = guard_ok (is_used a.0.0) Order a.0 x a.2 in
      let p = name_reads.takes bytes a.0 fits a.1 in
      subst (λ (y : List ℕ × List ℕ). Takes bytes (name y.0) y.1 × ((is_name y.0 ≡ true) × (is_used y.0 ≡ false))) g.1 (p.0, (p.1, g.0));
  again = λ text rest good.
      ap (λ (y : Read (List ℕ)). y >>= λ t. cond (is_used t.0) (Err Order) (Ok t)) (name_reads.again text rest good.0) ∙ rw (good.1) refl;
}

-- ---- choices

pub chosen_ok : {A : Type 0} (rest : List ℕ) (o : Option A) (x : A × List ℕ) → chosen rest o ≡ Ok x → (o ≡ Some x.0) × (rest ≡ x.1)
chosen_ok rest None x e = absurd cc
chosen_ok rest (Some a) x e = let i = ok_is (a, rest) x e in (ap (λ (y : _ × List ℕ). Some y.0) i, ap (λ (y : _ × List ℕ). y.1) i)

-- the meanings of the numbers of some values
pub record Chooses {A : Type 0} (choose : ℕ → Option A) (number : A → ℕ) : Type 0 where
  pub back : (a : A) → choose (number a) ≡ Some a
  pub only : (n : ℕ) (a : A) → choose n ≡ Some a → n ≡ number a
  pub small : (a : A) → number a < 2 ^ 8

pub choice_reads : {A : Type 0} (choose : ℕ → Option A) (number : A → ℕ) → Chooses choose number → Reads (choice_at choose) (λ a. u8 (number a)) (λ _. Unit {0})
unfolding choice_at
choice_reads choose number c = record {
  takes = λ bytes x fits e.
      let a = bind_ok (byte_at bytes) (λ n. chosen n.1 (choose n.0)) x e in
      let g = chosen_ok a.0.1 (choose a.0.0) x a.2 in
      let p = byte_reads.takes bytes a.0 fits a.1 in
      (subst (λ (n : ℕ). Takes bytes (u8 n) x.1) (c.only a.0.0 x.0 g.0) (subst (λ (r : List ℕ). Takes bytes (u8 a.0.0) r) g.1 p.0), tt);
  again = λ a rest good. ap (chosen rest) (c.back a);
}
