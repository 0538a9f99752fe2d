-- Text that is escaped.
use Rattle.std.proofs.Common.{◌≡◌, ℕ, Bool, true, false, cond, List, [], ◌∷◌, ◌++◌, refl, sym}
use Rattle.std.specs.Prelude.{◌==◌, ◌||◌}
use Rattle.trace_page.specs.Escaping.{ends_within, escaped, escaped_byte}

stays_within : (b : ℕ) (rest : List ℕ) → ends_within false rest ≡ false → ends_within false (escaped_byte b ++ rest) ≡ false
stays_within b rest h = go (b == 34) (b == 92) (b == 10) (b == 60) refl refl refl refl
  where
    plain : (p q r s : Bool) → p ≡ false → q ≡ false → r ≡ false → s ≡ false → (p || r || s || ends_within q rest) ≡ false
    plain true q r s hp hq hr hs = cc
    plain false true r s hp hq hr hs = cc
    plain false false true s hp hq hr hs = cc
    plain false false false true hp hq hr hs = cc
    plain false false false false hp hq hr hs = h

    go : (p q r s : Bool) → p ≡ (b == 34) → q ≡ (b == 92) → r ≡ (b == 10) → s ≡ (b == 60)
        → ends_within false (cond p (92 ∷ 34 ∷ []) (cond q (92 ∷ 92 ∷ []) (cond r (92 ∷ 110 ∷ []) (cond s (92 ∷ 120 ∷ 51 ∷ 99 ∷ []) (b ∷ [])))) ++ rest) ≡ false
    go true q r s hp hq hr hs = h
    go false true r s hp hq hr hs = h
    go false false true s hp hq hr hs = h
    go false false false true hp hq hr hs = h
    go false false false false hp hq hr hs = plain (b == 34) (b == 92) (b == 10) (b == 60) (sym hp) (sym hq) (sym hr) (sym hs)

pub never_ends : (text : List ℕ) → ends_within false (escaped text) ≡ false
never_ends [] = refl
never_ends (b ∷ text) = stays_within b (escaped text) (never_ends text)
