-- What is found in a text that is no source is said of its bytes.
use Rattle.finding_laws.proofs.Prelude.{◌≡◌, ℕ, ◌+◌, ◌-◌, ◌<◌, Bool, cond, ◌∷◌, ◌++◌, Some, ◌∙◌, inr, subst, suc, leb_tells, nat_lt, IsAscii, MOST_SOURCE_BYTES, IsText, has_none, is_above, or_too_long, strays, text_wrongs, NoAscii, What, Wrong, noted, pushed}
use Rattle.std.proofs.Common.{arith, true, false, List, [], length, None, refl, sym, ap, inl}
use Rattle.std.proofs.lemmas.List.{append_assoc}
use Rattle.std.specs.Prelude.{◌&&◌, not}
use Rattle.finding_laws.proofs.OfTexts.{none_above}
use Rattle.finding_laws.specs.Bytes.{AreOfBytes, IsSaidOfByte, ends_above}
use Rattle.source_findings.specs.Texts.{stray}
use Rattle.source_findings.specs.What.{TooLong}

ends_with : (front : List ℕ) (b : ℕ) → ends_above (front ++ b ∷ []) ≡ is_above b
ends_with [] b = refl
ends_with (a ∷ []) b = refl
ends_with (a ∷ c ∷ front) b = ends_with (c ∷ front) b

one_more : (text : List ℕ) (ws : List Wrong) (w : Wrong) → AreOfBytes text ws → IsSaidOfByte text w.left w.what → AreOfBytes text (ws ++ w ∷ [])
one_more text [] w all is = (is, tt)
one_more text (v ∷ ws) w all is = (all.0, one_more text ws w all.1 is)

above : (b : ℕ) → is_above b ≡ true → 127 < b
above b h = elim (leb_tells 128 b) [ inl t ↦ omega (arith, t.1) | inr f ↦ (let k : true ≡ false = sym h ∙ f.0 in cc) ]

module _ (source : List ℕ) where
  -- at a byte, with those before it
  noted_here : (front : List ℕ) (b : ℕ) (bs : List ℕ) (before : Bool) (found : List Wrong) → source ≡ front ++ b ∷ bs → ends_above front ≡ before → AreOfBytes source found
      → AreOfBytes source (noted (stray before b) (record { text = b ∷ bs; found = found })).found
  noted_here front b bs before found parts is all = by (nat_lt (length found) 20)
    where
      pushed_by : (old new : Bool) → ends_above front ≡ old → is_above b ≡ new
          → AreOfBytes source (pushed (cond (not old && new) (Some (NoAscii b)) None) (record { text = b ∷ bs; found = found })).found
      pushed_by false true o n =
          one_more source found (record { left = length (b ∷ bs); what = NoAscii b }) all (record { before = front; after = bs; parts = parts; place = refl; above = above b n; first = o })
      pushed_by false false o n = all
      pushed_by true new o n = all

      by : (t : Bool) → AreOfBytes source (cond t (pushed (stray before b) (record { text = b ∷ bs; found = found })) (record { text = b ∷ bs; found = found })).found
      by true = pushed_by before (is_above b) is refl
      by false = all

  strays_placed : (front bytes : List ℕ) (before : Bool) (found : List Wrong) → source ≡ front ++ bytes → ends_above front ≡ before → AreOfBytes source found → AreOfBytes source (strays before bytes found)
  strays_placed front [] before found parts is all = all
  strays_placed front (b ∷ bs) before found parts is all =
      strays_placed (front ++ b ∷ []) bs (is_above b) _ (parts ∙ sym (append_assoc front (b ∷ []) bs)) (ends_with front b) (noted_here front b bs before found parts is all)

  behind_placed : (t : Bool) → nat_lt MOST_SOURCE_BYTES (length source) ≡ t → IsAscii source → AreOfBytes source (cond t (record { left = length source - MOST_SOURCE_BYTES; what = TooLong } ∷ []) [])
  behind_placed false is ascii = tt
  behind_placed true is ascii =
      let long : MOST_SOURCE_BYTES < length source = elim (leb_tells (1 + MOST_SOURCE_BYTES) (length source)) [ inl t ↦ omega (arith, t.1) | inr f ↦ (let k : true ≡ false = sym is ∙ f.0 in cc) ] in
      (record { ascii = ascii; place = omega (arith, long); some = omega (arith, long) }, tt)

  or_placed : (found : List Wrong) → strays false source [] ≡ found → AreOfBytes source found → AreOfBytes source (or_too_long source found)
  or_placed [] is all = behind_placed (nat_lt MOST_SOURCE_BYTES (length source)) refl (none_above source (ap has_none is))
  or_placed (w ∷ ws) is all = all

pub bytes_placed : (text : List ℕ) → AreOfBytes text (text_wrongs text)
bytes_placed text = or_placed text (strays false text []) refl (strays_placed text [] text false [] refl refl tt)

-- ---- a source

ascii_at : (before : List ℕ) (byte : ℕ) (after : List ℕ) → IsAscii (before ++ byte ∷ after) → byte < 128
ascii_at [] byte after small = small 0
ascii_at (b ∷ before) byte after small = ascii_at before byte after (λ i. small (suc i))

none_of : (text : List ℕ) (found : List Wrong) → IsText text → AreOfBytes text found → has_none found ≡ true
none_of text [] is all = refl
none_of text (w ∷ ws) is all = absurd (nothing w.what all.0)
  where
    nothing : (what : What) → IsSaidOfByte text w.left what → ⊥
    nothing (NoAscii byte) said =
        let small : byte < 128 = ascii_at said.before byte said.after (subst IsAscii said.parts is.0) in
        omega (arith, small, said.above)
    nothing TooLong said = omega (arith, said.place, said.some, is.1)
    nothing what said = said

-- in a source nothing is found
pub source_has_none : (text : List ℕ) → IsText text → has_none (text_wrongs text) ≡ true
source_has_none text is = none_of text (text_wrongs text) is (bytes_placed text)
