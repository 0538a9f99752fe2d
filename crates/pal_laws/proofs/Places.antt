-- If reading refuses a word, the words leave the grammar there.
use Rattle.std.proofs.Common.{◌≡◌, ℕ, suc, ◌+◌, ◌-◌, ◌<◌, ◌≤◌, List, [], ◌∷◌, ◌++◌, length, length-append, append_assoc, take, Ok, Err, refl, sym, ap, ◌∙◌, subst, arith}
use Rattle.std.proofs.lemmas.List.{take_at}
use Rattle.pal_meaning.specs.Grammar.{Word, program_words, IsProgram}
use Rattle.pal_meaning.specs.Beginning.{IsWhole, IsBeginning, LeavesAt}
use Rattle.pal_meaning.specs.Syntax as tree
use Rattle.pal_laws.specs.GrammarReading.{program_at}
use Rattle.pal_laws.proofs.Begun.{Begun}
use Rattle.pal_laws.proofs.BegunPrograms.{whole_words, program_begins}
use Rattle.pal_laws.proofs.ReadPrograms.{written_is_read}
use Rattle.pal_laws.proofs.SteadyReadings.{no_program}

whole_is : (p : tree.Program) → program_words p ≡ whole_words p []
unfolding program_words
whole_is p = refl

begins : (ws : List Word) (n : ℕ) (b : Begun whole_words IsProgram ws n) → IsBeginning b.front
begins ws n b = (b.more ++ [], (b.thing, (b.fits, sym (b.spelled []) ∙ sym (whole_is b.thing))))

refused_is_no_program : (ws : List Word) (n : ℕ) → program_at ws ≡ Err n → IsWhole ws → ⊥
refused_is_no_program ws n h is = let e : Err n ≡ Ok is.0 = sym h ∙ written_is_read ws is.0 is.1 in absurd (let f : ⊥ = cc in f)

-- no program begins with the words up to the refused one
none_with : (front back : List Word) (w : Word) (n : ℕ) → program_at (front ++ w ∷ back) ≡ Err n → length (w ∷ back) ≡ n → IsBeginning (front ++ w ∷ []) → ⊥
none_with front back w n h l is =
    no_program (front ++ w ∷ []) back is.0 n is.1.0 (ap program_at (append_assoc front (w ∷ []) back) ∙ h) (omega (arith, l)) (written_is_read ((front ++ w ∷ []) ++ is.0) is.1.0 is.1.1)

with_next : (front back : List Word) (n : ℕ) → program_at (front ++ back) ≡ Err n → length back ≡ n → length front < length (front ++ back) → IsBeginning (take (suc (length front)) (front ++ back)) → ⊥
with_next front [] n h l k is = omega (arith, k, length-append front [])
with_next front (w ∷ back) n h l k is =
    let longer : length (front ++ w ∷ []) ≡ suc (length front) = omega (arith, length-append front (w ∷ [])) in
    none_with front back w n h l (subst IsBeginning (ap (take (suc (length front))) (sym (append_assoc front (w ∷ []) back)) ∙ take_at (front ++ w ∷ []) back (suc (length front)) longer) is)

leaves_there : (ws front back : List Word) (n place : ℕ) → ws ≡ front ++ back → length back ≡ n → place ≡ length front → program_at ws ≡ Err n → IsBeginning front → LeavesAt ws place
leaves_there ws front back n place parts count at h is = (
  refused_is_no_program ws n h,
  omega (arith, at, ap length parts, length-append front back),
  subst IsBeginning (sym (ap (λ i. take i ws) at ∙ ap (take (length front)) parts ∙ take_at front back (length front) refl)) is,
  λ less next. with_next front back n (ap program_at (sym parts) ∙ h) count (omega (arith, less, at, ap length parts)) (subst IsBeginning (ap (λ i. take (suc i) ws) at ∙ ap (take (suc (length front))) parts) next),
)

from_begun : (ws : List Word) (n : ℕ) → program_at ws ≡ Err n → Begun whole_words IsProgram ws n → (n ≤ length ws) × LeavesAt ws (length ws - n)
from_begun ws n h b =
    let count : length b.front + n ≡ length ws = omega (arith, b.count, ap length b.parts, length-append b.front b.back) in
    (omega (arith, count), leaves_there ws b.front b.back n (length ws - n) b.parts b.count (omega (arith, count)) h (begins ws n b))

pub refused_words_leave : (ws : List Word) (n : ℕ) → program_at ws ≡ Err n → (n ≤ length ws) × LeavesAt ws (length ws - n)
refused_words_leave ws n h = from_begun ws n h (program_begins ws n h)
