-- The place where a text leaves the grammar.
use Rattle.std.proofs.Common.{◌≡◌, ℕ, List, length, ap, subst, arith, map, take, drop, Option, ◌-◌, Some, ◌∙◌}
use Rattle.std.proofs.lemmas.List.{length-map, length-take-le}
use Rattle.pal_meaning.specs.Grammar.{Word, words_of}
use Rattle.pal_meaning.specs.Beginning.{LeavesAt}
use Rattle.pal_meaning.specs.Lines.{word_line}
use Rattle.pal_base.proofs.Lined.{lined_at}
use Rattle.pal_base.specs.Lined.{HasFewLines, AreLined, first_line}
use Rattle.pal_base.specs.Leaving.{IsMisfit, IsLookedFor}
use Rattle.pal_base.specs.declared.looking.LookedFor.{LookedFor}
use Rattle.pal_base.specs.declared.source.Misfit.{Misfit}
use Rattle.pal_base.specs.declared.word.Token.{Token}

-- the result of looking where a text leaves the grammar
pub looked_so : (text : List ℕ) (view : Token → Word) (all ts whole front back : List Token) (count last : ℕ) (found : Option Misfit) (misfit : Misfit) (looked_for : LookedFor) →
    map view all ≡ words_of text → ts ≡ all → found ≡ Some misfit → IsMisfit (map view ts) found → whole ≡ all → count ≡ length all - misfit.left → front ≡ take count whole → back ≡ drop count whole →
    looked_for.place ≡ length front → looked_for.line ≡ first_line last back → (HasFewLines text → AreLined text 0 all × (last ≡ word_line text (length all))) → IsLookedFor text (Some looked_for)
looked_so text view all ts whole front back count last found misfit looked_for words same is given again at cut left so line lined =
    let so_many : length (map view ts) ≡ length all = length-map ts view ∙ ap length same in
    let place : looked_for.place ≡ count = so ∙ ap length (cut ∙ ap (take count) again) ∙ length-take-le count all (omega (arith, at)) in
    let leaves : LeavesAt (map view ts) (length (map view ts) - misfit.left) = (subst (λ o. IsMisfit (map view ts) o) is given).1 in
    let here : length (map view ts) - misfit.left ≡ looked_for.place = omega (arith, so_many, at, place) in (
      subst (λ (ws : List Word). LeavesAt ws looked_for.place) (ap (map view) same ∙ words) (subst (λ n. LeavesAt (map view ts) n) here leaves),
      λ few. line ∙ ap (first_line last) (left ∙ ap (drop count) again) ∙ lined_at text 0 count all last (lined few).0 ((lined few).1 ∙ ap (word_line text) (omega arith)) (omega (arith, at)) ∙ ap (word_line text) (omega (arith, place)),
    )
