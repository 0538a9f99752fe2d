use Rattle.std.proofs.Common.{◌≡◌, ℕ, ◌<◌, List, [], ◌∷◌, ◌++◌, length, map, ap, sym, ◌∙◌, arith, rules, subst, append-nil, false, refl}
use Rattle.pal_meaning.specs.Grammar as grammar
use Rattle.pal_meaning.specs.Grammar.{behind_blanks, word_at, words_from}
use Rattle.pal_laws.proofs.WordsOf.{next_short, words_from_next, words_from_empty}
use Rattle.pal_base.specs.declared.word.Token.{Token}
use Rattle.pal_base.specs.View.{texts}
use Rattle.pal_base.specs.WordView.{token_of}
use Rattle.pal_base.proofs.Lined.{counted_starts, counted_goes_on, counted_ends}
use Rattle.pal_base.proofs.Names.{one_more, all_known_too, AreKnown}
use Rattle.pal_base.proofs.word.words_of.Goals as goal

pub loop-rest-init : goal.loop-rest-init
loop-rest-init c =
    let text = c.behind_blanks-line.ensures.text in (
      search rules,
      search rules,
      counted_starts c.args.text.now c.new-tokens.result.items c.behind_blanks-line.result.0.now c.behind_blanks-line.result.1 c.new-tokens.ensures.items text c.behind_blanks-line.ensures.few c.behind_blanks-line.ensures.line,
    )

pub loop-rest-smaller : goal.loop-rest-smaller
loop-rest-smaller c =
    let h : 0 < length c.loop-rest.rest.now = search rules in
    let l = next_short c.loop-rest.rest.now h in
    let e = c.behind_blanks.ensures.text ∙ ap (behind_blanks false) c.in_ok-word.ensures.rest in
    omega (arith, l, ap length e)

pub loop-rest-preserved : goal.loop-rest-preserved
loop-rest-preserved c =
    let h : 0 < length c.loop-rest.rest.now = search rules in
    let old : List (List ℕ) = texts c.loop-rest.names.keys in
    let new : List (List ℕ) = texts c.word_at.new.names.keys in
    let t : Token = record { word = c.in_ok-word.word; line = c.loop-rest.line } in
    let e = c.behind_blanks.ensures.text ∙ ap (behind_blanks false) c.in_ok-word.ensures.rest in
    let w = (word_at c.loop-rest.rest.now).0 in
    let split = words_from_next c.loop-rest.rest.now h ∙ ap (λ (bs : List ℕ). w ∷ words_from bs) (sym e) in
    let items : c.push.new.self.items ≡ c.loop-rest.tokens.items ++ t ∷ [] = c.in_ok-push.ensures.items in (
      one_more old new c.loop-rest.tokens.items t w (grammar.words_of c.args.text.now) (words_from c.loop-rest.rest.now) (words_from c.behind_blanks.result.0.now)
          c.loop-rest.invariant.1 c.in_ok-word.ensures.grows c.in_ok-word.ensures.word split c.loop-rest.invariant.0
          ∙ ap (λ (ts : List Token). map (token_of new) ts ++ words_from c.behind_blanks.result.0.now) (sym items),
      let P : List Token → Type 0 = λ ts. AreKnown new ts in
          subst P (sym items) (all_known_too old new c.loop-rest.tokens.items t c.loop-rest.invariant.1 c.in_ok-word.ensures.grows c.in_ok-word.ensures.known),
      counted_goes_on c.args.text.now c.loop-rest.tokens.items c.push.new.self.items t c.loop-rest.rest.now c.in_ok-word.after.now c.behind_blanks.result.0.now c.loop-rest.line c.behind_blanks.result.1
          c.loop-rest.invariant.2 h c.in_ok-word.ensures.rest c.behind_blanks.ensures.text c.behind_blanks.ensures.few c.behind_blanks.ensures.line refl items,
    )

pub returns-clause-words : goal.returns-clause-words
returns-clause-words c =
    let h : length c.loop-rest.rest.now ≡ 0 = search rules in
    sym (c.loop-rest.invariant.0
    ∙ ap (λ ws. map (token_of (texts c.loop-rest.names.keys)) c.loop-rest.tokens.items ++ ws) (words_from_empty c.loop-rest.rest.now h)
    ∙ append-nil (map (token_of (texts c.loop-rest.names.keys)) c.loop-rest.tokens.items))

pub returns-clause-lines : goal.returns-clause-lines
returns-clause-lines c = λ few. counted_ends c.args.text.now c.loop-rest.tokens.items c.loop-rest.rest.now c.loop-rest.line c.loop-rest.invariant.2 few
