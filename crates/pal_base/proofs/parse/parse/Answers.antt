use Rattle.std.proofs.Common.{◌≡◌, length, map, List, ap, ◌∙◌, sym, subst}
use Rattle.std.proofs.lemmas.List.{length-map}
use Rattle.pal_meaning.specs.Grammar as grammar
use Rattle.pal_meaning.specs.Lines.{word_line}
use Rattle.pal_base.specs.Lined.{AreLined}
use Rattle.pal_base.specs.View.{texts}
use Rattle.pal_base.specs.WordView.{token_of}
use Rattle.pal_base.specs.declared.word.Token.{Token}
use Rattle.pal_base.proofs.Lined.{few_lines, line_so}
use Rattle.pal_base.proofs.Refusals.{refused_words, written_so}
use Rattle.pal_base.proofs.parse.parse.Goals as goal

pub returns-in-Err-clause-refusal : goal.returns-in-Err-clause-refusal
returns-in-Err-clause-refusal c =
    let text = c.args.text.now in
    let view = token_of (texts c.in_ok-names.field-0.names.keys) in
    let words : map view c.as_slice.result.now ≡ grammar.words_of text = ap (map view) c.as_slice.ensures.value ∙ c.in_ok-names.ensures.words in
    refused_words c.in-Err.error c.fault.result.refusal text (map view c.as_slice.result.now) c.fault.ensures.refusal c.in_ok-judge_text.ensures.text words c.in-Err.ensures.exact

pub returns-in-Err-clause-line : goal.returns-in-Err-clause-line
returns-in-Err-clause-line c =
    let text = c.args.text.now in
    let view = token_of (texts c.in_ok-names.field-0.names.keys) in
    let last = c.in_ok-names.field-0.last_line in
    let ts : List Token = c.as_slice-in-Err.result.now in
    let words : map view c.as_slice.result.now ≡ grammar.words_of text = ap (map view) c.as_slice.ensures.value ∙ c.in_ok-names.ensures.words in
    let many : length (map view c.as_slice.result.now) ≡ length ts = length-map c.as_slice.result.now view ∙ ap length (c.as_slice.ensures.value ∙ sym c.as_slice-in-Err.ensures.value) in
    let lined = subst (λ (us : List Token). AreLined text 0 us × (last ≡ word_line text (length us))) (sym c.as_slice-in-Err.ensures.value) (c.in_ok-names.ensures.lines (few_lines text c.in_ok-judge_text.ensures.text.1)) in
    line_so c.in-Err.error c.fault.result.refusal c.fault.result.line last text ts (map view c.as_slice.result.now) c.fault.ensures.refusal c.fault.ensures.line words many lined c.in-Err.ensures.exact

pub returns-clause-tree : goal.returns-clause-tree
returns-clause-tree c =
    let text = c.args.text.now in
    let view = token_of (texts c.in_ok-names.field-0.names.keys) in
    let words : map view c.as_slice.result.now ≡ grammar.words_of text = ap (map view) c.as_slice.ensures.value ∙ c.in_ok-names.ensures.words in
    (c.in_ok-judge_text.ensures.text, written_so text (map view c.as_slice.result.now) _ words c.in-Ok.ensures.exact)

pub invariant_of-result : goal.invariant_of-result
invariant_of-result c =
    let text = c.args.text.now in
    let view = token_of (texts c.in_ok-names.field-0.names.keys) in
    let words : map view c.as_slice.result.now ≡ grammar.words_of text = ap (map view) c.as_slice.ensures.value ∙ c.in_ok-names.ensures.words in
    record { written = ∣ (text, (c.in_ok-judge_text.ensures.text, written_so text (map view c.as_slice.result.now) _ words c.in-Ok.ensures.exact)) ∣₁ }
