use Rattle.std.proofs.Common.{◌≡◌, ◌-◌, ◌+◌, ◌<◌, ap, ◌∙◌, arith, length}
use Rattle.std.proofs.lemmas.Map.Text.{hash_map_updates_str}
use Rattle.pal_base.specs.View.{declared_of, name_of, texts}
use Rattle.lint.specs.Arrays.{size_in, size_or_none, words_in, words_or_none}
use Rattle.lint.specs.Measures.{size_of, words_of}
use Rattle.lint.proofs.Lookups.{measured_before}
use Rattle.lint.proofs.declarations.measures_by_name.Goals as goal

pub loop-place-preserved : goal.loop-place-preserved
loop-place-preserved c =
    let l = c.loop-place in
    let names = texts c.args.names.now.keys in
    let ds = c.args.declarations.now in
    let d = c.index-declarations-place in
    let some : l.place - 1 < length ds = omega (arith, l.invariant.within, c.loop-place-test.true) in
    let next : l.place ≡ l.place - 1 + 1 = omega (arith, c.loop-place-test.true) in
    let named = c.text_of.ensures ∙ ap (λ x. name_of names x.name) d.is in
    let grown = hash_map_updates_str c.text_of.result.now l.measures c.insert.new.self _ c.in_ok-insert.ensures.updates in
    record {
      within = omega (arith, l.invariant.within);
      measured = λ q. (
        measured_before size_of size_or_none names ds (l.place - 1) l.place d.result c.text_of.result.now _ _ _ q some next named (c.size_in.ensures names ∙ ap (λ x. size_in (declared_of names x.kind)) d.is) (grown q) (l.invariant.measured q).0,
        measured_before words_of words_or_none names ds (l.place - 1) l.place d.result c.text_of.result.now _ _ _ q some next named (c.words_in.ensures names ∙ ap (λ x. words_in (declared_of names x.kind)) d.is) (grown q) (l.invariant.measured q).1,
      );
    }
