use Rattle.std.proofs.Common.{rules, ℤ, ap, ◌∙◌, to_z, of_z, w64, ◌≡◌, ◌++◌, ◌∷◌, []}
use Rattle.std.proofs.lemmas.List.{drop_more}
use Rattle.toml.specs.View.{table_view}
use Rattle.window_table.proofs.Reading.{no-number, one-number, no-numbers-left, all-asked, pushed}
use Rattle.window_table.proofs.written.read_numbers.Goals as goal

pub returns-in_default : goal.returns-in_default
returns-in_default c = no-number (λ k. k.now) (table_view c.args.table.now) _ _ _ _ _ c.loop-key.invariant (drop_more c.args.keys.now c.loop-key.key-index _ c.loop-key-test.true) c.in_default.ensures

pub loop-key-preserved : goal.loop-key-preserved
loop-key-preserved c =
    let read : to_z w64 (of_z w64 c.in-Some.number) ≡ c.in-Some.number = search rules in
    one-number (λ k. k.now) (table_view c.args.table.now) _ _ _ _ _ _ _ c.loop-key.invariant (drop_more c.args.keys.now c.loop-key.key-index _ c.loop-key-test.true) c.in-Some.ensures
    (pushed c.push.result _ c.loop-key.numbers.items (c.loop-key.numbers.items ++ to_z w64 (of_z w64 c.in-Some.number) ∷ []) c.if-is_err.ensures.value c.push.ensures.items
    ∙ ap (λ (n : ℤ). c.loop-key.numbers.items ++ n ∷ []) read)

pub returns : goal.returns
returns c = no-numbers-left (λ k. k.now) (table_view c.args.table.now) _ _ _ c.loop-key.invariant (all-asked c.args.keys.now c.loop-key.key-index c.loop-key-test.false)
