use Rattle.module.proofs.Prelude.{rules, arith, ◌≡◌, ℕ, ◌+◌, ◌<◌, ◌∷◌, ◌++◌, List, length, Some, refl, ap, ◌∙◌, slice_get, slice_get-map, program_of, PartitionRow, programs_of, Checked}
use Rattle.std.proofs.Common.{[]}
use Rattle.std.specs.Option.{option_map}
use Rattle.std.proofs.lemmas.Option.{slice_get_read}
use Rattle.module.proofs.Built.{one_is_short, one_longer, one_more_item, one_more_program}
use Rattle.module.proofs.building.build_items.Goals as goal

-- if an item is left, the place is within
stands_within : (place : ℕ) (row : PartitionRow) (left rest : List PartitionRow) (n : ℕ) → left ≡ row ∷ rest → place + length left ≡ n → place < n
stands_within place row left rest n split all = omega (arith, ap length split)

one_on : (place : ℕ) (row : PartitionRow) (left rest : List PartitionRow) (n : ℕ) → left ≡ row ∷ rest → place + length left ≡ n → place + 1 + length rest ≡ n
one_on place row left rest n split all = omega (arith, ap length split)

pub bounds-sources-place : goal.bounds-sources-place
bounds-sources-place c = stands_within c.loop-row.place c.in-Some.row _ _ _ c.in-Some.ensures.steps.0 c.loop-row.invariant.left

pub build_item-requires : goal.build_item-requires
build_item-requires c =
    let source = c.index-sources-place.result in
    let p = program_of source.program in
    let within : c.loop-row.place < length c.args.sources.now = stands_within c.loop-row.place c.in-Some.row _ _ _ c.in-Some.ensures.steps.0 c.loop-row.invariant.left in
    let got : slice_get (programs_of c.args.sources.now) c.loop-row.place ≡ Some p =
    slice_get-map _ c.args.sources.now c.loop-row.place ∙ ap (option_map (λ (a : Checked). program_of a.program)) (slice_get_read c.args.sources.now _ c.loop-row.place source refl within c.index-sources-place.is) in
    one_is_short (programs_of c.args.sources.now) c.loop-row.place p c.requires.short got

pub loop-row-preserved : goal.loop-row-preserved
loop-row-preserved c =
    let pushed : c.push.new.self.items ≡ c.loop-row.items.items ++ c.in_ok-build_item.field-0 ∷ [] = search rules in
    let source = c.index-sources-place.result in
    let p = program_of source.program in
    let within : c.loop-row.place < length c.args.sources.now = stands_within c.loop-row.place c.in-Some.row _ _ _ c.in-Some.ensures.steps.0 c.loop-row.invariant.left in
    let got : slice_get (programs_of c.args.sources.now) c.loop-row.place ≡ Some p =
    slice_get-map _ c.args.sources.now c.loop-row.place ∙ ap (option_map (λ (a : Checked). program_of a.program)) (slice_get_read c.args.sources.now _ c.loop-row.place source refl within c.index-sources-place.is) in
    record {
      place = one_longer c.loop-row.yielded c.in-Some.row c.loop-row.place c.loop-row.invariant.place;
      left = one_on c.loop-row.place c.in-Some.row _ _ _ c.in-Some.ensures.steps.0 c.loop-row.invariant.left;
      built = one_more_item c.loop-row.yielded c.in-Some.row (programs_of c.args.sources.now) c.loop-row.place p c.loop-row.items.items c.push.new.self.items c.in_ok-build_item.field-0 c.loop-row.invariant.place c.loop-row.invariant.built got pushed c.in_ok-build_item.ensures.item;
      coded = one_more_program (programs_of c.args.sources.now) c.loop-row.place p c.loop-row.invariant.coded got c.in_ok-build_item.ensures.coded;
    }
