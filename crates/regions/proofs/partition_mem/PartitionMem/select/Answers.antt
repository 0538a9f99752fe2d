use Rattle.std.proofs.Common.{◌≡◌, ◌≤◌, ◌<◌, ℤ, Vec, Global, List, [], length, slice_set, ap, ◌∙◌, arith}
use Rattle.std.proofs.lemmas.List.{length-set}
use Rattle.std.proofs.lemmas.List.Elements.{All-set}
use Rattle.regions.proofs.Lists.{seen_at, seen_put}
use Rattle.regions.proofs.partition_mem.PartitionMem.select.Goals as goal

abbrev items : Vec ℤ Global → List ℤ
items v = v.items

abbrev IsSmall : Vec ℤ Global → Type 0
IsSmall v = length v.items ≤ 65_535

pub invariant_of-self : goal.invariant_of-self
invariant_of-self c =
    let rest = c.self.inside.rest.items in
    let own = c.self.inside.own in
    let with_own = slice_set rest own c.swap.new.y in
    let none : c.swap-2.new.y.items ≡ [] =
    ap items (c.swap-2.ensures.y_after ∙ c.swap.ensures.x_after ∙ c.index_mut.ensures.value)
    ∙ seen_at items rest own c.index_mut.result.now [] c.self.invariant.0 in
    let within : c.args.place < length rest = omega (arith, c.len.ensures, c.if-place-len.false) in
    let own_small : IsSmall c.swap.new.y = omega (arith, ap (λ v. length (items v)) c.swap.ensures.y_after, c.self.inside.reach.small) in
    let none_small : IsSmall c.swap-2.new.y = omega (arith, ap (λ l. length l) none) in (
      seen_put items with_own c.args.place c.swap-2.new.y [] (omega (arith, within, length-set rest own c.swap.new.y)) none,
      All-set IsSmall with_own c.args.place c.swap-2.new.y none_small (All-set IsSmall rest own c.swap.new.y own_small c.self.invariant.1),
    )
