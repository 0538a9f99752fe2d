use Rattle.std.proofs.Common.{◌≡◌, false, ap, sym, ◌∙◌, to_z, of_z, w64}
use Rattle.std.proofs.lemmas.Int.{to_z-of_z}
use Rattle.module_meaning.specs.TableRules.{is_outside_cost}
use Rattle.window_table.proofs.Costs.{is_cost_row}
use Rattle.window_table.proofs.limits.cost_row.Goals as goal

pub returns : goal.returns
returns c =
    let kept : to_z w64 (of_z w64 c.args.number) ≡ c.args.number = to_z-of_z w64 c.args.number c.ranges.number in
    let inside : is_outside_cost c.args.number ≡ false = ap is_outside_cost (sym kept) ∙ sym c.is_outside_cost.ensures ∙ c.if-is_outside_cost.false in
    rw (inside, c.new.ensures, c.ticks_row.ensures, kept) (is_cost_row c.args.number inside)
