use Rattle.std.proofs.Common.{◌≡◌, ◌==◌, ◌-◌, suc, length, true, false, Some, ap, sym, ◌∙◌, rules, arith}
use Rattle.std.proofs.lemmas.Grind.{common_steps}
use Rattle.toml_parser.specs.Lexical.{skip_blank}
use Rattle.finding_lines.proofs.Turns.{entries_are, lines_end, lines_more}
use Rattle.finding_lines.proofs.walk.entries.Goals as goal

pub lines-init : goal.lines-init
lines-init c = (
  search rules,
  c.skip_bom-rest.ensures.within,
  suc (length c.args.text.now),
  omega (arith, c.skip_bom-rest.ensures.within),
  rw (c.skip_bom-rest.ensures.rest, c.new-section.ensures.items, c.new-found.ensures),
)

pub returns-then-is_empty : goal.returns-then-is_empty
returns-then-is_empty c =
    let l = c.lines in
    let m = l.invariant.2 in
    let room = l.invariant.3 in
    let loop = l.invariant.4 in
    let start_is = c.skip_blank-start.ensures.rest in
    let none : (length (skip_blank l.rest.now) == 0) ≡ true = grind (arith, common_steps) in
    entries_are c.args.text.now _ (loop ∙ lines_end m _ l.rest.now (omega arith) none) ∙ ap Some (sym c.into_entries.ensures)

pub lines-preserved : goal.lines-preserved
lines-preserved c =
    let l = c.lines in
    let m = l.invariant.2 in
    let room = l.invariant.3 in
    let loop = l.invariant.4 in
    let start_is = c.skip_blank-start.ensures.rest in
    let other : (length (skip_blank l.rest.now) == 0) ≡ false = grind (arith, common_steps) in
    let read = rw start_is at c.in_ok-rest.ensures.value in
    let shorter = c.in_ok-rest.ensures.shorter in
    let before = c.skip_blank-start.ensures.within in
    (search rules, omega (arith, l.invariant.1), m - 1, omega arith, loop ∙ lines_more m _ _ l.rest.now _ (omega arith) other read)
