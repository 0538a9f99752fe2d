use Rattle.std.proofs.Common.{◌≡◌, ◌==◌, ◌-◌, ◌<◌, true, false, ◌∙◌, rules, arith}
use Rattle.std.proofs.lemmas.Grind.{common_steps}
use Rattle.toml_parser.specs.Lexical.{first, skip_blank}
use Rattle.finding_lines.specs.Entries.{inside}
use Rattle.finding_lines.specs.Views.{owned_path}
use Rattle.finding_lines.proofs.Turns.{elements_end, elements_step, if_array, if_atom, if_table, members_end, members_step}
use Rattle.finding_lines.proofs.inside.+inside.Goals as goal

pub elements-returns-then-first-eq93-clause-value : goal.elements-returns-then-first-eq93-clause-value
elements-returns-then-first-eq93-clause-value c c' n h =
    let l = c'.items in
    let (m, room, loop) = l.invariant.2 n h in
    let closing : (first (skip_blank l.rest.now) == 93) ≡ true = grind (arith, common_steps) in
    loop ∙ elements_end (inside c'.args.depth) m _ _ _ l.rest.now (omega arith) closing ∙ rw (c'.skip.ensures.rest, c'.skip_blank-start.ensures.rest)

pub elements-items-preserved : goal.elements-items-preserved
elements-items-preserved c c' =
    let l = c'.items in
    let other : (first (skip_blank l.rest.now) == 93) ≡ false = grind (arith, common_steps) in
    let shorter = c'.in_ok-after.ensures.shorter in
    let within = c'.in_ok-rest.ensures.within in
    let before = c'.skip_blank-start.ensures.within in (
      search rules,
      omega (arith, l.invariant.1),
      λ n h.
          let (m, room, loop) = l.invariant.2 n h in (
            m - 1,
            omega arith,
            loop ∙ elements_step c'.args.depth m _ (owned_path c'.in_ok-here.here.items) l.index c'.in_ok-index.index _ c'.add.new.self _ l.rest.now c'.skip_blank-start.result.now _ _ (omega arith) other c'.skip_blank-start.ensures.rest c'.in_ok-here.ensures
                (rw c'.as_slice.ensures.value at c'.in_ok-add.ensures) (rw c'.as_slice-in-items.ensures.value at c'.in_ok-after.ensures.value) c'.in_ok-rest.ensures.value (omega arith),
          ),
    )

pub members-returns-then-first-eq125-clause-value : goal.members-returns-then-first-eq125-clause-value
members-returns-then-first-eq125-clause-value c c' n h =
    let l = c'.items in
    let (m, room, loop) = l.invariant.2 n h in
    let closing : (first (skip_blank l.rest.now) == 125) ≡ true = grind (arith, common_steps) in
    loop ∙ members_end (inside c'.args.depth) m _ _ l.rest.now (omega arith) closing ∙ rw (c'.skip.ensures.rest, c'.skip_blank-start.ensures.rest)

pub members-items-preserved : goal.members-items-preserved
members-items-preserved c c' =
    let l = c'.items in
    let other : (first (skip_blank l.rest.now) == 125) ≡ false = grind (arith, common_steps) in
    let shorter = c'.in_ok-key.ensures.shorter in
    let shorter_again = c'.in_ok-after.ensures.shorter in
    let within = c'.in_ok-rest.ensures.within in
    let before = c'.skip_blank-start.ensures.within in (
      search rules,
      omega (arith, l.invariant.1),
      λ n h.
          let (m, room, loop) = l.invariant.2 n h in (
            m - 1,
            omega arith,
            loop ∙ members_step c'.args.depth m _ (owned_path c'.in_ok-here.here.items) _ c'.add.new.self _ l.rest.now c'.skip_blank-start.result.now _ _ _ _ (omega arith) other c'.skip_blank-start.ensures.rest c'.in_ok-key.ensures.value c'.in_ok-here.ensures
                (rw c'.as_slice.ensures.value at c'.in_ok-add.ensures) (rw c'.as_slice-in-items.ensures.value at c'.in_ok-after.ensures.value) c'.in_ok-rest.ensures.value,
          ),
    )

pub inside-returns-then-byte-ne123-clause-value : goal.inside-returns-then-byte-ne123-clause-value
inside-returns-then-byte-ne123-clause-value c c' =
    let s = c'.args.text.now in
    let a : (first s == 91) ≡ false = grind (arith, common_steps) in
    let b : (first s == 123) ≡ false = grind (arith, common_steps) in
    if_atom c'.args.depth _ _ s c'.behind_atom.result a b c'.behind_atom.ensures.value

pub inside-returns-then-byte-eq91-clause-value : goal.inside-returns-then-byte-eq91-clause-value
inside-returns-then-byte-eq91-clause-value c c' =
    let s = c'.args.text.now in
    let some : 0 < c'.args.depth = omega arith in
    let a : (first s == 91) ≡ true = grind (arith, common_steps) in
    if_array c'.args.depth _ _ _ s _ c'.elements.result some a c'.skip.ensures.rest c'.skip.ensures.shorter c'.elements.ensures.value

pub inside-returns-else-byte-eq91-clause-value : goal.inside-returns-else-byte-eq91-clause-value
inside-returns-else-byte-eq91-clause-value c c' =
    let s = c'.args.text.now in
    let some : 0 < c'.args.depth = omega arith in
    let a : (first s == 91) ≡ false = grind (arith, common_steps) in
    let b : (first s == 123) ≡ true = grind (arith, common_steps) in
    if_table c'.args.depth _ _ _ s _ c'.members.result some a b c'.skip-else-byte-eq91.ensures.rest c'.skip-else-byte-eq91.ensures.shorter c'.members.ensures.value
