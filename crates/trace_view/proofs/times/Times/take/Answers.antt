use Rattle.std.proofs.Common.{rules, ◌≡◌, ◌+◌, ◌∷◌, true, ap, sym, subst, ◌∙◌, arith}
use Rattle.std.specs.BTreeMap.{insert_entry}
use Rattle.std.specs.Ordering.{nat_cmp}
use Rattle.trace_view.specs.Percentiles.{AreTimes, all_of, are_rising, often}
use Rattle.trace_view.proofs.Percentiles.{all_more, rising_more, times_more}
use Rattle.trace_view.proofs.times.Times.take.Goals as goal

pub invariant_of-self-2-clause-rising : goal.invariant_of-self-2-clause-rising
invariant_of-self-2-clause-rising c =
    let old = c.args.self.now.counts.entries in
    let k = c.args.time in
    let v : c.in-Some-checked_add.often ≡ often k old + 1 = search rules in
    let entries : c.insert.new.self.entries ≡ insert_entry nat_cmp old k (often k old + 1) = c.in_ok-insert.ensures.entries ∙ ap (insert_entry nat_cmp old k) v in
    subst (λ es. are_rising es ≡ true) (sym entries) (rising_more k (often k old + 1) old c.args.self.now.rising)

pub invariant_of-self-2-clause-whole : goal.invariant_of-self-2-clause-whole
invariant_of-self-2-clause-whole c =
    let old = c.args.self.now.counts.entries in
    let k = c.args.time in
    let v : c.in-Some-checked_add.often ≡ often k old + 1 = search rules in
    let t : c.in-Some.taken ≡ c.args.self.now.taken + 1 = search rules in
    let entries : c.insert.new.self.entries ≡ insert_entry nat_cmp old k (often k old + 1) = c.in_ok-insert.ensures.entries ∙ ap (insert_entry nat_cmp old k) v in
    let more = all_more k old c.args.self.now.rising in
    let same = ap all_of entries in
    omega (arith, t, c.args.self.now.whole, more, same)

pub returns-clause-taken : goal.returns-clause-taken
returns-clause-taken c = λ times are.
    let old = c.args.self.now.counts.entries in
    let k = c.args.time in
    let v : c.in-Some-checked_add.often ≡ often k old + 1 = search rules in
    let entries : c.insert.new.self.entries ≡ insert_entry nat_cmp old k (often k old + 1) = c.in_ok-insert.ensures.entries ∙ ap (insert_entry nat_cmp old k) v in
    subst (λ es. AreTimes (k ∷ times) es) (sym entries) (times_more k old times c.args.self.now.rising are)
