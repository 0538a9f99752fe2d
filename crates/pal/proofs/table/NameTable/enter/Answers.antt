use Rattle.std.proofs.Common.{ℕ, List, ◌∙◌, sym, ap, is_some, Bor}
use Rattle.pal.proofs.Tables.{entered, shadowed, not_new, is_new, behind}
use Rattle.pal.specs.Tables.{entries_of}
use Rattle.pal.proofs.table.NameTable.enter.Goals as goal

pub returns-then-is_some-clause-sees : goal.returns-then-is_some-clause-sees
returns-then-is_some-clause-sees c = shadowed (record { name = c.args.text.now; meaning = c.args.meaning }) (entries_of c.args.self.now) (ap is_some (sym c.get.ensures) ∙ sym c.is_some.ensures ∙ c.if-is_some.true)

pub returns-then-is_some-clause-fresh : goal.returns-then-is_some-clause-fresh
returns-then-is_some-clause-fresh c = not_new (record { name = c.args.text.now; meaning = c.args.meaning }) (entries_of c.args.self.now) (ap is_some (sym c.get.ensures) ∙ sym c.is_some.ensures ∙ c.if-is_some.true)

pub returns-clause-sees : goal.returns-clause-sees
returns-clause-sees c =
    let absent = ap is_some (sym c.get.ensures) ∙ sym c.is_some.ensures ∙ c.if-is_some.false in
    behind (record { name = c.args.text.now; meaning = c.args.meaning }) (entries_of c.args.self.now) (entries_of (record { entries = c.insert.new.self }))
    (entered (λ (k : Bor (List ℕ)). k.now) c.args.text c.args.meaning c.args.self.now.entries.entries c.insert.new.self.entries absent c.in_ok-insert.ensures.entries)

pub returns-clause-fresh : goal.returns-clause-fresh
returns-clause-fresh c =
    let absent = ap is_some (sym c.get.ensures) ∙ sym c.is_some.ensures ∙ c.if-is_some.false in
    is_new (record { name = c.args.text.now; meaning = c.args.meaning }) (entries_of c.args.self.now) (entries_of (record { entries = c.insert.new.self })) absent
    (entered (λ (k : Bor (List ℕ)). k.now) c.args.text c.args.meaning c.args.self.now.entries.entries c.insert.new.self.entries absent c.in_ok-insert.ensures.entries)

pub returns-clause-behind : goal.returns-clause-behind
returns-clause-behind c _ =
    let absent = ap is_some (sym c.get.ensures) ∙ sym c.is_some.ensures ∙ c.if-is_some.false in
    entered (λ (k : Bor (List ℕ)). k.now) c.args.text c.args.meaning c.args.self.now.entries.entries c.insert.new.self.entries absent c.in_ok-insert.ensures.entries
