use Rattle.std.proofs.Common.{◌∙◌, [], length, map, is_ok, ap, sym}
use Rattle.pal_meaning.specs.Resolve.{own_entries, scope_of}
use Rattle.pal_meaning.specs.WellFormed.{are_new}
use Rattle.pal_base.specs.View.{texts, name_of}
use Rattle.pal.specs.Tables.{entries_of}
use Rattle.pal.proofs.Tables.{both_fresh, same_scope, own_both}
use Rattle.pal.proofs.scope.enter_body.Goals as goal

pub returns-clause-sees : goal.returns-clause-sees
returns-clause-sees c =
    let names = texts c.args.names.now.keys in
    let ps = c.args.parameters.now in
    let ls = c.args.locals.now in
    same_scope (entries_of c.args.declared.now) (entries_of c.new-own.result) (entries_of c.enter_names.new.own) (entries_of c.enter_names-2.new.own)
    (own_entries 0 (map (name_of names) ps)) (own_entries (length ps) (map (name_of names) ls)) c.new-own.ensures c.in_ok-one.ensures.sees c.in_ok-other.ensures.sees
    ∙ ap (λ l. scope_of l (entries_of c.args.declared.now)) (sym (own_both (name_of names) ps ls))

pub returns-clause-fresh : goal.returns-clause-fresh
returns-clause-fresh c =
    let names = texts c.args.names.now.keys in
    let ps = c.args.parameters.now in
    let ls = c.args.locals.now in
    both_fresh (entries_of c.args.declared.now) (entries_of c.new-own.result) (entries_of c.enter_names.new.own) (entries_of c.enter_names-2.new.own)
    (own_entries 0 (map (name_of names) ps)) (own_entries (length ps) (map (name_of names) ls))
    (is_ok c.in_ok-one.one) (is_ok c.in_ok-other.other) (is_ok c.earliest.result) c.new-own.ensures c.earliest.ensures c.in_ok-one.ensures.fresh c.in_ok-other.ensures.fresh
    ∙ ap (are_new (entries_of c.args.declared.now) []) (sym (own_both (name_of names) ps ls))
