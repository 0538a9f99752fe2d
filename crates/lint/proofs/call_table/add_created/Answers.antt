use Rattle.std.proofs.Common.{◌≡◌, None, ap, sym, ◌∙◌, option_map}
use Rattle.pal_base.specs.View.{exprs_of, id_text, texts}
use Rattle.lint.specs.Unused.{is_used}
use Rattle.lint.specs.UsedNames.{used_names}
use Rattle.lint.specs.Plain.{first_of, name_in, plains}
use Rattle.lint.proofs.Lookups.{no_name}
use Rattle.lint.proofs.call_table.add_created.Goals as goal

pub returns-in-None : goal.returns-in-None
returns-in-None c = λ name.
    let names = texts c.args.names.now.keys in
    let none : name_in (first_of (plains (exprs_of names c.args.call.now.arguments.now))) ≡ None =
    ap name_in (sym (c.first_plain.ensures names)) ∙ sym (c.name_in.ensures names) ∙ ap (option_map (id_text names)) c.in-None.is in
    no_name (is_used (used_names c.args.created.now) name) _ name _ none
