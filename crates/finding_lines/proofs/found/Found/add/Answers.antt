use Rattle.std.proofs.Common.{rules, ◌≡◌, ◌++◌, ◌∷◌, ◌∙◌, [], ap, string_bytes}
use Rattle.std.proofs.lemmas.List.{map_push}
use Rattle.finding_lines.specs.Entries.{leads_to_element, with_key}
use Rattle.finding_lines.specs.Views.{owned_path, owned_step}
use Rattle.finding_lines.proofs.Noted.{no_steps, of_no_array}
use Rattle.finding_lines.proofs.found.Found.add.Goals as goal

pub add_other-requires : goal.add_other-requires
add_other-requires c = λ array.
    let last = c.in-Some-Key-default.field-0-0.now in
    let rest = c.in-Some-Key-default.field-0-1.now in
    let key = string_bytes c.in-Some-Key-default.field-0-0-0 in
    let copy : owned_path c.in_ok-ok.field-0.items ≡ owned_path c.args.path.now = search rules in
    let is : owned_path c.args.path.now ≡ with_key (owned_path rest) key = ap owned_path c.in-Some-Key-default.ensures.cases.0 ∙ map_push owned_step rest last ∙ ap (λ s. owned_path rest ++ owned_step s ∷ []) c.in-Some-Key-default.field-0-0-is in
    ap (leads_to_element array) (copy ∙ is) ∙ of_no_array array (owned_path rest) key

pub add_other-requires-in-None : goal.add_other-requires-in-None
add_other-requires-in-None c = λ array.
    let copy : owned_path c.in_ok-ok.field-0.items ≡ owned_path c.args.path.now = search rules in
    ap (leads_to_element array) copy ∙ no_steps c.args.path.now array c.in-None.ensures.cases
