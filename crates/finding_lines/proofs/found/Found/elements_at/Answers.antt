use Rattle.std.proofs.Common.{rules, ◌≡◌, ◌∙◌, ap, sym, true, Some, None}
use Rattle.std.proofs.lemmas.Option.{slice_get-get_or}
use Rattle.std.specs.Prelude.{slice_get}
use Rattle.std.specs.HashMap.{get_by_text}
use Rattle.finding_lines.specs.Entries.{elements_at, leads_to_element}
use Rattle.finding_lines.specs.Noted.{path_text}
use Rattle.finding_lines.specs.Views.{entries_of, entry_of, owned_path}
use Rattle.finding_lines.proofs.Noted.{entry_at, none_noted, some_noted}
use Rattle.finding_lines.proofs.found.Found.elements_at.Goals as goal

pub returns-in_default : goal.returns-in_default
returns-in_default c =
    let path = owned_path c.args.path.now in
    let f = c.self.inside in
    let text : c.as_str.result.now ≡ path_text path = search rules in
    let none : get_by_text f.lasts c.as_str.result.now ≡ None = search rules in
    none_noted path (entries_of f.entries.items) _ (ap (get_by_text f.lasts) (sym text) ∙ none) (c.self.invariant path) ∙ ap (elements_at path) c.self.view_is

pub returns-then-leads_to_element : goal.returns-then-leads_to_element
returns-then-leads_to_element c =
    let path = owned_path c.args.path.now in
    let f = c.self.inside in
    let last = c.in-Some.last.now in
    let entry = c.index-entry.result.now in
    let text : c.as_str.result.now ≡ path_text path = search rules in
    let some : get_by_text f.lasts c.as_str.result.now ≡ Some last = search rules in
    let there : slice_get f.entries.items last.place ≡ Some entry = search (rules, slice_get-get_or) in
    let leads : leads_to_element path (owned_path entry.path.items) ≡ true = search rules in
    some_noted path (entries_of f.entries.items) _ last (entry_of entry) (ap (get_by_text f.lasts) (sym text) ∙ some) (entry_at f.entries.items last.place entry there) leads (c.self.invariant path) ∙ ap (elements_at path) c.self.view_is
