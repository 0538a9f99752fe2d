use Rattle.std.proofs.Common.{rules, ◌≡◌, ◌+◌, ◌++◌, ◌∷◌, ◌∙◌, [], ap, sym, subst, cond, length, List, Option, Some, string_bytes}
use Rattle.std.proofs.lemmas.List.{length-map, map_push}
use Rattle.std.proofs.lemmas.Map.Text.{hash_map_updates_text}
use Rattle.std.specs.Str.{bytes_eq}
use Rattle.std.specs.HashMap.{get_by_text}
use Rattle.finding_lines.specs.Entries.{Entry, elements_at}
use Rattle.finding_lines.specs.FoundView.{IsNoted}
use Rattle.finding_lines.specs.Noted.{path_text}
use Rattle.finding_lines.specs.Views.{entries_of, entry_of, owned_path}
use Rattle.finding_lines.specs.declared.found.Last.{Last}
use Rattle.finding_lines.proofs.Noted.{noted_with}
use Rattle.finding_lines.proofs.found.Found.add_element.Goals as goal

pub invariant_of-self-in-Ok : goal.invariant_of-self-in-Ok
invariant_of-self-in-Ok c = λ path.
    let array = owned_path c.args.array.now in
    let f = c.self.inside in
    let found = entries_of f.entries.items in
    let e = entry_of c.args.entry in
    let last : Last = record { place = c.len.result; elements = c.in_ok-elements.elements } in
    let text = string_bytes c.in_ok-text.text in
    let named : text ≡ path_text array = search rules in
    let sets : get_by_text c.insert.new.self (path_text path) ≡ cond (bytes_eq text (path_text path)) (Some last) (get_by_text f.lasts (path_text path)) = hash_map_updates_text text f.lasts c.insert.new.self _ c.in-Ok.ensures.updates (path_text path) in
    let pushed : c.push.new.self.items ≡ f.entries.items ++ c.args.entry ∷ [] = search rules in
    let seen : entries_of c.push.new.self.items ≡ found ++ e ∷ [] = ap entries_of pushed ∙ map_push entry_of f.entries.items c.args.entry in
    let place : c.len.result ≡ length f.entries.items = search rules in
    let asked : c.in_ok-elements.elements ≡ elements_at array c.args.self.now + 1 = search rules in
    let count : c.in_ok-elements.elements ≡ elements_at array found + 1 = asked ∙ ap (λ (es : List Entry). elements_at array es + 1) (sym c.self.view_is) in
    let noted = noted_with path array found e c.requires.0 last (get_by_text f.lasts (path_text path)) text named c.requires.1 (place ∙ sym (length-map f.entries.items entry_of)) count (c.self.invariant path) in
    subst (λ (o : Option Last). IsNoted path (entries_of c.push.new.self.items) o) (sym sets)
    (subst (λ (es : List Entry). IsNoted path es (cond (bytes_eq text (path_text path)) (Some last) (get_by_text f.lasts (path_text path)))) (sym seen) noted)
