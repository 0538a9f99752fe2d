use Rattle.std.proofs.Common.{rules, ◌≡◌, ◌++◌, ◌∷◌, ◌∙◌, [], ap, sym, subst, List}
use Rattle.std.proofs.lemmas.List.{map_push}
use Rattle.std.specs.HashMap.{get_by_text}
use Rattle.finding_lines.specs.Entries.{Entry}
use Rattle.finding_lines.specs.FoundView.{IsNoted}
use Rattle.finding_lines.specs.Noted.{path_text}
use Rattle.finding_lines.specs.Views.{entries_of, entry_of}
use Rattle.finding_lines.proofs.Noted.{still_noted}
use Rattle.finding_lines.proofs.found.Found.add_other.Goals as goal

pub invariant_of-self-2 : goal.invariant_of-self-2
invariant_of-self-2 c = λ path.
    let f = c.self.inside in
    let pushed : c.push.new.self.items ≡ f.entries.items ++ c.args.entry ∷ [] = search rules in
    let seen = ap entries_of pushed ∙ map_push entry_of f.entries.items c.args.entry in
    subst (λ (es : List Entry). IsNoted path es (get_by_text f.lasts (path_text path))) (sym seen)
    (still_noted path (entries_of f.entries.items) (entry_of c.args.entry) _ (c.requires path) (c.self.invariant path))
