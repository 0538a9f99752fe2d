-- One turn of the walk through the processes.
use Rattle.std.proofs.Common.{◌≡◌, ℕ, ◌+◌, ◌<◌, List, [], ◌∷◌, ◌++◌, drop, get_or, length, map, sym, ap, ◌∙◌}
use Rattle.std.proofs.lemmas.List.{drop_more, map-append}
use Rattle.pal_base.specs.View.{process_of}
use Rattle.pal_base.specs.declared.syntax.Process.{Process}
use Rattle.pal_meaning.specs.Syntax as written
use Rattle.source_findings.specs.Bodies.{process, processes}
use Rattle.source_findings.specs.Frames.{held}
use Rattle.source_findings.specs.Judged.{Judge}
use Rattle.source_findings.specs.Roles as roles
use Rattle.source_findings.specs.Roles.{process_entry}
use Rattle.source_findings.specs.Views.{entries_of, entry_of}
use Rattle.source_findings.specs.What.{State}
use Rattle.source_findings.specs.declared.roles.Entry.{Entry}

pub process_turn : (j : Judge) (names : List (List ℕ)) (xs : List Process) (i : ℕ) (x : Process) (old new slice : List Entry) (item : Entry) (count more : ℕ) (s t whole : State)
    → i < length xs → x ≡ get_or xs i x → more ≡ held (count + 1) → slice ≡ old → t ≡ process j (entries_of slice) more (process_of names x) s
    → entry_of item ≡ process_entry (process_of names x) → new ≡ old ++ item ∷ []
    → processes j (entries_of old) count (map (process_of names) (drop i xs)) s ≡ whole
    → processes j (entries_of new) more (map (process_of names) (drop (i + 1) xs)) t ≡ whole
process_turn j names xs i x old new slice item count more s t whole lt is counted same walked named pushed before =
    let p : written.Process = process_of names x in
    let rest : List written.Process = map (process_of names) (drop (i + 1) xs) in
    let behind : entries_of new ≡ entries_of old ++ process_entry p ∷ [] =
    ap entries_of pushed ∙ map-append entry_of old (item ∷ []) ∙ ap (λ (e : roles.Entry). entries_of old ++ e ∷ []) named in
    let split : drop i xs ≡ x ∷ drop (i + 1) xs = drop_more xs i x lt ∙ ap (λ (y : Process). y ∷ drop (i + 1) xs) (sym is) in
    ap (λ (es : List roles.Entry). processes j es more rest t) behind
    ∙ ap (λ (u : State). processes j (entries_of old ++ process_entry p ∷ []) more rest u) (walked ∙ ap (λ (es : List Entry). process j (entries_of es) more p s) same)
    ∙ ap (λ (n : ℕ). processes j (entries_of old ++ process_entry p ∷ []) n rest (process j (entries_of old) n p s)) counted
    ∙ ap (λ (ys : List Process). processes j (entries_of old) count (map (process_of names) ys) s) (sym split)
    ∙ before
