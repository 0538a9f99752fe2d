use Rattle.std.proofs.Common.{◌≡◌, ℕ, List, ◌++◌, ap, ◌∙◌, string_bytes, sym}
use Rattle.std.specs.Prelude.{chars, flat_map}
use Rattle.std.proofs.lemmas.Iterator.{YieldsList-from_chars}
use Rattle.std.proofs.lemmas.Iterator.Consumers.{YieldsList-end}
use Rattle.std.proofs.lemmas.List.{flat_map_more, map-id}
use Rattle.trace_picture.specs.Escaped.{character_text}
use Rattle.trace_picture.proofs.escaped.push_escaped.Goals as goal

pub loop-character-preserved : goal.loop-character-preserved
loop-character-preserved c =
    let old = string_bytes c.args.out.now in
    let x = c.in-Some.character in
    c.in_ok-push_character.ensures ∙ ap (λ (bs : List ℕ). bs ++ character_text x) c.loop-character.invariant ∙ flat_map_more character_text old c.loop-character.yielded x

-- all characters were met
pub returns-clause-text : goal.returns-clause-text
returns-clause-text c =
    let t = YieldsList-end (YieldsList-from_chars c.args.text.now c.utf8.text cc) c.loop-character.yielded _ c.loop-character.yielded_by _ _ c.in-None.is c.next.ensures.steps in
    let e : c.loop-character.yielded ≡ chars c.args.text.now = sym (map-id c.loop-character.yielded) ∙ t.0 in
    c.loop-character.invariant ∙ ap (λ (xs : List ℕ). string_bytes c.args.out.now ++ flat_map character_text xs) e
