use Rattle.std.proofs.Common.{rules, ◌≡◌, ◌++◌, [], ◌∷◌, ap, ◌∙◌, inl, inr, length, arith}
use Rattle.std.proofs.lemmas.List.{length-append}
use Rattle.std.proofs.lemmas.Option.{slice_get_cases}
use Rattle.std.proofs.Math.Seq.{set-append_seam}
use Rattle.sync_objects_base.proofs.messages.append.Goals as goal

-- The empty message comes after the others, and gets the words.
pub returns-in-Some-clause-items : goal.returns-in-Some-clause-items
returns-in-Some-clause-items c =
    let old = c.args.ring.now.items in
    let ok = c.try_push_back.ensures.variant.1 c.requires in
    let pushed : c.try_push_back.new.self.items ≡ old ++ c.new.result ∷ [] = search (rules, ok) in
    rw (pushed, c.len-place.ensures.len, c.refill.ensures) (set-append_seam old c.new.result [] _)

pub returns-in_default-clause-items : goal.returns-in_default-clause-items
returns-in_default-clause-items c =
    let old = c.args.ring.now.items in
    let ok = c.try_push_back.ensures.variant.1 c.requires in
    let pushed : c.try_push_back.new.self.items ≡ old ++ c.new.result ∷ [] = search (rules, ok) in
    let longer = ap length pushed ∙ length-append old (c.new.result ∷ []) in
    elim (slice_get_cases c.try_push_back.new.self.items c.len-place.result).1 [
      | inl within ↦ search (rules, within)
      | inr past ↦ absurd (omega (arith, c.len-place.ensures.len, longer, past.0))
    ]
