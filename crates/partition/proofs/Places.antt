-- The item at a place of a list, and the list up to this place and from it on.
use Rattle.std.proofs.Common.{◌≡◌, ℕ, zero, suc, ◌+◌, ◌<◌, List, [], ◌∷◌, ◌++◌, length, take, drop, Some, None, inl, inr, refl, sym, ap, ◌∙◌, arith, append_assoc}
use Rattle.std.specs.Prelude.{slice_get}
use Rattle.std.proofs.lemmas.List.{take_more, map-append}
use Rattle.apex_types.specs.declared.event.EventKind.{EventKind}
use Rattle.apex_types.specs.declared.event.Event.{Event}
use Rattle.apex_types.specs.declared.identity.At.{At}
use Rattle.apex_types.specs.declared.log.EventLog.{Ghosts as Log}
use Rattle.apex_types.specs.Runners.{Action}
use Rattle.kernel_meaning.specs.Partition.{Member, line, told}
use Rattle.partition.specs.Members.{acts_all, acts_at}
use Rattle.std.proofs.lemmas.Option.{slice_get_cases}

-- each place before the end has something
pub some_read : {X : Type 0} (xs : List X) (i : ℕ) → None ≡ slice_get xs i → length xs < i + 1
some_read xs i e = elim (slice_get_cases xs i).1 [ inl w ↦ absurd (let clash : None ≡ Some w.0 = e ∙ w.2 in cc) | inr past ↦ omega (arith, past.0) ]

take_read : {X : Type 0} (xs : List X) (i : ℕ) (x : X) → Some x ≡ slice_get xs i → take (i + 1) xs ≡ take i xs ++ x ∷ []
take_read xs i x e = elim (slice_get_cases xs i).1 [
  | inl w ↦ (let same : w.0 ≡ x = (let both : Some w.0 ≡ Some x = sym w.2 ∙ sym e in cc) in take_more xs i w.0 w.1 ∙ ap (λ z. take i xs ++ z ∷ []) (w.3 ∙ same))
  | inr past ↦ absurd (let clash : Some x ≡ None = e ∙ past.1 in cc)
]

-- the events of one line more
told_read : (name : List ℕ) (at : At) (lines : List EventKind) (i : ℕ) (kind : EventKind) → Some kind ≡ slice_get lines i → told name at (take (i + 1) lines) ≡ told name at (take i lines) ++ line name at kind ∷ []
told_read name at lines i kind e = ap (told name at) (take_read lines i kind e) ∙ map-append (line name at) (take i lines) (kind ∷ [])

-- a log that holds the events of the lines before, and then that of one line more
pub told_more : {L : Type 0} (g : Log L) (old mid new : L) (name : List ℕ) (at : At) (lines : List EventKind) (i : ℕ) (kind : EventKind)
    → ((before after : List Event) → g.pieces (before ++ after) ≡ g.pieces before ++ g.pieces after) → Some kind ≡ slice_get lines i
    → g.held mid ≡ g.held old ++ g.pieces (told name at (take i lines)) → g.held new ≡ g.held mid ++ g.pieces (line name at kind ∷ [])
    → g.held new ≡ g.held old ++ g.pieces (told name at (take (i + 1) lines))
told_more g old mid new name at lines i kind more is before then =
    then
    ∙ ap (λ ps. ps ++ g.pieces (line name at kind ∷ [])) before
    ∙ append_assoc (g.held old) (g.pieces (told name at (take i lines))) (g.pieces (line name at kind ∷ []))
    ∙ ap (λ ps. g.held old ++ ps) (sym (more (told name at (take i lines)) (line name at kind ∷ [])) ∙ ap g.pieces (sym (told_read name at lines i kind is)))

-- the action at a place, then those after it
pub acted_next : {C : Type 0} (actions : List Action) (i : ℕ) (x : Member C) → acts_all (drop i actions) x ≡ acts_all (drop (i + 1) actions) (acts_at (slice_get actions i) x)
acted_next [] zero x = refl
acted_next [] (suc i) x =
    let e : suc (i + 1) ≡ suc i + 1 = omega arith in
    ap (λ n. acts_all (drop n []) x) e
acted_next (a ∷ actions) zero x = refl
acted_next (a ∷ actions) (suc i) x =
    let e : suc (i + 1) ≡ suc i + 1 = omega arith in
    acted_next actions i x ∙ ap (λ n. acts_all (drop n (a ∷ actions)) (acts_at (slice_get actions i) x)) e
