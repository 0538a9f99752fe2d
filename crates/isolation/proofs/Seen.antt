-- Which lines of a trace belong to a partition: all that it writes, and none that another writes.
use Rattle.isolation.proofs.Prelude.{◌≡◌, ℕ, Bool, true, false, List, ◌∷◌, ◌++◌, cond, ◌∙◌, ◌&&◌, eq-eqb, Event, At, same, part}
use Rattle.std.proofs.Common.{[], refl, ap}
use Rattle.std.proofs.lemmas.List.Elements.{filter-append}
use Rattle.apex_types.specs.declared.event.EventKind.{EventKind}
use Rattle.kernel_meaning.specs.Partition.{line, told}
use Rattle.isolation.specs.Brought.{is_of}

pub same_itself : (name : List ℕ) → same name name ≡ true
same_itself [] = refl
same_itself (c ∷ cs) = ap (λ (b : Bool). b && same cs cs) (eq-eqb c c refl) ∙ same_itself cs

pub part-append : (name : List ℕ) (a b : List Event) → part name (a ++ b) ≡ part name a ++ part name b
part-append name a b = filter-append (is_of name) a b

-- lines that are all of the partition with a name
pub record AreOf (name : List ℕ) (lines : List Event) : Type 0 where
  pub seen : part name lines ≡ lines
  pub unseen : (other : List ℕ) → same other name ≡ false → part other lines ≡ []

told_seen : (name : List ℕ) (at : At) (kinds : List EventKind) → part name (told name at kinds) ≡ told name at kinds
told_seen name at [] = refl
told_seen name at (k ∷ ks) =
    ap (λ (b : Bool). cond b (line name at k ∷ part name (told name at ks)) (part name (told name at ks))) (same_itself name)
    ∙ ap (λ (es : List Event). line name at k ∷ es) (told_seen name at ks)

told_unseen : (name : List ℕ) (at : At) (kinds : List EventKind) (other : List ℕ) → same other name ≡ false → part other (told name at kinds) ≡ []
told_unseen name at [] other h = refl
told_unseen name at (k ∷ ks) other h =
    ap (λ (b : Bool). cond b (line name at k ∷ part other (told name at ks)) (part other (told name at ks))) h
    ∙ told_unseen name at ks other h

-- the lines that a partition writes are its own
pub told_own : (name : List ℕ) (at : At) (kinds : List EventKind) → AreOf name (told name at kinds)
told_own name at kinds = record { seen = told_seen name at kinds; unseen = told_unseen name at kinds }

pub nothing_own : (name : List ℕ) → AreOf name []
nothing_own name = record { seen = refl; unseen = λ other h. refl }

pub both_own : (name : List ℕ) (a b : List Event) → AreOf name a → AreOf name b → AreOf name (a ++ b)
both_own name a b h k = record {
  seen = part-append name a b ∙ ap (λ (es : List Event). es ++ part name b) h.seen ∙ ap (λ (es : List Event). a ++ es) k.seen;
  unseen = λ other n. part-append other a b ∙ ap (λ (es : List Event). es ++ part other b) (h.unseen other n) ∙ k.unseen other n;
}
