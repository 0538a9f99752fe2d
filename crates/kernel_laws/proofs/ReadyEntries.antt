-- The entries of a ready list when a process has left it, or has joined it.
use Rattle.kernel_laws.proofs.Prelude.{◌≡◌, inl, inr, ℕ, Bool, true, false, cond, nat_eq, List, ◌∷◌, refl, sym, subst, ◌∙◌, if◌then◌else◌, Entry, IsAmong, without, behind_equals}
use Rattle.std.proofs.Common.{not, nat_lt, []}
use Rattle.std.proofs.lemmas.Bool.{false≢true}
use Rattle.std.specs.Prelude.{◌⊎◌}

-- ---- a process has left

-- another process stays
pub stays : (p : ℕ) (e : Entry) (es : List Entry) → IsAmong e es → nat_eq p e.process.0 ≡ false → IsAmong e (without p es)
stays p e [] h other = h
stays p e (x ∷ xs) h other = by_test (nat_eq p x.process.0) refl h (λ later. stays p e xs later other)
  where
    by_test : (b : Bool) → nat_eq p x.process.0 ≡ b → (e ≡ x) ⊎ IsAmong e xs → (IsAmong e xs → IsAmong e (without p xs)) → IsAmong e (cond (not b) (x ∷ without p xs) (without p xs))
    by_test true q (inl same) rest = absurd (false≢true (sym other ∙ subst (λ (y : Entry). nat_eq p y.process.0 ≡ true) (sym same) q))
    by_test true q (inr later) rest = rest later
    by_test false q (inl same) rest = inl same
    by_test false q (inr later) rest = inr (rest later)

-- an entry that is left was there, and is of another process
pub left : (p : ℕ) (e : Entry) (es : List Entry) → IsAmong e (without p es) → IsAmong e es × (nat_eq p e.process.0 ≡ false)
left p e [] h = absurd h
left p e (x ∷ xs) h = by_test (nat_eq p x.process.0) refl h (λ later. left p e xs later)
  where
    by_test : (b : Bool) → nat_eq p x.process.0 ≡ b → IsAmong e (cond (not b) (x ∷ without p xs) (without p xs)) → (IsAmong e (without p xs) → IsAmong e xs × (nat_eq p e.process.0 ≡ false))
        → ((e ≡ x) ⊎ IsAmong e xs) × (nat_eq p e.process.0 ≡ false)
    by_test true q later rest = let g = rest later in (inr g.0, g.1)
    by_test false q (inl same) rest = (inl same, subst (λ (y : Entry). nat_eq p y.process.0 ≡ false) (sym same) q)
    by_test false q (inr later) rest = let g = rest later in (inr g.0, g.1)

-- ---- a process has joined

pub in_behind : (x e : Entry) (es : List Entry) → (e ≡ x) ⊎ IsAmong e es → IsAmong e (behind_equals x es)
in_behind x e [] h = h
in_behind x e (y ∷ ys) h = by_test (nat_lt y.priority.0 x.priority.0) h (λ k. in_behind x e ys k)
  where
    by_test : (b : Bool) → (e ≡ x) ⊎ ((e ≡ y) ⊎ IsAmong e ys) → ((e ≡ x) ⊎ IsAmong e ys → IsAmong e (behind_equals x ys)) → IsAmong e (if b then x ∷ y ∷ ys else y ∷ behind_equals x ys)
    by_test true k rest = k
    by_test false (inl same) rest = inr (rest (inl same))
    by_test false (inr (inl same)) rest = inl same
    by_test false (inr (inr later)) rest = inr (rest (inr later))

pub of_behind : (x e : Entry) (es : List Entry) → IsAmong e (behind_equals x es) → (e ≡ x) ⊎ IsAmong e es
of_behind x e [] h = h
of_behind x e (y ∷ ys) h = by_test (nat_lt y.priority.0 x.priority.0) h (λ k. of_behind x e ys k)
  where
    behind_one : (e ≡ x) ⊎ IsAmong e ys → (e ≡ x) ⊎ ((e ≡ y) ⊎ IsAmong e ys)
    behind_one (inl same) = inl same
    behind_one (inr later) = inr (inr later)

    by_test : (b : Bool) → IsAmong e (if b then x ∷ y ∷ ys else y ∷ behind_equals x ys) → (IsAmong e (behind_equals x ys) → (e ≡ x) ⊎ IsAmong e ys) → (e ≡ x) ⊎ ((e ≡ y) ⊎ IsAmong e ys)
    by_test true k rest = k
    by_test false (inl same) rest = inr (inl same)
    by_test false (inr later) rest = behind_one (rest later)
