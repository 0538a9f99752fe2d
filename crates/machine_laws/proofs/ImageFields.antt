-- Readers and spellings that belong together: what is read has this spelling, and what is lawful is
-- read again from its spelling, whatever follows.
use Rattle.std.proofs.Common.{◌≡◌, ℕ, suc, ◌+◌, ◌<◌, Bool, true, false, cond, List, [], ◌∷◌, ◌++◌, get_or, take, drop, Result, Ok, Err, refl, sym, ap, subst, ◌∙◌, append_assoc, arith, inl, inr, ◌^◌}
use Rattle.std.proofs.lemmas.Bool.{cases_lt}
use Rattle.std.proofs.lemmas.List.{length-take, get_or-drop, get_or-take, get_or_past}
use Rattle.machine_meaning.specs.ImageReading.{Fault, Read, ◌>>=◌}

abbrev pub IsBytes : List ℕ → Type 0
IsBytes bytes = (i : ℕ) → get_or bytes i 0 < 2 ^ 8

pub IsBytes-drop : (n : ℕ) (bytes : List ℕ) → IsBytes bytes → IsBytes (drop n bytes)
IsBytes-drop n bytes h i = rw get_or-drop (h (n + i))

pub IsBytes-take : (n : ℕ) (bytes : List ℕ) → IsBytes bytes → IsBytes (take n bytes)
IsBytes-take n bytes h i =
    elim (cases_lt i n) [
      | inl lt ↦ rw (get_or-take n bytes i 0 lt) (h i)
      | inr le ↦ rw (get_or_past (take n bytes) i 0 (omega (arith, length-take n bytes))) (omega arith)
    ]

pub IsBytes-rest : (b : ℕ) (bytes : List ℕ) → IsBytes (b ∷ bytes) → IsBytes bytes
IsBytes-rest b bytes h i = h (suc i)

-- the value of a step that did not fail
pub bind_ok : {A B : Type 0} (r : Result A Fault) (f : A → Result B Fault) (y : B) → (r >>= f) ≡ Ok y → (x : A) × (r ≡ Ok x) × (f x ≡ Ok y)
bind_ok (Ok x) f y e = (x, refl, e)
bind_ok (Err d) f y e = absurd cc

-- a test that did not fail
pub guard_ok : {A : Type 0} (b : Bool) (d : Fault) (x y : A) → cond b (Err d) (Ok x) ≡ Ok y → (b ≡ false) × (x ≡ y)
guard_ok true d x y e = absurd cc
guard_ok false d x y e = (refl, cc)

abbrev done : {A : Type 0} → A → Result A Fault
done x = Ok x

pub ok_is : {A : Type 0} (x y : A) → done x ≡ done y → x ≡ y
ok_is x y e = cc

-- what a reader took from the front
pub record Takes (bytes text rest : List ℕ) : Type 0 where
  pub parts : bytes ≡ text ++ rest
  pub rest_fits : IsBytes rest

pub Takes-then : (a x b y c : List ℕ) → Takes a x b → Takes b y c → Takes a (x ++ y) c
Takes-then a x b y c p q = record { parts = p.parts ∙ ap (λ (t : List ℕ). x ++ t) q.parts ∙ sym (append_assoc x y c); rest_fits = q.rest_fits }

-- A reader, the spelling of what it reads, and which values are lawful.
pub record Reads {A : Type 0} (at : List ℕ → Read A) (spelled : A → List ℕ) (IsGood : A → Type 0) : Type 0 where
  pub takes : (bytes : List ℕ) (x : A × List ℕ) → IsBytes bytes → at bytes ≡ Ok x → Takes bytes (spelled x.0) x.1 × IsGood x.0
  pub again : (a : A) (rest : List ℕ) → IsGood a → at (spelled a ++ rest) ≡ Ok (a, rest)

-- the same with the spelling and the lawful values stated otherwise
pub said : {A : Type 0} (at : List ℕ → Read A) (s t : A → List ℕ) (P Q : A → Type 0) → Reads at s P → ((a : A) → s a ≡ t a) → ((a : A) → P a → Q a) → ((a : A) → Q a → P a) → Reads at t Q
said at s t P Q r same to from = record {
  takes = λ bytes x fits e. let p = r.takes bytes x fits e in (subst (λ (y : List ℕ). Takes bytes y x.1) (same x.0) p.0, to x.0 p.1);
  again = λ a rest q. ap (λ (y : List ℕ). at (y ++ rest)) (sym (same a)) ∙ r.again a rest (from a q);
}

-- the same if the spellings agree on lawful values
pub said_where : {A : Type 0} (at : List ℕ → Read A) (s t : A → List ℕ) (P Q : A → Type 0) → Reads at s P → ((a : A) → P a → s a ≡ t a) → ((a : A) → P a → Q a) → ((a : A) → Q a → P a) → Reads at t Q
said_where at s t P Q r same to from = record {
  takes = λ bytes x fits e. let p = r.takes bytes x fits e in (subst (λ (y : List ℕ). Takes bytes y x.1) (same x.0 p.1) p.0, to x.0 p.1);
  again = λ a rest q. ap (λ (y : List ℕ). at (y ++ rest)) (sym (same a (from a q))) ∙ r.again a rest (from a q);
}

-- a value whose fields are all read
pub made : {A : Type 0} (a : A) → Reads (λ bytes. Ok (a, bytes)) (λ _. []) (λ b. b ≡ a)
made a = record {
  takes = λ bytes x fits e. let i = ok_is (a, bytes) x e in subst (λ (y : _ × List ℕ). Takes bytes [] y.1 × (y.0 ≡ a)) i (record { parts = refl; rest_fits = fits }, refl);
  again = λ b rest good. ap (λ (y : _). Ok (y, rest)) (sym good);
}

-- A field of a value, and then the rest of it. If the field is known, G is what is lawful.
pub first : {A R : Type 0} (at : List ℕ → Read A) (k : A × List ℕ → Read R) (pick : R → A) (s : A → List ℕ) (t : R → List ℕ) (P : A → Type 0) (G : A → R → Type 0)
    → Reads at s P → ((a : A) → P a → Reads (λ bytes. k (a, bytes)) t (G a)) → ((a : A) (r : R) → P a → G a r → pick r ≡ a)
    → Reads (λ bytes. at bytes >>= k) (λ r. s (pick r) ++ t r) (λ r. P (pick r) × G (pick r) r)
first at k pick s t P G one two is = record {
  takes = λ bytes x fits e.
      let a = bind_ok (at bytes) k x e in
      let p = one.takes bytes a.0 fits a.1 in
      let q = (two a.0.0 p.1).takes a.0.1 x p.0.rest_fits a.2 in
      let i : pick x.0 ≡ a.0.0 = is a.0.0 x.0 p.1 q.1 in
      let both = Takes-then bytes (s a.0.0) a.0.1 (t x.0) x.1 p.0 q.0 in
      subst (λ (y : _). Takes bytes (s y ++ t x.0) x.1 × (P y × G y x.0)) (sym i) (both, (p.1, q.1));
  again = λ r rest good.
      ap (λ (y : List ℕ). at y >>= k) (append_assoc (s (pick r)) (t r) rest)
      ∙ ap (λ (y : Read _). y >>= k) (one.again (pick r) (t r ++ rest) good.0)
      ∙ (two (pick r) good.0).again r rest good.1;
}

-- the last field of a value
pub last : {A R : Type 0} (at : List ℕ → Read A) (make : A → R) (pick : R → A) (s : A → List ℕ) (P : A → Type 0)
    → Reads at s P → ((a : A) → pick (make a) ≡ a)
    → Reads (λ bytes. at bytes >>= λ x. Ok (make x.0, x.1)) (λ r. s (pick r)) (λ r. P (pick r) × (r ≡ make (pick r)))
last at make pick s P one is = record {
  takes = λ bytes x fits e.
      let a = bind_ok (at bytes) (λ y. Ok (make y.0, y.1)) x e in
      let p = one.takes bytes a.0 fits a.1 in
      let made : (make a.0.0, a.0.1) ≡ x = ok_is (make a.0.0, a.0.1) x a.2 in
      let good : P (pick (make a.0.0)) × (make a.0.0 ≡ make (pick (make a.0.0))) = (subst P (sym (is a.0.0)) p.1, ap make (sym (is a.0.0))) in
      let taken : Takes bytes (s (pick (make a.0.0))) a.0.1 = subst (λ (y : _). Takes bytes (s y) a.0.1) (sym (is a.0.0)) p.0 in
      subst (λ (y : _ × List ℕ). Takes bytes (s (pick y.0)) y.1 × (P (pick y.0) × (y.0 ≡ make (pick y.0)))) made (taken, good);
  again = λ r rest good.
      ap (λ (y : Read _). y >>= λ x. Ok (make x.0, x.1)) (one.again (pick r) rest good.0)
      ∙ ap (λ (y : _). Ok (y, rest)) (sym good.1);
}

pub assoc3 : (a b c : List ℕ) → a ++ (b ++ c) ≡ a ++ b ++ c
assoc3 a b c = sym (append_assoc a b c)

pub assoc4 : (a b c d : List ℕ) → a ++ (b ++ (c ++ d)) ≡ a ++ b ++ c ++ d
assoc4 a b c d = assoc3 a b (c ++ d) ∙ assoc3 (a ++ b) c d

pub assoc5 : (a b c d e : List ℕ) → a ++ (b ++ (c ++ (d ++ e))) ≡ a ++ b ++ c ++ d ++ e
assoc5 a b c d e = assoc4 a b c (d ++ e) ∙ assoc3 (a ++ b ++ c) d e
