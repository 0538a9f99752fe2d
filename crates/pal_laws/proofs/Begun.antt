-- If the words of a thing are refused, those before that place begin a thing: some more words
-- complete it.
use Rattle.std.proofs.Common.{◌≡◌, ℕ, zero, suc, ◌<◌, Bool, true, false, cond, List, [], ◌∷◌, ◌++◌, length, Option, Some, None, Ok, Err, refl, sym, ap, ◌∙◌, arith, append_assoc}
use Rattle.std.proofs.lemmas.Bool.{lt-ltb}
use Rattle.pal_meaning.specs.Grammar.{Word, Name, Number, ServiceWord, Mark, Stray}
use Rattle.pal_meaning.specs.Grammar.{all_words, Each}
use Rattle.engine_meaning.specs.Digits.{same}
use Rattle.pal_laws.specs.GrammarReading.{Answer, Reading, Turn, ◌>>=◌, each, until, expect, name_at, number_at, turned, repeat_within, repeat}
use Rattle.pal_laws.proofs.Extended.{Extends}
use Rattle.pal_laws.proofs.Spelled.{TurnSpells}
use Rattle.pal_laws.proofs.Shaped.{TurnShapes}
use Rattle.pal_laws.proofs.Longer.{Longer}

-- these words, of which `left` are left, begin such a thing
pub record Begun {X : Type 0} (words : X → List Word → List Word) (P : X → Type 0) (ws : List Word) (left : ℕ) : Type 0 where
  pub front : List Word
  pub back : List Word
  pub parts : ws ≡ front ++ back
  pub count : length back ≡ left
  pub thing : X
  pub fits : P thing
  pub more : List Word
  pub spelled : (rest : List Word) → words thing rest ≡ front ++ (more ++ rest)

abbrev pub Begins : (X : Type 0) → (X → List Word → List Word) → (X → Type 0) → Reading X → Type 0
Begins X words P read = (ws : List Word) (n : ℕ) → read ws ≡ Err n → Begun words P ws n

abbrev pub TurnBegins : (X : Type 0) → (X → List Word → List Word) → (X → Type 0) → Turn X → Type 0
TurnBegins X words P turn = (ws : List Word) (n : ℕ) → turn ws ≡ Err n → Begun words P ws n

-- words in front of others
abbrev pub Front : (List Word → List Word) → Type 0
Front front = (rest more : List Word) → front (rest ++ more) ≡ front rest ++ more

pub fitting : {X : Type 0} (words : X → List Word → List Word) (P Q : X → Type 0) (ws : List Word) (n : ℕ) → ((x : X) → P x → Q x) → Begun words P ws n → Begun words Q ws n
fitting words P Q ws n h b = record { front = b.front; back = b.back; parts = b.parts; count = b.count; thing = b.thing; fits = h b.thing b.fits; more = b.more; spelled = b.spelled }

-- the words are refused after those in front, and the thing is complete with these
pub stopped : {X : Type 0} (words : X → List Word → List Word) (P : X → Type 0) (ws us : List Word) (n : ℕ) (front : List Word → List Word) (x : X) (end : List Word) →
    Front front → ws ≡ front us → length us ≡ n → P x → ((rest : List Word) → words x rest ≡ front (end ++ rest)) → Begun words P ws n
stopped words P ws us n front x end f e l p w =
    record { front = front []; back = us; parts = e ∙ f [] us; count = l; thing = x; fits = p; more = end; spelled = λ rest. w rest ∙ f [] (end ++ rest) }

-- they are refused in a part
pub inside : {X Y : Type 0} (words : X → List Word → List Word) (P : X → Type 0) (whole : Y → List Word → List Word) (Q : Y → Type 0) (ws vs : List Word) (n : ℕ) (front : List Word → List Word) (make : X → Y) (end : List Word) →
    Front front → ws ≡ front vs → ((x : X) → P x → Q (make x)) → ((x : X) (rest : List Word) → whole (make x) rest ≡ front (words x (end ++ rest))) → Begun words P vs n → Begun whole Q ws n
inside words P whole Q ws vs n front make end f e p w b = record {
  front = front b.front;
  back = b.back;
  parts = e ∙ ap front b.parts ∙ f b.front b.back;
  count = b.count;
  thing = make b.thing;
  fits = p b.thing b.fits;
  more = b.more ++ end;
  spelled = λ rest. w b.thing rest ∙ ap front (b.spelled (end ++ rest)) ∙ f b.front (b.more ++ (end ++ rest)) ∙ ap (λ (us : List Word). front b.front ++ us) (sym (append_assoc b.more end rest));
}

-- what is refused
pub something : {A P : Type 0} (n : ℕ) (a : A) → Ok a ≡ Err n → P
something n a h = absurd (let e : ⊥ = cc in e)

abbrev refusal : {A : Type 0} → ℕ → Answer A
refusal n = Err n

pub left_is : {A : Type 0} (m n : ℕ) → refusal {A = A} m ≡ refusal n → m ≡ n
left_is m n h = cc

pub refused : {A B P : Type 0} (o : Answer A) (f : A → Answer B) (n : ℕ) → (o >>= f) ≡ Err n → (o ≡ Err n → P) → ((a : A) → o ≡ Ok a → f a ≡ Err n → P) → P
refused (Ok a) f n h k l = l a refl h
refused (Err m) f n h k l = k (ap Err (left_is m n h))

pub each_refused : {A X P : Type 0} (o : Answer A) (read : A → Answer (X × List Word)) (n : ℕ) → each o read ≡ Err n → ((a : A) → o ≡ Ok a → read a ≡ Err n → P) → P
each_refused (Ok a) read n h k = refused (read a) (λ x. Ok (Some x)) n h (k a refl) (λ x e f. something n (Some x) f)
each_refused (Err m) read n h k = something n None h

pub until_refused : {A X : Type 0} (o : Answer A) (read : Answer (X × List Word)) (n : ℕ) → until o read ≡ Err n → read ≡ Err n
until_refused (Ok a) read n h = something n None h
until_refused (Err m) read n h = refused read (λ x. Ok (Some x)) n h (λ e. e) (λ x e f. something n (Some x) f)

marked : (t : Bool) (ws : List Word) (n : ℕ) → cond t (Ok ws) (Err (suc (length ws))) ≡ Err n → suc (length ws) ≡ n
marked true ws n h = something n ws h
marked false ws n h = cc

pub expect_left : (mark : List ℕ) (ws : List Word) (n : ℕ) → expect mark ws ≡ Err n → length ws ≡ n
unfolding expect
expect_left mark [] n h = cc
expect_left mark (Mark text ∷ ws) n h = marked (same text mark) ws n h
expect_left mark (Name text ∷ ws) n h = cc
expect_left mark (Number value ∷ ws) n h = cc
expect_left mark (ServiceWord service ∷ ws) n h = cc
expect_left mark (Stray ∷ ws) n h = cc

pub name_left : (ws : List Word) (n : ℕ) → name_at ws ≡ Err n → length ws ≡ n
unfolding name_at
name_left [] n h = cc
name_left (Name text ∷ ws) n h = something n (text, ws) h
name_left (Mark text ∷ ws) n h = cc
name_left (Number value ∷ ws) n h = cc
name_left (ServiceWord service ∷ ws) n h = cc
name_left (Stray ∷ ws) n h = cc

pub number_left : (ws : List Word) (n : ℕ) → number_at ws ≡ Err n → length ws ≡ n
unfolding number_at
number_left [] n h = cc
number_left (Number value ∷ ws) n h = something n (value, ws) h
number_left (Name text ∷ ws) n h = cc
number_left (Mark text ∷ ws) n h = cc
number_left (ServiceWord service ∷ ws) n h = cc
number_left (Stray ∷ ws) n h = cc

-- a repetition
module _ {X : Type 0} (words : X → List Word → List Word) (P : X → Type 0) (turn : Turn X) where
  abbrev Goes : ℕ → Type 0
  Goes m = (ws : List Word) (n : ℕ) → length ws < m → repeat_within m turn ws ≡ Err n → Begun (all_words words) (Each P) ws n

  abbrev behind_first : X → List X × List Word → Answer (List X × List Word)
  behind_first x ys = Ok (x ∷ ys.0, ys.1)

  below : (xs : Answer (List X × List Word)) (x : X) (n : ℕ) → (xs >>= behind_first x) ≡ Err n → xs ≡ Err n
  below xs x n h = refused xs (behind_first x) n h (λ e. e) (λ ys e f. something n (x ∷ ys.0, ys.1) f)

  turned_begins : (m : ℕ) → TurnSpells X words turn → TurnShapes X P turn → Longer words → Extends words → TurnBegins X words P turn → Goes m →
      (ws : List Word) (n : ℕ) (r : Answer (Option (X × List Word))) → length ws < suc m → turn ws ≡ r → turned (repeat_within m turn) ws r ≡ Err n → Begun (all_words words) (Each P) ws n
  turned_begins m spells shapes longer extends begins goes ws n (Err left) l e h =
      inside words P (all_words words) (Each P) ws ws n (λ vs. vs) (λ x. x ∷ []) [] (λ rest more. refl) refl (λ x p. (p, tt)) (λ x rest. refl) (begins ws n (e ∙ ap Err (left_is left n h)))
  turned_begins m spells shapes longer extends begins goes ws n (Ok None) l e h = something n ([], ws) h
  turned_begins m spells shapes longer extends begins goes ws n (Ok (Some x)) l e h =
      let is : ws ≡ words x.0 x.1 = spells ws x.1 x.0 e in
      let shorter : length x.1 < length ws = omega (arith, ap length is, longer x.0 x.1) in
      let go : (repeat_within m turn x.1 >>= behind_first x.0) ≡ Err n = sym (ap (λ b. cond b (repeat_within m turn x.1 >>= behind_first x.0) (Err (length ws))) (lt-ltb (length x.1) (length ws) shorter)) ∙ h in
      inside (all_words words) (Each P) (all_words words) (Each P) ws x.1 n (words x.0) (λ xs. x.0 ∷ xs) [] (extends x.0) is (λ xs p. (shapes ws x.1 x.0 e, p)) (λ xs rest. refl)
      (goes x.1 n (omega (arith, l, shorter)) (below (repeat_within m turn x.1) x.0 n go))

  within_begins : TurnSpells X words turn → TurnShapes X P turn → Longer words → Extends words → TurnBegins X words P turn → (m : ℕ) → Goes m
  unfolding repeat_within
  within_begins spells shapes longer extends begins zero ws n l h = absurd (omega (arith, l))
  within_begins spells shapes longer extends begins (suc m) ws n l h =
      turned_begins m spells shapes longer extends begins (within_begins spells shapes longer extends begins m) ws n (turn ws) l refl h

  pub repeat_begins : TurnSpells X words turn → TurnShapes X P turn → Longer words → Extends words → TurnBegins X words P turn → Begins (List X) (all_words words) (Each P) (repeat turn)
  unfolding repeat
  repeat_begins spells shapes longer extends begins ws n h = within_begins spells shapes longer extends begins (suc (length ws)) ws n (omega arith) h
