-- A reading looks at no word after the one where it stops: what it returns there does not change with the words that
-- follow.
use Rattle.std.proofs.Common.{◌≡◌, ℕ, zero, suc, ◌+◌, ◌<◌, ◌≤◌, Bool, true, false, cond, inl, inr, List, [], ◌∷◌, ◌++◌, length, length-append, Option, Some, None, Ok, Err, refl, sym, ap, ◌∙◌, subst, arith}
use Rattle.std.specs.Prelude.{nat_lt, ◌⊎◌}
use Rattle.std.proofs.lemmas.Bool.{lt-ltb, ltb-true}
use Rattle.apex_types.specs.declared.instruction.BinaryOperator.{BinaryOperator}
use Rattle.pal_meaning.specs.Grammar.{Word, Name, Number, ServiceWord, Mark, Stray, Rank, operator_mark}
use Rattle.engine_meaning.specs.Digits.{same}
use Rattle.pal_laws.specs.GrammarReading.{Answer, Reading, Turn, ◌>>=◌, either, each, until, expect, name_at, number_at, service_at, one_of, operators_of, operator_at, turned, repeat_within, repeat}
use Rattle.pal_laws.proofs.Begun.{left_is}

-- at most `n` words are left
abbrev pub Within : {X : Type 0} → Answer (X × List Word) → ℕ → Type 0
Within (Ok x) n = length x.1 ≤ n
Within (Err left) n = left ≤ n

-- The result where more words follow: the same if a word was left; nothing that stops before them
-- if none was.
abbrev pub StaysFound : {X : Type 0} → List Word → X → List Word → Answer (X × List Word) → Type 0
StaysFound more x [] b = Within b (length more)
StaysFound more x (u ∷ us) b = b ≡ Ok (x, u ∷ us ++ more)

abbrev pub StaysRefused : {X : Type 0} → List Word → ℕ → Answer (X × List Word) → Type 0
StaysRefused more zero b = Within b (length more)
StaysRefused more (suc n) b = b ≡ Err (suc (n + length more))

abbrev pub Stays : {X : Type 0} → List Word → Answer (X × List Word) → Answer (X × List Word) → Type 0
Stays more (Ok x) b = StaysFound more x.0 x.1 b
Stays more (Err n) b = StaysRefused more n b

-- A reading that looks at no word after the place where it stops. It leaves at most `d` of the
-- number of words that it was given; after a word that opens a level it may refuse that word, too.
abbrev pub SteadyBy : {X : Type 0} → (ℕ → ℕ) → Reading X → Type 0
SteadyBy d read = (ws more : List Word) → Within (read ws) (d (length ws)) × Stays more (read ws) (read (ws ++ more))

abbrev pub Steady : {X : Type 0} → Reading X → Type 0
Steady read = SteadyBy (λ n. n) read

abbrev pub SteadyBehind : {X : Type 0} → Reading X → Type 0
SteadyBehind read = SteadyBy suc read

-- where no word is left
end_found : {X : Type 0} (more us : List Word) (x : X) (c : Answer (X × List Word)) → length us ≤ 0 → Within c (length more) → StaysFound more x us c
end_found more [] x c l w = w
end_found more (u ∷ us) x c l w = absurd (omega (arith, l))

end_refused : {X : Type 0} (more : List Word) (n : ℕ) (c : Answer (X × List Word)) → n ≤ 0 → Within c (length more) → StaysRefused more n c
end_refused more zero c l w = w
end_refused more (suc n) c l w = absurd (omega (arith, l))

at_end : {X : Type 0} (more : List Word) (r c : Answer (X × List Word)) → Within r 0 → Within c (length more) → Stays more r c
at_end more (Ok x) c l w = end_found more x.1 x.0 c l w
at_end more (Err n) c l w = end_refused more n c l w

up_to : {X : Type 0} (r : Answer (X × List Word)) (n m : ℕ) → Within r n → n ≤ m → Within r m
up_to (Ok x) n m w l = omega (arith, w, l)
up_to (Err k) n m w l = omega (arith, w, l)

pub steady_more : {X : Type 0} (read : Reading X) → Steady read → SteadyBehind read
steady_more read s ws more = let r = s ws more in (up_to (read ws) (length ws) (suc (length ws)) r.0 (omega arith), r.1)

-- one thing after another
module _ {A B : Type 0} (F : A × List Word → Answer (B × List Word)) (next : (x : A) → Steady (λ us. F (x, us))) where
  pub within_then : (b : Answer (A × List Word)) (n : ℕ) → Within b n → Within (b >>= F) n
  within_then (Ok x) n w = up_to (F x) (length x.1) n (next x.0 x.1 []).0 w
  within_then (Err k) n w = w

  found_then : (more us : List Word) (x : A) (b : Answer (A × List Word)) → StaysFound more x us b → Stays more (F (x, us)) (b >>= F)
  found_then more [] x b s = at_end more (F (x, [])) (b >>= F) (next x [] []).0 (within_then b (length more) s)
  found_then more (u ∷ us) x b s = subst (λ o. Stays more (F (x, u ∷ us)) (o >>= F)) (sym s) (next x (u ∷ us) more).1

  refused_then : (more : List Word) (n : ℕ) (b : Answer (A × List Word)) → StaysRefused more n b → StaysRefused more n (b >>= F)
  refused_then more zero b s = within_then b (length more) s
  refused_then more (suc n) b s = ap (λ o. o >>= F) s

  pub stays_then : (more : List Word) (a b : Answer (A × List Word)) → Stays more a b → Stays more (a >>= F) (b >>= F)
  stays_then more (Ok x) b s = found_then more x.1 x.0 b s
  stays_then more (Err n) b s = refused_then more n b s

pub then_steady : {A B : Type 0} (d : ℕ → ℕ) (read : Reading A) (F : A × List Word → Answer (B × List Word)) → SteadyBy d read → ((x : A) → Steady (λ us. F (x, us))) → SteadyBy d (λ ws. read ws >>= F)
then_steady d read F s next ws more = let r = s ws more in (within_then F next (read ws) (d (length ws)) r.0, stays_then F next more (read ws) (read (ws ++ more)) r.1)

-- a result found without reading on
found_so : {X : Type 0} (x : X) (ws more : List Word) → StaysFound more x ws (Ok (x, ws ++ more))
found_so x [] more = omega arith
found_so x (w ∷ ws) more = refl

pub ok_steady : {X : Type 0} (x : X) → Steady (λ ws. Ok (x, ws))
ok_steady x ws more = (omega arith, found_so x ws more)

refused_more : {X : Type 0} (ws more : List Word) → StaysRefused {X = X} more (suc (length ws)) (Err (suc (length (ws ++ more))))
refused_more ws more = ap (λ n. Err (suc n)) (length-append ws more)

-- a mark
module _ (mark : List ℕ) (w : Word) (ws more : List Word) (P : Answer (List Word) → Answer (List Word) → Type 0) (found : P (Ok ws) (Ok (ws ++ more))) (none : P (Err (suc (length ws))) (Err (suc (length (ws ++ more))))) where
  marked : (t : Bool) → P (cond t (Ok ws) (Err (suc (length ws)))) (cond t (Ok (ws ++ more)) (Err (suc (length (ws ++ more)))))
  marked true = found
  marked false = none

  expect_cases : (v : Word) → P (expect mark (v ∷ ws)) (expect mark (v ∷ ws ++ more))
  unfolding expect
  expect_cases (Mark text) = marked (same text mark)
  expect_cases (Name text) = none
  expect_cases (Number value) = none
  expect_cases (ServiceWord service) = none
  expect_cases Stray = none

expect_one : (mark : List ℕ) (P : Answer (List Word) → Type 0) (w : Word) (ws : List Word) → P (Ok ws) → P (Err (suc (length ws))) → P (expect mark (w ∷ ws))
expect_one mark P w ws found none = subst P (ap (λ (vs : List Word). expect mark (w ∷ vs)) refl) (expect_cases mark w ws [] (λ a b. P a) found none w)

module _ {X : Type 0} (mark : List ℕ) (F G : Reading X) (f : SteadyBehind F) (g : Steady G) where
  either_within : (ws : List Word) → Within (either (expect mark ws) F (G ws)) (length ws)
  unfolding expect
  either_within [] = (g [] []).0
  either_within (w ∷ ws) = expect_one mark (λ o. Within (either o F (G (w ∷ ws))) (suc (length ws))) w ws (f ws []).0 (g (w ∷ ws) []).0

  either_stays : (ws more : List Word) → Stays more (either (expect mark ws) F (G ws)) (either (expect mark (ws ++ more)) F (G (ws ++ more)))
  unfolding expect
  either_stays [] more = at_end more (G []) (either (expect mark more) F (G more)) (g [] []).0 (either_within more)
  either_stays (w ∷ ws) more = expect_cases mark w ws more (λ a b. Stays more (either a F (G (w ∷ ws))) (either b F (G (w ∷ ws ++ more)))) (f ws more).1 (g (w ∷ ws) more).1 w

  pub mark_or : Steady (λ ws. either (expect mark ws) F (G ws))
  mark_or ws more = (either_within ws, either_stays ws more)

module _ {X : Type 0} (mark : List ℕ) (F : Reading X) (f : SteadyBehind F) where
  mark_within : (ws : List Word) → Within (expect mark ws >>= F) (length ws)
  unfolding expect
  mark_within [] = omega arith
  mark_within (w ∷ ws) = expect_one mark (λ o. Within (o >>= F) (suc (length ws))) w ws (f ws []).0 (omega arith)

  mark_stays : (ws more : List Word) → Stays more (expect mark ws >>= F) (expect mark (ws ++ more) >>= F)
  unfolding expect
  mark_stays [] more = mark_within more
  mark_stays (w ∷ ws) more = expect_cases mark w ws more (λ a b. Stays more (a >>= F) (b >>= F)) (f ws more).1 (refused_more ws more) w

  pub mark_then : Steady (λ ws. expect mark ws >>= F)
  mark_then ws more = (mark_within ws, mark_stays ws more)

-- a reading of one word
abbrev Alike : {A : Type 0} → (a b : Answer (A × List Word)) → List Word → List Word → Type 0
Alike {A} a b us vs = ((x : A) × (a ≡ Ok (x, us)) × (b ≡ Ok (x, vs))) ⊎ ((a ≡ Err (suc (length us))) × (b ≡ Err (suc (length vs))))

pub record Peeks {A : Type 0} (one : Reading A) : Type 0 where
  pub none : one [] ≡ Err 0
  pub alike : (w : Word) (ws more : List Word) → Alike (one (w ∷ ws)) (one (w ∷ ws ++ more)) ws (ws ++ more)

module _ {A X : Type 0} (one : Reading A) (peeks : Peeks one) (F : A × List Word → Answer (X × List Word)) (G : Reading X) (f : (x : A) → SteadyBehind (λ us. F (x, us))) (g : Steady G) where
  alike_within : (w : Word) (ws : List Word) (a b : Answer (A × List Word)) → Alike a b ws (ws ++ []) → Within (either a F (G (w ∷ ws))) (suc (length ws))
  alike_within w ws a b (inl h) = subst (λ o. Within (either o F (G (w ∷ ws))) (suc (length ws))) (sym h.1) (f h.0 ws []).0
  alike_within w ws a b (inr h) = subst (λ o. Within (either o F (G (w ∷ ws))) (suc (length ws))) (sym h.0) (g (w ∷ ws) []).0

  one_within : (ws : List Word) → Within (either (one ws) F (G ws)) (length ws)
  one_within [] = subst (λ o. Within (either o F (G [])) 0) (sym peeks.none) (g [] []).0
  one_within (w ∷ ws) = alike_within w ws (one (w ∷ ws)) (one (w ∷ ws ++ [])) (peeks.alike w ws [])

  alike_stays : (w : Word) (ws more : List Word) (a b : Answer (A × List Word)) → Alike a b ws (ws ++ more) → Stays more (either a F (G (w ∷ ws))) (either b F (G (w ∷ ws ++ more)))
  alike_stays w ws more a b (inl h) =
      subst (λ o. Stays more (either o F (G (w ∷ ws))) (either b F (G (w ∷ ws ++ more)))) (sym h.1) (subst (λ o. Stays more (F (h.0, ws)) (either o F (G (w ∷ ws ++ more)))) (sym h.2) (f h.0 ws more).1)
  alike_stays w ws more a b (inr h) =
      subst (λ o. Stays more (either o F (G (w ∷ ws))) (either b F (G (w ∷ ws ++ more)))) (sym h.0) (subst (λ o. Stays more (G (w ∷ ws)) (either o F (G (w ∷ ws ++ more)))) (sym h.1) (g (w ∷ ws) more).1)

  one_stays : (ws more : List Word) → Stays more (either (one ws) F (G ws)) (either (one (ws ++ more)) F (G (ws ++ more)))
  one_stays [] more = subst (λ o. Stays more (either o F (G [])) (either (one more) F (G more))) (sym peeks.none) (at_end more (G []) (either (one more) F (G more)) (g [] []).0 (one_within more))
  one_stays (w ∷ ws) more = alike_stays w ws more (one (w ∷ ws)) (one (w ∷ ws ++ more)) (peeks.alike w ws more)

  pub one_or : Steady (λ ws. either (one ws) F (G ws))
  one_or ws more = (one_within ws, one_stays ws more)

pub left_steady : (X : Type 0) → Steady {X = X} (λ ws. Err (length ws))
left_steady X [] more = (omega arith, omega arith)
left_steady X (w ∷ ws) more = (omega arith, refused_more ws more)

-- the same where nothing else may be there
itself : {A : Type 0} (o : Answer (A × List Word)) (left : ℕ) → (o ≡ Err left) ⊎ ((x : A × List Word) × (o ≡ Ok x)) → either o (λ x. Ok x) (Err left) ≡ o
itself o left (inl h) = ap (λ r. either r (λ x. Ok x) (Err left)) h ∙ sym h
itself o left (inr h) = ap (λ r. either r (λ x. Ok x) (Err left)) h.1 ∙ sym h.1

alike_or : {A : Type 0} (a b : Answer (A × List Word)) (us vs : List Word) → Alike a b us vs → (a ≡ Err (suc (length us))) ⊎ ((x : A × List Word) × (a ≡ Ok x))
alike_or a b us vs (inl h) = inr ((h.0, us), h.1)
alike_or a b us vs (inr h) = inl h.0

alone : {A : Type 0} (one : Reading A) → Peeks one → (ws : List Word) → either (one ws) (λ x. Ok x) (Err (length ws)) ≡ one ws
alone one peeks [] = itself (one []) 0 (inl peeks.none)
alone one peeks (w ∷ ws) = itself (one (w ∷ ws)) (suc (length ws)) (alike_or (one (w ∷ ws)) (one (w ∷ ws ++ [])) ws (ws ++ []) (peeks.alike w ws []))

pub steady_same : {X : Type 0} (d : ℕ → ℕ) (read other : Reading X) → ((ws : List Word) → read ws ≡ other ws) → SteadyBy d read → SteadyBy d other
steady_same d read other same s ws more =
    let r = s ws more in
    (subst (λ o. Within o (d (length ws))) (same ws) r.0, subst (λ o. Stays more o (other (ws ++ more))) (same ws) (subst (λ o. Stays more (read ws) o) (same (ws ++ more)) r.1))

pub one_steady : {A : Type 0} (one : Reading A) → Peeks one → Steady one
one_steady {A} one peeks = steady_same (λ n. n) (λ ws. either (one ws) (λ x. Ok x) (Err (length ws))) one (alone one peeks)
    (one_or one peeks (λ x. Ok x) (λ ws. Err (length ws)) (λ x. steady_more (λ us. Ok (x, us)) (ok_steady x)) (left_steady A))

name_alike : (w : Word) (ws more : List Word) → Alike (name_at (w ∷ ws)) (name_at (w ∷ ws ++ more)) ws (ws ++ more)
unfolding name_at
name_alike (Name text) ws more = inl (text, refl, refl)
name_alike (Mark text) ws more = inr (refl, refl)
name_alike (Number value) ws more = inr (refl, refl)
name_alike (ServiceWord service) ws more = inr (refl, refl)
name_alike Stray ws more = inr (refl, refl)

pub name_peeks : Peeks name_at
unfolding name_at
name_peeks = record { none = refl; alike = name_alike }

number_alike : (w : Word) (ws more : List Word) → Alike (number_at (w ∷ ws)) (number_at (w ∷ ws ++ more)) ws (ws ++ more)
unfolding number_at
number_alike (Number value) ws more = inl (value, refl, refl)
number_alike (Name text) ws more = inr (refl, refl)
number_alike (Mark text) ws more = inr (refl, refl)
number_alike (ServiceWord service) ws more = inr (refl, refl)
number_alike Stray ws more = inr (refl, refl)

pub number_peeks : Peeks number_at
unfolding number_at
number_peeks = record { none = refl; alike = number_alike }

service_alike : (w : Word) (ws more : List Word) → Alike (service_at (w ∷ ws)) (service_at (w ∷ ws ++ more)) ws (ws ++ more)
unfolding service_at
service_alike (ServiceWord service) ws more = inl (service, refl, refl)
service_alike (Name text) ws more = inr (refl, refl)
service_alike (Mark text) ws more = inr (refl, refl)
service_alike (Number value) ws more = inr (refl, refl)
service_alike Stray ws more = inr (refl, refl)

pub service_peeks : Peeks service_at
unfolding service_at
service_peeks = record { none = refl; alike = service_alike }

operator_alike : (ops : List BinaryOperator) (w : Word) (ws more : List Word) → Alike (one_of ops (w ∷ ws)) (one_of ops (w ∷ ws ++ more)) ws (ws ++ more)
unfolding one_of
operator_alike [] w ws more = inr (refl, refl)
operator_alike (op ∷ ops) w ws more =
    expect_cases (operator_mark op) w ws more (λ a b. Alike (either a (λ rest. Ok (op, rest)) (one_of ops (w ∷ ws))) (either b (λ rest. Ok (op, rest)) (one_of ops (w ∷ ws ++ more))) ws (ws ++ more)) (inl (op, refl, refl)) (operator_alike ops w ws more) w

no_operator : (ops : List BinaryOperator) → one_of ops [] ≡ Err 0
unfolding one_of expect
no_operator [] = refl
no_operator (op ∷ ops) = no_operator ops

pub operator_peeks : (rank : Rank) → Peeks (operator_at rank)
operator_peeks rank = record { none = no_operator (operators_of rank); alike = operator_alike (operators_of rank) }

-- where a level may be opened or not
pub level_steady : {X : Type 0} (t : Bool) (read : Reading X) → SteadyBehind read → SteadyBehind (λ ws. cond t (Err (suc (length ws))) (read ws))
level_steady true read s ws more = (omega arith, refused_more ws more)
level_steady false read s ws more = s ws more

pub blocked_steady : (X : Type 0) → SteadyBehind {X = X} (λ ws. Err (suc (length ws)))
blocked_steady X ws more = (omega arith, refused_more ws more)

pub statement_steady : {X : Type 0} (t : Bool) (read : Reading X) → Steady read → Steady (λ ws. cond t (Err (length ws)) (read ws))
statement_steady {X} true read s ws more = left_steady X ws more
statement_steady {X} false read s ws more = s ws more

-- the turns of a repetition
abbrev pub viewed : {X : Type 0} → List Word → Answer (Option (X × List Word)) → Answer (Option X × List Word)
viewed ws (Ok None) = Ok (None, ws)
viewed ws (Ok (Some x)) = Ok (Some x.0, x.1)
viewed ws (Err n) = Err n

abbrev pub TurnSteady : {X : Type 0} → Turn X → Type 0
TurnSteady turn = Steady (λ ws. viewed ws (turn ws))

abbrev pub one_more : {X : Type 0} → X × List Word → Answer (Option X × List Word)
one_more x = Ok (Some x.0, x.1)

more_viewed : {X : Type 0} (ws : List Word) (r : Answer (X × List Word)) → (r >>= one_more) ≡ viewed ws (r >>= λ x. Ok (Some x))
more_viewed ws (Ok x) = refl
more_viewed ws (Err n) = refl

each_viewed : {A X : Type 0} (ws : List Word) (o : Answer A) (F : A → Answer (X × List Word)) → either o (λ a. F a >>= one_more) (Ok (None, ws)) ≡ viewed ws (each o F)
each_viewed ws (Ok a) F = more_viewed ws (F a)
each_viewed ws (Err n) F = refl

until_viewed : {A X : Type 0} (ws : List Word) (o : Answer A) (r : Answer (X × List Word)) → either o (λ a. Ok (None, ws)) (r >>= one_more) ≡ viewed ws (until o r)
until_viewed ws (Ok a) r = refl
until_viewed ws (Err n) r = more_viewed ws r

more_steady : {X : Type 0} (d : ℕ → ℕ) (read : Reading X) → SteadyBy d read → SteadyBy d (λ ws. read ws >>= one_more)
more_steady d read s = then_steady d read one_more s (λ x. ok_steady (Some x))

pub each_steady : {X : Type 0} (mark : List ℕ) (F : Reading X) → SteadyBehind F → TurnSteady (λ ws. each (expect mark ws) F)
each_steady mark F f = steady_same (λ n. n) (λ ws. either (expect mark ws) (λ vs. F vs >>= one_more) (Ok (None, ws))) (λ ws. viewed ws (each (expect mark ws) F)) (λ ws. each_viewed ws (expect mark ws) F)
    (mark_or mark (λ vs. F vs >>= one_more) (λ ws. Ok (None, ws)) (more_steady suc F f) (ok_steady None))

pub one_each_steady : {A X : Type 0} (one : Reading A) → Peeks one → (F : A × List Word → Answer (X × List Word)) → ((a : A) → SteadyBehind (λ us. F (a, us))) → TurnSteady (λ ws. each (one ws) F)
one_each_steady one peeks F f = steady_same (λ n. n) (λ ws. either (one ws) (λ a. F a >>= one_more) (Ok (None, ws))) (λ ws. viewed ws (each (one ws) F)) (λ ws. each_viewed ws (one ws) F)
    (one_or one peeks (λ a. F a >>= one_more) (λ ws. Ok (None, ws)) (λ a. more_steady suc (λ us. F (a, us)) (f a)) (ok_steady None))

module _ {X : Type 0} (mark : List ℕ) (S : Reading (Option X)) (s : Steady S) where
  stop_within : (ws : List Word) → Within (either (expect mark ws) (λ a. Ok (None, ws)) (S ws)) (length ws)
  unfolding expect
  stop_within [] = (s [] []).0
  stop_within (w ∷ ws) = expect_one mark (λ o. Within (either o (λ a. Ok (None, w ∷ ws)) (S (w ∷ ws))) (suc (length ws))) w ws (omega arith) (s (w ∷ ws) []).0

  stop_stays : (ws more : List Word) → Stays more (either (expect mark ws) (λ a. Ok (None, ws)) (S ws)) (either (expect mark (ws ++ more)) (λ a. Ok (None, ws ++ more)) (S (ws ++ more)))
  unfolding expect
  stop_stays [] more = at_end more (S []) (either (expect mark more) (λ a. Ok (None, more)) (S more)) (s [] []).0 (stop_within more)
  stop_stays (w ∷ ws) more =
      expect_cases mark w ws more (λ a b. Stays more (either a (λ c. Ok (None, w ∷ ws)) (S (w ∷ ws))) (either b (λ c. Ok (None, w ∷ ws ++ more)) (S (w ∷ ws ++ more)))) refl (s (w ∷ ws) more).1 w

  stop_steady : Steady (λ ws. either (expect mark ws) (λ a. Ok (None, ws)) (S ws))
  stop_steady ws more = (stop_within ws, stop_stays ws more)

pub until_steady : {X : Type 0} (mark : List ℕ) (read : Reading X) → Steady read → TurnSteady (λ ws. until (expect mark ws) (read ws))
until_steady mark read s = steady_same (λ n. n) (λ ws. either (expect mark ws) (λ a. Ok (None, ws)) (read ws >>= one_more)) (λ ws. viewed ws (until (expect mark ws) (read ws))) (λ ws. until_viewed ws (expect mark ws) (read ws))
    (stop_steady mark (λ ws. read ws >>= one_more) (more_steady (λ n. n) read s))

-- a repetition
not_true : (t : Bool) → (t ≡ true → ⊥) → t ≡ false
not_true true h = absurd (h refl)
not_true false h = refl

abbrev a_turn : {X : Type 0} → X → List Word → Answer (Option X × List Word)
a_turn x us = Ok (Some x, us)

abbrev an_end : {X : Type 0} → List Word → Answer (Option X × List Word)
an_end us = Ok (None, us)

abbrev found_again : {X : Type 0} → X × List Word → Answer (Option (X × List Word))
found_again y = Ok (Some y)

turn_of : {X : Type 0} → Option X → List Word → Answer (Option (X × List Word))
turn_of None us = Ok None
turn_of (Some x) us = Ok (Some (x, us))

unviewed : {X : Type 0} → Answer (Option X × List Word) → Answer (Option (X × List Word))
unviewed (Ok x) = turn_of x.0 x.1
unviewed (Err n) = Err n

same_turn : {X : Type 0} (y : X × List Word) (x : X) (us : List Word) → a_turn y.0 y.1 ≡ a_turn x us → found_again y ≡ found_again (x, us)
unfolding unviewed turn_of
same_turn y x us h = ap unviewed h

found_no_end : {X P : Type 0} (y : X × List Word) (us : List Word) → Ok (Some y.0, y.1) ≡ an_end us → P
unfolding unviewed turn_of
found_no_end y us h = let e : found_again y ≡ Ok None = ap unviewed h in absurd (let f : ⊥ = cc in f)

lt_false : (a b : ℕ) → a < b → nat_lt a b ≡ false → ⊥
lt_false a b l h = let e : nat_lt a b ≡ true = lt-ltb a b l in cc

not_less : (a b : ℕ) → (a < b → ⊥) → nat_lt a b ≡ false
not_less a b h = not_true (nat_lt a b) (λ e. h (ltb-true a b e))

end_no_turn : {X P : Type 0} (ws us : List Word) (x : X) → an_end ws ≡ a_turn x us → P
unfolding unviewed turn_of
end_no_turn ws us x h = let e : Ok None ≡ found_again (x, us) = ap unviewed h in absurd (let f : ⊥ = cc in f)

abbrev behind_first : {X : Type 0} → X → List X × List Word → Answer (List X × List Word)
behind_first x xs = Ok (x ∷ xs.0, xs.1)

behind_steady : {X : Type 0} (x : X) (xs : List X) → Steady (λ us. behind_first x (xs, us))
behind_steady x xs = ok_steady (x ∷ xs)

cond_within : {X : Type 0} (t : Bool) (a b : Answer (X × List Word)) (n : ℕ) → Within a n → Within b n → Within (cond t a b) n
cond_within true a b n h k = h
cond_within false a b n h k = k

abbrev Shrinks : {X : Type 0} → Reading X → Type 0
Shrinks go = (us : List Word) → Within (go us) (length us)

turned_within : {X : Type 0} (go : Reading (List X)) → Shrinks go → (ws : List Word) (r : Answer (Option (X × List Word))) → Within (viewed ws r) (length ws) → Within (turned go ws r) (length ws)
turned_within go s ws (Err n) w = w
turned_within go s ws (Ok None) w = w
turned_within go s ws (Ok (Some x)) w =
    cond_within (nat_lt (length x.1) (length ws)) (go x.1 >>= behind_first x.0) (Err (length ws)) (length ws)
    (within_then (behind_first x.0) (behind_steady x.0) (go x.1) (length ws) (up_to (go x.1) (length x.1) (length ws) (s x.1) w)) (omega arith)

-- a first turn that leaves no more than this leaves no more for the others
first_within : {X : Type 0} (go : Reading (List X)) → Shrinks go → (ws : List Word) (k : ℕ) (r : Answer (Option (X × List Word))) → k < length ws → Within (viewed ws r) k → Within (turned go ws r) k
first_within go s ws k (Err n) l w = w
first_within go s ws k (Ok None) l w = w
first_within go s ws k (Ok (Some x)) l w =
    subst (λ t. Within (cond t (go x.1 >>= behind_first x.0) (Err (length ws))) k) (sym (lt-ltb (length x.1) (length ws) (omega (arith, w, l))))
    (within_then (behind_first x.0) (behind_steady x.0) (go x.1) k (up_to (go x.1) (length x.1) k (s x.1) w))

refused_turn : {X : Type 0} (go : Reading (List X)) (ws : List Word) (n : ℕ) (r : Answer (Option (X × List Word))) → viewed ws r ≡ Err n → turned go ws r ≡ Err n
refused_turn go ws n (Err m) h = ap Err (left_is m n h)
refused_turn go ws n (Ok None) h = absurd (let e : ⊥ = cc in e)
refused_turn go ws n (Ok (Some x)) h = absurd (let e : ⊥ = cc in e)

last_turn : {X : Type 0} (go : Reading (List X)) (ws us : List Word) (r : Answer (Option (X × List Word))) → viewed ws r ≡ Ok (None, us) → turned go ws r ≡ Ok ([], ws)
last_turn go ws us (Err m) h = absurd (let e : ⊥ = cc in e)
last_turn go ws us (Ok None) h = refl
last_turn go ws us (Ok (Some x)) h = found_no_end x us h

found_turn : {X : Type 0} (go : Reading (List X)) (ws us : List Word) (x : X) (r : Answer (Option (X × List Word))) → viewed ws r ≡ Ok (Some x, us) →
    turned go ws r ≡ cond (nat_lt (length us) (length ws)) (go us >>= behind_first x) (Err (length ws))
found_turn go ws us x (Err m) h = absurd (let e : ⊥ = cc in e)
found_turn go ws us x (Ok None) h = end_no_turn ws us x h
found_turn go ws us x (Ok (Some y)) h = ap (turned go ws) (same_turn y x us h)

module _ {X : Type 0} (go on : Reading (List X)) (g : Shrinks go) (o : Shrinks on) (w : Word) (ws more : List Word) (stays : (us : List Word) → length us < length (w ∷ ws) → Stays more (go us) (on (us ++ more))) where
  -- all words were read, before those that follow
  emptied : (r : Answer (Option (X × List Word))) → Within (viewed (w ∷ ws ++ more) r) (length more) → Within (turned on (w ∷ ws ++ more) r) (length more)
  emptied r h = first_within on o (w ∷ ws ++ more) (length more) r (omega (arith, length-append ws more)) h

  goes_on : (x : X) (u : Word) (us : List Word) (t : Bool) → nat_lt (length (u ∷ us)) (length (w ∷ ws)) ≡ t →
      Stays more (cond t (go (u ∷ us) >>= behind_first x) (Err (length (w ∷ ws)))) (cond (nat_lt (length (u ∷ us ++ more)) (length (w ∷ ws ++ more))) (on (u ∷ us ++ more) >>= behind_first x) (Err (length (w ∷ ws ++ more))))
  goes_on x u us true h =
      let less : length (u ∷ us) < length (w ∷ ws) = ltb-true (length (u ∷ us)) (length (w ∷ ws)) h in
      subst (λ t. Stays more (go (u ∷ us) >>= behind_first x) (cond t (on (u ∷ us ++ more) >>= behind_first x) (Err (length (w ∷ ws ++ more)))))
      (sym (lt-ltb (length (u ∷ us ++ more)) (length (w ∷ ws ++ more)) (omega (arith, less, length-append us more, length-append ws more))))
      (stays_then (behind_first x) (behind_steady x) more (go (u ∷ us)) (on (u ∷ us ++ more)) (stays (u ∷ us) less))
  goes_on x u us false h =
      subst (λ t. Stays more (Err (length (w ∷ ws))) (cond t (on (u ∷ us ++ more) >>= behind_first x) (Err (length (w ∷ ws ++ more)))))
      (sym (not_less (length (u ∷ us ++ more)) (length (w ∷ ws ++ more)) (λ less. lt_false (length (u ∷ us)) (length (w ∷ ws)) (omega (arith, less, length-append us more, length-append ws more)) h)))
      (refused_more ws more)

  found_stays : (x : X) (us : List Word) (r : Answer (Option (X × List Word))) → StaysFound more (Some x) us (viewed (w ∷ ws ++ more) r) →
      Stays more (cond (nat_lt (length us) (length (w ∷ ws))) (go us >>= behind_first x) (Err (length (w ∷ ws)))) (turned on (w ∷ ws ++ more) r)
  found_stays x [] r h =
      subst (λ t. Stays more (cond t (go [] >>= behind_first x) (Err (length (w ∷ ws)))) (turned on (w ∷ ws ++ more) r)) (sym (lt-ltb 0 (length (w ∷ ws)) (omega arith)))
      (at_end more (go [] >>= behind_first x) (turned on (w ∷ ws ++ more) r) (within_then (behind_first x) (behind_steady x) (go []) 0 (g [])) (emptied r h))
  found_stays x (u ∷ us) r h =
      subst (λ b. Stays more (cond (nat_lt (length (u ∷ us)) (length (w ∷ ws))) (go (u ∷ us) >>= behind_first x) (Err (length (w ∷ ws)))) b) (sym (found_turn on (w ∷ ws ++ more) (u ∷ us ++ more) x r h))
      (goes_on x u us (nat_lt (length (u ∷ us)) (length (w ∷ ws))) refl)

  refused_stays : (n : ℕ) (r : Answer (Option (X × List Word))) → StaysRefused more n (viewed (w ∷ ws ++ more) r) → StaysRefused more n (turned on (w ∷ ws ++ more) r)
  refused_stays zero r h = emptied r h
  refused_stays (suc n) r h = refused_turn on (w ∷ ws ++ more) (suc (n + length more)) r h

  turned_stays : (a b : Answer (Option (X × List Word))) → Stays more (viewed (w ∷ ws) a) (viewed (w ∷ ws ++ more) b) → Stays more (turned go (w ∷ ws) a) (turned on (w ∷ ws ++ more) b)
  turned_stays (Err n) b h = refused_stays n b h
  turned_stays (Ok None) b h = last_turn on (w ∷ ws ++ more) (w ∷ ws ++ more) b h
  turned_stays (Ok (Some x)) b h = found_stays x.0 x.1 b h

module _ {X : Type 0} (turn : Turn X) (steady : TurnSteady turn) where
  within_all : (m : ℕ) → Shrinks (repeat_within m turn)
  unfolding repeat_within
  within_all zero ws = omega arith
  within_all (suc m) ws = turned_within (repeat_within m turn) (within_all m) ws (turn ws) (steady ws []).0

  all_stays : (m n : ℕ) (ws more : List Word) → length ws < m → length (ws ++ more) < n → Stays more (repeat_within m turn ws) (repeat_within n turn (ws ++ more))
  unfolding repeat_within
  all_stays zero n ws more l k = absurd (omega (arith, l))
  all_stays (suc m) zero ws more l k = absurd (omega (arith, k))
  all_stays (suc m) (suc n) [] more l k = at_end more (repeat_within (suc m) turn []) (repeat_within (suc n) turn more) (within_all (suc m) []) (within_all (suc n) more)
  all_stays (suc m) (suc n) (w ∷ ws) more l k =
      turned_stays (repeat_within m turn) (repeat_within n turn) (within_all m) (within_all n) w ws more
      (λ us less. all_stays m n us more (omega (arith, l, less)) (omega (arith, k, less, length-append us more, length-append ws more))) (turn (w ∷ ws)) (turn (w ∷ ws ++ more)) (steady (w ∷ ws) more).1

  pub repeat_steady : Steady (repeat turn)
  unfolding repeat
  repeat_steady ws more = (within_all (suc (length ws)) ws, all_stays (suc (length ws)) (suc (length (ws ++ more))) ws more (omega arith) (omega arith))
