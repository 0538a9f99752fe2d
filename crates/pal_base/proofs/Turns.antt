-- The results of a loop, followed by those of the rest of the repetition, are the whole.
use Rattle.std.proofs.Common.{◌≡◌, ℕ, ◌<◌, Bool, true, false, List, [], ◌∷◌, ◌++◌, length, map, Some, None, Result, Ok, Err, is_ok, refl, sym, ◌∙◌, ap, append_assoc, append-nil, arith, subst}
use Rattle.std.proofs.lemmas.List.{length-map, map-append}
use Rattle.pal_meaning.specs.Grammar.{Word}
use Rattle.pal_laws.specs.GrammarReading.{Answer, Reading, Turn, repeat, each, until, expect, ◌>>=◌}
use Rattle.pal_laws.proofs.Repeats.{repeat_ends, repeat_fails, repeat_goes_on, after}
use Rattle.pal_base.specs.Reads.{listed, up_to}
use Rattle.std.specs.Result.{IsErr, IsErrAnd}
use Rattle.pal_base.specs.Seen.{seen, names_of, Refuses, IsLeft, Gives}
use Rattle.pal_base.specs.WordView.{token_of}
use Rattle.pal_base.specs.declared.source.Source.{Source}
use Rattle.pal_base.specs.declared.word.Token.{Token}
use Rattle.pal_base.specs.declared.source.ReadError.{ReadError}
use Rattle.pal_base.specs.declared.source.ReadError.TheVariants.{Memory, Refused}

after_more : {X : Type 0} (front : List X) (x : X) (r : Answer (List X × List Word)) → after front (r >>= λ xs. Ok (x ∷ xs.0, xs.1)) ≡ after (front ++ x ∷ []) r
after_more front x (Err n) = refl
after_more front x (Ok xs) = ap (λ ys. Ok (ys, xs.1)) (sym (append_assoc front (x ∷ []) xs.0))

pub turn_finds : {A X : Type 0} (view : A → X) (turn : Turn X) (whole : Answer (List X × List Word)) (old new : List A) (a : A) (ws vs : List Word) →
    whole ≡ after (map view old) (repeat turn ws) → turn ws ≡ Ok (Some (view a, vs)) → length vs < length ws → new ≡ old ++ a ∷ [] →
    whole ≡ after (map view new) (repeat turn vs)
turn_finds view turn whole old new a ws vs so_far found shorter pushed =
    so_far ∙ ap (after (map view old)) (repeat_goes_on turn ws (view a) vs found shorter) ∙ after_more (map view old) (view a) (repeat turn vs)
    ∙ ap (λ xs. after xs (repeat turn vs)) (sym (map-append view old (a ∷ [])) ∙ ap (map view) (sym pushed))

pub turn_ends : {A X : Type 0} (view : A → X) (turn : Turn X) (whole : Answer (List X × List Word)) (found : List A) (ws : List Word) →
    whole ≡ after (map view found) (repeat turn ws) → turn ws ≡ Ok None → whole ≡ Ok (map view found, ws)
turn_ends view turn whole found ws so_far ended =
    so_far ∙ ap (after (map view found)) (repeat_ends turn ws ended) ∙ ap (λ xs. Ok (xs, ws)) (append-nil (map view found))

pub turn_fails : {A X : Type 0} (view : A → X) (turn : Turn X) (whole : Answer (List X × List Word)) (found : List A) (ws : List Word) (left : ℕ) →
    whole ≡ after (map view found) (repeat turn ws) → turn ws ≡ Err left → whole ≡ Err left
turn_fails view turn whole found ws left so_far failed = so_far ∙ ap (after (map view found)) (repeat_fails turn ws left failed)

-- the turns of a repetition that continues as long as the words begin so
pub each_finds : {B X : Type 0} (front : Answer B) (b : B) (read : B → Answer (X × List Word)) (x : X × List Word) → front ≡ Ok b → read b ≡ Ok x → each front read ≡ Ok (Some x)
each_finds front b read x stands found = ap (λ r. each r read) stands ∙ ap (λ r. r >>= λ y. Ok (Some y)) found

pub each_ends : {B X : Type 0} (front : Answer B) (read : B → Answer (X × List Word)) (left : ℕ) → front ≡ Err left → each front read ≡ Ok None
each_ends front read left stands = ap (λ r. each r read) stands

pub each_fails : {B X : Type 0} (front : Answer B) (b : B) (read : B → Answer (X × List Word)) (left : ℕ) → front ≡ Ok b → read b ≡ Err left → each front read ≡ Err left
each_fails front b read left stands failed = ap (λ r. each r read) stands ∙ ap (λ r. r >>= λ y. Ok (Some y)) failed

-- and as long as they do not
pub until_finds : {B X : Type 0} (front : Answer B) (read : Answer (X × List Word)) (x : X × List Word) (left : ℕ) → front ≡ Err left → read ≡ Ok x → until front read ≡ Ok (Some x)
until_finds front read x left stands found = ap (λ r. until r read) stands ∙ ap (λ r. r >>= λ y. Ok (Some y)) found

pub until_fails : {B X : Type 0} (front : Answer B) (read : Answer (X × List Word)) (none left : ℕ) → front ≡ Err none → read ≡ Err left → until front read ≡ Err left
until_fails front read none left stands failed = ap (λ r. until r read) stands ∙ ap (λ r. r >>= λ y. Ok (Some y)) failed

-- fewer tokens are fewer words
pub fewer : {A B : Type 0} (view : A → B) (xs ys : List A) → length xs < length ys → length (map view xs) < length (map view ys)
fewer view xs ys h = omega (arith, length-map xs view, length-map ys view)

-- there is one word for each token
pub as_many : (s : Source) (ts : List Token) → length (seen s ts) ≡ length ts
as_many s ts = length-map ts (token_of (names_of s))

-- if one reading refuses, the other refuses
pub refused_by : {B D : Type 0} (error : ReadError) (r : Answer B) (s : Answer D) → ((left : ℕ) → r ≡ Err left → s ≡ Err left) → Refuses error r → Refuses error s
refused_by Memory r s h given = tt
refused_by (Refused misfit) r s h given = h misfit.left given

-- a result is found by each way of reading that reads the same
pub gives_same : {A B : Type 0} (view : A → B) (answer : Result A ReadError) (r s : Answer B) → r ≡ s → Gives view answer r → Gives view answer s
gives_same view answer r s same = subst (λ t. Gives view answer t) same

-- a value made of the result
pub gives_more : {A B D : Type 0} (view : A → B) (make : B → D) (whole : A → D) (answer : Result A ReadError) (r : Answer B) → ((a : A) → make (view a) ≡ whole a) → Gives view answer r → Gives whole answer (r >>= λ b. Ok (make b))
gives_more view make whole (Ok a) r same given = ap (λ t. t >>= λ b. Ok (make b)) given ∙ ap Ok (same a)
gives_more view make whole (Err error) r same given = refused_by error r (r >>= λ b. Ok (make b)) (λ left e. ap (λ t. t >>= λ b. Ok (make b)) e) given

-- if `left` words are left, a refusal may say so
pub refuses : {D : Type 0} (error : ReadError) (r : Answer D) (left : ℕ) → IsLeft error left → r ≡ Err left → Refuses error r
refuses Memory r left h e = absurd h
refuses (Refused misfit) r left h e = e ∙ ap Err (sym h)

-- that nothing is at the front, and that something is
abbrev count_of : {B : Type 0} → Answer B → ℕ
count_of (Ok b) = 0
count_of (Err left) = left

is_nothing : {B : Type 0} (t : Bool) (o : Answer B) → t ≡ is_ok o → t ≡ false → o ≡ Err (count_of o)
is_nothing t (Err left) h k = refl
is_nothing t (Ok b) h k = cc

pub until_stops : {B X : Type 0} (t : Bool) (front : Answer B) (read : Answer (X × List Word)) → t ≡ is_ok front → t ≡ true → until front read ≡ Ok None
until_stops t (Err left) read h k = cc
until_stops t (Ok b) read h k = refl

-- a repetition of one thing after a mark finds the next one
pub listed_finds : {A X : Type 0} (view : A → X) (mark : List ℕ) (read : Reading X) (whole : Answer (List X × List Word)) (old new : List A) (a : A) (ws vs us : List Word) →
    whole ≡ after (map view old) (listed mark read ws) → expect mark ws ≡ Ok vs → read vs ≡ Ok (view a, us) → length us < length ws → new ≡ old ++ a ∷ [] →
    whole ≡ after (map view new) (listed mark read us)
listed_finds view mark read whole old new a ws vs us so_far stands found shorter pushed =
    turn_finds view (λ ws. each (expect mark ws) read) whole old new a ws us so_far (each_finds (expect mark ws) vs read (view a, us) stands found) shorter pushed

pub listed_ends : {A X : Type 0} (view : A → X) (mark : List ℕ) (read : Reading X) (whole : Answer (List X × List Word)) (found : List A) (ws : List Word) →
    whole ≡ after (map view found) (listed mark read ws) → expect mark ws ≡ Err (length ws) → whole ≡ Ok (map view found, ws)
listed_ends view mark read whole found ws so_far stands = turn_ends view (λ ws. each (expect mark ws) read) whole found ws so_far (each_ends (expect mark ws) read (length ws) stands)

pub listed_fails : {A X : Type 0} (view : A → X) (mark : List ℕ) (read : Reading X) (whole : Answer (List X × List Word)) (found : List A) (ws vs : List Word) (error : ReadError) →
    whole ≡ after (map view found) (listed mark read ws) → expect mark ws ≡ Ok vs → Refuses error (read vs) → Refuses error whole
listed_fails view mark read whole found ws vs error so_far stands given =
    refused_by error (read vs) whole (λ left failed. turn_fails view (λ ws. each (expect mark ws) read) whole found ws left so_far (each_fails (expect mark ws) vs read left stands failed)) given

-- a repetition up to a mark finds the next one
pub up_to_finds : {A X : Type 0} (view : A → X) (mark : List ℕ) (read : Reading X) (whole : Answer (List X × List Word)) (old new : List A) (a : A) (ws us : List Word) (t : Bool) →
    whole ≡ after (map view old) (up_to mark read ws) → t ≡ is_ok (expect mark ws) → t ≡ false → read ws ≡ Ok (view a, us) → length us < length ws → new ≡ old ++ a ∷ [] →
    whole ≡ after (map view new) (up_to mark read us)
up_to_finds view mark read whole old new a ws us t so_far stands not found shorter pushed =
    turn_finds view (λ ws. until (expect mark ws) (read ws)) whole old new a ws us so_far (until_finds (expect mark ws) (read ws) (view a, us) (count_of (expect mark ws)) (is_nothing t (expect mark ws) stands not) found) shorter pushed

pub up_to_ends : {A X : Type 0} (view : A → X) (mark : List ℕ) (read : Reading X) (whole : Answer (List X × List Word)) (found : List A) (ws : List Word) (t : Bool) →
    whole ≡ after (map view found) (up_to mark read ws) → t ≡ is_ok (expect mark ws) → t ≡ true → whole ≡ Ok (map view found, ws)
up_to_ends view mark read whole found ws t so_far stands so = turn_ends view (λ ws. until (expect mark ws) (read ws)) whole found ws so_far (until_stops t (expect mark ws) (read ws) stands so)

pub up_to_fails : {A X : Type 0} (view : A → X) (mark : List ℕ) (read : Reading X) (whole : Answer (List X × List Word)) (found : List A) (ws : List Word) (t : Bool) (error : ReadError) →
    whole ≡ after (map view found) (up_to mark read ws) → t ≡ is_ok (expect mark ws) → t ≡ false → Refuses error (read ws) → Refuses error whole
up_to_fails view mark read whole found ws t error so_far stands not given =
    refused_by error (read ws) whole (λ left failed. turn_fails view (λ ws. until (expect mark ws) (read ws)) whole found ws left so_far (until_fails (expect mark ws) (read ws) (count_of (expect mark ws)) left (is_nothing t (expect mark ws) stands not) failed)) given

-- a refusal that is passed up
pub passed_refusal : {X Y : Type 0} (view : X → Y) (error : ReadError) (answer : Result X ReadError) (r : Answer Y) → IsErr answer × IsErrAnd answer (λ e. e ≡ error) → Refuses error r → Gives view answer r
passed_refusal view error (Ok x) r passed given = let unlike : false ≡ true = passed.0 in cc
passed_refusal view error (Err e) r passed given = subst (λ f. Refuses f r) (sym passed.1) given
