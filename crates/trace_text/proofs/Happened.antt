-- The kinds of events and their parts: a kind that is read from parts has these parts, and is read
-- again from them.
use Rattle.std.proofs.Common.{◌≡◌, ℕ, ℤ, ◌≤◌, Bool, true, false, cond, List, [], ◌∷◌, ◌++◌, length, map, option_map, Option, Some, None, codes, refl, sym, ap, subst, ◌∙◌, arith, append_assoc, append-nil}
use Rattle.std.specs.Prelude.{nat_le, IsTrue}
use Rattle.std.specs.Fmt.{signed_decimal}
use Rattle.std.specs.List.{list_all, join_with_byte}
use Rattle.std.proofs.lemmas.Bool.{and_from, leb-true, le-leb, cond-true}
use Rattle.apex_types.specs.declared.limits.TheConstants.{MOST_WORDS}
use Rattle.arrayvec.specs.ArrayVec.{ArrayVec}
use Rattle.apex_types.specs.CodeWords.{mode_word, state_word, error_word, level_word, level_of_response, action_word}
use Rattle.apex_types.specs.Line.{subject_text, culprit_text, words_text, kind_text, space}
use Rattle.apex_types.specs.NameText.{is_name}
use Rattle.apex_types.specs.ServiceShape.{service_word}
use Rattle.apex_types.specs.declared.codes.ErrorKind.{ErrorKind}
use Rattle.apex_types.specs.declared.codes.Response.{Response}
use Rattle.apex_types.specs.declared.codes.ReturnCode.{ReturnCode}
use Rattle.apex_types.specs.declared.event.EventKind.{EventKind}
use Rattle.apex_types.specs.declared.event.EventKind.TheVariants as event
use Rattle.apex_types.specs.declared.event.Subject.{Subject}
use Rattle.apex_types.specs.declared.service.Service.{Service}
use Rattle.module_meaning.specs.DeviceText.{word, words, put_word}
use Rattle.kernel_meaning.specs.Step.{message}
use Rattle.text_lines.specs.Words.{AreWords}
use Rattle.text_lines.proofs.Pieces.{is_ink}
use Rattle.text_lines.proofs.Words.{word_back, words_again, words_ink}
use Rattle.trace_text.specs.declared.keyword.Keyword.{Keyword}
use Rattle.trace_text.specs.declared.keyword.Keyword.TheVariants as keyword
use Rattle.trace_text.specs.Reading.{both, few, words_of, keyword_text, keyword_of, state_of, service_of, code_of, error_of, response_of, subject_of, culprit_of, mode_of, name_of, state_line, return_with, return_line, mode_line, error_with, error_line, report_line, message_of, message_line, kind_by, kind_of}
use Rattle.trace_text.specs.Trace.{IsMessage, HasParts}
use Rattle.trace_text.proofs.Fields.{name_spells, subject_spells, culprit_spells, code_text, code_spells, response_back, response_again, level_ink, action_ink}
use Rattle.trace_text.proofs.Spells.{same_some}
use Rattle.trace_text.proofs.Tables.{mode_spells, state_spells, error_spells, service_spells, keyword_spells}

-- ---- messages

put_is : (o : Option ℤ) (r : Option (List ℤ)) (ws : List ℤ) → put_word o r ≡ Some ws → (w : ℤ) × (more : List ℤ) × (o ≡ Some w) × (r ≡ Some more) × (w ∷ more ≡ ws)
put_is None r ws e = cc
put_is (Some w) None ws e = cc
put_is (Some w) (Some more) ws e = (w, more, refl, refl, same_some (w ∷ more) ws e)

two_more : {A : Type 0} (a b : A) (as2 bs2 : List A) → a ≡ b → as2 ≡ bs2 → a ∷ as2 ≡ b ∷ bs2
two_more a b as2 bs2 e f = cc

words_back : (ts : List (List ℕ)) (ws : List ℤ) → words ts ≡ Some ws → (map signed_decimal ws ≡ ts) × AreWords ws
unfolding words
words_back [] ws e = subst (λ (xs : List ℤ). (map signed_decimal xs ≡ []) × AreWords xs) (same_some [] ws e) (refl, tt)
words_back (t ∷ ts) ws e =
    let p = put_is (word t) (words ts) ws e in
    let one = word_back t p.0 p.2 in
    let rest = words_back ts p.1 p.3 in
    subst (λ (xs : List ℤ). (map signed_decimal xs ≡ t ∷ ts) × AreWords xs) p.4 (two_more (signed_decimal p.0) t (map signed_decimal p.1) ts one.0 rest.0, (one.1, rest.1))

few_is : (t : Bool) (ws : List ℤ) (m : ArrayVec ℤ) → cond t (Some (message ws)) None ≡ Some m → (t ≡ true) × (message ws ≡ m)
few_is true ws m e = (refl, same_some (message ws) m e)
few_is false ws m e = cc

few_some : (o : Option (List ℤ)) (m : ArrayVec ℤ) → few o ≡ Some m → (ws : List ℤ) × (o ≡ Some ws) × (length ws ≤ MOST_WORDS) × (message ws ≡ m)
few_some None m e = cc
few_some (Some ws) m e = let g = few_is (nat_le (length ws) MOST_WORDS) ws m e in (ws, refl, leb-true (length ws) MOST_WORDS g.0, g.1)

some_words : (ws : List ℤ) (t : List ℕ) (ts : List (List ℕ)) → map signed_decimal ws ≡ t ∷ ts → 1 ≤ length ws
some_words [] t ts e = cc
some_words (w ∷ ws) t ts e = omega arith

message_back : (ts : List (List ℕ)) (m : ArrayVec ℤ) → words_of ts ≡ Some m → (map signed_decimal m.items ≡ ts) × IsMessage m.items
message_back [] m e = cc
message_back (t ∷ ts) m e =
    let f = few_some (words (t ∷ ts)) m e in
    let b = words_back (t ∷ ts) f.0 f.1 in
    subst (λ (x : ArrayVec ℤ). (map signed_decimal x.items ≡ t ∷ ts) × IsMessage x.items) f.3
    (b.0, record { some = some_words f.0 t ts b.0; few = f.2; fit = b.1 })

message_again : (ws : List ℤ) → IsMessage ws → words_of (map signed_decimal ws) ≡ Some (message ws)
message_again [] good = absurd (omega (arith, good.some))
message_again (w ∷ ws) good =
    ap few (words_again (w ∷ ws) good.fit) ∙ cond-true (nat_le (length (w ∷ ws)) MOST_WORDS) (Some (message (w ∷ ws))) None (le-leb (length (w ∷ ws)) MOST_WORDS good.few)

-- ---- the parts of a kind of event

abbrev pub parts_of : EventKind → List (List ℕ)
parts_of (event.State who state) = codes "STATE" ∷ subject_text who ∷ state_word state ∷ []
parts_of (event.Return who service code) = codes "RET" ∷ subject_text who ∷ service_word service ∷ code_text code ∷ []
parts_of (event.Mode mode) = codes "MODE" ∷ mode_word mode ∷ []
parts_of (event.Error error who response) = codes "HM" ∷ error_word error ∷ culprit_text who ∷ level_word (level_of_response response) ∷ action_word response ∷ []
parts_of (event.Report who ws) = codes "REPORT" ∷ subject_text who ∷ map signed_decimal ws.items
parts_of (event.Move port ws) = codes "MOVE" ∷ port ∷ map signed_decimal ws.items
parts_of (event.Arrive port ws) = codes "ARRIVE" ∷ port ∷ map signed_decimal ws.items
parts_of (event.Lost port ws) = codes "LOST" ∷ port ∷ map signed_decimal ws.items
parts_of (event.Out channel ws) = codes "OUT" ∷ channel ∷ map signed_decimal ws.items

join_words : (p : List ℕ) (ws : List ℤ) → join_with_byte space (p ∷ map signed_decimal ws) ≡ p ++ words_text ws
join_words p [] = sym (append-nil p)
join_words p (w ∷ ws) = ap (λ (xs : List ℕ). p ++ space ∷ xs) (join_words (signed_decimal w) ws)

-- the text of a line groups its fields to the left
field_left : (a b rest : List ℕ) → a ++ space ∷ (b ++ rest) ≡ a ++ space ∷ [] ++ b ++ rest
field_left a b rest = sym (append_assoc a (space ∷ []) (b ++ rest)) ∙ sym (append_assoc (a ++ space ∷ []) b rest)

last_left : (a b : List ℕ) → a ++ space ∷ b ≡ a ++ space ∷ [] ++ b
last_left a b = sym (append_assoc a (space ∷ []) b)

-- the text is that of the parts, a space between them
pub kind_joined : (k : EventKind) → join_with_byte space (parts_of k) ≡ kind_text k
kind_joined (event.State who state) = ap (λ (xs : List ℕ). codes "STATE " ++ xs) (last_left (subject_text who) (state_word state))
kind_joined (event.Return who service code) =
    ap (λ (xs : List ℕ). codes "RET " ++ xs)
    (field_left (subject_text who) (service_word service) (space ∷ code_text code)
    ∙ last_left (subject_text who ++ space ∷ [] ++ service_word service) (code_text code))
kind_joined (event.Mode mode) = refl
kind_joined (event.Error error who response) =
    ap (λ (xs : List ℕ). codes "HM " ++ xs)
    (field_left (error_word error) (culprit_text who) (space ∷ (level_word (level_of_response response) ++ space ∷ action_word response))
    ∙ field_left (error_word error ++ space ∷ [] ++ culprit_text who) (level_word (level_of_response response)) (space ∷ action_word response)
    ∙ last_left (error_word error ++ space ∷ [] ++ culprit_text who ++ space ∷ [] ++ level_word (level_of_response response)) (action_word response))
kind_joined (event.Report who ws) = ap (λ (xs : List ℕ). codes "REPORT " ++ xs) (join_words (subject_text who) ws.items)
kind_joined (event.Move port ws) = ap (λ (xs : List ℕ). codes "MOVE " ++ xs) (join_words port ws.items)
kind_joined (event.Arrive port ws) = ap (λ (xs : List ℕ). codes "ARRIVE " ++ xs) (join_words port ws.items)
kind_joined (event.Lost port ws) = ap (λ (xs : List ℕ). codes "LOST " ++ xs) (join_words port ws.items)
kind_joined (event.Out channel ws) = ap (λ (xs : List ℕ). codes "OUT " ++ xs) (join_words channel ws.items)

-- ---- from parts

IsRead : List (List ℕ) → EventKind → Type 0
IsRead parts k = (parts_of k ≡ parts) × HasParts k

both_is : {A B C : Type 0} (f : A → B → C) (a : Option A) (b : Option B) (y : C) → both f a b ≡ Some y → (x : A) × (z : B) × (a ≡ Some x) × (b ≡ Some z) × (f x z ≡ y)
both_is f None b y e = cc
both_is f (Some x) None y e = cc
both_is f (Some x) (Some z) y e = (x, z, refl, refl, same_some (f x z) y e)

state_back : (fields : List (List ℕ)) (k : EventKind) → state_line fields ≡ Some k → IsRead (codes "STATE" ∷ fields) k
unfolding IsRead
state_back [] k e = cc
state_back (who ∷ []) k e = cc
state_back (who ∷ state ∷ x ∷ xs) k e = cc
state_back (who ∷ state ∷ []) k e =
    let g = both_is event.State (subject_of who) (state_of state) k e in
    let w = subject_spells.takes who g.0 g.2 in
    let s = state_spells.takes state g.1 g.3 in
    subst (IsRead (codes "STATE" ∷ who ∷ state ∷ [])) g.4
    (ap (λ (x : List ℕ). codes "STATE" ∷ x ∷ state_word g.1 ∷ []) w.0 ∙ ap (λ (x : List ℕ). codes "STATE" ∷ who ∷ x ∷ []) s.0, w.1)

return_is : (a : Option Subject) (b : Option Service) (c : Option ReturnCode) (k : EventKind) → return_with a b c ≡ Some k → (x : Subject) × (y : Service) × (z : ReturnCode) × (a ≡ Some x) × (b ≡ Some y) × (c ≡ Some z) × (event.Return x y z ≡ k)
return_is None b c k e = cc
return_is (Some x) None c k e = cc
return_is (Some x) (Some y) None k e = cc
return_is (Some x) (Some y) (Some z) k e = (x, y, z, refl, refl, refl, same_some (event.Return x y z) k e)

return_back : (fields : List (List ℕ)) (k : EventKind) → return_line fields ≡ Some k → IsRead (codes "RET" ∷ fields) k
unfolding IsRead
return_back [] k e = cc
return_back (who ∷ []) k e = cc
return_back (who ∷ service ∷ []) k e = cc
return_back (who ∷ service ∷ code ∷ x ∷ xs) k e = cc
return_back (who ∷ service ∷ code ∷ []) k e =
    let g = return_is (subject_of who) (service_of service) (code_of code) k e in
    let w = subject_spells.takes who g.0 g.3 in
    let s = service_spells.takes service g.1 g.4 in
    let c = code_spells.takes code g.2 g.5 in
    subst (IsRead (codes "RET" ∷ who ∷ service ∷ code ∷ [])) g.6 (
      ap (λ (x : List ℕ). codes "RET" ∷ x ∷ service_word g.1 ∷ code_text g.2 ∷ []) w.0
          ∙ ap (λ (x : List ℕ). codes "RET" ∷ who ∷ x ∷ code_text g.2 ∷ []) s.0
          ∙ ap (λ (x : List ℕ). codes "RET" ∷ who ∷ service ∷ x ∷ []) c.0,
      w.1,
    )

map_is : {A C : Type 0} (f : A → C) (a : Option A) (y : C) → option_map f a ≡ Some y → (x : A) × (a ≡ Some x) × (f x ≡ y)
map_is f None y e = cc
map_is f (Some x) y e = (x, refl, same_some (f x) y e)

mode_back : (fields : List (List ℕ)) (k : EventKind) → mode_line fields ≡ Some k → IsRead (codes "MODE" ∷ fields) k
unfolding IsRead
mode_back [] k e = cc
mode_back (mode ∷ x ∷ xs) k e = cc
mode_back (mode ∷ []) k e =
    let g = map_is (λ m. event.Mode m) (mode_of mode) k e in
    let m = mode_spells.takes mode g.0 g.1 in
    subst (IsRead (codes "MODE" ∷ mode ∷ [])) g.2 (ap (λ (x : List ℕ). codes "MODE" ∷ x ∷ []) m.0, tt)

error_is : (a : Option ErrorKind) (b : Option (Option Subject)) (c : Option Response) (k : EventKind) → error_with a b c ≡ Some k → (x : ErrorKind) × (y : Option Subject) × (z : Response) × (a ≡ Some x) × (b ≡ Some y) × (c ≡ Some z) × (event.Error x y z ≡ k)
error_is None b c k e = cc
error_is (Some x) None c k e = cc
error_is (Some x) (Some y) None k e = cc
error_is (Some x) (Some y) (Some z) k e = (x, y, z, refl, refl, refl, same_some (event.Error x y z) k e)

error_back : (fields : List (List ℕ)) (k : EventKind) → error_line fields ≡ Some k → IsRead (codes "HM" ∷ fields) k
unfolding IsRead
error_back [] k e = cc
error_back (error ∷ []) k e = cc
error_back (error ∷ who ∷ []) k e = cc
error_back (error ∷ who ∷ level ∷ []) k e = cc
error_back (error ∷ who ∷ level ∷ action ∷ x ∷ xs) k e = cc
error_back (error ∷ who ∷ level ∷ action ∷ []) k e =
    let g = error_is (error_of error) (culprit_of who) (response_of level action) k e in
    let r = error_spells.takes error g.0 g.3 in
    let w = culprit_spells.takes who g.1 g.4 in
    let s = response_back level action g.2 g.5 in
    subst (IsRead (codes "HM" ∷ error ∷ who ∷ level ∷ action ∷ [])) g.6 (
      ap (λ (x : List ℕ). codes "HM" ∷ x ∷ culprit_text g.1 ∷ level_word (level_of_response g.2) ∷ action_word g.2 ∷ []) r.0
          ∙ ap (λ (x : List ℕ). codes "HM" ∷ error ∷ x ∷ level_word (level_of_response g.2) ∷ action_word g.2 ∷ []) w.0
          ∙ ap (λ (x : List ℕ). codes "HM" ∷ error ∷ who ∷ x ∷ action_word g.2 ∷ []) s.0
          ∙ ap (λ (x : List ℕ). codes "HM" ∷ error ∷ who ∷ level ∷ x ∷ []) s.1,
      w.1,
    )

report_back : (fields : List (List ℕ)) (k : EventKind) → report_line fields ≡ Some k → IsRead (codes "REPORT" ∷ fields) k
unfolding IsRead
report_back [] k e = cc
report_back (who ∷ ws) k e =
    let g = both_is event.Report (subject_of who) (words_of ws) k e in
    let w = subject_spells.takes who g.0 g.2 in
    let m = message_back ws g.1 g.3 in
    subst (IsRead (codes "REPORT" ∷ who ∷ ws)) g.4
    (ap (λ (x : List ℕ). codes "REPORT" ∷ x ∷ map signed_decimal g.1.items) w.0 ∙ ap (λ (xs : List (List ℕ)). codes "REPORT" ∷ who ∷ xs) m.0, (w.1, m.1))

-- the name and the words of a message
message_is : (what : List ℕ → ArrayVec ℤ → EventKind) (fields : List (List ℕ)) (k : EventKind) → message_line what fields ≡ Some k → (name : List ℕ) × (m : ArrayVec ℤ) × (name ∷ map signed_decimal m.items ≡ fields) × IsTrue (is_name name) × IsMessage m.items × (what name m ≡ k)
message_is what [] k e = cc
message_is what (n ∷ ws) k e =
    let f = map_is (λ (m : List ℕ × ArrayVec ℤ). what m.0 m.1) (message_of (n ∷ ws)) k e in
    let g = both_is (λ (x : List ℕ) (y : ArrayVec ℤ). (x, y)) (name_of n) (words_of ws) f.0 f.1 in
    let t = name_spells.takes n g.0 g.2 in
    let m = message_back ws g.1 g.3 in
    (g.0, g.1, two_more g.0 n (map signed_decimal g.1.items) ws t.0 m.0, t.1, m.1, ap (λ (x : List ℕ × ArrayVec ℤ). what x.0 x.1) g.4 ∙ f.2)

kind_by_back : (kw : Keyword) (fields : List (List ℕ)) (k : EventKind) → kind_by (Some kw) fields ≡ Some k → IsRead (keyword_text kw ∷ fields) k
unfolding IsRead
kind_by_back keyword.State fields k e = state_back fields k e
kind_by_back keyword.Return fields k e = return_back fields k e
kind_by_back keyword.Mode fields k e = mode_back fields k e
kind_by_back keyword.Error fields k e = error_back fields k e
kind_by_back keyword.Report fields k e = report_back fields k e
kind_by_back keyword.Move fields k e =
    let g = message_is event.Move fields k e in subst (IsRead (codes "MOVE" ∷ fields)) g.5 (ap (λ (xs : List (List ℕ)). codes "MOVE" ∷ xs) g.2, (g.3, g.4))
kind_by_back keyword.Arrive fields k e =
    let g = message_is event.Arrive fields k e in subst (IsRead (codes "ARRIVE" ∷ fields)) g.5 (ap (λ (xs : List (List ℕ)). codes "ARRIVE" ∷ xs) g.2, (g.3, g.4))
kind_by_back keyword.Lost fields k e =
    let g = message_is event.Lost fields k e in subst (IsRead (codes "LOST" ∷ fields)) g.5 (ap (λ (xs : List (List ℕ)). codes "LOST" ∷ xs) g.2, (g.3, g.4))
kind_by_back keyword.Out fields k e =
    let g = message_is event.Out fields k e in subst (IsRead (codes "OUT" ∷ fields)) g.5 (ap (λ (xs : List (List ℕ)). codes "OUT" ∷ xs) g.2, (g.3, g.4))

by_keyword : (o : Option Keyword) (w : List ℕ) (fields : List (List ℕ)) (k : EventKind) → keyword_of w ≡ o → kind_by o fields ≡ Some k → IsRead (w ∷ fields) k
unfolding IsRead
by_keyword None w fields k is e = cc
by_keyword (Some kw) w fields k is e = subst (λ (x : List ℕ). IsRead (x ∷ fields) k) (keyword_spells.takes w kw is).0 (kind_by_back kw fields k e)

-- a kind of event that is read from parts has these parts
pub kind_back : (parts : List (List ℕ)) (k : EventKind) → kind_of parts ≡ Some k → (parts_of k ≡ parts) × HasParts k
unfolding IsRead
kind_back [] k e = cc
kind_back (w ∷ fields) k e = by_keyword (keyword_of w) w fields k refl e

-- ---- from a kind of event

both_some : {A B C : Type 0} (f : A → B → C) (a : Option A) (b : Option B) (x : A) (z : B) → a ≡ Some x → b ≡ Some z → both f a b ≡ Some (f x z)
both_some f a b x z e g = cc

message_found : (what : List ℕ → ArrayVec ℤ → EventKind) (name : List ℕ) (m : ArrayVec ℤ) → IsTrue (is_name name) → IsMessage m.items → message_line what (name ∷ map signed_decimal m.items) ≡ Some (what name m)
message_found what name m named good =
    ap (option_map (λ (x : List ℕ × ArrayVec ℤ). what x.0 x.1))
    (both_some (λ (x : List ℕ) (y : ArrayVec ℤ). (x, y)) (name_of name) (words_of (map signed_decimal m.items)) name m (name_spells.again name named) (message_again m.items good))

-- a kind of event is read again from its parts
pub kind_again : (k : EventKind) → HasParts k → kind_of (parts_of k) ≡ Some k
kind_again (event.State who state) good = both_some event.State (subject_of (subject_text who)) (state_of (state_word state)) who state (subject_spells.again who good) (state_spells.again state tt)
kind_again (event.Return who service code) good =
    ap (λ (o : Option Subject). return_with o (service_of (service_word service)) (code_of (code_text code))) (subject_spells.again who good)
    ∙ ap (λ (o : Option Service). return_with (Some who) o (code_of (code_text code))) (service_spells.again service tt)
    ∙ ap (λ (o : Option ReturnCode). return_with (Some who) (Some service) o) (code_spells.again code tt)
kind_again (event.Mode mode) good = ap (option_map (λ m. event.Mode m)) (mode_spells.again mode tt)
kind_again (event.Error error who response) good =
    ap (λ (o : Option ErrorKind). error_with o (culprit_of (culprit_text who)) (response_of (level_word (level_of_response response)) (action_word response))) (error_spells.again error tt)
    ∙ ap (λ (o : Option (Option Subject)). error_with (Some error) o (response_of (level_word (level_of_response response)) (action_word response))) (culprit_spells.again who good)
    ∙ ap (λ (o : Option Response). error_with (Some error) (Some who) o) (response_again response)
kind_again (event.Report who ws) good = both_some event.Report (subject_of (subject_text who)) (words_of (map signed_decimal ws.items)) who ws (subject_spells.again who good.0) (message_again ws.items good.1)
kind_again (event.Move port ws) good = message_found event.Move port ws good.0 good.1
kind_again (event.Arrive port ws) good = message_found event.Arrive port ws good.0 good.1
kind_again (event.Lost port ws) good = message_found event.Lost port ws good.0 good.1
kind_again (event.Out channel ws) good = message_found event.Out channel ws good.0 good.1

AreInk : List (List ℕ) → Type 0
AreInk parts = list_all (list_all is_ink) parts ≡ true

one_part : (p : List ℕ) (ps : List (List ℕ)) → list_all is_ink p ≡ true → AreInk ps → AreInk (p ∷ ps)
unfolding AreInk
one_part p ps h hs = and_from (list_all is_ink p) (list_all (list_all is_ink) ps) h hs

-- no part has a space or a line feed
pub kind_ink : (k : EventKind) → HasParts k → list_all (list_all is_ink) (parts_of k) ≡ true
unfolding AreInk
kind_ink (event.State who state) good = one_part (subject_text who) (state_word state ∷ []) (subject_spells.ink who good) (one_part (state_word state) [] (state_spells.ink state tt) refl)
kind_ink (event.Return who service code) good =
    one_part (subject_text who) (service_word service ∷ code_text code ∷ []) (subject_spells.ink who good)
    (one_part (service_word service) (code_text code ∷ []) (service_spells.ink service tt) (one_part (code_text code) [] (code_spells.ink code tt) refl))
kind_ink (event.Mode mode) good = one_part (mode_word mode) [] (mode_spells.ink mode tt) refl
kind_ink (event.Error error who response) good =
    one_part (error_word error) (culprit_text who ∷ level_word (level_of_response response) ∷ action_word response ∷ []) (error_spells.ink error tt)
    (one_part (culprit_text who) (level_word (level_of_response response) ∷ action_word response ∷ []) (culprit_spells.ink who good)
    (one_part (level_word (level_of_response response)) (action_word response ∷ []) (level_ink response) (one_part (action_word response) [] (action_ink response) refl)))
kind_ink (event.Report who ws) good = one_part (subject_text who) (map signed_decimal ws.items) (subject_spells.ink who good.0) (words_ink ws.items good.1.fit)
kind_ink (event.Move port ws) good = one_part port (map signed_decimal ws.items) (name_spells.ink port good.0) (words_ink ws.items good.1.fit)
kind_ink (event.Arrive port ws) good = one_part port (map signed_decimal ws.items) (name_spells.ink port good.0) (words_ink ws.items good.1.fit)
kind_ink (event.Lost port ws) good = one_part port (map signed_decimal ws.items) (name_spells.ink port good.0) (words_ink ws.items good.1.fit)
kind_ink (event.Out channel ws) good = one_part channel (map signed_decimal ws.items) (name_spells.ink channel good.0) (words_ink ws.items good.1.fit)
