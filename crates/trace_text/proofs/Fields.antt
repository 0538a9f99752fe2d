-- Names, subjects, return codes and responses: each is its text, and is read again from it.
use Rattle.std.proofs.Common.{◌+◌, ◌≡◌, ℕ, zero, suc, ◌<◌, ◌≤◌, Bool, true, false, cond, List, [], ◌∷◌, length, option_map, Option, Some, None, codes, refl, sym, ap, subst, ◌∙◌, arith, lit<}
use Rattle.std.specs.Prelude.{nat_le, ◌&&◌, nat_eq, slice_get, IsTrue}
use Rattle.std.specs.Cmp.Lexicographic.{same_text}
use Rattle.std.specs.Fmt.{decimal}
use Rattle.std.specs.List.{list_all}
use Rattle.std.proofs.lemmas.Bool.{and_parts, and_left, leb-true, ne_eqb, cond-true, cond-false}
use Rattle.apex_types.specs.declared.limits.TheConstants.{MOST_NAME_BYTES}
use Rattle.apex_types.specs.CodeWords.{return_code_number, level_word, level_of_response, action_word}
use Rattle.apex_types.specs.Line.{partition_text, subject_text, culprit_text}
use Rattle.apex_types.specs.NameText.{is_name, is_name_byte, is_lower_case}
use Rattle.apex_types.specs.declared.codes.ModuleAction.TheVariants as module_action
use Rattle.apex_types.specs.declared.codes.PartitionAction.TheVariants as partition_action
use Rattle.apex_types.specs.declared.codes.Response.{Response}
use Rattle.apex_types.specs.declared.codes.Response.TheVariants as response
use Rattle.apex_types.specs.declared.codes.ReturnCode.{ReturnCode}
use Rattle.apex_types.specs.declared.codes.ReturnCode.TheVariants as code
use Rattle.apex_types.specs.declared.event.Subject.{Subject}
use Rattle.apex_types.specs.declared.event.Subject.TheVariants as subject
use Rattle.module_meaning.specs.DeviceText.{plain_number}
use Rattle.engine_meaning.specs.Digits.{same}
use Rattle.text_lines.proofs.Names.{name_ink}
use Rattle.text_lines.proofs.Pieces.{is_ink}
use Rattle.text_lines.proofs.Words.{plain_back, plain_again, decimal_ink}
use Rattle.trace_text.specs.Reading.{name_of, partition_of, subject_of, culprit_of, return_codes, code_at, code_of, responses, response_of}
use Rattle.trace_text.specs.Trace.{IsSubject, IsCulprit, IsPartition}
use Rattle.trace_text.proofs.Spells.{Spells, same_some, found}

-- ---- names

-- no name begins with a byte below the lower-case letters
name_differs : (name : List ℕ) (b : ℕ) (bs : List ℕ) → is_name name ≡ true → b < 97 → same name (b ∷ bs) ≡ false
name_differs [] b bs h low = refl
name_differs (c ∷ cs) b bs h low =
    let p = and_parts (is_lower_case c && list_all is_name_byte cs) (nat_le (length cs + 1) MOST_NAME_BYTES) h in
    let q = and_parts (is_lower_case c) (list_all is_name_byte cs) p.0 in
    let r = and_parts (nat_le 97 c) (nat_le c 122) q.0 in
    and_left (nat_eq c b) (same cs bs) (ne_eqb c b (λ (e : c ≡ b). omega (arith, e, low, leb-true 97 c r.0)))

named : (t : Bool) (bs name : List ℕ) → cond t (Some bs) None ≡ Some name → (t ≡ true) × (bs ≡ name)
named true bs name e = (refl, same_some bs name e)
named false bs name e = cc

name_back : (bs name : List ℕ) → name_of bs ≡ Some name → (name ≡ bs) × IsTrue (is_name name)
name_back bs name e =
    let g = named (is_name bs) bs name e in
    (sym g.1, subst (λ (xs : List ℕ). is_name xs ≡ true) g.1 g.0)

name_again : (name : List ℕ) → IsTrue (is_name name) → name_of name ≡ Some name
name_again name good = cond-true (is_name name) (Some name) None good

pub name_spells : Spells name_of (λ name. name) (λ name. IsTrue (is_name name))
name_spells = record { takes = name_back; again = name_again; ink = name_ink }

-- ---- what is named, or is `-`

dash_is : {A : Type 0} (P : Option A → Type 0) (t : Bool) (r o : Option A) → (t ≡ true → P None) → ((x : A) → r ≡ Some x → P (Some x)) → cond t (Some None) (option_map (λ (x : A). Some x) r) ≡ Some o → P o
dash_is P true r o none some e = subst P (same_some None o e) (none refl)
dash_is P false None o none some e = cc
dash_is P false (Some x) o none some e = subst P (same_some (Some x) o e) (some x refl)

partition_back : (bs : List ℕ) (p : Option (List ℕ)) → partition_of bs ≡ Some p → (partition_text p ≡ bs) × IsPartition p
partition_back bs p e =
    dash_is (λ (o : Option (List ℕ)). (partition_text o ≡ bs) × IsPartition o) (same bs (codes "-")) (name_of bs) p
    (λ h. (sym (same_text bs (codes "-") (sym h)), tt))
    (λ name n. name_back bs name n) e

partition_again : (p : Option (List ℕ)) → IsPartition p → partition_of (partition_text p) ≡ Some p
partition_again None good = refl
partition_again (Some name) good =
    cond-false (same name (codes "-")) (Some None) (option_map (λ (n : List ℕ). Some n) (name_of name)) (name_differs name 45 [] good (lit< tt))
    ∙ ap (option_map (λ (n : List ℕ). Some n)) (name_again name good)

partition_ink : (p : Option (List ℕ)) → IsPartition p → list_all is_ink (partition_text p) ≡ true
partition_ink None good = refl
partition_ink (Some name) good = name_ink name good

pub partition_spells : Spells partition_of partition_text IsPartition
partition_spells = record { takes = partition_back; again = partition_again; ink = partition_ink }

-- ---- subjects

subject_is : (t u : Bool) (bs : List ℕ) (r : Option (List ℕ)) (who : Subject) → (t ≡ true → codes "INIT" ≡ bs) → (u ≡ true → codes "HANDLER" ≡ bs) → ((name : List ℕ) → r ≡ Some name → (name ≡ bs) × IsTrue (is_name name)) → cond t (Some subject.Init) (cond u (Some subject.Handler) (option_map (λ (name : List ℕ). subject.Process name) r)) ≡ Some who → (subject_text who ≡ bs) × IsSubject who
subject_is true u bs r who init handler name e = subst (λ (w : Subject). (subject_text w ≡ bs) × IsSubject w) (same_some subject.Init who e) (init refl, tt)
subject_is false true bs r who init handler name e = subst (λ (w : Subject). (subject_text w ≡ bs) × IsSubject w) (same_some subject.Handler who e) (handler refl, tt)
subject_is false false bs None who init handler name e = cc
subject_is false false bs (Some n) who init handler name e = subst (λ (w : Subject). (subject_text w ≡ bs) × IsSubject w) (same_some (subject.Process n) who e) (name n refl)

subject_back : (bs : List ℕ) (who : Subject) → subject_of bs ≡ Some who → (subject_text who ≡ bs) × IsSubject who
subject_back bs who e =
    subject_is (same bs (codes "INIT")) (same bs (codes "HANDLER")) bs (name_of bs) who
    (λ h. sym (same_text bs (codes "INIT") (sym h)))
    (λ h. sym (same_text bs (codes "HANDLER") (sym h)))
    (λ name n. name_back bs name n) e

subject_again : (who : Subject) → IsSubject who → subject_of (subject_text who) ≡ Some who
subject_again subject.Init good = refl
subject_again subject.Handler good = refl
subject_again (subject.Process name) good =
    cond-false (same name (codes "INIT")) (Some subject.Init) (cond (same name (codes "HANDLER")) (Some subject.Handler) (option_map (λ (n : List ℕ). subject.Process n) (name_of name))) (name_differs name 73 (codes "NIT") good (lit< tt))
    ∙ cond-false (same name (codes "HANDLER")) (Some subject.Handler) (option_map (λ (n : List ℕ). subject.Process n) (name_of name)) (name_differs name 72 (codes "ANDLER") good (lit< tt))
    ∙ ap (option_map (λ (n : List ℕ). subject.Process n)) (name_again name good)

subject_ink : (who : Subject) → IsSubject who → list_all is_ink (subject_text who) ≡ true
subject_ink subject.Init good = refl
subject_ink subject.Handler good = refl
subject_ink (subject.Process name) good = name_ink name good

pub subject_spells : Spells subject_of subject_text IsSubject
subject_spells = record { takes = subject_back; again = subject_again; ink = subject_ink }

culprit_back : (bs : List ℕ) (who : Option Subject) → culprit_of bs ≡ Some who → (culprit_text who ≡ bs) × IsCulprit who
culprit_back bs who e =
    dash_is (λ (o : Option Subject). (culprit_text o ≡ bs) × IsCulprit o) (same bs (codes "-")) (subject_of bs) who
    (λ h. (sym (same_text bs (codes "-") (sym h)), tt))
    (λ w n. subject_back bs w n) e

-- no text of a subject is `-`
no_dash : (who : Subject) → IsSubject who → same (subject_text who) (codes "-") ≡ false
no_dash subject.Init good = refl
no_dash subject.Handler good = refl
no_dash (subject.Process name) good = name_differs name 45 [] good (lit< tt)

culprit_again : (who : Option Subject) → IsCulprit who → culprit_of (culprit_text who) ≡ Some who
culprit_again None good = refl
culprit_again (Some w) good =
    cond-false (same (subject_text w) (codes "-")) (Some None) (option_map (λ (x : Subject). Some x) (subject_of (subject_text w))) (no_dash w good)
    ∙ ap (option_map (λ (x : Subject). Some x)) (subject_again w good)

culprit_ink : (who : Option Subject) → IsCulprit who → list_all is_ink (culprit_text who) ≡ true
culprit_ink None good = refl
culprit_ink (Some w) good = subject_ink w good

pub culprit_spells : Spells culprit_of culprit_text IsCulprit
culprit_spells = record { takes = culprit_back; again = culprit_again; ink = culprit_ink }

-- ---- return codes

abbrev pub code_text : ReturnCode → List ℕ
code_text c = decimal (return_code_number c)

numbered : (n : ℕ) (c : ReturnCode) → slice_get return_codes n ≡ Some c → return_code_number c ≡ n
numbered zero c e = ap return_code_number (sym (same_some code.NoError c e))
numbered (suc zero) c e = ap return_code_number (sym (same_some code.NoAction c e))
numbered (suc (suc zero)) c e = ap return_code_number (sym (same_some code.NotAvailable c e))
numbered (suc (suc (suc zero))) c e = ap return_code_number (sym (same_some code.InvalidParam c e))
numbered (suc (suc (suc (suc zero)))) c e = ap return_code_number (sym (same_some code.InvalidConfig c e))
numbered (suc (suc (suc (suc (suc zero))))) c e = ap return_code_number (sym (same_some code.InvalidMode c e))
numbered (suc (suc (suc (suc (suc (suc zero)))))) c e = ap return_code_number (sym (same_some code.TimedOut c e))
numbered (suc (suc (suc (suc (suc (suc (suc n))))))) c e = cc

code_is : (bs : List ℕ) (o : Option ℕ) (c : ReturnCode) → plain_number 6 bs ≡ o → code_at o ≡ Some c → code_text c ≡ bs
code_is bs None c p e = cc
code_is bs (Some n) c p e = ap decimal (numbered n c e) ∙ (plain_back 6 bs n (lit< tt) p).0

code_low : (c : ReturnCode) → return_code_number c ≤ 6
code_low code.NoError = omega arith
code_low _ = omega arith

code_found : (c : ReturnCode) → code_at (Some (return_code_number c)) ≡ Some c
code_found code.NoError = refl
code_found _ = refl

pub code_spells : Spells code_of code_text (λ _. Unit {0})
code_spells = record {
  takes = λ bs c e. (code_is bs (plain_number 6 bs) c refl e, tt);
  again = λ c good. ap code_at (plain_again 6 (return_code_number c) (lit< tt) (code_low c)) ∙ code_found c;
  ink = λ c good. decimal_ink (return_code_number c) (omega (arith, code_low c));
}

-- ---- responses

pub response_back : (level action : List ℕ) (r : Response) → response_of level action ≡ Some r → (level_word (level_of_response r) ≡ level) × (action_word r ≡ action)
response_back level action r e =
    let h = found (λ (x : Response). same (level_word (level_of_response x)) level && same (action_word x) action) responses r e in
    let p = and_parts (same (level_word (level_of_response r)) level) (same (action_word r) action) h in
    (same_text (level_word (level_of_response r)) level (sym p.0), same_text (action_word r) action (sym p.1))

pub response_again : (r : Response) → response_of (level_word (level_of_response r)) (action_word r) ≡ Some r
response_again response.Handler = refl
response_again (response.Partition partition_action.Ignore) = refl
response_again (response.Partition _) = refl
response_again (response.Module module_action.Ignore) = refl
response_again (response.Module _) = refl

pub level_ink : (r : Response) → list_all is_ink (level_word (level_of_response r)) ≡ true
level_ink response.Handler = refl
level_ink (response.Partition action) = refl
level_ink (response.Module action) = refl

pub action_ink : (r : Response) → list_all is_ink (action_word r) ≡ true
action_ink response.Handler = refl
action_ink (response.Partition partition_action.Ignore) = refl
action_ink (response.Partition _) = refl
action_ink (response.Module module_action.Ignore) = refl
action_ink (response.Module _) = refl
