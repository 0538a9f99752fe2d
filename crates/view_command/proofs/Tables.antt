-- The module table that a view is asked to take.
use Rattle.std.proofs.Common.{◌≡◌, ◌⊎◌, inl, inr, ℕ, List, [], ◌∷◌, ◌++◌, Option, Some, None, Result, Ok, Err, IfErr, IfSome, sym, ap, subst, ◌∙◌}
use Rattle.std.specs.Prelude.{IsErr, IsErrAnd}
use Rattle.std.proofs.lemmas.Option.{same_Some}
use Rattle.std.specs.declared.alloc.Global.{Global}
use Rattle.std.specs.declared.string.String.{String}
use Rattle.std.specs.Prelude.{string_bytes}
use Rattle.streams.specs.Contents.{Contents, Opens}
use Rattle.streams.specs.Noted.{IsNotedFault}
use Rattle.streams.specs.States.{HasFailed}
use Rattle.streams.specs.declared.names.NameFault.{NameFault}
use Rattle.streams.specs.declared.names.NameFault.TheVariants as source
use Rattle.view_command.specs.Faults.{IsUnopened, of_source}
use Rattle.view_command.specs.declared.refusal.Refusal.TheVariants.{Open, Read, Line, Late, TooMany, Crowded, Table, NoRow, Foreign, Unknown, Memory, Write}
use Rattle.view_command.specs.Answers.{AreStatesRefused, IsRefused, IsRefusedByStates, IsRefusedByTable, IsTableRefused, IsUnread}
use Rattle.view_command.specs.Lines.{called}
use Rattle.view_command.specs.States.{IsUntouched, State}
use Rattle.view_command.specs.Texts.{IsTable, IsTraceIn, IsTraceOf}
use Rattle.view_command.specs.declared.refusal.Refusal.{Refusal}
use Rattle.view_command.proofs.Compared.{unread_in}
use Rattle.trace_page.specs.States.{wrong_line}
use Rattle.window_table.specs.Answers.{AnswersText}
use Rattle.window_table.specs.declared.table.ModuleTable.{ModuleTable}

-- all that a reader had was read
pub read_whole : (left : Option (List ℕ)) (text items old : List ℕ) → text ≡ items → old ≡ [] → IfSome left (λ xs. items ≡ old ++ xs) → IfSome left (λ xs. text ≡ xs)
read_whole None text items old same none h = tt
read_whole (Some xs) text items old same none h = same ∙ h ∙ ap (λ (o : List ℕ). o ++ xs) none

pub table_read : (left : Option (List ℕ)) (text : List ℕ) (table : ModuleTable) → IfSome left (λ xs. text ≡ xs) → AnswersText text (Ok table) → IfSome left (λ xs. IsTable xs)
table_read None text table same is = tt
table_read (Some xs) text table same is = (table, subst (λ (v : List ℕ). AnswersText v (Ok table)) same is)

-- the table that is asked for is refused
pub asked_refused : {A : Type 0} (texts : Option Contents) (asked : Option (List ℕ)) (name : List ℕ) (before after : State) (r : Refusal) (answer : Result A Refusal) → asked ≡ Some name
    → IsRefusedByTable texts name before after r → IsErr answer × IsErrAnd answer (λ e. e ≡ r) → IfErr answer (λ e. IsTableRefused texts asked before after e)
asked_refused texts asked name before after r (Ok x) is h passed = tt
asked_refused texts None name before after r (Err e) is h passed = absurd cc
asked_refused texts (Some n) name before after r (Err e) is h passed =
    subst (λ (v : Refusal). IsRefusedByTable texts n before after v) (sym passed.1) (subst (λ (m : List ℕ). IsRefusedByTable texts m before after r) (sym (same_Some n name is)) h)

-- the states that are asked for are refused
pub states_refused : {A : Type 0} (texts : Option Contents) (asked : Option (List ℕ)) (name : List ℕ) (before after : State) (r : Refusal) (answer : Result A Refusal) → asked ≡ Some name
    → IsRefusedByStates texts name before after r → IsErr answer × IsErrAnd answer (λ e. e ≡ r) → IfErr answer (λ e. AreStatesRefused texts asked before after e)
states_refused texts asked name before after r (Ok x) is h passed = tt
states_refused texts None name before after r (Err e) is h passed = absurd cc
states_refused texts (Some n) name before after r (Err e) is h passed =
    subst (λ (v : Refusal). IsRefusedByStates texts n before after v) (sym passed.1) (subst (λ (m : List ℕ). IsRefusedByStates texts m before after r) (sym (same_Some n name is)) h)

pub states_read : (left : Option (List ℕ)) (text : List ℕ) → IfSome left (λ xs. text ≡ xs) → wrong_line text ≡ None → IfSome left (λ xs. wrong_line xs ≡ None)
states_read None text same is = tt
states_read (Some xs) text same is = subst (λ (v : List ℕ). wrong_line v ≡ None) same is

-- ---- a text that is not opened

pub unopened : (name : List ℕ) (shown : String Global) (old new : List (List ℕ)) (f : NameFault) (r : Refusal) → r ≡ of_source shown f → string_bytes shown ≡ called name → IsNotedFault name old new f → IsUnopened name old new r
unopened name shown old new f r told is noted = subst (IsUnopened name old new) (sym told) (go f noted)
  where
    go : (f : NameFault) → IsNotedFault name old new f → IsUnopened name old new (of_source shown f)
    go (source.Unavailable reason) noted = (is, noted)
    go source.Memory noted = noted

of_unopened : (Q : Refusal → Type 0) (name : List ℕ) (old new : List (List ℕ)) (r : Refusal) → ((shown : String Global) → string_bytes shown ≡ called name → new ≡ old ++ name ∷ [] → Q (Open shown)) → (new ≡ old → Q Memory)
    → IsUnopened name old new r → Q r
of_unopened Q name old new (Open shown) opened full h = opened shown h.0 h.1
of_unopened Q name old new Memory opened full h = full h
of_unopened Q name old new Write opened full h = absurd h
of_unopened Q name old new (Read shown) opened full h = absurd h
of_unopened Q name old new (Line number shown) opened full h = absurd h
of_unopened Q name old new (Late number shown) opened full h = absurd h
of_unopened Q name old new TooMany opened full h = absurd h
of_unopened Q name old new (Crowded shapes from until elements) opened full h = absurd h
of_unopened Q name old new (Table fault shown) opened full h = absurd h
of_unopened Q name old new (NoRow number shown) opened full h = absurd h
of_unopened Q name old new (Foreign partition) opened full h = absurd h
of_unopened Q name old new (Unknown line) opened full h = absurd h

-- the trace, with the table and the states taken
trace_unopened : (texts : Option Contents) (ran : Option ℕ) (name : List ℕ) (before after : State) (mid : List (List ℕ)) (r : Refusal) → after.out ≡ before.out → mid ≡ before.unopened → IsUnopened name mid after.unopened r → IsRefused texts ran name before after r
trace_unopened texts ran name before after mid r out same h =
    of_unopened (IsRefused texts ran name before after) name mid after.unopened r (λ shown is noted. (out, is, noted ∙ ap (λ (l : List (List ℕ)). l ++ name ∷ []) same)) (λ kept. (kept ∙ same, out)) h

pub unopened_or : {A : Type 0} (Q : Refusal → Type 0) (texts : Option Contents) (ran : Option ℕ) (name : List ℕ) (before after : State) (mid : List (List ℕ)) (r : Refusal) (answer : Result A Refusal)
    → after.out ≡ before.out → mid ≡ before.unopened → IsUnopened name mid after.unopened r → IsErr answer × IsErrAnd answer (λ e. e ≡ r) → IfErr answer (λ e. IsRefused texts ran name before after e ⊎ Q e)
unopened_or Q texts ran name before after mid r (Ok x) out same h passed = tt
unopened_or Q texts ran name before after mid r (Err e) out same h passed =
    inl (subst (λ (v : Refusal). IsRefused texts ran name before after v) (sym passed.1) (trace_unopened texts ran name before after mid r out same h))

-- the second of two traces
pub second_unopened : {A : Type 0} (Q : Refusal → Type 0) (texts : Option Contents) (ran : Option ℕ) (name : List ℕ) (before after : State) (mid : List (List ℕ)) (r : Refusal) (answer : Result A Refusal)
    → after.out ≡ before.out → mid ≡ before.unopened → IsUnopened name mid after.unopened r → IsErr answer × IsErrAnd answer (λ e. e ≡ r) → IfErr answer (λ e. Q e ⊎ IsRefused texts ran name before after e)
second_unopened Q texts ran name before after mid r (Ok x) out same h passed = tt
second_unopened Q texts ran name before after mid r (Err e) out same h passed =
    inr (subst (λ (v : Refusal). IsRefused texts ran name before after v) (sym passed.1) (trace_unopened texts ran name before after mid r out same h))

-- the table
pub table_unopened : {A : Type 0} (texts : Option Contents) (name : List ℕ) (before after : State) (r : Refusal) (answer : Result A Refusal)
    → after.out ≡ before.out → IsUnopened name before.unopened after.unopened r → IsErr answer × IsErrAnd answer (λ e. e ≡ r) → IfErr answer (λ e. IsRefusedByTable texts name before after e)
table_unopened texts name before after r (Ok x) out h passed = tt
table_unopened texts name before after r (Err e) out h passed =
    subst (λ (v : Refusal). IsRefusedByTable texts name before after v) (sym passed.1)
    (of_unopened (IsRefusedByTable texts name before after) name before.unopened after.unopened r (λ shown is noted. (out, is, noted)) (λ kept. (kept, out)) h)

-- the states
pub states_unopened : {A : Type 0} (texts : Option Contents) (name : List ℕ) (before after : State) (r : Refusal) (answer : Result A Refusal)
    → after.out ≡ before.out → IsUnopened name before.unopened after.unopened r → IsErr answer × IsErrAnd answer (λ e. e ≡ r) → IfErr answer (λ e. IsRefusedByStates texts name before after e)
states_unopened texts name before after r (Ok x) out h passed = tt
states_unopened texts name before after r (Err e) out h passed =
    subst (λ (v : Refusal). IsRefusedByStates texts name before after v) (sym passed.1)
    (of_unopened (IsRefusedByStates texts name before after) name before.unopened after.unopened r (λ shown is noted. (out, is, noted)) (λ kept. (kept, out)) h)

-- the trace was read, and its view is not written
pub unwritten_or : {A : Type 0} (Q : Refusal → Type 0) (texts : Option Contents) (ran : Option ℕ) (name : List ℕ) (before after : State) (answer : Result A Refusal)
    → HasFailed before.out after.out → after.unopened ≡ before.unopened → IsTraceIn texts ran name → IsErr answer × IsErrAnd answer (λ e. e ≡ Write) → IfErr answer (λ e. IsRefused texts ran name before after e ⊎ Q e)
unwritten_or Q texts ran name before after (Ok x) failed same trace passed = tt
unwritten_or Q texts ran name before after (Err e) failed same trace passed = inl (subst (λ (v : Refusal). IsRefused texts ran name before after v) (sym passed.1) (failed, same, trace))

-- the trace is not read, with the table taken
pub unread_or : {A : Type 0} (Q : Refusal → Type 0) (texts : Option Contents) (ran : Option ℕ) (name shown : List ℕ) (text : Option (List ℕ)) (before after : State) (r : Refusal) (answer : Result A Refusal)
    → Opens texts name text → shown ≡ called name → IsUntouched before after → IsUnread text ran shown r → IsErr answer × IsErrAnd answer (λ e. e ≡ r)
    → IfErr answer (λ e. IsRefused texts ran name before after e ⊎ Q e)
unread_or Q texts ran name shown text before after r (Ok x) opens is same h passed = tt
unread_or Q texts ran name shown text before after r (Err e) opens is same h passed =
    inl (subst (λ (v : Refusal). IsRefused texts ran name before after v) (sym passed.1) (unread_in texts ran name shown text before after r opens is same h))

-- what was read to its end is the trace of that name
pub traced_in : (texts : Option Contents) (ran : Option ℕ) (name : List ℕ) (left : Option (List ℕ)) → Opens texts name left → IsTraceOf left ran → IsTraceIn texts ran name
traced_in None ran name left opens is = tt
traced_in (Some files) ran name None opens is = absurd opens
traced_in (Some files) ran name (Some bytes) opens (events, read, run) = (bytes, opens, events, read, run)
