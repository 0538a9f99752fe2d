-- The body with which a program is too long is found at its first word.
use Rattle.finding_laws.proofs.Prelude.{◌≡◌, ℕ, ◌+◌, ◌-◌, ◌<◌, ◌≤◌, Bool, cond, ◌∷◌, ◌++◌, Option, Some, Result, Ok, Err, ◌∙◌, sum_by, nat_lt, ltb-false, ltb-true, sum_by-cons, Costs, MOST_INSTRUCTIONS, PortRow, cost_of_body, cost_of_procedure, cost_of_process, body_of, process_of, program_of, Body, Procedure, Process, Program, all_words, declaration_words, kind_words, process_words, stack_body_words, words_of, kinds_hold, limits_hold, names_hold, periods_hold, length_wrongs, passing, wrongs_at}
use Rattle.std.proofs.Common.{arith, true, false, List, [], length, map, None, refl, sym, ap}
use Rattle.std.specs.List.{cons_option}
use Rattle.std.specs.Option.{option_map}
use Rattle.std.specs.Prelude.{codes, not}
use Rattle.std.proofs.lemmas.List.{append_assoc}
use Rattle.std.proofs.lemmas.List.Sums.{sum_by-append}
use Rattle.pal.specs.Costs.{cost_of_handler, costs_of}
use Rattle.pal.specs.ProcedureNames.{name_if_procedure, names_of_procedures, procedure_names}
use Rattle.pal.specs.declared.report.BodyCost.{BodyCost}
use Rattle.pal.specs.declared.report.BodyName.TheVariants as body
use Rattle.pal_laws.proofs.Extended.{Extends, declaration_extends, handler_extends, process_extends, stack_body_extends}
use Rattle.pal_meaning.specs.Grammar.{IsProgramOf, Word, handler_words, program_words}
use Rattle.pal_meaning.specs.Program as resolved
use Rattle.pal_meaning.specs.Resolve.{Entry, declared_entries, resolve, resolve_process, resolve_stack_body}
use Rattle.pal_meaning.specs.Syntax as written
use Rattle.pal_meaning.specs.WellFormed.{ByKind, ByLimit, ByName, ByPeriod, Refused, verdict}
use Rattle.finding_laws.proofs.OfBodies.{beginning_of, body_found}
use Rattle.finding_laws.proofs.Owners.{body_there}
use Rattle.source_findings.specs.Lengths.{left_at}
use Rattle.finding_laws.specs.Passed.{AreOfBodies, IsBodyAt}

-- ---- each body begins among the words of the program

abbrev StandIn : List Word → List Word → Type 0
StandIn ws all = (front : List Word) × (rest : List Word) × (all ≡ front ++ (ws ++ rest))

abbrev AllStandIn : List BodyCost → List Word → Type 0
AllStandIn [] all = Unit {0}
AllStandIn (b ∷ bs) all = StandIn (beginning_of b.name) all × AllStandIn bs all

both_stand : (xs ys : List BodyCost) (all : List Word) → AllStandIn xs all → AllStandIn ys all → AllStandIn (xs ++ ys) all
both_stand [] ys all h k = k
both_stand (x ∷ xs) ys all h k = (h.0, both_stand xs ys all h.1 k)

-- after the words of a thing
all_behind : {X : Type 0} (words : X → List Word → List Word) → Extends words → (x : X) (bs : List BodyCost) (rest : List Word) → AllStandIn bs rest → AllStandIn bs (words x rest)
all_behind words extends x [] rest h = tt
all_behind words extends x (b ∷ bs) rest h = ((words x [] ++ h.0.0, h.0.1, extends x [] rest ∙ ap (λ (ws : List Word). words x [] ++ ws) h.0.2 ∙ sym (append_assoc (words x []) h.0.0 _)), all_behind words extends x bs rest h.1)

all_behind_more : {X : Type 0} (words : X → List Word → List Word) → Extends words → (xs : List X) (bs : List BodyCost) (rest : List Word) → AllStandIn bs rest → AllStandIn bs (all_words words xs rest)
all_behind_more words extends [] bs rest h = h
all_behind_more words extends (x ∷ xs) bs rest h = all_behind words extends x bs (all_words words xs rest) (all_behind_more words extends xs bs rest h)

handler_stands : (costs : Costs) (f : written.StackBody → resolved.Body) (code : Option Body) (handler : Option written.StackBody) (rest : List Word)
    → option_map body_of code ≡ option_map f handler → AllStandIn (cost_of_handler costs code) (handler_words handler rest)
handler_stands costs f None handler rest same = tt
handler_stands costs f (Some b) None rest same = let k : Some (body_of b) ≡ None = same in cc
handler_stands costs f (Some b) (Some h) rest same = (([], _, refl), tt)

-- the name of the first process of a list, and the processes after it
first_name : List ℕ → List resolved.Process → List ℕ
first_name other [] = other
first_name other (p ∷ ps) = p.name

but_first : List resolved.Process → List resolved.Process
but_first [] = []
but_first (p ∷ ps) = ps

processes_stand : (costs : Costs) (declared : List Entry) (code : List Process) (processes : List written.Process) (rest : List Word)
    → map process_of code ≡ map (resolve_process declared) processes → AllStandIn (map (cost_of_process costs) code) (all_words process_words processes rest)
unfolding first_name but_first
processes_stand costs declared [] processes rest same = tt
processes_stand costs declared (p ∷ ps) [] rest same = let k : process_of p ∷ map process_of ps ≡ [] = same in cc
processes_stand costs declared (p ∷ ps) (w ∷ ws) rest same =
    let name : p.name ≡ w.name = ap (first_name p.name) same in (
      ([], _, ap (λ n. process_words (record w { name = n }) (all_words process_words ws rest)) (sym name)),
      all_behind process_words process_extends w _ _ (processes_stand costs declared ps ws rest (ap but_first same)),
    )

first_in : List ℕ → List (List ℕ) → List ℕ
first_in other [] = other
first_in other (name ∷ names) = name

rest_in : List (List ℕ) → List (List ℕ)
rest_in [] = []
rest_in (name ∷ names) = names

procedure_stands : (costs : Costs) (code : List Procedure) (name : List ℕ) (kind : written.Kind) (names : List (List ℕ)) (rest : List Word)
    → names_of_procedures code ≡ cons_option (name_if_procedure name kind) names
    → ((more : List Procedure) → names_of_procedures more ≡ names → AllStandIn (map (cost_of_procedure costs) more) rest)
    → AllStandIn (map (cost_of_procedure costs) code) (kind_words name kind rest)
unfolding first_in rest_in
procedure_stands costs code name (written.Procedure parameters b) names rest same later = by code same
  where
    by : (code : List Procedure) → names_of_procedures code ≡ name ∷ names → AllStandIn (map (cost_of_procedure costs) code) (kind_words name (written.Procedure parameters b) rest)
    by [] same = tt
    by (p ∷ ps) same = (
      ([], _, ap (λ n. kind_words n (written.Procedure parameters b) rest) (sym (ap (first_in name) same))),
      all_behind declaration_words declaration_extends (record { name = name; kind = written.Procedure parameters b }) _ rest (later ps (ap rest_in same)),
    )
procedure_stands costs code name kind names rest same later = all_behind declaration_words declaration_extends (record { name = name; kind = kind }) _ rest (later code same)

procedures_stand : (costs : Costs) (code : List Procedure) (declarations : List written.Declaration) (rest : List Word)
    → names_of_procedures code ≡ procedure_names declarations → AllStandIn (map (cost_of_procedure costs) code) (all_words declaration_words declarations rest)
procedures_stand costs [] [] rest same = tt
procedures_stand costs (p ∷ ps) [] rest same = let k : p.name ∷ names_of_procedures ps ≡ [] = same in cc
procedures_stand costs code (d ∷ ds) rest same =
    procedure_stands costs code d.name d.kind (procedure_names ds) (all_words declaration_words ds rest) same (λ more is. procedures_stand costs more ds rest is)

bodies_stand : (costs : Costs) (ports : List PortRow) (tree : written.Program) (p : Program) → resolve ports tree ≡ program_of p → names_of_procedures p.procedures.items ≡ procedure_names tree.declarations
    → AllStandIn (costs_of costs p) (program_words tree)
unfolding program_words
bodies_stand costs ports tree p is named =
    let declared = declared_entries ports tree in
    let of_handler : List BodyCost = cost_of_handler costs p.handler in
    let of_processes : List BodyCost = map (cost_of_process costs) p.processes.items in
    let behind_init : List Word = handler_words tree.handler (all_words process_words tree.processes []) in
    let handler : AllStandIn of_handler behind_init = handler_stands costs (resolve_stack_body declared) p.handler tree.handler _ (sym (ap (λ (r : resolved.Program). r.handler) is)) in
    let processes : AllStandIn of_processes behind_init =
    all_behind handler_words handler_extends tree.handler _ _ (processes_stand costs declared p.processes.items tree.processes [] (sym (ap (λ (r : resolved.Program). r.processes) is))) in
    let others : AllStandIn (of_handler ++ of_processes) behind_init = both_stand of_handler of_processes behind_init handler processes in
    let from_init : List Word = stack_body_words (codes "init") tree.init behind_init in
    let init : AllStandIn (cost_of_body costs body.Init p.init ∷ (of_handler ++ of_processes)) from_init =
    (([], _, refl), all_behind (stack_body_words (codes "init")) (stack_body_extends (codes "init")) tree.init _ _ others) in
    both_stand (cost_of_body costs body.Init p.init ∷ (of_handler ++ of_processes)) (map (cost_of_procedure costs) p.procedures.items) _
    (all_behind_more declaration_words declaration_extends tree.declarations (cost_of_body costs body.Init p.init ∷ (of_handler ++ of_processes)) from_init init)
    (procedures_stand costs p.procedures.items tree.declarations from_init named)

-- ---- the body with which the limit is passed

body_placed : (text : List ℕ) (tree : written.Program) (b : BodyCost) → words_of text ≡ program_words tree → StandIn (beginning_of b.name) (program_words tree) → IsBodyAt text tree (left_at text b.name) b.name
body_placed text tree b whole stands =
    let found = body_found text b.name stands.0 stands.1 (whole ∙ stands.2) in
    record { number = found.0; place = ap length found.1; words = body_there text tree found.0 b.name found.2 whole found.3 }

passed_at : (text : List ℕ) (tree : written.Program) (all before bodies : List BodyCost) (most : ℕ) → all ≡ before ++ bodies → most + sum_by (λ (b : BodyCost). b.instructions) before ≡ MOST_INSTRUCTIONS → words_of text ≡ program_words tree
    → AllStandIn bodies (program_words tree) → AreOfBodies text tree all (wrongs_at text all (passing most bodies))
passed_at text tree all before [] most parts left whole stand = tt
passed_at text tree all before (b ∷ bs) most parts left whole stand = by (nat_lt most b.instructions) refl
    (λ few. passed_at text tree all (before ++ b ∷ []) bs (most - b.instructions) (parts ∙ sym (append_assoc before (b ∷ []) bs))
    (omega (arith, left, few, sum_by-append (λ (b : BodyCost). b.instructions) before (b ∷ []), sum_by-cons (λ (b : BodyCost). b.instructions) b [])) whole stand.1)
  where
    by : (t : Bool) → nat_lt most b.instructions ≡ t → (b.instructions ≤ most → AreOfBodies text tree all (wrongs_at text all (passing (most - b.instructions) bs)))
        → AreOfBodies text tree all (wrongs_at text all (cond t (Some b) (passing (most - b.instructions) bs)))
    by true is later =
        let above : most < b.instructions = ltb-true most b.instructions is in
        ((b, record { before = before; after = bs; parts = parts; few = omega (arith, left); many = omega (arith, left, above) }, body_placed text tree b whole stand.0, refl), tt)
    by false is later = later (ltb-false most b.instructions is)

-- ---- a program that is accepted

program_in : resolved.Program → Result resolved.Program Refused → resolved.Program
program_in other (Ok p) = p
program_in other (Err e) = other

is_resolved : (ports : List PortRow) (period : ℕ) (tree : written.Program) (p : resolved.Program) → verdict ports period tree ≡ Ok p → resolve ports tree ≡ p
unfolding program_in
is_resolved ports period tree p is = by (names_hold ports tree) (kinds_hold ports tree) (limits_hold ports tree) (periods_hold period tree) is
  where
    by : (n k l t : Bool)
        → (cond (not n) (Err ByName) (cond (not k) (Err ByKind) (cond (not l) (Err ByLimit) (cond (not t) (Err ByPeriod) (Ok (resolve ports tree)))))) ≡ Ok p → resolve ports tree ≡ p
    by true true true true h = ap (program_in p) h
    by false k l t h = let k : Err ByName ≡ Ok p = h in cc
    by true false l t h = let k : Err ByKind ≡ Ok p = h in cc
    by true true false t h = let k : Err ByLimit ≡ Ok p = h in cc
    by true true true false h = let k : Err ByPeriod ≡ Ok p = h in cc

pub lengths_placed : (costs : Costs) (ports : List PortRow) (period : ℕ) (text : List ℕ) (tree : written.Program) (p : Program) → IsProgramOf text tree → verdict ports period tree ≡ Ok (program_of p)
    → names_of_procedures p.procedures.items ≡ procedure_names tree.declarations → AreOfBodies text tree (costs_of costs p) (length_wrongs text (costs_of costs p))
lengths_placed costs ports period text tree p is judged named =
    let stand = bodies_stand costs ports tree p (is_resolved ports period tree (program_of p) judged) named in
    passed_at text tree (costs_of costs p) [] (costs_of costs p) MOST_INSTRUCTIONS refl (omega arith) is.1.1 stand
