-- The length of a program: a body is found whenever there are more instructions than there may be.
use Rattle.finding_laws.proofs.Prelude.{◌≡◌, ◌<◌, ℕ, ◌+◌, ◌-◌, Bool, cond, ◌∷◌, ◌++◌, Option, Some, ◌∙◌, ◌≤◌, inr, sum_by, nat_le, nat_lt, ltb-false, ltb-true, leb_tells, sum_by-cons, Costs, MOST_INSTRUCTIONS, cost_of_body, cost_of_procedure, cost_of_process, body_of, process_of, program_of, Body, Procedure, Process, Program, has_none, length_wrongs, passing, wrongs_at}
use Rattle.std.proofs.Common.{true, false, List, [], map, None, refl, sym, arith, inl}
use Rattle.std.specs.Option.{option_map}
use Rattle.pal.specs.Costs.{cost_of_handler, costs_of}
use Rattle.pal.specs.declared.report.BodyCost.{BodyCost}
use Rattle.pal.specs.declared.report.BodyName.TheVariants as name
use Rattle.pal_base.specs.ProgramView.{procedure_of}
use Rattle.pal_meaning.specs.Program.{size_of, size_of_handler, size_of_procedure, size_of_process}

abbrev total : List BodyCost → ℕ
total [] = 0
total (b ∷ bs) = b.instructions + total bs

total_append : (xs ys : List BodyCost) → total (xs ++ ys) ≡ total xs + total ys
total_append [] ys = omega arith
total_append (x ∷ xs) ys = omega (arith, total_append xs ys)

handler_total : (costs : Costs) (handler : Option Body) → total (cost_of_handler costs handler) ≡ size_of_handler (option_map body_of handler)
handler_total costs None = refl
handler_total costs (Some b) = omega arith

processes_total : (costs : Costs) (ps : List Process) → total (map (cost_of_process costs) ps) ≡ sum_by size_of_process (map process_of ps)
processes_total costs [] = refl
processes_total costs (p ∷ ps) = omega (arith, sum_by-cons size_of_process (process_of p) (map process_of ps), processes_total costs ps)

procedures_total : (costs : Costs) (ps : List Procedure) → total (map (cost_of_procedure costs) ps) ≡ sum_by size_of_procedure (map procedure_of ps)
procedures_total costs [] = refl
procedures_total costs (p ∷ ps) = omega (arith, sum_by-cons size_of_procedure (procedure_of p) (map procedure_of ps), procedures_total costs ps)

all_of : (x : BodyCost) (xs ys zs : List BodyCost) → total (x ∷ ((xs ++ ys) ++ zs)) ≡ x.instructions + total xs + total ys + total zs
all_of x xs ys zs = omega (arith, total_append (xs ++ ys) zs, total_append xs ys)

-- the instructions of the bodies are those of the program
program_total : (costs : Costs) (p : Program) → total (costs_of costs p) ≡ size_of (program_of p)
program_total costs p =
    all_of (cost_of_body costs name.Init p.init) (cost_of_handler costs p.handler) (map (cost_of_process costs) p.processes.items) (map (cost_of_procedure costs) p.procedures.items)
    ∙ omega (arith, handler_total costs p.handler, processes_total costs p.processes.items, procedures_total costs p.procedures.items)

-- at some body, the instructions so far are more than `most`
passed : (text : List ℕ) (all bodies : List BodyCost) (most : ℕ) → most < total bodies → has_none (wrongs_at text all (passing most bodies)) ≡ false
passed text all [] most above = absurd (omega (arith, above))
passed text all (b ∷ bs) most above = by (nat_lt most b.instructions) refl (λ h. passed text all bs (most - b.instructions) h)
  where
    by : (is : Bool) → nat_lt most b.instructions ≡ is → (most - b.instructions < total bs → has_none (wrongs_at text all (passing (most - b.instructions) bs)) ≡ false)
        → has_none (wrongs_at text all (cond is (Some b) (passing (most - b.instructions) bs))) ≡ false
    by true e later = refl
    by false e later = let few : b.instructions ≤ most = ltb-false most b.instructions e in later (omega (arith, above, few))

-- with none of them, if there are no more in all
not_passed : (text : List ℕ) (all bodies : List BodyCost) (most : ℕ) → total bodies ≤ most → has_none (wrongs_at text all (passing most bodies)) ≡ true
not_passed text all [] most few = refl
not_passed text all (b ∷ bs) most few = by (nat_lt most b.instructions) refl (not_passed text all bs (most - b.instructions) (omega (arith, few)))
  where
    by : (is : Bool) → nat_lt most b.instructions ≡ is → has_none (wrongs_at text all (passing (most - b.instructions) bs)) ≡ true → has_none (wrongs_at text all (cond is (Some b) (passing (most - b.instructions) bs))) ≡ true
    by true e later = absurd (omega (arith, few, ltb-true most b.instructions e))
    by false e later = later

pub length_found : (costs : Costs) (text : List ℕ) (p : Program) → nat_le (size_of (program_of p)) MOST_INSTRUCTIONS ≡ has_none (length_wrongs text (costs_of costs p))
length_found costs text p =
    let all : total (costs_of costs p) ≡ size_of (program_of p) = program_total costs p in
    elim (leb_tells (size_of (program_of p)) MOST_INSTRUCTIONS) [
      | inl t ↦ t.0 ∙ sym (not_passed text (costs_of costs p) (costs_of costs p) MOST_INSTRUCTIONS (omega (arith, t.1, all)))
      | inr f ↦ f.0 ∙ sym (passed text (costs_of costs p) (costs_of costs p) MOST_INSTRUCTIONS (omega (arith, f.1, all)))
    ]
