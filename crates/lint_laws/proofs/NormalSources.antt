-- Where it is found that INIT does not enter NORMAL, no call in INIT or in a procedure of the program sets it.
use Rattle.std.proofs.Common.{◌≡◌, ℕ, Bool, true, false, nat_abs, List, [], ◌++◌, Option, Some, None, ap, refl, sym, ◌∙◌}
use Rattle.std.specs.Prelude.{◌&&◌, bytes_eq, if◌then◌else◌}
use Rattle.std.specs.List.{list_all, list_any}
use Rattle.std.proofs.lemmas.Bool.{and_parts, eqb-false, false≢true}
use Rattle.apex_types.specs.ServiceShape.{arguments_of}
use Rattle.apex_types.specs.declared.row.PortRow.{PortRow}
use Rattle.apex_types.specs.declared.service.Service.TheVariants as service
use Rattle.pal_meaning.specs.Resolve.{Entry, Scope, declared_entries, resolve, resolve_arguments}
use Rattle.pal_meaning.specs.Syntax as written
use Rattle.pal_meaning.specs.WellFormed.{holds_of_handler, holds_of_procedure, kinds_hold, kinds_hold_in_body}
use Rattle.lint.specs.Calls.{calls_of_init, calls_of_procedures, done_in}
use Rattle.lint.specs.Mentions.{Object, Failure}
use Rattle.lint.specs.Plain.{plain, plains, first_of}
use Rattle.lint.specs.Lives.{NormalMode, meets}
use Rattle.lint.specs.Uses.{Always, Created, Named, Never, Standing, Unseen, Varies, id_of, id_of_variable, last_created, may_be_number, standing}
use Rattle.lint.specs.Uses as uses
use Rattle.lint_laws.specs.NormalMode.{sets_mode, IsNotNormal, NeverSetsNormal}
use Rattle.lint_laws.specs.Numbers.{IsNumber}
use Rattle.lint_laws.proofs.Sources.{AtCalls, none_of_both, body_fits, procedures_fit}

-- ---- a call

-- a variable may mean any number
variable_may : (s : Standing) (created : Option Created) (name : List ℕ) → may_be_number 3 (id_of_variable s created name) ≡ true
variable_may Never created name = refl
variable_may (Always (Object kind text)) created name = refl
variable_may (Always Failure) created name = refl
variable_may Varies None name = refl
variable_may Varies (Some c) name = seen (bytes_eq c.variable name)
  where
    seen : (b : Bool) → may_be_number 3 (if b then Named c.kind c.object else Unseen) ≡ true
    seen true = refl
    seen false = refl

module _ (scope : Scope) (own : uses.Scope) (created : Option Created) where
  number_other : (e : written.Expr) (es : written.Exprs) → may_be_number 3 (id_of own created (Some (plain e))) ≡ false
      → IsNumber IsNotNormal (resolve_arguments scope (arguments_of service.SetPartitionMode) (written.MoreExprs e es))
  number_other (written.Number (Some n)) es h = λ k. eqb-false n 3 h (ap nat_abs k)
  number_other (written.Number None) es h = absurd (cc)
  number_other (written.Name name) es h = absurd (false≢true (sym h ∙ variable_may (standing own name) created name))
  number_other (written.Element array index) es h = absurd (cc)
  number_other (written.Apply procedure arguments) es h = absurd (cc)
  number_other (written.Parenthesis inside) es h = absurd (cc)
  number_other (written.Unary operator operand) es h = absurd (cc)
  number_other (written.Chain first rest) es h = absurd (cc)

  argument_other : (es : written.Exprs) → may_be_number 3 (id_of own created (first_of (plains es))) ≡ false → IsNumber IsNotNormal (resolve_arguments scope (arguments_of service.SetPartitionMode) es)
  argument_other written.NoExpr h = absurd (cc)
  argument_other (written.MoreExprs e es) h = number_other e es h

calls_other : (declared : List Entry) → AtCalls sets_mode IsNotNormal (meets NormalMode) declared
calls_other declared names own created service.SetPartitionMode es k h = argument_other _ own created es h
calls_other declared names own created s es k h = tt

-- ---- a program

pub never_sets : (ports : List PortRow) (tree : written.Program) → kinds_hold ports tree ≡ true → list_any (meets NormalMode) (calls_of_init tree ++ calls_of_procedures (done_in tree) tree.declarations) ≡ false → NeverSetsNormal (resolve ports tree)
never_sets ports tree kinds none =
    let declared = declared_entries ports tree in
    let test = kinds_hold_in_body declared in
    let parts = none_of_both (meets NormalMode) (calls_of_init tree) (calls_of_procedures (done_in tree) tree.declarations) none in
    let all = and_parts (test false [] tree.init.body && holds_of_handler test tree.handler && list_all (λ q. test false [] q.body) tree.processes) (list_all (λ d. holds_of_procedure test d.kind) tree.declarations) kinds in
    let three = and_parts (test false [] tree.init.body && holds_of_handler test tree.handler) (list_all (λ q. test false [] q.body) tree.processes) all.0 in
    let two = and_parts (test false [] tree.init.body) (holds_of_handler test tree.handler) three.0 in
    record {
      init = body_fits sets_mode IsNotNormal (meets NormalMode) declared (calls_other declared) (done_in tree) false [] tree.init.body two.0 parts.0;
      procedures = procedures_fit sets_mode IsNotNormal (meets NormalMode) declared (calls_other declared) (done_in tree) tree.declarations all.1 parts.1;
    }
