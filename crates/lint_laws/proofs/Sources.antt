-- Where no call in bodies passes a test of lint, the calls of the resolved bodies give numbers that fit.
use Rattle.std.proofs.Common.{◌≡◌, ℕ, ℤ, Bool, true, false, List, [], ◌∷◌, ◌++◌, Option, None, sym, ◌∙◌}
use Rattle.std.specs.Prelude.{◌&&◌, filter_map}
use Rattle.std.specs.List.{list_all, list_any, AllByRecursion}
use Rattle.std.proofs.lemmas.Bool.{and_parts, or_parts}
use Rattle.std.proofs.lemmas.List.Folds.{list_any-append}
use Rattle.apex_types.specs.ServiceShape.{arguments_of}
use Rattle.apex_types.specs.declared.service.Service.{Service}
use Rattle.pal_meaning.specs.Program.{Procedure}
use Rattle.pal_meaning.specs.Resolve.{Entry, Scope, own_entries, procedure_of, resolve_arguments, resolve_block, resolve_body_block, resolve_stmt, scope_of}
use Rattle.pal_meaning.specs.Syntax as written
use Rattle.pal_meaning.specs.WellFormed.{fits_arguments, fits_block, fits_stmt, holds_of_procedure, kinds_hold_in_body}
use Rattle.lint.specs.Calls.{Call, left_by, calls_behind, calls_in, calls_of, calls_of_kind, calls_of_procedures}
use Rattle.lint.specs.Mentions.{Mention, mentions_of}
use Rattle.lint.specs.Plain.{first_of, plains}
use Rattle.lint.specs.Uses.{Created, id_of}
use Rattle.lint.specs.Uses as uses
use Rattle.lint_laws.specs.Numbers.{CallFits, StmtFits, BlockFits}

-- the scope of a body with these parameters and locals
abbrev pub scope_with : List Entry → List (List ℕ) → Scope
scope_with declared names = scope_of (own_entries 0 names) declared

-- none of some calls and others
pub none_of_both : (test : Call → Bool) (a b : List Call) → list_any test (a ++ b) ≡ false → (list_any test a ≡ false) × (list_any test b ≡ false)
none_of_both test a b h = or_parts (list_any test a) (list_any test b) (sym (list_any-append test a b) ∙ h)

-- Where a call of a well formed program does not pass the test, it gives a number that fits.
abbrev pub AtCalls : (Service → Bool) → (ℤ → Type 0) → (Call → Bool) → List Entry → Type 0
AtCalls wanted Fits test declared =
    (names : List (List ℕ)) (own : uses.Scope) (created : Option Created) (s : Service) (es : written.Exprs) → fits_arguments (scope_with declared names) (arguments_of s) es ≡ true
    → test (record { service = s; arguments = plains es; id = id_of own created (first_of (plains es)) }) ≡ false → CallFits (wanted s) Fits (resolve_arguments (scope_with declared names) (arguments_of s) es)

module _ (wanted : Service → Bool) (Fits : ℤ → Type 0) (test : Call → Bool) (declared : List Entry) (at_calls : AtCalls wanted Fits test declared) where
  module _ (names : List (List ℕ)) (own : uses.Scope) where
    mutual
      block_fits : (returns : Bool) (created : Option Created) (b : written.Block) → fits_block (scope_with declared names) returns b ≡ true → list_any test (calls_behind own created b) ≡ false → BlockFits wanted Fits (resolve_block (scope_with declared names) b)
      block_fits returns created written.NoStmt k h = tt
      block_fits returns created (written.MoreStmts s rest) k h =
          let kinds = and_parts (fits_stmt (scope_with declared names) returns s) (fits_block (scope_with declared names) returns rest) k in
          let parts = none_of_both test (calls_in own created s) (calls_behind own (left_by created s) rest) h in
          (stmt_fits returns created s kinds.0 parts.0, block_fits returns (left_by created s) rest kinds.1 parts.1)

      stmt_fits : (returns : Bool) (created : Option Created) (s : written.Stmt) → fits_stmt (scope_with declared names) returns s ≡ true → list_any test (calls_in own created s) ≡ false → StmtFits wanted Fits (resolve_stmt (scope_with declared names) s)
      stmt_fits returns created (written.Assign target value) k h = tt
      stmt_fits returns created (written.AssignElement array index value) k h = tt
      stmt_fits returns created (written.If condition block) k h = block_fits returns None block (and_parts _ (fits_block (scope_with declared names) returns block) k).1 h
      stmt_fits returns created (written.IfElse condition block other) k h =
          let both = and_parts (fits_block (scope_with declared names) returns block) (fits_block (scope_with declared names) returns other) (and_parts _ (fits_block (scope_with declared names) returns block && fits_block (scope_with declared names) returns other) k).1 in
          let parts = none_of_both test (calls_behind own None block) (calls_behind own None other) h in
          (block_fits returns None block both.0 parts.0, block_fits returns None other both.1 parts.1)
      stmt_fits returns created (written.While condition block) k h = block_fits returns None block (and_parts _ (fits_block (scope_with declared names) returns block) k).1 h
      stmt_fits returns created (written.Work ticks) k h = tt
      stmt_fits returns created (written.Return value) k h = tt
      stmt_fits returns created (written.CallService s arguments targets) k h =
          at_calls names own created s arguments (and_parts (fits_arguments (scope_with declared names) (arguments_of s) arguments) _ k).0 (or_parts (test (record { service = s; arguments = plains arguments; id = id_of own created (first_of (plains arguments)) })) false h).0

  pub body_fits : (done : List Mention) (returns : Bool) (parameters : List (List ℕ)) (b : written.Body) → kinds_hold_in_body declared returns parameters b ≡ true → list_any test (calls_of done parameters b) ≡ false → BlockFits wanted Fits (resolve_body_block declared parameters b)
  body_fits done returns parameters b k h =
      block_fits (parameters ++ b.locals) (record { parameters = parameters; locals = b.locals; own = mentions_of b; program = done }) returns None b.block k h

  -- ---- procedures

  abbrev resolved : List written.Declaration → List Procedure
  resolved ds = filter_map (λ d. procedure_of declared d.kind) ds

  abbrev ProcedureFits : Procedure → Type 0
  ProcedureFits p = BlockFits wanted Fits p.block

  declaration_fits : (done : List Mention) (name : List ℕ) (k : written.Kind) (ds : List written.Declaration) → holds_of_procedure (kinds_hold_in_body declared) k ≡ true → list_any test (calls_of_kind done k) ≡ false → AllByRecursion ProcedureFits (resolved ds)
      → AllByRecursion ProcedureFits (resolved (record { name = name; kind = k } ∷ ds))
  declaration_fits done name (written.Procedure parameters body) ds k h rest = (body_fits done true parameters body k h, rest)
  declaration_fits done name (written.Variable value) ds k h rest = rest
  declaration_fits done name (written.Array size values) ds k h rest = rest
  declaration_fits done name (written.Semaphore first maximum discipline) ds k h rest = rest
  declaration_fits done name written.Event ds k h rest = rest
  declaration_fits done name (written.Buffer words messages discipline) ds k h rest = rest
  declaration_fits done name (written.Blackboard words) ds k h rest = rest
  declaration_fits done name written.Port ds k h rest = rest

  pub procedures_fit : (done : List Mention) (ds : List written.Declaration) → list_all (λ d. holds_of_procedure (kinds_hold_in_body declared) d.kind) ds ≡ true → list_any test (calls_of_procedures done ds) ≡ false → AllByRecursion ProcedureFits (resolved ds)
  procedures_fit done [] k h = tt
  procedures_fit done (d ∷ ds) k h =
      let kinds = and_parts (holds_of_procedure (kinds_hold_in_body declared) d.kind) _ k in
      let parts = none_of_both test (calls_of_kind done d.kind) (calls_of_procedures done ds) h in
      declaration_fits done d.name d.kind ds kinds.0 parts.0 (procedures_fit done ds kinds.1 parts.1)
