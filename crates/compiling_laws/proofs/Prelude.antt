-- What several files of the proofs import.
pub use Rattle.apex_types.specs.Costs.{cost_of_binary}
pub use Rattle.apex_types.specs.NameText.{is_name}
pub use Rattle.apex_types.specs.ServiceShape.{answer_words, argument_words, arguments_of, cost_of_service, number_of}
pub use Rattle.apex_types.specs.Versions.{third_limits}
pub use Rattle.apex_types.specs.declared.cost.Costs.{Costs}
pub use Rattle.apex_types.specs.declared.denotation.Denotation.{Denotation}
pub use Rattle.apex_types.specs.declared.identity.Runner.{Runner}
pub use Rattle.apex_types.specs.declared.instruction.BinaryOperator.{BinaryOperator}
pub use Rattle.apex_types.specs.declared.instruction.Instr.{Instr}
pub use Rattle.apex_types.specs.declared.limits.TheConstants.{LEAST_STACK_WORDS, MOST_INSTRUCTIONS, MOST_LOCALS, MOST_PARAMETERS, MOST_PROCEDURES, MOST_PROCESSES, MOST_STACK_WORDS, MOST_WORK_TICKS}
pub use Rattle.apex_types.specs.declared.place.Place.{Place}
pub use Rattle.apex_types.specs.declared.place.Place.TheVariants.{Data, Slot}
pub use Rattle.apex_types.specs.declared.row.PortRow.{PortRow}
pub use Rattle.apex_types.specs.declared.row.RoutineRow.{RoutineRow}
pub use Rattle.apex_types.specs.declared.service.Service.{Service}
pub use Rattle.apex_types.specs.declared.shape.ArgumentKind.{ArgumentKind}
pub use Rattle.compiling_laws.specs.CompiledCode.{block_code, body_code, body_row, code_of, expr_code, exprs_code, handler_code, handler_place, links_code, procedure_code, procedures_code, procedures_place, process_rows, processes_code, processes_place, routine_row, routine_rows, section_of, slots_of, stmt_code, store}
pub use Rattle.compiling_laws.specs.Fits.{ArePlacesWithin, Fits, FitsBlock, FitsBody, FitsExpr, FitsExprs, FitsHandler, FitsLinks, FitsProcedure, FitsStmt, HasParameters, IsPlaceWithin, IsWork, count_of}
pub use Rattle.compiling_laws.specs.Related.{Code, Goes, HasAt, Keeps, Laid, Limits, below, calls_of, onto, saved}
pub use Rattle.engine_meaning.specs.Engine.{Asks, Ticked}
pub use Rattle.engine_meaning.specs.Operators.{put_words}
pub use Rattle.engine_meaning.specs.Simulates.{Simulates}
pub use Rattle.machine_meaning.proofs.Beside.{each_beside}
pub use Rattle.machine_meaning.specs.MachineControl.{popped, pushed, word}
pub use Rattle.pal_meaning.specs.BodyCosts.{costs_of_block, costs_of_body, costs_of_expr, costs_of_exprs, costs_of_links, costs_of_procedure, costs_of_stmt}
pub use Rattle.pal_meaning.specs.Grammar.{words_of}
pub use Rattle.pal_meaning.specs.Program.{Apply, Assign, AssignElement, Block, Body, CallService, Chain, Element, Expr, Exprs, If, IfElse, Links, Literal, MoreExprs, MoreLinks, MoreStmts, NoExpr, NoLink, NoStmt, Procedure, Process, Program, Read, Return, Stmt, Unary, While, Work, operands_of_block, operands_of_expr, operands_of_exprs, operands_of_links, operands_of_stmt, size_of, size_of_block, size_of_body, size_of_expr, size_of_exprs, size_of_handler, size_of_links, size_of_procedure, size_of_process, size_of_stmt}
pub use Rattle.pal_meaning.specs.Resolve.{Counts, Entry, Scope, after, count_within, counted, declaration_entries, find, no_counts, own_entries, place_of, procedure_of, process_entries, resolve, resolve_argument, resolve_arguments, resolve_block, resolve_body, resolve_body_block, resolve_expr, resolve_exprs, resolve_links, resolve_process, resolve_stack_body, resolve_stmt, scope_of, within}
pub use Rattle.pal_meaning.specs.SourceControl.{Ask, Choose, ChooseElse, Do, EndBody, Evaluate, Execute, Front, Open, OperateOne, OperateTwo, Part, ReadElement, Repeat, ReturnValue, Simple, Value, WriteElement, WriteScalar, block_then, cost_of_simple, exprs_then, front_of, front_of_expr, front_of_exprs, front_of_stmt, links_then, parts_of_body, parts_of_procedure, taken, targets_then}
pub use Rattle.pal_meaning.specs.WellFormed.{is_between, keeps_counts, keeps_declaration, keeps_handler, keeps_kind, keeps_process, keeps_stack_body, limits_hold, names_hold, periods_hold, verdict}
pub use Rattle.std.proofs.Common.{Bool, List, None, Ok, Option, Some, ap, append_assoc, cond, drop, false, length, length-append, map, max, nat_eq, pos, refl, replicate, reverse, subst, suc, sym, take, true, ℕ, ℤ, ◌*◌, ◌++◌, ◌+◌, ◌-◌, ◌<◌, ◌^◌, ◌∙◌, ◌∷◌, ◌≡◌, ◌≤◌}
pub use Rattle.std.proofs.lemmas.Bool.{and_parts, cond-true, cond_both, eqb-true, le-leb, leb-true, lt-ltb}
pub use Rattle.std.proofs.lemmas.List.{length-map, length-replicate}
pub use Rattle.std.proofs.lemmas.List.Sums.{sum_by-cons}
pub use Rattle.std.specs.Int.{w64}
pub use Rattle.std.specs.List.{All, AllByRecursion, cons_option, list_all, sum_by}
pub use Rattle.std.specs.Prelude.{FitsSigned, bytes_eq, filter_map, nat_le, nat_lt, option_map, slice_get, slice_set, unwrap_or}
