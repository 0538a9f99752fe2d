-- What was read is what the words ask for.
use Rattle.std.proofs.Common.{◌≡◌, ◌⊎◌, inl, inr, ℕ, List, length, Option, Some, None, sym, ap, subst, ◌∙◌, arith, string_bytes}
use Rattle.command_words.specs.Found.{Entered}
use Rattle.streams.specs.Contents.{Contents}
use Rattle.view_command.specs.Answers.{AreTracesIn}
use Rattle.view_command.specs.Orders.{IsAsked, IsDiff, IsDump, IsOfBoth, asked_text, number_of, other_of, ran_of, table_of, trace_of}
use Rattle.view_command.specs.Texts.{AreStatesAsked, IsTableAsked, IsTraceIn}
use Rattle.view_command.specs.declared.comparing.Pair.{Pair}
use Rattle.view_command.specs.declared.request.Showing.{Showing}

-- ---- a command has one name

dump_is_of_one : (entered : Entered) → IsDump entered → IsOfBoth entered → ⊥
dump_is_of_one None dump both = dump
dump_is_of_one (Some e) dump both = let h : 3 ≡ 7 = ap length (sym dump ∙ both) in omega (arith, h)

diff_is_no_summary : (entered : Entered) → IsDiff entered → IsOfBoth entered → ⊥
diff_is_no_summary None diff both = diff
diff_is_no_summary (Some e) diff both = let h : 4 ≡ 7 = ap length (sym diff ∙ both) in omega (arith, h)

-- ---- the trace and the table

trace_asked : (texts : Option Contents) (entered : Entered) (showing : Showing) → IsAsked entered showing → IsTraceIn texts (number_of showing.ran) (string_bytes showing.trace) → IsTraceIn texts (ran_of entered) (trace_of entered)
trace_asked texts entered showing (single, trace, table, ticks, names, states) read =
    subst (λ (n : List ℕ). IsTraceIn texts (ran_of entered) n) trace (subst (λ (k : Option ℕ). IsTraceIn texts k (string_bytes showing.trace)) ticks.run read)

table_asked : (texts : Option Contents) (entered : Entered) (showing : Showing) → IsAsked entered showing → IsTableAsked texts (asked_text showing.table) → IsTableAsked texts (table_of entered)
table_asked texts entered showing (single, trace, table, ticks, names, states) known = subst (λ (n : Option (List ℕ)). IsTableAsked texts n) table known

pub view_read : (texts : Option Contents) (entered : Entered) (showing : Showing) → IsAsked entered showing → (IsOfBoth entered → ⊥) → IsTraceIn texts (number_of showing.ran) (string_bytes showing.trace) → IsTableAsked texts (asked_text showing.table)
    → AreStatesAsked texts (asked_text showing.states) → AreTracesIn texts entered
view_read texts entered showing asked single read table states = (
  λ diff. absurd (asked.0 diff),
  λ none. (trace_asked texts entered showing asked read, table_asked texts entered showing asked table, inr (inr (subst (λ (n : Option (List ℕ)). AreStatesAsked texts n) asked.5 states))),
  λ both. absurd (single both),
)

pub dump_read : (texts : Option Contents) (entered : Entered) (showing : Showing) → IsDump entered × IsAsked entered showing → IsTraceIn texts (number_of showing.ran) (string_bytes showing.trace) → IsTableAsked texts (asked_text showing.table)
    → AreTracesIn texts entered
dump_read texts entered showing (dump, asked) read table = (
  λ diff. absurd (asked.0 diff),
  λ none. (trace_asked texts entered showing asked read, table_asked texts entered showing asked table, inl dump),
  λ both. absurd (dump_is_of_one entered dump both),
)

pub pair_read : (texts : Option Contents) (entered : Entered) (pair : Pair) → IsDiff entered × (string_bytes pair.first ≡ trace_of entered) × (string_bytes pair.second ≡ other_of entered) × (asked_text pair.table ≡ table_of entered)
    → IsTraceIn texts None (string_bytes pair.first) → IsTraceIn texts None (string_bytes pair.second) → IsTableAsked texts (asked_text pair.table) → AreTracesIn texts entered
pair_read texts entered pair (diff, first, second, table) one other known = (
  λ is. (
    subst (λ (n : List ℕ). IsTraceIn texts None n) first one,
    subst (λ (n : List ℕ). IsTraceIn texts None n) second other,
    subst (λ (n : Option (List ℕ)). IsTableAsked texts n) table known,
  ),
  λ none. absurd (none diff),
  λ both. absurd (diff_is_no_summary entered diff both),
)

pub both_read : (texts : Option Contents) (entered : Entered) (showing : Showing) (other : List ℕ) → IsOfBoth entered × IsAsked entered showing × (other ≡ other_of entered) → IsTraceIn texts (number_of showing.ran) (string_bytes showing.trace)
    → IsTraceIn texts (number_of showing.ran) other → IsTableAsked texts (asked_text showing.table) → AreTracesIn texts entered
both_read texts entered showing other (both, asked, named) read second table = (
  λ diff. absurd (asked.0 diff),
  λ none. (trace_asked texts entered showing asked read, table_asked texts entered showing asked table, inr (inl both)),
  λ is. subst (λ (n : List ℕ). IsTraceIn texts (ran_of entered) n) named (subst (λ (k : Option ℕ). IsTraceIn texts k other) asked.3.run second),
)
