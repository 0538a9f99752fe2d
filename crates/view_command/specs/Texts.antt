-- The properties of a text that can be opened, if the texts are known.
use Rattle.std.specs.Prelude.{◌≡◌, ℕ, ◌+◌, Bool, true, false, nat_le, List, [], ◌∷◌, ◌++◌, length, Option, Some, None, Ok, Err}
use Rattle.apex_types.specs.Line.{text_of}
use Rattle.apex_types.specs.declared.event.Event.{Event}
use Rattle.streams.specs.Contents.{Contents}
use Rattle.trace_text.specs.Trace.{IsReadAs, IsRefusedAt, IsTrace}
use Rattle.trace_page.specs.States.{wrong_line}
use Rattle.window_table.specs.Answers.{AnswersText}
use Rattle.window_table.specs.declared.fault.TableFault.{TableFault}
use Rattle.window_table.specs.declared.table.ModuleTable.{ModuleTable}

-- ---- the ticks of a run, if it is known how many it had

-- the run did not have this tick
abbrev pub is_late : Option ℕ → ℕ → Bool
is_late None t = false
is_late (Some ticks) t = nat_le ticks t

-- each of these lines is of a tick of the run
abbrev pub AreInRun : Option ℕ → List Event → Type 0
AreInRun ran [] = Unit {0}
AreInRun ran (e ∷ es) = (is_late ran e.tick.0 ≡ false) × AreInRun ran es

-- The lines of a text up to that of this number are those of a trace, and this line is the first of a tick that the
-- run did not have.
pub record IsLateAt (ran : Option ℕ) (text : List ℕ) (line : ℕ) : Type 0 where
  pub read : List Event
  pub late : Event
  pub rest : List ℕ
  pub parts : text ≡ text_of (read ++ late ∷ []) ++ rest
  pub trace : IsTrace (read ++ late ∷ [])
  pub number : length read + 1 ≡ line
  pub in_run : AreInRun ran read
  pub is_late : is_late ran late.tick.0 ≡ true

-- ---- a text, if it is known

-- it is a trace of such a run
abbrev pub IsTraceOf : Option (List ℕ) → Option ℕ → Type 0
IsTraceOf None ran = Unit {0}
IsTraceOf (Some text) ran = (events : List Event) × IsReadAs text events × AreInRun ran events

-- this line of it is the first that is too late
abbrev pub IsLateLine : Option (List ℕ) → Option ℕ → ℕ → Type 0
IsLateLine None ran line = Unit {0}
IsLateLine (Some text) ran line = IsLateAt ran text line

-- it is refused at this line
abbrev pub IsRefusedLine : Option (List ℕ) → ℕ → Type 0
IsRefusedLine None line = Unit {0}
IsRefusedLine (Some text) line = IsRefusedAt text line

-- it is a module table
abbrev pub IsTable : List ℕ → Type 0
IsTable text = (table : ModuleTable) × AnswersText text (Ok table)

-- this line of it is the first that is no row of a state
abbrev pub IsRefusedRow : Option (List ℕ) → ℕ → Type 0
IsRefusedRow None line = Unit {0}
IsRefusedRow (Some text) line = wrong_line text ≡ Some line

-- ---- the text of a name, if the texts are known

-- the text is a trace of a run of `ran` ticks, if that is known
abbrev pub IsTraceIn : Option Contents → Option ℕ → List ℕ → Type 0
IsTraceIn None ran name = Unit {0}
IsTraceIn (Some texts) ran name = (text : List ℕ) × (texts name ≡ Some text) × (events : List Event) × IsReadAs text events × AreInRun ran events

-- this line of it is the first that is too late
abbrev pub IsLateIn : Option Contents → Option ℕ → List ℕ → ℕ → Type 0
IsLateIn None ran name line = Unit {0}
IsLateIn (Some texts) ran name line = (text : List ℕ) × (texts name ≡ Some text) × IsLateAt ran text line

abbrev pub IsRefusedIn : Option Contents → List ℕ → ℕ → Type 0
IsRefusedIn None name line = Unit {0}
IsRefusedIn (Some texts) name line = (text : List ℕ) × (texts name ≡ Some text) × IsRefusedAt text line

-- the text is a module table
abbrev pub IsTableIn : Option Contents → List ℕ → Type 0
IsTableIn None name = Unit {0}
IsTableIn (Some texts) name = (text : List ℕ) × (texts name ≡ Some text) × IsTable text

-- the text breaks the rule of a fault
abbrev pub IsRefusedTable : Option (List ℕ) → TableFault → Type 0
IsRefusedTable None fault = Unit {0}
IsRefusedTable (Some text) fault = AnswersText text (Err fault)

abbrev pub IsRefusedTableIn : Option Contents → List ℕ → TableFault → Type 0
IsRefusedTableIn None name fault = Unit {0}
IsRefusedTableIn (Some texts) name fault = (text : List ℕ) × (texts name ≡ Some text) × AnswersText text (Err fault)

-- the module table, if one is asked for
abbrev pub IsTableAsked : Option Contents → Option (List ℕ) → Type 0
IsTableAsked texts None = Unit {0}
IsTableAsked texts (Some name) = IsTableIn texts name

-- the text is one of states
abbrev pub AreStatesIn : Option Contents → List ℕ → Type 0
AreStatesIn None name = Unit {0}
AreStatesIn (Some texts) name = (text : List ℕ) × (texts name ≡ Some text) × (wrong_line text ≡ None)

-- this line of it is the first that is no row of a state
abbrev pub IsRefusedRowIn : Option Contents → List ℕ → ℕ → Type 0
IsRefusedRowIn None name line = Unit {0}
IsRefusedRowIn (Some texts) name line = (text : List ℕ) × (texts name ≡ Some text) × (wrong_line text ≡ Some line)

-- the states, if they are asked for
abbrev pub AreStatesAsked : Option Contents → Option (List ℕ) → Type 0
AreStatesAsked texts None = Unit {0}
AreStatesAsked texts (Some name) = AreStatesIn texts name
