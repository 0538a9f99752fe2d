-- A stream that was read so far.
use Rattle.std.proofs.Common.{◌≡◌, ℕ, ◌+◌, ◌-◌, ◌^◌, ◌<◌, true, false, List, [], ◌∷◌, ◌++◌, Option, Some, None, refl, sym, ap, subst, ◌∙◌, arith}
use Rattle.std.specs.Prelude.{string_bytes}
use Rattle.std.specs.Io.KnownBytes.{IsAtEnd}
use Rattle.std.specs.declared.alloc.Global.{Global}
use Rattle.std.specs.declared.string.String.{String}
use Rattle.std.proofs.Math.Nat.{min-eq_left}
use Rattle.apex_types.specs.declared.event.Event.{Event}
use Rattle.apex_types.specs.declared.identity.Ticks.{Ticks}
use Rattle.trace_text.specs.Stream.{NextIn, NoneIn, next_number}
use Rattle.apex_types.specs.Line.{text_of}
use Rattle.trace_text.specs.Trace.{IsTrace}
use Rattle.trace_text.proofs.SoFar.{IsReadSoFar, nothing_read, read_as, read_on, refused_at}
use Rattle.trace_text.specs.Stream.{IsStreamFault}
use Rattle.trace_text.specs.declared.stream.StreamFault.{StreamFault}
use Rattle.trace_text.specs.declared.stream.StreamFault.TheVariants as faults
use Rattle.view_command.specs.Answers.{IsUnread}
use Rattle.view_command.specs.Faults.{of_stream}
use Rattle.view_command.specs.Texts.{AreInRun, IsLateLine, IsRefusedLine, IsTraceOf, is_late}

-- `lines` lines of a text were read, if the text is known, and `left` is left of it
abbrev pub IsSoFar : Option (List ℕ) → ℕ → ℕ → Option (List ℕ) → Type 0
IsSoFar None before lines left = Unit {0}
IsSoFar (Some text) before lines None = ⊥
IsSoFar (Some text) before lines (Some left) = IsReadSoFar text before lines left

pub so_far_start : (text left : Option (List ℕ)) (before lines : ℕ) → left ≡ text → before ≡ 0 → lines ≡ 0 → IsSoFar text before lines left
so_far_start None left before lines same b l = tt
so_far_start (Some text) left before lines same b l =
    rw (same, b, l) (nothing_read text)

pub next_is : (lines : ℕ) → lines < 2 ^ 64 - 1 → next_number lines ≡ lines + 1
next_is lines low = min-eq_left (omega (arith, low))

pub so_far_refused : (text left : Option (List ℕ)) (before lines line : ℕ) → lines < 2 ^ 64 - 1 → IsSoFar text before lines left → line ≡ next_number lines → NoneIn before left → IsRefusedLine text line
so_far_refused None left before lines line low so number none = tt
so_far_refused (Some text) None before lines line low so number none = absurd so
so_far_refused (Some text) (Some left) before lines line low so number none = refused_at text before lines left line so (number ∙ next_is lines low) none.0 none.1

-- the refusal of a stream that has a fault
pub unread_of : (ran : Option ℕ) (text left : Option (List ℕ)) (before lines : ℕ) (name : String Global) (f : StreamFault) → lines < 2 ^ 64 - 1 → IsSoFar text before lines left → IsStreamFault before lines left f → IsUnread text ran (string_bytes name) (of_stream name f)
unread_of ran text left before lines name (faults.Line at) low so fault = (refl, so_far_refused text left before lines at.line low so fault.0 fault.1)
unread_of ran text left before lines name (faults.Read e) low so fault = refl
unread_of ran text left before lines name faults.Memory low so fault = tt

-- ---- a trace of a run, of which it may be known how many ticks it had

-- `lines` lines of a text were read, all of ticks of the run, and `left` is left of it
abbrev pub IsRunSoFar : Option ℕ → Option (List ℕ) → ℕ → ℕ → Option (List ℕ) → Type 0
IsRunSoFar ran None before lines left = Unit {0}
IsRunSoFar ran (Some text) before lines None = ⊥
IsRunSoFar ran (Some text) before lines (Some left) = (so : IsReadSoFar text before lines left) × AreInRun ran so.read

pub run_start : (ran : Option ℕ) (text left : Option (List ℕ)) (before lines : ℕ) → left ≡ text → before ≡ 0 → lines ≡ 0 → IsRunSoFar ran text before lines left
run_start ran None left before lines same b l = tt
run_start ran (Some text) left before lines same b l = rw (same, b, l) (record { read = []; parts = refl; trace = tt; last = refl; count = refl }, tt)

pub run_read : (ran : Option ℕ) (text left : Option (List ℕ)) (before lines : ℕ) → IsRunSoFar ran text before lines left → IsSoFar text before lines left
run_read ran None left before lines so = tt
run_read ran (Some text) None before lines so = absurd so
run_read ran (Some text) (Some left) before lines so = so.0

one_more_in : (ran : Option ℕ) (es : List Event) (e : Event) → AreInRun ran es → is_late ran e.tick.0 ≡ false → AreInRun ran (es ++ e ∷ [])
one_more_in ran [] e all one = (one, tt)
one_more_in ran (x ∷ es) e all one = (all.0, one_more_in ran es e all.1 one)

pub run_more : (ran : Option ℕ) (text left rest : Option (List ℕ)) (before lines : ℕ) (e : Event) (tick : Ticks) (count : ℕ) → lines < 2 ^ 64 - 1 → IsRunSoFar ran text before lines left → NextIn before left e rest
    → is_late ran e.tick.0 ≡ false → (tick ≡ e.tick) × (count ≡ next_number lines) → IsRunSoFar ran text tick.0 count rest
run_more ran None left rest before lines e tick count low so next in_run noted = tt
run_more ran (Some text) None rest before lines e tick count low so next in_run noted = absurd so
run_more ran (Some text) (Some left) None before lines e tick count low so next in_run noted = absurd next
run_more ran (Some text) (Some left) (Some rest) before lines e tick count low so next in_run noted =
    let g = read_on text before lines left e rest so.0 next in
    let here : IsRunSoFar ran (Some text) e.tick.0 (lines + 1) (Some rest) = (g.0, subst (AreInRun ran) (sym g.1) (one_more_in ran so.0.read e so.1 in_run)) in
    subst (λ (t : Ticks). IsRunSoFar ran (Some text) t.0 count (Some rest)) (sym noted.0)
    (subst (λ (n : ℕ). IsRunSoFar ran (Some text) e.tick.0 n (Some rest)) (sym (noted.1 ∙ next_is lines low)) here)

pub run_end : (ran : Option ℕ) (text left : Option (List ℕ)) (before lines : ℕ) → IsRunSoFar ran text before lines left → IsAtEnd left → IsTraceOf text ran
run_end ran None left before lines so done = tt
run_end ran (Some text) None before lines so done = absurd so
run_end ran (Some text) (Some left) before lines so done = (so.0.read, read_as text before lines left so.0 done, so.1)

-- the next line is too late
pub run_late : (ran : Option ℕ) (text left rest : Option (List ℕ)) (before lines : ℕ) (e : Event) (number : ℕ) → lines < 2 ^ 64 - 1 → IsRunSoFar ran text before lines left → NextIn before left e rest
    → is_late ran e.tick.0 ≡ true → number ≡ next_number lines → IsLateLine text ran number
run_late ran None left rest before lines e number low so next late noted = tt
run_late ran (Some text) None rest before lines e number low so next late noted = absurd so
run_late ran (Some text) (Some left) None before lines e number low so next late noted = absurd next
run_late ran (Some text) (Some left) (Some rest) before lines e number low so next late noted =
    let g = read_on text before lines left e rest so.0 next in
    record {
      read = so.0.read;
      late = e;
      rest = rest;
      parts = subst (λ (es : List Event). text ≡ text_of es ++ rest) g.1 g.0.parts;
      trace = subst IsTrace g.1 g.0.trace;
      number = sym (noted ∙ next_is lines low ∙ ap (λ (n : ℕ). n + 1) (sym so.0.count));
      in_run = so.1;
      is_late = late;
    }
