-- The lines of a Clear agree with it, whatever was told before.
use Rattle.std.proofs.Common.{◌≡◌, ℕ, Bool, true, false, List, [], ◌∷◌, map, Option, Some, None, refl, sym, ap, ◌∙◌}
use Rattle.std.specs.Prelude.{slice_get, if◌then◌else◌}
use Rattle.std.proofs.lemmas.Bool.{false≢true}
use Rattle.std.proofs.lemmas.Option.{none-some}
use Rattle.apex_types.specs.declared.codes.Mode.{Mode}
use Rattle.apex_types.specs.declared.codes.Mode.TheVariants as mode
use Rattle.apex_types.specs.declared.codes.ProcessState.TheVariants.{Dormant, Ready}
use Rattle.apex_types.specs.declared.codes.StartCondition.{StartCondition}
use Rattle.apex_types.specs.declared.event.Subject.{Subject}
use Rattle.apex_types.specs.declared.event.Subject.TheVariants.{Init}
use Rattle.apex_types.specs.declared.process.ProcessStatus.{ProcessStatus}
use Rattle.kernel_meaning.specs.Kernel.{Kernel}
use Rattle.kernel_meaning.specs.PartitionServices.{forgotten, ready_init, clears}
use Rattle.kernel_meaning.specs.Processes.{is_normal}
use Rattle.kernel_meaning.specs.Step.{Step}
use Rattle.state_laws.specs.Told.{Told, is_same, worker_or, worker_by_lines, running_or, worked_in}
use Rattle.state_laws.proofs.Agreement.{reads, AreDistinct, AgreesOn, KernelAgrees, each, still_named}
use Rattle.state_laws.proofs.Changes.{same_worker}
use Rattle.kernel_laws.proofs.Places.{mapped}
use Rattle.state_laws.proofs.Starting.{AreSaid, TellsStarts}
use Rattle.state_laws.proofs.Subjects.{not_same}

-- ---- records that are forgotten

module _ (rows : List ProcessStatus) (h : AreDistinct rows) where
  forgotten_distinct : AreDistinct (map forgotten rows)
  forgotten_distinct = record {
    apart = λ i j y z e f same.
        let a = mapped forgotten rows i y e in
        let b = mapped forgotten rows j z f in
        h.apart i j a.0 b.0 a.1 b.1 (ap (λ (w : ProcessStatus). w.who) a.2 ∙ same ∙ sym (ap (λ (w : ProcessStatus). w.who) b.2));
    first = λ y e. let a = mapped forgotten rows 0 y e in sym (ap (λ (w : ProcessStatus). w.who) a.2) ∙ h.first a.0 a.1;
  }

  forgotten_dormant : (i : ℕ) (y : ProcessStatus) → slice_get (map forgotten rows) i ≡ Some y → Dormant ≡ y.state
  forgotten_dormant i y e = let a = mapped forgotten rows i y e in ap (λ (w : ProcessStatus). w.state) a.2

  pub idle_agrees : (v : Told) → ((w : Subject) → v.state w ≡ Dormant) → v.running ≡ None → AgreesOn v (map forgotten rows) None
  idle_agrees v state none = record {
    named = forgotten_distinct;
    states = λ i y e. state y.who ∙ forgotten_dormant i y e;
    running = none;
    runs = λ p e. absurd (none-some p e);
  }

-- INIT is ready, all others are forgotten
pub started_agrees : (rows : List ProcessStatus) → AreDistinct rows → (v : Told) → ((w : Subject) → v.state w ≡ (if is_same w Init then Ready else Dormant)) → v.running ≡ None
    → AgreesOn v (ready_init (slice_get (map forgotten rows) 0) (map forgotten rows)) None
started_agrees [] h v state none = record {
  named = h;
  states = λ i y e. absurd (none-some y e);
  running = none;
  runs = λ p e. absurd (none-some p e);
}
started_agrees (x ∷ xs) h v state none = record {
  named = still_named rows 0 r ready refl refl distinct;
  states = each rows 0 r ready refl (λ i y. v.state y.who ≡ y.state) (state r.who ∙ ap (λ (b : Bool). if b then Ready else Dormant) (ap (λ (w : Subject). is_same w Init) (distinct.first r refl)))
      (λ i y n e. state y.who
      ∙ ap (λ (b : Bool). if b then Ready else Dormant) (not_same y.who Init (λ same. n (distinct.apart 0 i r y refl e (distinct.first r refl ∙ sym same))))
      ∙ forgotten_dormant (x ∷ xs) h i y e);
  running = none;
  runs = λ p e. absurd (none-some p e);
}
  where
    r : ProcessStatus
    r = forgotten x

    ready : ProcessStatus
    ready = record r { state = Ready }

    rows : List ProcessStatus
    rows = map forgotten (x ∷ xs)

    distinct : AreDistinct rows
    distinct = forgotten_distinct (x ∷ xs) h

-- ---- Clear

-- Nobody runs, and whoever ran has worked in this tick.
pub record HasCleared (tick : ℕ) (t : Told) (s : Step Kernel) : Type 0 where
  pub agrees : KernelAgrees (reads tick t s.lines) s.part
  pub starts : TellsStarts tick t s
  pub said : (last : Option StartCondition) → last ≡ Some t.next → AreSaid tick last t s.lines
  pub none : (reads tick t s.lines).running ≡ None
  pub worked : (reads tick t s.lines).worked ≡ worker_or tick t.worked t.running

-- with the condition that is expected
pub clears_go : (tick : ℕ) (t : Told) (k : Kernel) (m : Mode) (c : StartCondition) → AreDistinct k.processes.rows → is_normal m ≡ false → t.orderly ≡ true → t.next ≡ c → HasCleared tick t (clears k m c)
clears_go tick t k mode.Idle c h e o n = record {
  agrees = record { mode = refl; condition = n; next = refl; orderly = o; processes = idle_agrees k.processes.rows h _ (λ w. refl) refl };
  starts = refl;
  said = λ last is. ((λ f. absurd (false≢true f)), tt);
  none = refl;
  worked = refl;
}
clears_go tick t k mode.ColdStart c h e o n = record {
  agrees = record { mode = refl; condition = n; next = refl; orderly = o; processes = started_agrees k.processes.rows h _ (λ w. refl) refl };
  starts = ap (λ (d : StartCondition). record { tick = tick; mode = mode.ColdStart; condition = d } ∷ t.starts) n;
  said = λ last is. ((λ f. is), (tt, tt));
  none = refl;
  worked = refl;
}
clears_go tick t k mode.WarmStart c h e o n = record {
  agrees = record { mode = refl; condition = n; next = refl; orderly = o; processes = started_agrees k.processes.rows h _ (λ w. refl) refl };
  starts = ap (λ (d : StartCondition). record { tick = tick; mode = mode.WarmStart; condition = d } ∷ t.starts) n;
  said = λ last is. ((λ f. is), (tt, tt));
  none = refl;
  worked = refl;
}
clears_go tick t k mode.Normal c h e o n = absurd (false≢true (sym e))

-- the same spends the tick
pub cleared_worker : (tick : ℕ) (t : Told) (s : Step Kernel) → HasCleared tick t s → worker_by_lines tick (reads tick t s.lines) ≡ worker_by_lines tick t
cleared_worker tick t s h =
    ap (λ (o : Option Subject). running_or o (worked_in tick (reads tick t s.lines).worked)) h.none ∙ ap (λ (w : Option (ℕ × Subject)). running_or None (worked_in tick w)) h.worked ∙ same_worker tick t.running t.worked

-- if nobody ran, nobody has worked
pub cleared_worked : (tick : ℕ) (t : Told) (s : Step Kernel) → HasCleared tick t s → t.running ≡ None → (reads tick t s.lines).worked ≡ t.worked
cleared_worked tick t s h none = h.worked ∙ ap (worker_or tick t.worked) none
