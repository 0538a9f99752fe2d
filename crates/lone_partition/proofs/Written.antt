-- The text written by one step after another.
use Rattle.lone_partition.proofs.Prelude.{◌≡◌, ◌++◌, Option, Some, None, sym, ap, subst, ◌∙◌, refl, At, Stepped, Course, still, then_goes, unless_down, Sent, IsMade, IsCourse}
use Rattle.module_meaning.specs.Module as meaning
use Rattle.module_meaning.specs.Module.{then_runs}
use Rattle.lone_partition.proofs.Outputs.{lines_sent, nothing_sent}
use Rattle.lone_partition.specs.Written.{done_in}

-- a step that changes nothing writes nothing
pub still_made : {S : Type 0} (next : S) (s : Sent) → IsMade (still next) next s s
still_made next s = record { state = refl; sent = nothing_sent s }

-- a step is made, and then another from the state after it
pub then_made : {S : Type 0} {whole a : Stepped S} {old mid new : Sent} (rest : S → Stepped S) (between : S) {next : S}
    → whole ≡ then_goes a rest → IsMade a between old mid → IsMade (rest between) next mid new → IsMade whole next old new
then_made {whole = whole} {a = a} {old = old} {mid = mid} {new = new} rest between split h k = record {
  state = k.state ∙ ap (λ y. (rest y).state) h.state ∙ sym (ap (λ (g : Stepped _). g.state) split);
  sent = lines_sent old mid new a.lines (rest between).lines whole.lines (ap (λ (g : Stepped _). g.lines) split ∙ ap (λ y. a.lines ++ (rest y).lines) (sym h.state)) h.sent k.sent;
}

-- Once the rest is made, the whole is.
pub record Completes {S : Type 0} (whole rest : Stepped S) (old now : Sent) : Type 0 where
  pub ends : (next : S) (new : Sent) → IsMade rest next now new → IsMade whole next old new

pub starts_out : {S : Type 0} (whole : Stepped S) (s : Sent) → Completes whole whole s s
starts_out whole s = record { ends = λ next new h. h }

-- one more part
pub goes_on : {S : Type 0} {whole now a : Stepped S} {old mid new : Sent} (rest : S → Stepped S) (next : S)
    → now ≡ then_goes a rest → Completes whole now old mid → IsMade a next mid new → Completes whole (rest next) old new
goes_on rest next split way h = record { ends = λ last end k. way.ends last end (then_made rest next split h k) }

-- nothing remains
pub is_over : {S : Type 0} {whole now : Stepped S} {old new : Sent} (next : S) → now ≡ still next → Completes whole now old new → IsMade whole next old new
is_over {new = new} next end way = way.ends next new (subst (λ (g : Stepped _). IsMade g next new new) (sym end) (still_made next new))

-- ---- steps that may start the module again, or shut it down

-- a step is made, and then another from the state after it
pub then_runs_made : {S : Type 0} {whole c : Course S} {old mid new : Sent} (rest : At → S → Course S) (at : At) (between : S) {answer : Option At} {next : S}
    → whole ≡ then_runs c rest → Some at ≡ c.at → IsMade (done_in c) between old mid → IsCourse (rest at between) answer next mid new → IsCourse whole answer next old new
then_runs_made {whole = whole} {c = c} rest at between split same h k =
    let there : whole ≡ unless_down c rest (Some at) = split ∙ ap (λ (o : Option At). unless_down c rest o) (sym same) in
    record {
      at = k.at ∙ ap (λ y. (rest at y).at) h.state ∙ sym (ap (λ (d : Course _). d.at) there);
      made = then_made (λ y. done_in (rest at y)) between (ap done_in there) h k.made;
    }

-- a step ends everything
pub ends_down : {S : Type 0} {whole c : Course S} {old new : Sent} (rest : At → S → Course S) {next : S} → whole ≡ then_runs c rest → IsCourse c None next old new → IsCourse whole None next old new
ends_down {c = c} {old = old} {new = new} rest {next = next} split h =
    subst (λ (d : Course _). IsCourse d None next old new) (sym (split ∙ ap (λ (o : Option At). unless_down c rest o) (sym h.at))) h

-- Once the rest is made, the whole is.
pub record CompletesCourse {S : Type 0} (whole rest : Course S) (old now : Sent) : Type 0 where
  pub ends : (answer : Option At) (next : S) (new : Sent) → IsCourse rest answer next now new → IsCourse whole answer next old new

pub course_starts_out : {S : Type 0} (whole : Course S) (s : Sent) → CompletesCourse whole whole s s
course_starts_out whole s = record { ends = λ answer next new h. h }

-- one more part
pub runs_on : {S : Type 0} {whole now c : Course S} {old mid new : Sent} (rest : At → S → Course S) (at : At) (next : S)
    → now ≡ then_runs c rest → Some at ≡ c.at → CompletesCourse whole now old mid → IsMade (done_in c) next mid new → CompletesCourse whole (rest at next) old new
runs_on rest at next split same way h = record { ends = λ answer last end k. way.ends answer last end (then_runs_made rest at next split same h k) }

-- nothing remains
pub course_is_over : {S : Type 0} {whole now : Course S} {old new : Sent} (at : At) (next : S) → now ≡ meaning.goes_on at (still next) → CompletesCourse whole now old new → IsCourse whole (Some at) next old new
course_is_over {new = new} at next end way =
    way.ends (Some at) next new (subst (λ (d : Course _). IsCourse d (Some at) next new new) (sym end) (record { at = refl; made = still_made next new }))
