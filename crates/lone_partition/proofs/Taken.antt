-- The inputs of a partition: the last of them, and one that ends everything.
use Rattle.lone_partition.proofs.Prelude.{◌≡◌, ℕ, ◌+◌, ◌<◌, ◌≤◌, List, ◌∷◌, length, get_or, drop, Some, None, sym, ap, ◌∙◌, drop_more, drop_all, ModuleAction, At, Member, Course, takes, takes_all, InputLine, inputs_of, Sent, IsCourse}
use Rattle.lone_partition.proofs.Written.{CompletesCourse, ends_down, course_is_over}

-- after the last one nothing remains
pub inputs_are_over : {C : Type 0} {whole : Course (Member C)} {old new : Sent} (fault : ModuleAction) (at : At) (lines : List InputLine) (i : ℕ) (now : Member C)
    → CompletesCourse whole (takes_all fault at (inputs_of (drop i lines)) now) old new → length lines ≤ i → IsCourse whole (Some at) now old new
inputs_are_over fault at lines i now way past = course_is_over at now (ap (λ (ls : List InputLine). takes_all fault at (inputs_of ls) now) (drop_all i lines past)) way

-- an input ends everything
pub inputs_end_down : {C : Type 0} {whole : Course (Member C)} {last : Member C} {old mid new : Sent} (fault : ModuleAction) (at : At) (lines : List InputLine) (i : ℕ) (l : InputLine) (now : Member C)
    → CompletesCourse whole (takes_all fault at (inputs_of (drop i lines)) now) old mid → i < length lines → l ≡ get_or lines i l
    → IsCourse (takes fault at l.input now) None last mid new → IsCourse whole None last old new
inputs_end_down {last = last} {new = new} fault at lines i l now way within is_l h =
    let next = drop_more lines i l within ∙ ap (λ (x : InputLine). x ∷ drop (i + 1) lines) (sym is_l) in
    let split = ap (λ (ls : List InputLine). takes_all fault at (inputs_of ls) now) next in
    way.ends None last new (ends_down (λ a y. takes_all fault a (inputs_of (drop (i + 1) lines)) y) split h)

pub ruleset inputs_end = (inputs_are_over, inputs_end_down)
