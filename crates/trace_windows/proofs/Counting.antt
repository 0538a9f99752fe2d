-- Ticks are counted in parts.
use Rattle.std.proofs.Common.{◌≡◌, ℕ, zero, suc, ◌+◌, ◌*◌, ◌<◌, Bool, true, false, refl, sym, ap, ◌∙◌, arith, suc-mul}
use Rattle.trace_windows.specs.Counts.{if_same}
use Rattle.trace_windows.specs.Uses.{is_same, one_if, ticks_used}
use Rattle.trace_windows.specs.declared.usage.Use.{Use}

-- those of one part, and those after it
pub two_parts : (used : ℕ → Use) (u : Use) (from a b : ℕ) → ticks_used used u from (a + b) ≡ ticks_used used u from a + ticks_used used u (from + a) b
two_parts used u from a zero =
    let e : a + 0 ≡ a = omega arith in
    let n : ticks_used used u from a ≡ ticks_used used u from a + 0 = omega arith in
    ap (ticks_used used u from) e ∙ n
two_parts used u from a (suc b) =
    let e : a + suc b ≡ suc (a + b) = omega arith in
    let here : from + (a + b) ≡ from + a + b = omega arith in
    let before = two_parts used u from a b in
    let last : one_if (is_same (used (from + (a + b))) u) ≡ one_if (is_same (used (from + a + b)) u) = ap (λ (t : ℕ). one_if (is_same (used t) u)) here in
    ap (ticks_used used u from) e ∙ omega (arith, before, last)

none_same : (b : Bool) → 0 ≡ if_same b 0
none_same true = refl
none_same false = refl

one_same : (b : Bool) (n : ℕ) → if_same b n + one_if b ≡ if_same b (suc n)
one_same true n = omega arith
one_same false n = refl

-- ticks that are all used alike
pub all_alike : (used : ℕ → Use) (u v : Use) (from n : ℕ) → ((i : ℕ) → i < n → used (from + i) ≡ v) → ticks_used used u from n ≡ if_same (is_same v u) n
all_alike used u v from zero same = none_same (is_same v u)
all_alike used u v from (suc n) same =
    let before = all_alike used u v from n (λ i h. same i (omega (arith, h))) in
    let last = ap (λ (w : Use). one_if (is_same w u)) (same n (omega arith)) in
    ap (λ (k : ℕ). k + one_if (is_same (used (from + n)) u)) before ∙ (ap (λ (k : ℕ). if_same (is_same v u) n + k) last ∙ one_same (is_same v u) n)

-- a stretch that is used as another one
pub alike : (used others : ℕ → Use) (u : Use) (from other n : ℕ) → ((i : ℕ) → i < n → used (from + i) ≡ others (other + i)) → ticks_used used u from n ≡ ticks_used others u other n
alike used others u from other zero same = refl
alike used others u from other (suc n) same =
    let before = alike used others u from other n (λ i h. same i (omega (arith, h))) in
    let last = ap (λ (w : Use). one_if (is_same w u)) (same n (omega arith)) in
    ap (λ (k : ℕ). k + one_if (is_same (used (from + n)) u)) before ∙ ap (λ (k : ℕ). ticks_used others u other n + k) last

-- frames that repeat
pub frames : (used : ℕ → Use) (u : Use) (frame from k : ℕ) → ((i : ℕ) → used (from + frame + i) ≡ used (from + i)) → ticks_used used u from (k * frame) ≡ k * ticks_used used u from frame
frames used u frame from zero repeats =
    let none : 0 * frame ≡ 0 = omega arith in
    let nothing : 0 ≡ 0 * ticks_used used u from frame = omega arith in
    ap (ticks_used used u from) none ∙ nothing
frames used u frame from (suc k) repeats =
    let one = ticks_used used u from frame in
    let more : suc k * frame ≡ frame + k * frame = suc-mul k frame ∙ omega arith in
    let parts = two_parts used u from frame (k * frame) in
    let rest = alike used used u (from + frame) from (k * frame) (λ i h. repeats i) in
    let before = frames used u frame from k repeats in
    let all : one + k * one ≡ suc k * one = sym (suc-mul k one ∙ omega arith) in
    ap (ticks_used used u from) more ∙ (parts ∙ (ap (λ (n : ℕ). one + n) (rest ∙ before) ∙ all))
