-- Whether two subjects, or two runners, are the same.
use Rattle.std.proofs.Common.{◌≡◌, ◌≢◌, ℕ, Bool, true, false, List, [], ◌∷◌, nat_eq, refl, ap, ◌∙◌, arith}
use Rattle.std.specs.Prelude.{◌&&◌}
use Rattle.std.proofs.lemmas.Bool.{and_parts, eq-eqb, eqb-true, false≢true}
use Rattle.apex_types.specs.Runners.{place_of}
use Rattle.apex_types.specs.declared.event.Subject.{Subject}
use Rattle.apex_types.specs.declared.event.Subject.TheVariants.{Init, Handler, Process}
use Rattle.apex_types.specs.declared.identity.Runner.{Runner}
use Rattle.apex_types.specs.declared.identity.Runner.TheVariants as runner
use Rattle.engine_meaning.specs.Digits.{same}
use Rattle.kernel_meaning.specs.Processes.{index}
use Rattle.kernel_meaning.specs.Processes as processes
use Rattle.state_laws.specs.Told.{is_same}

-- ---- names

pub name_itself : (a : List ℕ) → same a a ≡ true
name_itself [] = refl
name_itself (x ∷ a) = ap (λ (b : Bool). b && same a a) (eq-eqb x x refl) ∙ name_itself a

pub same_name : (a b : List ℕ) → same a b ≡ true → a ≡ b
same_name [] [] h = refl
same_name [] (y ∷ b) h = absurd (false≢true h)
same_name (x ∷ a) [] h = absurd (false≢true h)
same_name (x ∷ a) (y ∷ b) h = let parts = and_parts (nat_eq x y) (same a b) h in ap (λ (z : ℕ). z ∷ a) (eqb-true x y parts.0) ∙ ap (λ (zs : List ℕ). y ∷ zs) (same_name a b parts.1)

-- ---- subjects

pub same_itself : (w : Subject) → is_same w w ≡ true
same_itself Init = refl
same_itself Handler = refl
same_itself (Process name) = name_itself name

pub same_subject : (w v : Subject) → is_same w v ≡ true → w ≡ v
same_subject Init Init e = refl
same_subject Init Handler e = absurd (false≢true e)
same_subject Init (Process b) e = absurd (false≢true e)
same_subject Handler Init e = absurd (false≢true e)
same_subject Handler Handler e = refl
same_subject Handler (Process b) e = absurd (false≢true e)
same_subject (Process a) Init e = absurd (false≢true e)
same_subject (Process a) Handler e = absurd (false≢true e)
same_subject (Process a) (Process b) e = ap Process (same_name a b e)

pub not_same : (w v : Subject) → w ≢ v → is_same w v ≡ false
not_same w v n = by_test (is_same w v) refl
  where
    by_test : (b : Bool) → is_same w v ≡ b → is_same w v ≡ false
    by_test true e = absurd (n (same_subject w v e))
    by_test false e = e

-- ---- runners

pub runner_itself : (p : Runner) → processes.is_same p p ≡ true
runner_itself runner.Init = refl
runner_itself runner.Handler = refl
runner_itself (runner.Process p) = eq-eqb p.0 p.0 refl

pub same_place : (p q : Runner) → place_of p ≡ place_of q → p ≡ q
same_place runner.Init runner.Init e = refl
same_place runner.Init runner.Handler e = absurd (omega (arith, e))
same_place runner.Init (runner.Process q) e = absurd (omega (arith, e))
same_place runner.Handler runner.Init e = absurd (omega (arith, e))
same_place runner.Handler runner.Handler e = refl
same_place runner.Handler (runner.Process q) e = absurd (omega (arith, e))
same_place (runner.Process p) runner.Init e = absurd (omega (arith, e))
same_place (runner.Process p) runner.Handler e = absurd (omega (arith, e))
same_place (runner.Process p) (runner.Process q) e = let same : p.0 ≡ q.0 = omega (arith, e) in ap (λ (n : ℕ). runner.Process (index n)) same
