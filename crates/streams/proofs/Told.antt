-- A text that a stream took, or failed to take.
use Rattle.std.proofs.Common.{◌⊎◌, inl, inr, ℕ, List, Option, None, Some, Result, Ok, Err}
use Rattle.std.specs.Prelude.{OnOk, OnErr, IfSome}

pub either_of : {A E : Type 0} (P Q : Type 0) (answer : Result A E) → OnOk answer P → OnErr answer Q → P ⊎ Q
either_of P Q (Ok x) p q = inl p
either_of P Q (Err e) p q = inr q

-- if the text is known
pub either_told : {A E : Type 0} (R Q : Type 0) (P : List ℕ → Type 0) (text : Option (List ℕ)) (answer : Result A E) → OnOk answer R → OnOk answer (IfSome text P) → OnErr answer Q → IfSome text (λ t. (R × P t) ⊎ Q)
either_told R Q P None answer r p q = tt
either_told R Q P (Some t) (Ok x) r p q = inl (r, p)
either_told R Q P (Some t) (Err e) r p q = inr q
