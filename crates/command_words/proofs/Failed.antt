-- Words that are not done.
use Rattle.std.proofs.Common.{◌≡◌, ◌≢◌, ◌⊎◌, inl, inr, Result, Ok, Err, sym, subst}
use Rattle.std.specs.Prelude.{IfErr, IsErr, IsErrAnd, OnOk}
use Rattle.clap.specs.Kinds.{Kinds, HasKind, IsAmong}
use Rattle.clap.specs.Values.{kind_of}
use Rattle.clap.specs.declared.error.Error.{Error}
use Rattle.clap.specs.declared.error.kind.ErrorKind.TheVariants.{OutOfMemory}
use Rattle.command_words.specs.declared.failure.Failure.{Failure}
use Rattle.command_words.specs.declared.failure.Failure.TheVariants.{Refused, Usage}
use Rattle.command_words.proofs.ErrorKinds.{memory_or}

-- words that the library of command lines does not take: memory ran out, or they have one of these errors
pub untaken : {R T : Type 0} (memory : R) (kinds : Kinds) (P : Failure R → Type 0) (e : Error) (answer : Result T (Failure R)) → HasKind kinds e
    → IsErr answer × IsErrAnd answer (λ f. (kind_of e ≡ OutOfMemory → f ≡ Refused memory) × (kind_of e ≢ OutOfMemory → f ≡ Usage e))
    → P (Refused memory) → (IsAmong (kind_of e) kinds → P (Usage e)) → IfErr answer P
untaken memory kinds P e (Ok x) has h lacking told = tt
untaken memory kinds P e (Err f) has h lacking told = go (memory_or (kind_of e)) has
  where
    short : kind_of e ≡ OutOfMemory → P f
    short m = subst P (sym (h.1.0 m)) lacking

    go : (kind_of e ≡ OutOfMemory) ⊎ (kind_of e ≢ OutOfMemory) → HasKind kinds e → P f
    go (inl m) k = short m
    go (inr n) (inl m) = short m
    go (inr n) (inr a) = subst P (sym (h.1.1 n)) (told a)

pub on_ok : {A E P : Type 0} (answer : Result A E) → P → OnOk answer P
on_ok (Ok x) p = p
on_ok (Err e) p = tt
