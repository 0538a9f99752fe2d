-- Controls and engines that never ask for NORMAL.
use Rattle.std.proofs.Common.{◌≡◌, ℤ, true, false, List, ◌∷◌, sym}
use Rattle.std.specs.Prelude.{take, reverse}
use Rattle.std.proofs.lemmas.Bool.{false≢true}
use Rattle.apex_types.specs.ServiceCalls.{call_of}
use Rattle.apex_types.specs.ServiceShape.{argument_words}
use Rattle.apex_types.specs.declared.service.Call.{Call}
use Rattle.apex_types.specs.declared.service.Call.TheVariants as call
use Rattle.apex_types.specs.declared.service.Service.{Service}
use Rattle.apex_types.specs.declared.service.Service.TheVariants as service
use Rattle.engine_meaning.specs.Engine.{Engine}
use Rattle.pal_meaning.specs.SourceControl.{SourceControl}
use Rattle.lint_laws.specs.NormalMode.{sets_mode, IsNotNormal}
use Rattle.lint_laws.proofs.Controls.{AsksOnly, IsSafeEngine}

abbrev pub CallIsOther : Call → Type 0
CallIsOther (call.SetPartitionMode v) = IsNotNormal v
CallIsOther _ = Unit {0}

pub plain_call : (s : Service) (words : List ℤ) → sets_mode s ≡ false → CallIsOther (call_of s words)
plain_call service.SetPartitionMode words h = absurd (false≢true (sym h))
plain_call s words h = tt

pub mode_call : (s : Service) (v : ℤ) (below : List ℤ) → sets_mode s ≡ true → IsNotNormal v → CallIsOther (call_of s (reverse (take (argument_words s) (v ∷ below))))
mode_call service.SetPartitionMode v below h k = k
mode_call s v below h k = absurd (false≢true h)

abbrev pub NeverAsksNormal : SourceControl → Type 0
NeverAsksNormal c = AsksOnly sets_mode IsNotNormal CallIsOther plain_call mode_call c

abbrev pub KeepsOut : Engine SourceControl → Type 0
KeepsOut e = IsSafeEngine sets_mode IsNotNormal CallIsOther plain_call mode_call e
