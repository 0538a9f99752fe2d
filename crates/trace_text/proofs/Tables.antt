-- The words of modes, states, services, errors, responses and kinds of events: each is found again.
use Rattle.std.proofs.Common.{◌≡◌, true, Some, refl}
use Rattle.std.specs.List.{list_all}
use Rattle.apex_types.specs.CodeWords.{mode_word, state_word, error_word}
use Rattle.apex_types.specs.ServiceShape.{services}
use Rattle.apex_types.specs.ServiceShape.{service_word}
use Rattle.apex_types.specs.declared.codes.ErrorKind.{ErrorKind}
use Rattle.apex_types.specs.declared.codes.ErrorKind.TheVariants as error
use Rattle.apex_types.specs.declared.codes.Mode.{Mode}
use Rattle.apex_types.specs.declared.codes.Mode.TheVariants as mode
use Rattle.apex_types.specs.declared.codes.ProcessState.{ProcessState}
use Rattle.apex_types.specs.declared.codes.ProcessState.TheVariants as state
use Rattle.apex_types.specs.declared.service.Service.{Service}
use Rattle.apex_types.specs.declared.service.Service.TheVariants as service
use Rattle.trace_text.specs.declared.keyword.Keyword.{Keyword}
use Rattle.trace_text.specs.declared.keyword.Keyword.TheVariants as keyword
use Rattle.trace_text.specs.Reading.{modes, mode_of, states, state_of, service_of, errors, error_of, keyword_text, keywords, keyword_of}
use Rattle.text_lines.proofs.Pieces.{is_ink}
use Rattle.trace_text.proofs.Spells.{Spells, words_spell}

mode_again : (m : Mode) → mode_of (mode_word m) ≡ Some m
mode_again mode.Idle = refl
mode_again _ = refl

mode_ink : (m : Mode) → list_all is_ink (mode_word m) ≡ true
mode_ink mode.Idle = refl
mode_ink _ = refl

pub mode_spells : Spells mode_of mode_word (λ _. Unit {0})
mode_spells = words_spell mode_word modes mode_again mode_ink

state_again : (s : ProcessState) → state_of (state_word s) ≡ Some s
state_again state.Dormant = refl
state_again _ = refl

state_ink : (s : ProcessState) → list_all is_ink (state_word s) ≡ true
state_ink state.Dormant = refl
state_ink _ = refl

pub state_spells : Spells state_of state_word (λ _. Unit {0})
state_spells = words_spell state_word states state_again state_ink

error_again : (e : ErrorKind) → error_of (error_word e) ≡ Some e
error_again error.DeadlineMissed = refl
error_again _ = refl

error_ink : (e : ErrorKind) → list_all is_ink (error_word e) ≡ true
error_ink error.DeadlineMissed = refl
error_ink _ = refl

pub error_spells : Spells error_of error_word (λ _. Unit {0})
error_spells = words_spell error_word errors error_again error_ink

service_again : (s : Service) → service_of (service_word s) ≡ Some s
service_again service.GetPartitionStatus = refl
service_again _ = refl

service_ink : (s : Service) → list_all is_ink (service_word s) ≡ true
service_ink service.GetPartitionStatus = refl
service_ink _ = refl

pub service_spells : Spells service_of service_word (λ _. Unit {0})
service_spells = words_spell service_word services service_again service_ink

keyword_again : (k : Keyword) → keyword_of (keyword_text k) ≡ Some k
keyword_again keyword.State = refl
keyword_again _ = refl

keyword_ink : (k : Keyword) → list_all is_ink (keyword_text k) ≡ true
keyword_ink keyword.State = refl
keyword_ink _ = refl

pub keyword_spells : Spells keyword_of keyword_text (λ _. Unit {0})
keyword_spells = words_spell keyword_text keywords keyword_again keyword_ink
