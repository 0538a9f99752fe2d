use Rattle.lint_laws.proofs.InAll.{without_states}
use Rattle.lint_laws.proofs.listed.process_never_has_a_state.Goals as goal

pub returns : goal.returns
returns c = λ table sources t programs devices n p number row source tree process accepted here there is e h. without_states table sources t programs accepted devices n p row source tree here there is number process e h
