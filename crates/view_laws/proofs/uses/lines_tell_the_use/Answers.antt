use Rattle.view_laws.proofs.Lines.{names_apart, use_is_told}
use Rattle.view_laws.proofs.uses.lines_tell_the_use.Goals as goal

pub returns : goal.returns
returns c = λ schedule names lines t own order few. use_is_told schedule names lines t (names_apart names own) order few
