use Rattle.lint_laws.proofs.InAll.{without_normal}
use Rattle.lint_laws.proofs.listed.partition_never_enters_normal.Goals as goal

pub returns : goal.returns
returns c = λ table sources t programs devices n p row source tree accepted here there is h. without_normal table sources t programs accepted devices n p row source tree here there is h
