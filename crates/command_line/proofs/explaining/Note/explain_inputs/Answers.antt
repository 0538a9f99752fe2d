use Rattle.std.proofs.Common.{string_bytes}
use Rattle.command_line.specs.Explained.{IsOfInputs, files_of}
use Rattle.command_line.proofs.Noted.{noted_by}
use Rattle.command_line.proofs.explaining.Note.explain_inputs.Goals as goal

pub returns-in-Some : goal.returns-in-Some
returns-in-Some c = rw (c.in-Wanted.is) (noted_by (λ style. IsOfInputs style (files_of c.args.files) c.args.fault.now) c.in-Wanted.style (string_bytes c.in-Some.text) c.noted_as.result c.noted_as.ensures c.in-Some.ensures)
