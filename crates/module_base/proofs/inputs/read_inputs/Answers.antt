use Rattle.module_base.proofs.Prelude.{◌≡◌, List, Ok, Result, ◌∙◌, IfOk, IfErr, DeviceFault, partition_of, InputLine, IsRefusal}
use Rattle.std.proofs.Common.{sym, subst}
use Rattle.std.proofs.lemmas.Result.{IfOk-weaker}
use Rattle.module_base.proofs.Alike.{inputs_read}
use Rattle.module_base.proofs.InOrder.{read_in_order}
use Rattle.module_base.proofs.inputs.read_inputs.Goals as goal

pub returns-clause-accepted : goal.returns-clause-accepted
returns-clause-accepted c =
    subst (λ (v : Result (List InputLine) DeviceFault). IfOk c.read_lines.result (λ lines. v ≡ Ok lines.items))
    (sym (inputs_read (partition_of c.args.row.now) c.as_slice.result.now c.args.text.now c.as_slice.ensures)) c.read_lines.ensures.accepted

pub returns-clause-order : goal.returns-clause-order
returns-clause-order c =
    IfOk-weaker c.read_lines.result _ _
    (λ lines h. read_in_order (partition_of c.args.row.now) c.args.text.now lines.items (inputs_read (partition_of c.args.row.now) c.as_slice.result.now c.args.text.now c.as_slice.ensures ∙ h)) c.read_lines.ensures.accepted

pub returns-clause-refused : goal.returns-clause-refused
returns-clause-refused c =
    subst (λ (v : Result (List InputLine) DeviceFault). IfErr c.read_lines.result (λ fault. IsRefusal v fault))
    (sym (inputs_read (partition_of c.args.row.now) c.as_slice.result.now c.args.text.now c.as_slice.ensures)) c.read_lines.ensures.refused
