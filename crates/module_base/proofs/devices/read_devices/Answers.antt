use Rattle.module_base.proofs.Prelude.{◌≡◌, List, Ok, Result, IfOk, IfErr, DeviceFault, DeviceLine, IsRefusal, rows_in, channels_in}
use Rattle.std.proofs.Common.{sym, subst}
use Rattle.module_base.proofs.Alike.{devices_read}
use Rattle.module_base.proofs.devices.read_devices.Goals as goal

pub returns-clause-accepted : goal.returns-clause-accepted
returns-clause-accepted c =
    subst (λ (v : Result (List DeviceLine) DeviceFault). IfOk c.read_lines.result (λ lines. v ≡ Ok lines.items))
    (sym (devices_read (rows_in c.args.image.now) (channels_in c.args.image.now) c.as_slice.result.now c.args.text.now c.as_slice.ensures)) c.read_lines.ensures.accepted

pub returns-clause-refused : goal.returns-clause-refused
returns-clause-refused c =
    subst (λ (v : Result (List DeviceLine) DeviceFault). IfErr c.read_lines.result (λ fault. IsRefusal v fault))
    (sym (devices_read (rows_in c.args.image.now) (channels_in c.args.image.now) c.as_slice.result.now c.args.text.now c.as_slice.ensures)) c.read_lines.ensures.refused
