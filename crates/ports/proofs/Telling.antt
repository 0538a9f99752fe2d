-- What GET_QUEUING_PORT_STATUS returns for a created port.
use Rattle.std.proofs.Common.{◌≡◌, ℕ, true, refl}
use Rattle.std.specs.Prelude.{ℤ, Some}
use Rattle.apex_types.specs.declared.codes.ReturnCode.TheVariants as code
use Rattle.apex_types.specs.declared.identity.Runner.{Runner}
use Rattle.apex_types.specs.declared.service.Service.TheVariants as service
use Rattle.kernel_meaning.specs.Objects.{Port, Ports, queuing}
use Rattle.kernel_meaning.specs.PortServices.{get_queuing_port_status, queuing_status}
use Rattle.kernel_meaning.specs.Sharing.{Sharing, answers}

pub told : (b : Sharing Ports) (p : Runner) (id : ℤ) (place : ℕ) (x : Port) → queuing b.shared id ≡ Some (place, x) → x.created ≡ true → get_queuing_port_status b p id ≡ answers b p service.GetQueuingPortStatus code.NoError (queuing_status b place x)
told b p id place x found created = rw found (rw created refl)
