-- The room of a port, by its kind.
use Rattle.std.proofs.Common.{◌≡◌, true, refl, rules}
use Rattle.apex_types.specs.declared.row.PortKind.{PortKind}
use Rattle.apex_types.specs.declared.row.PortKind.TheVariants as kind
use Rattle.kernel_meaning.specs.Objects.{is_sampling_kind, depth_of}

-- a sampling port has room for one message
pub sampling_depth : (k : PortKind) → is_sampling_kind k ≡ true → depth_of k ≡ 1
sampling_depth (kind.Sampling refresh) h = refl
sampling_depth (kind.Queuing depth discipline) h = absurd (search rules)

pub ruleset depths = (sampling_depth)
