use Rattle.std.proofs.Common.{◌≡◌, ◌≤◌, ◌++◌, length, map, take, drop}
use Rattle.kernel_meaning.specs.Objects.{cleared_buffer}
use Rattle.sync_objects_base.proofs.objects.clear_buffers.Given as goal

abbrev pub invariant-loop-buffer : goal.invariant-loop-buffer
invariant-loop-buffer l = (l.buffer-index ≤ length l.buffer-items) × (take l.buffer-index l.buffer-items ++ map cleared_buffer (drop l.buffer-index l.buffer-items) ≡ map cleared_buffer l.fn.all.items)
