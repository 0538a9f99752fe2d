-- The section as the definitions see it.
use Rattle.apex_types.specs.declared.row.Section as code_section
use Rattle.machine_meaning.specs.Section.{Section}

abbrev pub section_view : code_section.Section → Section
section_view s = record {
  initial = s.initial.items;
  semaphores = s.semaphores.items;
  events = s.events;
  buffers = s.buffers.items;
  blackboards = s.blackboards.items;
  routines = s.routines.items;
  processes = s.processes.items;
  init = s.init;
  handler = s.handler;
  code = s.code.items;
}
