use Rattle.machine_meaning.specs.MachineMeaning.{machine_module, machine_trace}
use Rattle.module_meaning.specs.SourceMeaning.{source_module, source_trace}
use Rattle.view_laws.specs.Spent.{names_of_image, names_of_table, use_in}
use Rattle.view_laws.proofs.OfRuns.{image_uses, module_uses, shares_so}
use Rattle.view_laws.proofs.uses.shares_are_spent.Goals as goal

pub returns-clause-machine : goal.returns-clause-machine
returns-clause-machine c = λ image devices n from until rows lawful l few shares u.
    shares_so image.schedule (names_of_image image) (use_in (machine_module image) devices) (machine_trace image devices n) from until n rows l few (λ t h. image_uses image devices n t lawful h few) shares u

pub returns-clause-accepted : goal.returns-clause-accepted
returns-clause-accepted c = λ table sources t programs devices n from until rows accepted l few shares u.
    shares_so t.schedule (names_of_table t) (use_in (source_module t programs) devices) (source_trace t programs devices n) from until n rows l few
    (λ i h. module_uses table sources t programs devices n i accepted h few) shares u
