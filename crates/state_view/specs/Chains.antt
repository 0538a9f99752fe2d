-- Where a runner is in its source, as the code holds it.
use Rattle.std.specs.Prelude.{ℕ, List, map}
use Rattle.pal_base.specs.View.{name_of, texts}
use Rattle.state_rows.specs.Named as meaning
use Rattle.state_view.specs.Sources.{source_in}
use Rattle.state_view.specs.declared.chain.BodyNames.{BodyNames}
use Rattle.state_view.specs.declared.chain.Chain.{Chain}
use Rattle.state_view.specs.declared.chain.Frame.{Frame}

-- a body, where the names have these texts
abbrev pub names_in : List (List ℕ) → BodyNames → meaning.BodyNames
names_in names b = record { name = b.name.now; parameters = map (name_of names) b.parameters.now; locals = map (name_of names) b.locals.now }

abbrev pub frame_in : Frame → meaning.Frame
frame_in f = record { pc = f.pc; fp = f.fp }

abbrev pub chain_in : Chain → meaning.Chain
chain_in c = record {
  partition = c.of.now.name;
  own = names_in (texts c.source.now.program.now.names.keys) c.own;
  source = source_in c.source.now;
  routines = c.routines.now;
  stack = c.stack.now;
}
