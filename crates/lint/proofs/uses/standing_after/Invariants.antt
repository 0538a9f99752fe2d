use Rattle.std.proofs.Common.{◌≡◌, drop}
use Rattle.pal_base.specs.View.{id_text, texts}
use Rattle.lint.specs.Uses.{Never, standing_after}
use Rattle.lint.specs.Views.{mentions_seen, standing_of}
use Rattle.lint.proofs.uses.standing_after.Given as goal

abbrev pub invariant-loop-mention : goal.invariant-loop-mention
invariant-loop-mention l =
    standing_after (standing_of (texts l.names.keys) l.so_far) (id_text (texts l.names.keys) l.name) (mentions_seen (texts l.names.keys) (drop l.mention-index l.mentions))
    ≡ standing_after Never (id_text (texts l.names.keys) l.name) (mentions_seen (texts l.names.keys) l.mentions)
