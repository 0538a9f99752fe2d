use Rattle.std.proofs.Common.{◌≡◌, map, drop}
use Rattle.std.specs.List.{list_any}
use Rattle.pal_base.specs.View.{id_text, name_of, texts}
use Rattle.lint.specs.DoingView.{doing_of}
use Rattle.lint.specs.Recursion.{does}
use Rattle.lint.specs.Views.{mentions_seen}
use Rattle.lint.proofs.recursion.any_does.Given as goal

abbrev pub invariant-loop-mention : goal.invariant-loop-mention
invariant-loop-mention l =
    list_any (does (doing_of l.doing) (id_text (texts l.names.keys) l.name) (map (name_of (texts l.names.keys)) l.parameters)) (mentions_seen (texts l.names.keys) l.mentions)
    ≡ list_any (does (doing_of l.doing) (id_text (texts l.names.keys) l.name) (map (name_of (texts l.names.keys)) l.parameters)) (mentions_seen (texts l.names.keys) (drop l.mention-index l.mentions))
