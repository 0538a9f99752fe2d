use Rattle.std.proofs.Common.{◌≡◌, ◌++◌, map, option_map, drop}
use Rattle.pal_base.specs.View.{name_of, texts}
use Rattle.lint.specs.Mentions.{in_targets}
use Rattle.lint.specs.Views.{mentions_seen, plain_of}
use Rattle.lint.proofs.mentions.add_targets.Given as goal

abbrev pub invariant-loop-target : goal.invariant-loop-target
invariant-loop-target l = record {
  counted : l.place ≡ l.target-index;
  left : mentions_seen (texts l.names.keys) l.mentions.items ++ in_targets l.service (option_map (plain_of (texts l.names.keys)) l.argument) l.place (map (name_of (texts l.names.keys)) (drop l.target-index l.targets))
      ≡ mentions_seen (texts l.names.keys) l.fn.mentions.items ++ in_targets l.service (option_map (plain_of (texts l.names.keys)) l.argument) 0 (map (name_of (texts l.names.keys)) l.targets);
}
