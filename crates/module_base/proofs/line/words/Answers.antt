use Rattle.module_base.proofs.Prelude.{rules, ◌≡◌, ◌++◌, ◌∷◌, ◌∙◌, option_copied, length, MOST_WORDS}
use Rattle.std.proofs.Common.{[], sym, ap}
use Rattle.module_base.proofs.LineWords.{keeps_one, drops_one, all_read}
use Rattle.module_base.proofs.line.words.Goals as goal

pub loop-rest-preserved-then-is_full : goal.loop-rest-preserved-then-is_full
loop-rest-preserved-then-is_full c =
    let full : length c.loop-rest.words.items ≡ MOST_WORDS = search rules in
    record {
      read = c.loop-rest.invariant.read
          ∙ drops_one c.loop-rest.words.items c.loop-rest.is_long (option_copied c.loop-rest.rest) c.in-Some.text.now c.split_at.result.0.now (option_copied c.split_at.result.1) c.in_ok-word.word full
          (ap option_copied c.in-Some.is) c.split_at.ensures.front c.split_at.ensures.behind (search rules);
      short = search rules;
    }

pub loop-rest-preserved : goal.loop-rest-preserved
loop-rest-preserved c =
    let more : c.push.new.self.items ≡ c.loop-rest.words.items ++ c.in_ok-word.word ∷ [] = search rules in
    record {
      read = c.loop-rest.invariant.read
          ∙ keeps_one c.loop-rest.words.items c.push.new.self.items c.loop-rest.is_long (option_copied c.loop-rest.rest) c.in-Some.text.now c.split_at.result.0.now (option_copied c.split_at.result.1) c.in_ok-word.word
          more (ap option_copied c.in-Some.is) c.split_at.ensures.front c.split_at.ensures.behind (search rules);
      short = search rules;
    }

pub returns-else-is_long : goal.returns-else-is_long
returns-else-is_long c =
    sym (c.loop-rest.invariant.read
    ∙ all_read c.loop-rest.words.items c.loop-rest.is_long (option_copied c.loop-rest.rest) c.loop-rest.invariant.short c.if-is_long.false (ap option_copied c.in_default.is))
