use Rattle.std.proofs.Common.{rules, ◌≡◌, ◌++◌, ◌∷◌, [], ◌∙◌, ap, option_copied}
use Rattle.trace_text.proofs.MessageWords.{keeps_one}
use Rattle.trace_text.proofs.kind.words_of.Goals as goal

pub loop-rest-preserved : goal.loop-rest-preserved
loop-rest-preserved c =
    let more : c.push.new.self.items ≡ c.loop-rest.words.items ++ c.in_ok-word.word ∷ [] = search rules in
    record {
      read = c.loop-rest.invariant.read
          ∙ keeps_one c.loop-rest.words.items c.push.new.self.items (option_copied c.loop-rest.rest) c.in-Some.text.now c.split_at.result.0.now (option_copied c.split_at.result.1) c.in_ok-word.word
          more (ap option_copied c.in-Some.is) c.split_at.ensures.front c.split_at.ensures.behind (search rules);
      short = search rules;
    }
