use Rattle.std.proofs.Common.{◌≡◌, length, map, option_map, arith, ◌∙◌}
use Rattle.pal_laws.specs.GrammarReading as reading
use Rattle.pal_base.specs.Seen.{seen, names_of}
use Rattle.pal_base.specs.View.{declaration_of, stack_body_of, process_of}
use Rattle.pal_base.specs.WordView.{token_of}
use Rattle.pal_base.proofs.Cuts.{program_reads, words_left}
use Rattle.pal_base.proofs.Turns.{refuses}
use Rattle.pal_base.proofs.source.Source.program.Goals as goal

pub returns-then-not-is_empty : goal.returns-then-not-is_empty
returns-then-not-is_empty c =
    let self = c.args.self.now in
    let names = names_of self in
    let some : length c.in_ok-processes.rest.now ≡ 0 → ⊥ = λ z. grind arith in
    record {
      exact = refuses c.refused.result (reading.program_at (seen self c.args.tokens.now)) (length (seen self c.in_ok-processes.rest.now)) c.refused.ensures
          (program_reads (seen self c.args.tokens.now) (seen self c.in_ok-declarations.rest.now) (seen self c.in_ok-init.rest.now) (seen self c.in_ok-handler.rest.now) (seen self c.in_ok-processes.rest.now)
          (map (declaration_of names) c.in_ok-declarations.declarations.items) (stack_body_of names c.in_ok-init.init) (option_map (stack_body_of names) c.in_ok-handler.handler) (map (process_of names) c.in_ok-processes.processes.items)
          c.in_ok-declarations.ensures.exact c.in_ok-init.ensures.exact c.in_ok-handler.ensures.exact c.in_ok-processes.ensures.exact
          ∙ words_left _ (token_of names) c.in_ok-processes.rest.now some);
    }
