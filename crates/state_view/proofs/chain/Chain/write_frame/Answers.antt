-- the frame of the body that an instruction is in
use Rattle.std.proofs.Common.{◌≡◌, ◌++◌, ℤ, List, subst}
use Rattle.std.specs.Prelude.{OnOk}
use Rattle.state_rows.specs.Named.{BodyNames, body_at, body_rows}
use Rattle.state_rows.specs.Rows.{rows_in}
use Rattle.state_view.specs.Chains.{chain_in}
use Rattle.state_view.proofs.chain.Chain.write_frame.Goals as goal

pub returns : goal.returns
returns c =
    let form = c.args.self.now.of.now.form in
    let chain = chain_in c.args.self.now in
    let pc = c.args.frame.pc in
    let is_written : List ℤ → BodyNames → Type 0 = λ ws b. OnOk c.write_body.result (c.write_body.new.text.items ≡ c.args.text.now.items ++ rows_in form (body_rows chain c.args.place pc ws b)) in
    subst (λ (ws : List ℤ). is_written ws (body_at chain pc)) c.words_from-words.ensures
    (subst (λ (b : BodyNames). is_written c.words_from-words.result.now b) c.body_at.ensures c.write_body.ensures)
