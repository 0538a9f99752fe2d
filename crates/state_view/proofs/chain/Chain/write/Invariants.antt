use Rattle.std.proofs.Common.{◌≡◌, ◌-◌, ◌++◌, length, option_map}
use Rattle.state_rows.specs.Named.{chain_rows, frames_from}
use Rattle.state_rows.specs.Rows.{rows_in}
use Rattle.state_view.specs.Chains.{chain_in, frame_in}
use Rattle.state_view.proofs.chain.Chain.write.Given as goal

-- what is written so far, and what the rest adds
abbrev pub invariant-loop-place : goal.invariant-loop-place
invariant-loop-place l =
    let chain = chain_in l.self in
    let form = l.self.of.now.form in
    l.text.items ++ rows_in form (frames_from chain (length l.self.stack.now - l.place) l.place (option_map frame_in l.frame))
    ≡ l.initial.text.items ++ rows_in form (chain_rows chain (frame_in l.fn.innermost))
