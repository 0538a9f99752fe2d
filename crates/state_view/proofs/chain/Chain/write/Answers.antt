-- the rows of one more frame are written
use Rattle.std.proofs.Common.{rules, ◌≡◌, ◌<◌, ◌≤◌, ◌-◌, ◌++◌, ℕ, List, length, option_map, ap, subst, sym, arith}
use Rattle.std.specs.Prelude.{None, Option, Some}
use Rattle.state_rows.specs.Named.{chain_rows, frames_from}
use Rattle.state_rows.specs.Rows.{rows_in}
use Rattle.state_view.specs.Chains.{chain_in, frame_in}
use Rattle.state_view.specs.declared.chain.Frame.{Frame}
use Rattle.state_view.proofs.Named.{all_frames, more_frames, no_frame}
use Rattle.state_view.proofs.chain.Chain.write.Goals as goal

pub loop-place-preserved : goal.loop-place-preserved
loop-place-preserved c =
    let form = c.args.self.now.of.now.form in
    let chain = chain_in c.args.self.now in
    let n = length c.args.self.now.stack.now in
    let at = c.in-Some.at in
    let whole = c.args.text.now.items ++ rows_in form (chain_rows chain (frame_in c.args.innermost)) in
    let here : c.loop-place.frame ≡ Some at = search rules in
    let before = subst (λ (f : Option Frame). c.loop-place.text.items ++ rows_in form (frames_from chain (n - c.loop-place.place) c.loop-place.place (option_map frame_in f)) ≡ whole) here c.loop-place.invariant in
    more_frames form chain n c.loop-place.place (frame_in at) (option_map frame_in c.caller-frame.result) c.loop-place.text.items c.write_frame.new.text.items _ (search rules) c.caller-frame.ensures before c.in_ok-write_frame.ensures

pub returns : goal.returns
returns c =
    let n = length c.args.self.now.stack.now in
    let done : n ≤ c.loop-place.place = search rules in
    all_frames c.args.self.now.of.now.form (chain_in c.args.self.now) n c.loop-place.place (option_map frame_in c.loop-place.frame) c.loop-place.text.items _ done c.loop-place.invariant

pub returns-in_default : goal.returns-in_default
returns-in_default c =
    let n = length c.args.self.now.stack.now in
    let none : option_map frame_in c.loop-place.frame ≡ None = search rules in
    no_frame c.args.self.now.of.now.form (chain_in c.args.self.now) (n - c.loop-place.place) c.loop-place.place (option_map frame_in c.loop-place.frame) c.loop-place.text.items _ none c.loop-place.invariant
