use Rattle.std.proofs.Common.{rules, ◌≡◌, length, arith, string_bytes}
use Rattle.std.proofs.lemmas.Bool.Decides.{nat_tests}
use Rattle.std.proofs.lemmas.List.{nil_from_length}
use Rattle.trace_picture.proofs.Pages.{finishes}
use Rattle.trace_picture.proofs.page.Page.finish.Goals as goal

pub returns : goal.returns
returns c =
    let empty : length c.loop-self.self.unended.items ≡ 0 = grind (arith, nat_tests) in
    finishes c.loop-self.self.unended.items (string_bytes c.loop-self.self.text) (string_bytes c.push_end.new.out) (nil_from_length _ empty) (search rules) c.loop-self.self.begun
