use Rattle.std.proofs.Common.{rules, ◌≡◌, ℕ, ◌-◌, ◌<◌, List, length, get_or, Option, Some, sym, ap, subst, ◌∙◌, string_bytes, vec_len}
use Rattle.trace_picture.specs.declared.element.Tag.{Tag}
use Rattle.trace_picture.proofs.Pages.{closes}
use Rattle.trace_picture.proofs.page.Page.close.Goals as goal

-- the removed tag is the last one
taken : (tags seen : List Tag) (count : ℕ) (popped : Option Tag) (tag : Tag) → seen ≡ tags → length seen ≡ count → tag ≡ get_or seen (length seen - 1) tag → 0 < length seen
    → ((d : Tag) → 0 < count → popped ≡ Some (get_or tags (count - 1) d)) → popped ≡ Some tag
taken tags seen count popped tag same counted last some pops =
    let e : tag ≡ get_or tags (count - 1) tag = subst (λ n. tag ≡ get_or tags (n - 1) tag) counted (subst (λ t. tag ≡ get_or t (length seen - 1) tag) same last) in
    pops tag (subst (λ n. 0 < n) counted some) ∙ ap (λ t. Some t) (sym e)

pub invariant_of-self-2 : goal.invariant_of-self-2
invariant_of-self-2 c =
    let h = c.in-Some.ensures.item in
    let tags = c.args.self.now.unended.items in
    let tag = c.in-Some.last.now in
    let last : c.pop.result ≡ Some tag = taken tags c.deref.result.now (vec_len c.args.self.now.unended) c.pop.result tag c.deref.ensures.value c.deref.ensures.len h.1 h.3.0 c.pop.ensures.value in
    record {
      begun = closes tags c.pop.new.self.items (string_bytes c.args.self.now.text) (string_bytes c.push_str.new.self) c.pop.result tag (search rules) last (search rules) c.args.self.now.begun;
    }
