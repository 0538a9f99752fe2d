-- A page grows, and stays one.
use Rattle.std.proofs.Common.{◌≡◌, ℕ, List, [], ◌∷◌, ◌++◌, reverse, Bool, true, false, cond, Option, Some, refl, sym, ap, subst, ◌∙◌, append_assoc, append-nil}
use Rattle.std.specs.Prelude.{option_to_list}
use Rattle.std.proofs.Math.Logic.{∥∥₁_map}
use Rattle.std.proofs.lemmas.List.{reverse-append}
use Rattle.trace_picture.specs.Escaped.{escaped}
use Rattle.trace_picture.specs.Element.{start_text, empty_text, end_text, titled}
use Rattle.trace_picture.specs.Page.{Inside, nothing, then_text, then_empty, then_element, inside_text, begun_text, IsPicture, IsBegun}
use Rattle.trace_picture.specs.declared.element.Attribute.{Attribute}
use Rattle.trace_picture.specs.declared.element.Tag.{Tag}
use Rattle.trace_picture.specs.declared.element.Tag.TheVariants.{Svg, Title}

pub seam : (xs ys zs : List ℕ) → (xs ++ ys) ++ zs ≡ xs ++ (ys ++ zs)
seam xs ys zs = rw append_assoc

-- the contents of the innermost element grow at their end
grown : (tags : List Tag) (text more : List ℕ) (grow : Inside → Inside) → ((i : Inside) → inside_text (grow i) ≡ inside_text i ++ more) → IsBegun tags text → IsBegun tags (text ++ more)
grown [] text more grow is (attributes, (inside, e)) =
    (attributes, (grow inside, rw (e, is inside, append_assoc)))
grown (tag ∷ outer) text more grow is (before, (attributes, (inside, (h, e)))) =
    (before, (attributes, (grow inside, (h, rw (e, is inside, append_assoc, append_assoc)))))

begun : (tags : List Tag) (text : List ℕ) (tag : Tag) (attributes : List Attribute) → IsBegun tags text → IsBegun (tag ∷ tags) (text ++ start_text tag attributes)
begun tags text tag attributes h = (text, (attributes, (nothing, (h, ap (λ s. text ++ s) (sym (append-nil (start_text tag attributes)))))))

ended : (outer : List Tag) (text : List ℕ) (tag : Tag) → IsBegun (tag ∷ outer) text → IsBegun outer (text ++ end_text tag)
ended outer text tag (before, (attributes, (inside, (h, e)))) =
    let same : text ++ end_text tag ≡ before ++ (begun_text tag attributes inside ++ end_text tag) = ap (λ t. t ++ end_text tag) e ∙ seam before (begun_text tag attributes inside) (end_text tag) in
    subst (IsBegun outer) (sym same)
    (grown outer before (begun_text tag attributes inside ++ end_text tag) (λ i. then_element i tag attributes inside) (λ i. refl) h)

finished : (text : List ℕ) → IsBegun [] text → IsPicture (text ++ end_text Svg)
finished text (attributes, (inside, e)) = (attributes, (inside, ap (λ t. t ++ end_text Svg) e))

-- the same for the list of tags as the code has it, the innermost last: `tags` and `text` become
-- `after` and `longer`

abbrev pub IsKept : List Tag → List ℕ → Type 0
IsKept tags text = ∥ IsBegun (reverse tags) text ∥₁

pub starts : (tags : List Tag) (text : List ℕ) (attributes : List Attribute) → tags ≡ [] → text ≡ start_text Svg attributes → IsKept tags text
starts tags text attributes none is =
    subst (λ o. IsKept o text) (sym none) (subst (IsKept []) (sym is) ∣ (attributes, (nothing, sym (append-nil (start_text Svg attributes)))) ∣₁)

pub opens : (tags after : List Tag) (text longer : List ℕ) (tag : Tag) (attributes : List Attribute)
    → after ≡ tags ++ tag ∷ [] → longer ≡ text ++ start_text tag attributes → IsKept tags text → IsKept after longer
opens tags after text longer tag attributes more is h =
    subst (λ o. ∥ IsBegun o longer ∥₁) (sym (ap reverse more ∙ reverse-append tags (tag ∷ [])))
    (subst (λ t. ∥ IsBegun (tag ∷ reverse tags) t ∥₁) (sym is) (∥∥₁_map h (begun (reverse tags) text tag attributes)))

pub texts : (tags : List Tag) (text longer words : List ℕ) → longer ≡ text ++ escaped words → IsKept tags text → IsKept tags longer
texts tags text longer words is h =
    subst (IsKept tags) (sym is) (∥∥₁_map h (grown (reverse tags) text (escaped words) (λ i. then_text i words) (λ i. refl)))

pub empties : (tags : List Tag) (text longer : List ℕ) (tag : Tag) (attributes : List Attribute)
    → longer ≡ text ++ empty_text tag attributes → IsKept tags text → IsKept tags longer
empties tags text longer tag attributes is h =
    subst (IsKept tags) (sym is) (∥∥₁_map h (grown (reverse tags) text (empty_text tag attributes) (λ i. then_empty i tag attributes) (λ i. refl)))

pub titles : (tags : List Tag) (text longer title : List ℕ) (tag : Tag) (attributes : List Attribute)
    → longer ≡ text ++ titled tag (start_text tag attributes) title → IsKept tags text → IsKept tags longer
titles tags text longer title tag attributes is h =
    subst (IsKept tags) (sym is)
    (∥∥₁_map h (grown (reverse tags) text (titled tag (start_text tag attributes) title) (λ i. then_element i tag attributes (then_element nothing Title [] (then_text nothing title))) (λ i. refl)))

pub closes : (tags outer : List Tag) (text longer : List ℕ) (popped : Option Tag) (tag : Tag)
    → tags ≡ outer ++ option_to_list popped → popped ≡ Some tag → longer ≡ text ++ end_text tag → IsKept tags text → IsKept outer longer
closes tags outer text longer popped tag less last is h =
    let same : tags ≡ outer ++ tag ∷ [] = less ∙ ap (λ p. outer ++ option_to_list p) last in
    subst (IsKept outer) (sym is)
    (∥∥₁_map (subst (λ o. ∥ IsBegun o text ∥₁) (ap reverse same ∙ reverse-append outer (tag ∷ [])) h) (ended (reverse outer) text tag))

pub finishes : (tags : List Tag) (text longer : List ℕ) → tags ≡ [] → longer ≡ text ++ end_text Svg → IsKept tags text → ∥ IsPicture longer ∥₁
finishes tags text longer none is h =
    subst (λ t. ∥ IsPicture t ∥₁) (sym is) (∥∥₁_map (subst (λ o. IsKept o text) none h) (finished text))

-- a text grows by a piece, or stays as it is
pub either : (tags : List Tag) (text longer piece : List ℕ) (grows : Bool) → longer ≡ cond grows (text ++ piece) text
    → (IsKept tags text → IsKept tags (text ++ piece)) → IsKept tags text → IsKept tags longer
either tags text longer piece true is step h = subst (IsKept tags) (sym is) (step h)
either tags text longer piece false is step h = subst (IsKept tags) (sym is) h
