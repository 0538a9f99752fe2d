-- The contents of a page: elements that nest.
use Rattle.std.specs.Prelude.{◌≡◌, ℕ, List, [], ◌∷◌, ◌++◌}
use Rattle.trace_picture.specs.Escaped.{escaped}
use Rattle.trace_picture.specs.Element.{start_text, empty_text, end_text}
use Rattle.trace_picture.specs.declared.element.Attribute.{Attribute}
use Rattle.trace_picture.specs.declared.element.Tag.{Tag}
use Rattle.trace_picture.specs.declared.element.Tag.TheVariants.{Svg}

-- The contents of an element: nothing, or contents and then a text, an element with nothing in it,
-- or an element with contents.
pub data Inside : Type 0 where
  nothing : Inside
  then_text : Inside → List ℕ → Inside
  then_empty : Inside → Tag → List Attribute → Inside
  then_element : Inside → Tag → List Attribute → Inside → Inside

abbrev pub inside_text : Inside → List ℕ
inside_text nothing = []
inside_text (then_text before text) = inside_text before ++ escaped text
inside_text (then_empty before tag attributes) = inside_text before ++ empty_text tag attributes
inside_text (then_element before tag attributes inside) = inside_text before ++ (start_text tag attributes ++ inside_text inside ++ end_text tag)

-- an element that has begun, with its contents so far
abbrev pub begun_text : Tag → List Attribute → Inside → List ℕ
begun_text tag attributes inside = start_text tag attributes ++ inside_text inside

-- The text is one element `svg`: its tags nest and match, and its values and texts are escaped.
abbrev pub IsPicture : List ℕ → Type 0
IsPicture text = (attributes : List Attribute) × ((inside : Inside) × (text ≡ begun_text Svg attributes inside ++ end_text Svg))

-- The text is the beginning of an element `svg`, in which the elements of the list have begun, each inside the
-- next one, and none of them has ended.
abbrev pub IsBegun : List Tag → List ℕ → Type 0
IsBegun [] text = (attributes : List Attribute) × ((inside : Inside) × (text ≡ begun_text Svg attributes inside))
IsBegun (tag ∷ outer) text =
    (before : List ℕ) × ((attributes : List Attribute) × ((inside : Inside) × (IsBegun outer before × (text ≡ before ++ begun_text tag attributes inside))))
