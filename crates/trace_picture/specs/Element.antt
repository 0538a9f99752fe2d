-- The text of an element.
use Rattle.std.specs.Prelude.{ℕ, ◌/◌, ◌%◌, List, [], ◌∷◌, ◌++◌, flat_map, codes, cond, ◌==◌}
use Rattle.std.specs.Fmt.{decimal}
use Rattle.trace_picture.specs.Escaped.{escaped}
use Rattle.trace_picture.specs.declared.element.Attribute.{Attribute}
use Rattle.trace_picture.specs.declared.element.Key.{Key}
use Rattle.trace_picture.specs.declared.element.Key.TheVariants as key
use Rattle.trace_picture.specs.declared.element.Tag.{Tag}
use Rattle.trace_picture.specs.declared.element.Tag.TheVariants as tag
use Rattle.trace_picture.specs.declared.element.Value.{Value}
use Rattle.trace_picture.specs.declared.element.Value.TheVariants as value
use Rattle.trace_picture.specs.declared.length.Length.{Length}

abbrev pub tag_name : Tag → List ℕ
tag_name tag.Defs = codes "defs"
tag_name tag.Group = codes "g"
tag_name tag.Line = codes "line"
tag_name tag.Marker = codes "marker"
tag_name tag.Path = codes "path"
tag_name tag.Pattern = codes "pattern"
tag_name tag.Rect = codes "rect"
tag_name tag.Style = codes "style"
tag_name tag.Svg = codes "svg"
tag_name tag.Text = codes "text"
tag_name tag.Title = codes "title"

abbrev pub key_name : Key → List ℕ
key_name key.Class = codes "class"
key_name key.Height = codes "height"
key_name key.Id = codes "id"
key_name key.MarkerHeight = codes "markerHeight"
key_name key.MarkerWidth = codes "markerWidth"
key_name key.Orient = codes "orient"
key_name key.Path = codes "d"
key_name key.PatternTransform = codes "patternTransform"
key_name key.PatternUnits = codes "patternUnits"
key_name key.RefX = codes "refX"
key_name key.RefY = codes "refY"
key_name key.Transform = codes "transform"
key_name key.ViewBox = codes "viewBox"
key_name key.Width = codes "width"
key_name key.X = codes "x"
key_name key.X1 = codes "x1"
key_name key.X2 = codes "x2"
key_name key.Xmlns = codes "xmlns"
key_name key.Y = codes "y"
key_name key.Y1 = codes "y1"
key_name key.Y2 = codes "y2"

-- a length in pixels, with one decimal where it is not whole
abbrev pub length_text : Length → List ℕ
length_text length = decimal (length.0 / 10) ++ cond (length.0 % 10 == 0) [] (46 ∷ decimal (length.0 % 10))

abbrev pub pair_text : Length → Length → List ℕ
pair_text x y = length_text x ++ codes " " ++ length_text y

abbrev pub value_text : Value → List ℕ
value_text (value.Text text) = escaped text.now
value_text (value.Length length) = length_text length
value_text (value.View width height) = codes "0 0 " ++ pair_text width height
value_text (value.Move x y) = codes "translate(" ++ pair_text x y ++ codes ")"

-- an attribute, with a space before it
abbrev pub attribute_text : Attribute → List ℕ
attribute_text a = codes " " ++ key_name a.key ++ codes "=\"" ++ value_text a.value ++ codes "\""

-- the tag of an element, up to what closes it
abbrev pub tag_text : Tag → List Attribute → List ℕ
tag_text t attributes = codes "<" ++ tag_name t ++ flat_map attribute_text attributes

-- the tag that begins an element; an element with nothing in it; the tag that ends an element
abbrev pub start_text : Tag → List Attribute → List ℕ
start_text t attributes = tag_text t attributes ++ codes ">"

abbrev pub empty_text : Tag → List Attribute → List ℕ
empty_text t attributes = tag_text t attributes ++ codes "/>\n"

abbrev pub end_text : Tag → List ℕ
end_text t = codes "</" ++ tag_name t ++ codes ">\n"

-- an element with a text and nothing else
abbrev pub worded : Tag → List ℕ → List ℕ
worded t words = start_text t [] ++ escaped words ++ end_text t

-- an element that has begun with this text, with a title and nothing else
abbrev pub titled : Tag → List ℕ → List ℕ → List ℕ
titled t start title = start ++ worded tag.Title title ++ end_text t
