-- Shapes of a picture, each with its class and where it lies on the paper.
use Rattle.std.specs.Prelude.{ℕ, ◌-◌, List, [], ◌++◌, ◌∷◌, codes, decimal}
use Rattle.page_markup.specs.declared.words.AttributeName.TheVariants as name
use Rattle.page_markup.specs.declared.words.Tag.TheVariants as tag
use Rattle.page_markup.specs.Escapes.{escaped}
use Rattle.page_plots.specs.declared.shapes.Anchor.{Anchor}
use Rattle.page_plots.specs.declared.shapes.Anchor.TheVariants as anchor
use Rattle.page_plots.specs.declared.shapes.Point.{Point}
use Rattle.page_parts.specs.Elements.{element, said, text_element}
use Rattle.page_plots.specs.Measures.{bar_height}

-- a rectangle, whose numbers are written so
abbrev pub written_rectangle : List ℕ → List ℕ → List ℕ → List ℕ → List ℕ → List ℕ
written_rectangle class x y width height = element tag.Rectangle
    (said name.Class class ++ said name.X x ++ said name.Y y ++ said name.Width width
    ++ said name.Height height) []

-- a rectangle: its class, its upper left corner, its width and its height
abbrev pub rectangle : List ℕ → Point → ℕ → ℕ → List ℕ
rectangle class corner width height =
    written_rectangle class (decimal corner.x) (decimal corner.y) (decimal width) (decimal height)

-- a bar, from its upper left corner to the right as far as here
abbrev pub bar_shape : List ℕ → Point → ℕ → List ℕ
bar_shape class corner right = rectangle class corner (right - corner.x) bar_height

-- a straight line, whose numbers are written so
abbrev pub written_straight_line : List ℕ → List ℕ → List ℕ → List ℕ → List ℕ → List ℕ
written_straight_line class x1 y1 x2 y2 = element tag.Line
    (said name.Class class ++ said name.X1 x1 ++ said name.Y1 y1 ++ said name.X2 x2
    ++ said name.Y2 y2) []

-- a straight line from one point to another
abbrev pub straight_line : List ℕ → Point → Point → List ℕ
straight_line class from to =
    written_straight_line class (decimal from.x) (decimal from.y) (decimal to.x) (decimal to.y)

-- a circle, whose numbers are written so
abbrev pub written_circle : List ℕ → List ℕ → List ℕ → List ℕ → List ℕ
written_circle class x y radius = element tag.Circle
    (said name.Class class ++ said name.CenterX x ++ said name.CenterY y
    ++ said name.Radius radius) []

-- a circle: its class, its centre and its radius
abbrev pub circle : List ℕ → Point → ℕ → List ℕ
circle class centre radius =
    written_circle class (decimal centre.x) (decimal centre.y) (decimal radius)

-- which point of a text is at its place
abbrev pub anchor_word : Anchor → List ℕ
anchor_word anchor.Start = codes "start"
anchor_word anchor.Middle = codes "middle"
anchor_word anchor.End = codes "end"

-- a text of a picture, whose numbers are written so, with this in it
abbrev pub written_label : List ℕ → List ℕ → List ℕ → List ℕ → List ℕ → List ℕ
written_label class x y anchor text = element tag.SvgText
    (said name.Class class ++ said name.X x ++ said name.Y y ++ said name.TextAnchor anchor) text

-- a text of a picture
abbrev pub label : List ℕ → Point → Anchor → List ℕ → List ℕ
label class at anchor words =
    written_label class (decimal at.x) (decimal at.y) (anchor_word anchor) (escaped words)

-- a line through points
abbrev pub path : List ℕ → List ℕ → List ℕ
path class points = element tag.Path (said name.Class class ++ said name.PathData points) []

-- a point of a path
abbrev pub path_point : Point → List ℕ
path_point at = decimal at.x ++ 32 ∷ decimal at.y ++ 32 ∷ []

-- shapes that belong together, with a title
abbrev pub group : List ℕ → List ℕ → List ℕ
group title shapes = element tag.Group [] (text_element tag.Title title ++ shapes)

-- a picture of these shapes, on paper of these coordinates, with a title
abbrev pub svg : List ℕ → List ℕ → List ℕ → List ℕ
svg paper title shapes = element tag.Svg
    (said name.ViewBox paper ++ said name.Role (codes "img"))
    (text_element tag.Title title ++ shapes)
