-- The words of elements and attributes (HTML Living Standard; SVG 2).
use Rattle.std.specs.Prelude.{ℕ, List, codes}
use Rattle.page_markup.specs.declared.words.Tag.{Tag}
use Rattle.page_markup.specs.declared.words.Tag.TheVariants as tag
use Rattle.page_markup.specs.declared.words.AttributeName.{AttributeName}
use Rattle.page_markup.specs.declared.words.AttributeName.TheVariants as name

-- the name of an element
abbrev pub tag_word : Tag → List ℕ
tag_word tag.Html = codes "html"
tag_word tag.Head = codes "head"
tag_word tag.Title = codes "title"
tag_word tag.Style = codes "style"
tag_word tag.Body = codes "body"
tag_word tag.Main = codes "main"
tag_word tag.Section = codes "section"
tag_word tag.H1 = codes "h1"
tag_word tag.H2 = codes "h2"
tag_word tag.Paragraph = codes "p"
tag_word tag.Code = codes "code"
tag_word tag.Table = codes "table"
tag_word tag.Caption = codes "caption"
tag_word tag.TableHead = codes "thead"
tag_word tag.TableBody = codes "tbody"
tag_word tag.Row = codes "tr"
tag_word tag.HeaderCell = codes "th"
tag_word tag.Cell = codes "td"
tag_word tag.Figure = codes "figure"
tag_word tag.FigureCaption = codes "figcaption"
tag_word tag.Svg = codes "svg"
tag_word tag.Group = codes "g"
tag_word tag.Path = codes "path"
tag_word tag.Line = codes "line"
tag_word tag.Rectangle = codes "rect"
tag_word tag.Circle = codes "circle"
tag_word tag.SvgText = codes "text"

-- the name of an attribute
abbrev pub attribute_word : AttributeName → List ℕ
attribute_word name.Lang = codes "lang"
attribute_word name.Charset = codes "charset"
attribute_word name.Name = codes "name"
attribute_word name.Content = codes "content"
attribute_word name.Class = codes "class"
attribute_word name.Scope = codes "scope"
attribute_word name.Role = codes "role"
attribute_word name.ViewBox = codes "viewBox"
attribute_word name.Width = codes "width"
attribute_word name.Height = codes "height"
attribute_word name.X = codes "x"
attribute_word name.Y = codes "y"
attribute_word name.X1 = codes "x1"
attribute_word name.Y1 = codes "y1"
attribute_word name.X2 = codes "x2"
attribute_word name.Y2 = codes "y2"
attribute_word name.CenterX = codes "cx"
attribute_word name.CenterY = codes "cy"
attribute_word name.Radius = codes "r"
attribute_word name.PathData = codes "d"
attribute_word name.TextAnchor = codes "text-anchor"
