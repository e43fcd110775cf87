-- No name of an attribute refers to anything, and no element fetches anything.
use Rattle.std.proofs.Common.{◌≡◌, false, refl}
use Rattle.page_markup.specs.declared.words.AttributeName.{AttributeName}
use Rattle.page_markup.specs.declared.words.AttributeName.TheVariants as name
use Rattle.page_markup.specs.declared.words.Tag.{Tag}
use Rattle.page_markup.specs.declared.words.Tag.TheVariants as tag
use Rattle.page_markup.specs.Laws.{fetches, refers}
use Rattle.page_markup.specs.Words.{attribute_word, tag_word}

pub no-reference : (name : AttributeName) → refers (attribute_word name) ≡ false
no-reference name.Lang = refl
no-reference name.Charset = refl
no-reference name.Name = refl
no-reference name.Content = refl
no-reference name.Class = refl
no-reference name.Scope = refl
no-reference name.Role = refl
no-reference name.ViewBox = refl
no-reference name.Width = refl
no-reference name.Height = refl
no-reference name.X = refl
no-reference name.Y = refl
no-reference name.X1 = refl
no-reference name.Y1 = refl
no-reference name.X2 = refl
no-reference name.Y2 = refl
no-reference name.CenterX = refl
no-reference name.CenterY = refl
no-reference name.Radius = refl
no-reference name.PathData = refl
no-reference name.TextAnchor = refl

pub no-fetch : (tag : Tag) → fetches (tag_word tag) ≡ false
no-fetch tag.Html = refl
no-fetch tag.Head = refl
no-fetch tag.Title = refl
no-fetch tag.Style = refl
no-fetch tag.Body = refl
no-fetch tag.Main = refl
no-fetch tag.Section = refl
no-fetch tag.H1 = refl
no-fetch tag.H2 = refl
no-fetch tag.Paragraph = refl
no-fetch tag.Code = refl
no-fetch tag.Table = refl
no-fetch tag.Caption = refl
no-fetch tag.TableHead = refl
no-fetch tag.TableBody = refl
no-fetch tag.Row = refl
no-fetch tag.HeaderCell = refl
no-fetch tag.Cell = refl
no-fetch tag.Figure = refl
no-fetch tag.FigureCaption = refl
no-fetch tag.Svg = refl
no-fetch tag.Group = refl
no-fetch tag.Path = refl
no-fetch tag.Line = refl
no-fetch tag.Rectangle = refl
no-fetch tag.Circle = refl
no-fetch tag.SvgText = refl
