-- A section of a page that has a picture.
use Rattle.std.specs.Prelude.{ℕ, List, [], ◌++◌}
use Rattle.page_markup.specs.declared.words.Tag.TheVariants as tag
use Rattle.page_parts.specs.Elements.{element, section}
use Rattle.page_plots.specs.Shapes.{svg}

-- a figure: a picture, and its caption
abbrev pub figure : List ℕ → List ℕ → List ℕ
figure picture caption =
    element tag.Figure [] (picture ++ element tag.FigureCaption [] caption)

-- a section of a heading with a picture of these shapes, which has a title and this paper, and its
-- caption
abbrev pub figure_section : List ℕ → List ℕ → List ℕ → List ℕ → List ℕ → List ℕ
figure_section heading title paper shapes caption =
    section heading (figure (svg paper title shapes) caption)
