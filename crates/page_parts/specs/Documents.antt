-- A page, whole in itself: its head, with how it looks, and its chief part.
use Rattle.std.specs.Prelude.{◌≡◌, false, ℕ, List, [], ◌++◌, codes}
use Rattle.page_markup.specs.declared.words.AttributeName.TheVariants as name
use Rattle.page_markup.specs.declared.words.Tag.TheVariants as tag
use Rattle.page_markup.specs.Escapes.{escaped}
use Rattle.page_markup.specs.Trees.{IsNestedPage, page_text}
use Rattle.page_parts.specs.Elements.{element, said, text_element}
use Rattle.page_parts.specs.Outside.{names_outside}

-- a `meta` with these attributes
abbrev pub meta : List ℕ → List ℕ
meta attributes = codes "<" ++ codes "meta" ++ attributes ++ codes ">"

-- what is said about a page: how its bytes are read, that it is as wide as the device, its title and
-- its style
abbrev pub head_of_page : List ℕ → List ℕ → List ℕ
head_of_page style title = element tag.Head []
    (meta (said name.Charset (codes "utf-8"))
    ++ meta (said name.Name (codes "viewport")
    ++ said name.Content (codes "width=device-width, initial-scale=1"))
    ++ text_element tag.Title title ++ text_element tag.Style style)

-- the text of a page of this style: its title, and its chief part
abbrev pub styled_page : List ℕ → List ℕ → List ℕ → List ℕ
styled_page style title main = page_text
    (element tag.Html (said name.Lang (codes "en"))
    (head_of_page style title ++ element tag.Body [] (element tag.Main [] main)))

-- the text is that of the page with this title and chief part, in some style of which no byte is
-- written as an entity, and which names nothing outside of the page; and it is well nested, whatever
-- the chief part is, with links to files beside it alone
pub record IsPage (title main text : List ℕ) : Type 0 where
  pub style : List ℕ
  pub plain : escaped style ≡ style
  pub inside : names_outside style ≡ false
  pub written : text ≡ styled_page style title main
  pub nested : IsNestedPage text
