-- What markup is: texts, elements and links, one after another, each element and link with what is
-- in it.
use Rattle.std.specs.Prelude.{◌≡◌, ℕ, List, [], ◌∷◌, ◌++◌, IsTrue, codes}
use Rattle.std.specs.List.{flat_map}
use Rattle.page_markup.specs.declared.markup.Attribute.{Attribute}
use Rattle.page_markup.specs.declared.words.Tag.{Tag}
use Rattle.page_markup.specs.Addresses.{is_relative}
use Rattle.page_markup.specs.Escapes.{escaped}
use Rattle.page_markup.specs.Words.{attribute_word, tag_word}

-- an attribute: a space, its name, `=` and its value between quotes
abbrev pub attribute_text : Attribute → List ℕ
attribute_text attribute =
    codes " " ++ attribute_word attribute.name ++ codes "=\"" ++ escaped attribute.value.now
    ++ codes "\""

-- the start of an element of this name: the name and the attributes between `<` and `>`
abbrev pub start_text : List ℕ → List Attribute → List ℕ
start_text word attributes = codes "<" ++ word ++ flat_map attribute_text attributes ++ codes ">"

-- the end of an element
abbrev pub end_text : Tag → List ℕ
end_text tag = codes "</" ++ tag_word tag ++ codes ">"

-- an element with this in it
abbrev pub element_text : Tag → List Attribute → List ℕ → List ℕ
element_text tag attributes inner = start_text (tag_word tag) attributes ++ inner ++ end_text tag

-- the start of a link to this address, and a link with this in it
abbrev pub link_start : List ℕ → List ℕ
link_start address = codes "<a href=\"" ++ escaped address ++ codes "\">"

abbrev pub link_text : List ℕ → List ℕ → List ℕ
link_text address inner = link_start address ++ inner ++ codes "</a>"

-- a `meta`, which has nothing in it and no end
abbrev pub meta_text : List Attribute → List ℕ
meta_text attributes = start_text (codes "meta") attributes

-- Markup as what it is made of: nothing; or a text, a `meta`, an element or a link, and what
-- follows it.
pub data Tree : Type 0 where
  Nothing : Tree
  Words : (text : List ℕ) → (rest : Tree) → Tree
  Meta : (attributes : List Attribute) → (rest : Tree) → Tree
  Element : (tag : Tag) → (attributes : List Attribute) → (inner rest : Tree) → Tree
  Link : (address : List ℕ) → (inner rest : Tree) → Tree

-- how markup is written
abbrev pub tree_text : Tree → List ℕ
tree_text Nothing = []
tree_text (Words text rest) = escaped text ++ tree_text rest
tree_text (Meta attributes rest) = meta_text attributes ++ tree_text rest
tree_text (Element tag attributes inner rest) =
    element_text tag attributes (tree_text inner) ++ tree_text rest
tree_text (Link address inner rest) = link_text address (tree_text inner) ++ tree_text rest

-- each link leads to a file beside the page
abbrev pub HasRelativeLinks : Tree → Type 0
HasRelativeLinks Nothing = Unit {0}
HasRelativeLinks (Words text rest) = HasRelativeLinks rest
HasRelativeLinks (Meta attributes rest) = HasRelativeLinks rest
HasRelativeLinks (Element tag attributes inner rest) =
    HasRelativeLinks inner × HasRelativeLinks rest
HasRelativeLinks (Link address inner rest) =
    IsTrue (is_relative address) × HasRelativeLinks inner × HasRelativeLinks rest

-- The text is well nested: it is that of texts, elements and links, each element and link with its
-- end; and it leads nowhere but to files beside the page.
pub record IsMarkup (text : List ℕ) : Type 0 where
  pub tree : Tree
  pub written : text ≡ tree_text tree
  pub relative : HasRelativeLinks tree

-- a page: what says that it is one, and its root
abbrev pub page_text : List ℕ → List ℕ
page_text root = codes "<!DOCTYPE html>" ++ 10 ∷ root ++ 10 ∷ []

-- The text is that of a page whose root is well nested.
pub record IsNestedPage (text : List ℕ) : Type 0 where
  pub root : List ℕ
  pub nested : IsMarkup root
  pub written : text ≡ page_text root
