-- Elements of a page, by their attributes as names and texts.
use Rattle.std.specs.Prelude.{ℕ, List, [], ◌++◌, codes}
use Rattle.page_markup.specs.declared.words.AttributeName.{AttributeName}
use Rattle.page_markup.specs.declared.words.Tag.{Tag}
use Rattle.page_markup.specs.declared.words.Tag.TheVariants as tag
use Rattle.page_markup.specs.Escapes.{escaped}
use Rattle.page_markup.specs.Trees.{end_text, link_text}
use Rattle.page_markup.specs.Words.{attribute_word, tag_word}

-- an attribute: its name, and its value between quotes
abbrev pub said : AttributeName → List ℕ → List ℕ
said name value = codes " " ++ attribute_word name ++ codes "=\"" ++ escaped value ++ codes "\""

-- an element with these attributes, as they are written, and this in it
abbrev pub element : Tag → List ℕ → List ℕ → List ℕ
element tag attributes inner =
    codes "<" ++ tag_word tag ++ attributes ++ codes ">" ++ inner ++ end_text tag

-- an element that holds a text alone
abbrev pub text_element : Tag → List ℕ → List ℕ
text_element tag words = element tag [] (escaped words)

-- a link to this address, on these words
abbrev pub link : List ℕ → List ℕ → List ℕ
link address words = link_text address (escaped words)

-- a section: its heading, and what is in it
abbrev pub section : List ℕ → List ℕ → List ℕ
section heading inner = element tag.Section [] (text_element tag.H2 heading ++ inner)
