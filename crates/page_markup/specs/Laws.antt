-- The laws of markup, in one sentence each.
use Rattle.std.specs.Prelude.{◌≡◌, ◌==◌, ℕ, Bool, false, List, [], ◌∷◌, IsTrue, codes}
use Rattle.std.specs.Cmp.Lexicographic.{pointwise}
use Rattle.std.specs.List.{list_all, list_any}
use Rattle.page_markup.specs.declared.words.AttributeName.{AttributeName}
use Rattle.page_markup.specs.declared.words.Tag.{Tag}
use Rattle.page_markup.specs.Escapes.{escaped, is_byte_of_text, unescaped}
use Rattle.page_markup.specs.Words.{attribute_word, tag_word}

-- no text, whoever chose it, writes a byte that begins or ends an element or a value
abbrev pub NoTextIsMarkup : Type 0
NoTextIsMarkup = (text : List ℕ) → IsTrue (list_all is_byte_of_text (escaped text))

-- a text is read back from how it is written; so no two texts are written alike
abbrev pub TextIsReadBack : Type 0
TextIsReadBack = (text : List ℕ) → unescaped (escaped text) ≡ text

-- an attribute of this name makes a browser look at something outside, or may hold a style or a
-- script (HTML Living Standard; SVG 2)
abbrev pub refers : List ℕ → Bool
refers word = list_any (pointwise ◌==◌ word)
    (codes "src" ∷ codes "srcset" ∷ codes "href" ∷ codes "xlink:href" ∷ codes "data"
    ∷ codes "action" ∷ codes "formaction" ∷ codes "poster" ∷ codes "background"
    ∷ codes "cite" ∷ codes "ping" ∷ codes "manifest" ∷ codes "http-equiv" ∷ codes "style"
    ∷ codes "fill" ∷ codes "stroke" ∷ codes "filter" ∷ codes "mask" ∷ codes "clip-path" ∷ [])

-- an element of this name fetches something, or is a script
abbrev pub fetches : List ℕ → Bool
fetches word = list_any (pointwise ◌==◌ word)
    (codes "script" ∷ codes "link" ∷ codes "base" ∷ codes "img" ∷ codes "image" ∷ codes "use"
    ∷ codes "iframe" ∷ codes "frame" ∷ codes "object" ∷ codes "embed" ∷ codes "audio"
    ∷ codes "video" ∷ codes "source" ∷ codes "track" ∷ codes "input" ∷ codes "form" ∷ codes "a"
    ∷ [])

-- no attribute of an element or a `meta` refers to anything; a link alone has an address
abbrev pub NoAttributeRefers : Type 0
NoAttributeRefers = (name : AttributeName) → refers (attribute_word name) ≡ false

-- no element fetches anything, and none but a link is a link
abbrev pub NoElementFetches : Type 0
NoElementFetches = (tag : Tag) → fetches (tag_word tag) ≡ false
