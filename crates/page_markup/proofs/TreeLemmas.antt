-- Markup after markup is markup, and so is an element with markup in it.
use Rattle.std.proofs.Common.{◌≡◌, ℕ, List, [], ◌++◌, refl, sym, ap, ◌∙◌, subst, append_assoc, append-nil}
use Rattle.page_markup.specs.declared.markup.Attribute.{Attribute}
use Rattle.page_markup.specs.declared.words.Tag.{Tag}
use Rattle.std.specs.Prelude.{IsTrue, codes}
use Rattle.page_markup.specs.Addresses.{is_relative}
use Rattle.page_markup.specs.Escapes.{escaped}
use Rattle.page_markup.specs.Trees.{Tree, Nothing, Words, Meta, Element, Link, HasRelativeLinks, IsMarkup, element_text, end_text, link_start, link_text, meta_text, start_text, tree_text}
use Rattle.page_markup.specs.Words.{tag_word}

-- a tree with another behind it
abbrev followed_by : Tree → Tree → Tree
followed_by Nothing more = more
followed_by (Words text rest) more = Words text (followed_by rest more)
followed_by (Meta attributes rest) more = Meta attributes (followed_by rest more)
followed_by (Element tag attributes inner rest) more = Element tag attributes inner (followed_by rest more)
followed_by (Link address inner rest) more = Link address inner (followed_by rest more)

followed-text : (tree more : Tree) → tree_text tree ++ tree_text more ≡ tree_text (followed_by tree more)
followed-text Nothing more = refl
followed-text (Words text rest) more =
    append_assoc (escaped text) (tree_text rest) (tree_text more)
    ∙ ap (λ (t : List ℕ). escaped text ++ t) (followed-text rest more)
followed-text (Meta attributes rest) more =
    append_assoc (meta_text attributes) (tree_text rest) (tree_text more)
    ∙ ap (λ (t : List ℕ). meta_text attributes ++ t) (followed-text rest more)
followed-text (Element tag attributes inner rest) more =
    append_assoc (element_text tag attributes (tree_text inner)) (tree_text rest) (tree_text more)
    ∙ ap (λ (t : List ℕ). element_text tag attributes (tree_text inner) ++ t) (followed-text rest more)
followed-text (Link address inner rest) more =
    append_assoc (link_text address (tree_text inner)) (tree_text rest) (tree_text more)
    ∙ ap (λ (t : List ℕ). link_text address (tree_text inner) ++ t) (followed-text rest more)

-- links of two trees
followed-links : (tree more : Tree) → HasRelativeLinks tree → HasRelativeLinks more → HasRelativeLinks (followed_by tree more)
followed-links Nothing more links others = others
followed-links (Words text rest) more links others = followed-links rest more links others
followed-links (Meta attributes rest) more links others = followed-links rest more links others
followed-links (Element tag attributes inner rest) more links others = (links.0, followed-links rest more links.1 others)
followed-links (Link address inner rest) more links others = (links.0, links.1, followed-links rest more links.2 others)

pub nothing_is : IsMarkup []
nothing_is = record { tree = Nothing; written = refl; relative = tt }

pub joined_is : (one other : List ℕ) → IsMarkup one → IsMarkup other → IsMarkup (one ++ other)
joined_is one other a b = record {
  tree = followed_by a.tree b.tree;
  written = ap (λ (t : List ℕ). t ++ other) a.written ∙ ap (λ (t : List ℕ). tree_text a.tree ++ t) b.written
      ∙ followed-text a.tree b.tree;
  relative = followed-links a.tree b.tree a.relative b.relative;
}

pub words_are : (text : List ℕ) → IsMarkup (escaped text)
words_are text = record { tree = Words text Nothing; written = sym (append-nil (escaped text)); relative = tt }

pub meta_is : (attributes : List Attribute) → IsMarkup (meta_text attributes)
meta_is attributes = record { tree = Meta attributes Nothing; written = sym (append-nil (meta_text attributes)); relative = tt }

pub element_is : (tag : Tag) (attributes : List Attribute) (inner : List ℕ) → IsMarkup inner
    → IsMarkup (element_text tag attributes inner)
element_is tag attributes inner within = record {
  tree = Element tag attributes within.tree Nothing;
  written = ap (element_text tag attributes) within.written
      ∙ sym (append-nil (element_text tag attributes (tree_text within.tree)));
  relative = (within.relative, tt);
}

pub link_is : (address inner : List ℕ) → IsTrue (is_relative address) → IsMarkup inner → IsMarkup (link_text address inner)
link_is address inner leads within = record {
  tree = Link address within.tree Nothing;
  written = ap (link_text address) within.written ∙ sym (append-nil (link_text address (tree_text within.tree)));
  relative = (leads, within.relative, tt);
}

-- an element that was written behind markup in three steps
pub element_behind : (tag : Tag) (attributes : List Attribute) (word inner before started filled ended : List ℕ)
    → IsMarkup before → IsMarkup inner → word ≡ tag_word tag → started ≡ before ++ start_text word attributes
    → filled ≡ started ++ inner → ended ≡ filled ++ end_text tag → IsMarkup ended
element_behind tag attributes word inner before started filled ended a b named start_by fill end =
    let start : started ≡ before ++ start_text (tag_word tag) attributes =
    start_by ∙ ap (λ (t : List ℕ). before ++ start_text t attributes) named in
    let whole : ended ≡ before ++ element_text tag attributes inner =
    end ∙ ap (λ (t : List ℕ). t ++ end_text tag) (fill ∙ ap (λ (t : List ℕ). t ++ inner) start)
    ∙ ap (λ (t : List ℕ). t ++ end_text tag) (append_assoc before (start_text (tag_word tag) attributes) inner)
    ∙ append_assoc before (start_text (tag_word tag) attributes ++ inner) (end_text tag) in
    subst IsMarkup (sym whole) (joined_is before (element_text tag attributes inner) a (element_is tag attributes inner b))

-- a link that was written behind markup in three steps
pub link_behind : (address inner before started filled ended : List ℕ) → IsTrue (is_relative address) → IsMarkup before → IsMarkup inner
    → started ≡ before ++ link_start address → filled ≡ started ++ inner → ended ≡ filled ++ codes "</a>" → IsMarkup ended
link_behind address inner before started filled ended leads a b start fill end =
    let whole : ended ≡ before ++ link_text address inner =
    end ∙ ap (λ (t : List ℕ). t ++ codes "</a>") (fill ∙ ap (λ (t : List ℕ). t ++ inner) start)
    ∙ ap (λ (t : List ℕ). t ++ codes "</a>") (append_assoc before (link_start address) inner)
    ∙ append_assoc before (link_start address ++ inner) (codes "</a>") in
    subst IsMarkup (sym whole) (joined_is before (link_text address inner) a (link_is address inner leads b))
