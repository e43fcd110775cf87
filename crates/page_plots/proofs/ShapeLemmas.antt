-- Elements of four and of five attributes, and shapes one after another.
use Rattle.std.proofs.Common.{◌≡◌, ℕ, List, [], ◌∷◌, ◌++◌, sym, ap, ◌∙◌}
use Rattle.std.proofs.lemmas.List.{append_assoc, append-nil}
use Rattle.page_markup.specs.declared.markup.Attribute.{Attribute}
use Rattle.page_markup.specs.declared.words.AttributeName.{AttributeName}
use Rattle.page_markup.specs.declared.words.Tag.{Tag}
use Rattle.page_markup.specs.Trees.{attribute_text, element_text}
use Rattle.page_parts.specs.Elements.{element, said}

-- an attribute as its name and its value
said-is : (p : Attribute) (n : AttributeName) (v : List ℕ) → p.name ≡ n → p.value.now ≡ v → attribute_text p ≡ said n v
said-is p n v e f i = said (e i) (f i)

four-texts : (a b c d : List ℕ) → a ++ (b ++ (c ++ (d ++ []))) ≡ a ++ b ++ c ++ d
four-texts a b c d =
    ap (λ (z : List ℕ). a ++ (b ++ (c ++ z))) (append-nil d)
    ∙ sym (append_assoc a b (c ++ d)) ∙ sym (append_assoc (a ++ b) c d)

five-texts : (a b c d e : List ℕ) → a ++ (b ++ (c ++ (d ++ (e ++ [])))) ≡ a ++ b ++ c ++ d ++ e
five-texts a b c d e =
    ap (λ (z : List ℕ). a ++ (b ++ (c ++ (d ++ z)))) (append-nil e)
    ∙ sym (append_assoc a b (c ++ (d ++ e))) ∙ sym (append_assoc (a ++ b) c (d ++ e)) ∙ sym (append_assoc (a ++ b ++ c) d e)

-- an attribute is this name with this value
pub record IsSaid (p : Attribute) (n : AttributeName) (v : List ℕ) : Type 0 where
  pub name : p.name ≡ n
  pub value : p.value.now ≡ v

pub four-said : (tag : Tag) (p q r s : Attribute) (k l m n : AttributeName) (a b c d : List ℕ) → IsSaid p k a → IsSaid q l b → IsSaid r m c → IsSaid s n d → (inner inside : List ℕ) → inner ≡ inside
    → element_text tag (p ∷ q ∷ r ∷ s ∷ []) inner ≡ element tag (said k a ++ said l b ++ said m c ++ said n d) inside
four-said tag p q r s k l m n a b c d one two three four inner inside same =
    let texts = four-texts (attribute_text p) (attribute_text q) (attribute_text r) (attribute_text s) in
    (λ i. element tag (texts i) (same i))
    ∙ (λ i. element tag (said-is p k a one.name one.value i ++ said-is q l b two.name two.value i ++ said-is r m c three.name three.value i ++ said-is s n d four.name four.value i) inside)

pub five-said : (tag : Tag) (p q r s t : Attribute) (k l m n o : AttributeName) (a b c d e : List ℕ) → IsSaid p k a → IsSaid q l b → IsSaid r m c → IsSaid s n d → IsSaid t o e → (inner inside : List ℕ) → inner ≡ inside
    → element_text tag (p ∷ q ∷ r ∷ s ∷ t ∷ []) inner ≡ element tag (said k a ++ said l b ++ said m c ++ said n d ++ said o e) inside
five-said tag p q r s t k l m n o a b c d e one two three four five inner inside same =
    let texts = five-texts (attribute_text p) (attribute_text q) (attribute_text r) (attribute_text s) (attribute_text t) in
    (λ i. element tag (texts i) (same i))
    ∙ (λ i. element tag (said-is p k a one.name one.value i ++ said-is q l b two.name two.value i ++ said-is r m c three.name three.value i ++ said-is s n d four.name four.value i ++ said-is t o e five.name five.value i) inside)
