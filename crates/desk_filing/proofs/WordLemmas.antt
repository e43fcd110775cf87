-- What is read of `file` from `--` on is what its words ask for in their order.
use Rattle.std.proofs.Common.{◌≡◌, ◌∙◌, refl, sym, ap, ℕ, ◌+◌, ◌-◌, true, List, [], ◌∷◌, ◌++◌, length, drop, take, Option, Some, arith}
use Rattle.std.specs.Prelude.{nat_le}
use Rattle.std.proofs.lemmas.Bool.{le-leb}
use Rattle.std.proofs.lemmas.List.{length-drop}
use Rattle.desk_words.specs.WordOrder.{in_order}
use Rattle.desk_words.proofs.OrderLemmas.{in-order-is}
use Rattle.desk_filing.specs.Words.{file_asked, file_with}

-- of seven words the first is not read
seven-read : (mark : Option ℕ) (first : List ℕ) (words options : List (List ℕ)) → length words ≡ 7
    → file_with mark words options ≡ file_asked mark (first ∷ (drop 1 words ++ options))
seven-read mark first [] options is = absurd (omega (arith, is))
seven-read mark first (a ∷ []) options is = absurd (omega (arith, is))
seven-read mark first (a ∷ b ∷ []) options is = absurd (omega (arith, is))
seven-read mark first (a ∷ b ∷ c ∷ []) options is = absurd (omega (arith, is))
seven-read mark first (a ∷ b ∷ c ∷ d ∷ []) options is = absurd (omega (arith, is))
seven-read mark first (a ∷ b ∷ c ∷ d ∷ e ∷ []) options is = absurd (omega (arith, is))
seven-read mark first (a ∷ b ∷ c ∷ d ∷ e ∷ f ∷ []) options is = absurd (omega (arith, is))
seven-read mark first (a ∷ b ∷ c ∷ d ∷ e ∷ f ∷ g ∷ []) options is =
    let long : nat_le 7 (length (first ∷ b ∷ c ∷ d ∷ e ∷ f ∷ g ∷ options)) ≡ true = le-leb 7 (length (first ∷ b ∷ c ∷ d ∷ e ∷ f ∷ g ∷ options)) (omega arith) in
    rw long refl
seven-read mark first (a ∷ b ∷ c ∷ d ∷ e ∷ f ∷ g ∷ h ∷ more) options is = absurd (omega (arith, is))

pub file-behind : (mark : ℕ) (words : List (List ℕ)) → mark + 7 ≡ length words
    → file_with (Some mark) (drop mark words) (take (mark - 1) (drop 1 words)) ≡ file_asked (Some mark) (in_order (Some mark) words)
file-behind mark [] long = absurd (omega (arith, long))
file-behind mark (first ∷ rest) long =
    seven-read (Some mark) first (drop mark (first ∷ rest)) (take (mark - 1) rest) (length-drop mark (first ∷ rest) ∙ omega (arith, long))
    ∙ ap (file_asked (Some mark)) (sym (in-order-is mark first rest))
