-- Shapes one behind another.
use Rattle.std.proofs.Common.{◌≡◌, ◌++◌, ◌∙◌, ℕ, List, ap}
use Rattle.std.proofs.lemmas.List.{append_assoc}

pub three-behind : (made a b c one two three : List ℕ) → one ≡ made ++ a → two ≡ one ++ b → three ≡ two ++ c → three ≡ made ++ (a ++ b ++ c)
three-behind made a b c one two three f s t =
    t ∙ ap (λ (x : List ℕ). x ++ c) (s ∙ ap (λ (x : List ℕ). x ++ b) f ∙ append_assoc made a b) ∙ append_assoc made (a ++ b) c

pub four-behind : (made a b c d one two three four : List ℕ) → one ≡ made ++ a → two ≡ one ++ b → three ≡ two ++ c → four ≡ three ++ d → four ≡ made ++ (a ++ b ++ c ++ d)
four-behind made a b c d one two three four f s t u =
    u ∙ ap (λ (x : List ℕ). x ++ d) (three-behind made a b c one two three f s t) ∙ append_assoc made (a ++ b ++ c) d

pub five-behind : (made a b c d e one two three four five : List ℕ) → one ≡ made ++ a → two ≡ one ++ b → three ≡ two ++ c → four ≡ three ++ d → five ≡ four ++ e → five ≡ made ++ (a ++ b ++ c ++ d ++ e)
five-behind made a b c d e one two three four five f s t u v =
    v ∙ ap (λ (x : List ℕ). x ++ e) (four-behind made a b c d one two three four f s t u) ∙ append_assoc made (a ++ b ++ c ++ d) e
