-- Texts that are put together piece by piece.
use Rattle.std.proofs.Common.{◌≡◌, ◌∙◌, ℕ, List, ◌∷◌, ◌++◌, append_assoc}

-- a text, and seven after it that each follow an empty line, appended one after another
pub eight_texts : (old a b c d e f g h : List ℕ)
    → (((((((old ++ a) ++ 10 ∷ b) ++ 10 ∷ c) ++ 10 ∷ d) ++ 10 ∷ e) ++ 10 ∷ f) ++ 10 ∷ g) ++ 10 ∷ h
    ≡ old ++ (a ++ 10 ∷ (b ++ 10 ∷ (c ++ 10 ∷ (d ++ 10 ∷ (e ++ 10 ∷ (f ++ 10 ∷ (g ++ 10 ∷ h)))))))
eight_texts old a b c d e f g h =
    append_assoc ((((((old ++ a) ++ 10 ∷ b) ++ 10 ∷ c) ++ 10 ∷ d) ++ 10 ∷ e) ++ 10 ∷ f) (10 ∷ g) (10 ∷ h)
    ∙ append_assoc (((((old ++ a) ++ 10 ∷ b) ++ 10 ∷ c) ++ 10 ∷ d) ++ 10 ∷ e) (10 ∷ f) (10 ∷ (g ++ 10 ∷ h))
    ∙ append_assoc ((((old ++ a) ++ 10 ∷ b) ++ 10 ∷ c) ++ 10 ∷ d) (10 ∷ e) (10 ∷ (f ++ 10 ∷ (g ++ 10 ∷ h)))
    ∙ append_assoc (((old ++ a) ++ 10 ∷ b) ++ 10 ∷ c) (10 ∷ d) (10 ∷ (e ++ 10 ∷ (f ++ 10 ∷ (g ++ 10 ∷ h))))
    ∙ append_assoc ((old ++ a) ++ 10 ∷ b) (10 ∷ c) (10 ∷ (d ++ 10 ∷ (e ++ 10 ∷ (f ++ 10 ∷ (g ++ 10 ∷ h)))))
    ∙ append_assoc (old ++ a) (10 ∷ b) (10 ∷ (c ++ 10 ∷ (d ++ 10 ∷ (e ++ 10 ∷ (f ++ 10 ∷ (g ++ 10 ∷ h))))))
    ∙ append_assoc old a (10 ∷ (b ++ 10 ∷ (c ++ 10 ∷ (d ++ 10 ∷ (e ++ 10 ∷ (f ++ 10 ∷ (g ++ 10 ∷ h)))))))

-- five texts that each follow an empty line, appended one after another
pub five_texts : (old a b c d e : List ℕ)
    → ((((old ++ 10 ∷ a) ++ 10 ∷ b) ++ 10 ∷ c) ++ 10 ∷ d) ++ 10 ∷ e
    ≡ old ++ 10 ∷ (a ++ 10 ∷ (b ++ 10 ∷ (c ++ 10 ∷ (d ++ 10 ∷ e))))
five_texts old a b c d e =
    append_assoc (((old ++ 10 ∷ a) ++ 10 ∷ b) ++ 10 ∷ c) (10 ∷ d) (10 ∷ e)
    ∙ append_assoc ((old ++ 10 ∷ a) ++ 10 ∷ b) (10 ∷ c) (10 ∷ (d ++ 10 ∷ e))
    ∙ append_assoc (old ++ 10 ∷ a) (10 ∷ b) (10 ∷ (c ++ 10 ∷ (d ++ 10 ∷ e)))
    ∙ append_assoc old (10 ∷ a) (10 ∷ (b ++ 10 ∷ (c ++ 10 ∷ (d ++ 10 ∷ e))))
