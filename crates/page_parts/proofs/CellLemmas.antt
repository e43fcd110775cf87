-- Cells with nothing in them, one more.
use Rattle.std.proofs.Common.{◌≡◌, ◌∙◌, sym, ap, ℕ, ◌+◌, List, [], ◌∷◌, ◌++◌, replicate}
use Rattle.std.specs.List.{flat_map}
use Rattle.std.proofs.lemmas.List.{append-nil, replicate_more}
use Rattle.std.proofs.lemmas.List.Concat.{flat_map-append}
use Rattle.page_parts.specs.TableElements.{gaps, words_cell}

pub gaps-more : (n : ℕ) → gaps n ++ words_cell [] ≡ gaps (n + 1)
gaps-more n =
    let f = λ (cell : List ℕ). cell in
    let cell = words_cell [] in
    ap (λ (l : List ℕ). gaps n ++ l) (sym (append-nil cell))
    ∙ sym (flat_map-append f (replicate n cell) (cell ∷ []))
    ∙ ap (flat_map f) (replicate_more n cell)
