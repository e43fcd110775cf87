use Rattle.std.proofs.Common.{◌≡◌, ◌∙◌, ap₂, subst, sym, List, ℕ, Option, Some, map, length}
use Rattle.std.specs.Prelude.{IfOk, IsErr, IsSome}
use Rattle.std.specs.String.{string_bytes}
use Rattle.std.proofs.lemmas.List.{length-map}
use Rattle.desk_words.specs.WordOrder.{in_order}
use Rattle.desk_words.proofs.OrderLemmas.{before-mapped, from-mapped}
use Rattle.desk_filing.specs.declared.requests.FilingRequest.{FilingRequest}
use Rattle.desk_filing.specs.Words.{file_asked, file_with}
use Rattle.desk_filing.proofs.WordLemmas.{file-behind}
use Rattle.desk_filing.proofs.words.file_behind.Goals as goal

pub returns-clause-request : goal.returns-clause-request
returns-clause-request c =
    let words = c.args.words.now in
    let same =
    ap₂ {C = Option FilingRequest} (file_with (Some c.args.mark)) (from-mapped string_bytes c.args.mark words _ c.words_from.ensures) (before-mapped string_bytes c.args.mark words _ c.options_before.ensures)
    ∙ file-behind c.args.mark (map string_bytes words) (c.requires.behind ∙ sym (length-map words string_bytes)) in
    subst (λ (asked : Option FilingRequest). IfOk c.file_with.result (λ made. made ≡ asked)) same c.file_with.ensures.request

pub returns-clause-memory : goal.returns-clause-memory
returns-clause-memory c =
    let words = c.args.words.now in
    let same =
    ap₂ {C = Option FilingRequest} (file_with (Some c.args.mark)) (from-mapped string_bytes c.args.mark words _ c.words_from.ensures) (before-mapped string_bytes c.args.mark words _ c.options_before.ensures)
    ∙ file-behind c.args.mark (map string_bytes words) (c.requires.behind ∙ sym (length-map words string_bytes)) in
    subst (λ (asked : Option FilingRequest). IsErr c.file_with.result → IsSome asked) same c.file_with.ensures.memory
