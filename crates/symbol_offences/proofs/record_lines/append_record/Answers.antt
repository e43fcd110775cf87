use Rattle.std.proofs.Common.{◌≡◌, ◌∙◌, ◌++◌, ◌∷◌, [], ap, ℕ, List}
use Rattle.std.specs.Prelude.{codes, decimal, map}
use Rattle.std.specs.List.{join_with_byte}
use Rattle.std.proofs.lemmas.Result.{on_ok_weaker}
use Rattle.audit_base.specs.Stamps.{stamp_text}
use Rattle.audit_report.specs.LineParts.{later_parts_text, part_text}
use Rattle.audit_report.specs.Lines.{log_word}
use Rattle.symbol_offences.proofs.TextLemmas.{line_in_parts}
use Rattle.symbol_offences.proofs.record_lines.append_record.Goals as goal

pub returns : goal.returns
returns c =
    let front : List (List ℕ) = map part_text c.args.front.now in
    let time : List ℕ = stamp_text c.args.time in
    let back : List (List ℕ) = map part_text c.args.back.now in
    let head : List (List ℕ) = log_word c.args.at.log ∷ decimal c.args.at.place ∷ [] in
    let before : c.append_rest-2.new.out.items ≡ ((((c.args.out.now.items ++ join_with_byte 44 (codes "record" ∷ head)) ++ later_parts_text front) ++ 44 ∷ []) ++ time) ++ later_parts_text back =
    c.in_ok-append_rest-2.ensures
    ∙ ap (λ (t : List ℕ). t ++ later_parts_text back) (c.in_ok-write_stamp.ensures.appended
    ∙ ap (λ (t : List ℕ). t ++ time) (c.in_ok-append.ensures
    ∙ ap (λ (t : List ℕ). t ++ 44 ∷ []) (c.in_ok-append_rest.ensures
    ∙ ap (λ (t : List ℕ). t ++ later_parts_text front) (c.in_ok-append_joined.ensures
    ∙ (λ i. c.args.out.now.items ++ join_with_byte 44 (codes "record" ∷ c.log_word.ensures i ∷ decimal (c.from.ensures i) ∷ [])))))) in
    on_ok_weaker c.append-2.result
    (λ added. added ∙ ap (λ (t : List ℕ). t ++ 10 ∷ []) before ∙ line_in_parts c.args.out.now.items (codes "record") head front time back)
    c.append-2.ensures
