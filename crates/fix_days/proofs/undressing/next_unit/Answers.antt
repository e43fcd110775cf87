use Rattle.std.proofs.Common.{◌≡◌, false, sym, ◌∙◌}
use Rattle.std.specs.Prelude.{nat_eq}
use Rattle.std.specs.List.{starts_with}
use Rattle.std.proofs.lemmas.Bool.{ne_eqb}
use Rattle.fix_days.proofs.UndressLemmas.{one-at, soh-next}
use Rattle.fix_days.proofs.undressing.next_unit.Goals.{else-not-ended-via-then-not-ended+else-starts_with, else-not-ended-via-else-not-ended}
use Rattle.fix_days.proofs.undressing.next_unit.Goals as goal

pub returns-then-begins_with : goal.returns-then-begins_with
returns-then-begins_with c = soh-next c.args.soh.now c.args.text.now c.args.ended c.requires.some c.requires.line (sym c.begins_with.ensures ∙ c.if-begins_with.true)

pub returns : goal.returns
returns c =
    let cut : c.args.ended ≡ false → starts_with nat_eq c.args.soh.now c.args.text.now ≡ false =
    elim c.else-not-ended.branch [
      | else-not-ended-via-then-not-ended+else-starts_with w ↦ λ open_end. sym w.starts_with.ensures.value ∙ w.if-starts_with.false
      | else-not-ended-via-else-not-ended w ↦ λ open_end. absurd (cc (sym open_end ∙ w.if-not-ended.false))
    ] in
    one-at c.args.soh.now c.args.text.now c.args.ended (sym c.is_empty.ensures ∙ c.if-is_empty.false) (ne_eqb _ 10 c.if-text-eq10.false) (sym c.begins_with.ensures ∙ c.if-begins_with.false) cut
