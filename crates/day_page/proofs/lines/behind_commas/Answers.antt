use Rattle.std.proofs.Common.{◌∙◌, ap, sym}
use Rattle.std.specs.List.{after_first}
use Rattle.audit_base.specs.Names.{is_comma}
use Rattle.day_page.proofs.CutLemmas.{behind-more, no-commas}
use Rattle.day_page.proofs.lines.behind_commas.Goals as goal

pub loop-comma-init : goal.loop-comma-init
loop-comma-init c = sym (no-commas c.args.line.now)

pub loop-comma-preserved : goal.loop-comma-preserved
loop-comma-preserved c = c.behind_comma-rest.ensures ∙ ap (after_first is_comma) c.loop-comma.invariant ∙ behind-more c.loop-comma.comma c.args.line.now
