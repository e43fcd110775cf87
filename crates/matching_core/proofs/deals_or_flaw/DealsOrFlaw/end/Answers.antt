use Rattle.std.proofs.Common.{sym, ◌∙◌}
use Rattle.instruction_history.specs.Flaws.{flaw_finding}
use Rattle.matching_core.proofs.DraftLemmas.{ends-deals, ends-finding, ends-list, resolved-known}
use Rattle.matching_core.proofs.deals_or_flaw.DealsOrFlaw.end.Goals as goal

pub returns-clause-finding : goal.returns-clause-finding
returns-clause-finding c = λ symbol trades has. ends-finding _ _ trades c.args.self.sound (flaw_finding c.args.self.flaw) has.known ∙ sym c.finding_of.ensures

pub returns-clause-deals : goal.returns-clause-deals
returns-clause-deals c = λ none symbol trades has. ends-deals _ _ trades c.args.self.sound (flaw_finding c.args.self.flaw) (sym c.finding_of.ensures ∙ none) has.known

pub returns-clause-deal_list : goal.returns-clause-deal_list
returns-clause-deal_list c = λ none. ends-list _ _ c.requires.trades c.args.self.sound (flaw_finding c.args.self.flaw) c.requires.fits_places (sym c.finding_of.ensures ∙ none) c.requires.is.known

pub returns-clause-numbers : goal.returns-clause-numbers
returns-clause-numbers c = λ none. (resolved-known _ _ c.args.self.sound (flaw_finding c.args.self.flaw) (sym c.finding_of.ensures ∙ none) c.requires.is.known).numbers
