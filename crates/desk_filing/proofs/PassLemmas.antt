-- How often the logs were gone over, and what holds of it.
use Rattle.std.proofs.Common.{inl, inr}
use Rattle.audit_base.specs.declared.terms.Which.{Which}
use Rattle.desk_words.specs.declared.requests.NamedLogs.{NamedLogs}
use Rattle.desk_filing.specs.Causes.{HoldsOfPass}
use Rattle.desk_filing.specs.declared.requests.FilingCommand.{FilingCommand}
use Rattle.desk_filing.specs.declared.requests.FilingCommand.TheVariants as command
use Rattle.log_source.specs.Sources.{Slot}
use Rattle.log_verdict.specs.Steps.{Reading, FaultsNeverFall}

-- every command may go over the logs once
pub one_pass : (c : FilingCommand) (holds : Reading → Type 0) (r : Reading) (logs : NamedLogs) → holds r → HoldsOfPass c holds r logs
one_pass (command.File the_rule symbol) holds r logs is = is
one_pass (command.FileAll the_rule) holds r logs is = is
one_pass command.Check holds r logs is = inl is

-- what follows of any pass follows
pub of_pass : (c : FilingCommand) (holds : Reading → Type 0) (r : Reading) (logs : NamedLogs) (So : Type 0) → (holds r → So)
    → ((between : Which → Slot) → FaultsNeverFall (record r { after = between }) → holds (record r { before = between }) → So) → HoldsOfPass c holds r logs → So
of_pass (command.File the_rule symbol) holds r logs So once again is = once is
of_pass (command.FileAll the_rule) holds r logs So once again is = once is
of_pass command.Check holds r logs So once again (inl is) = once is
of_pass command.Check holds r logs So once again (inr is) = again is.between is.later is.second

-- and so it does of how they were gone over
pub map_pass : (c : FilingCommand) (holds so : Reading → Type 0) (r : Reading) (logs : NamedLogs) → ((pass : Reading) → holds pass → so pass) → HoldsOfPass c holds r logs → HoldsOfPass c so r logs
map_pass (command.File the_rule symbol) holds so r logs each is = each r is
map_pass (command.FileAll the_rule) holds so r logs each is = each r is
map_pass command.Check holds so r logs each (inl is) = inl (each r is)
map_pass command.Check holds so r logs each (inr is) = inr (record { between = is.between; first = is.first; later = is.later; second = each _ is.second })
