-- What is asked of a log that is to be written in another form.
use Rattle.audit_base.specs.declared.terms.Form.{Form}
use Rattle.audit_base.specs.declared.terms.Which.{Which}
use Rattle.desk_words.specs.declared.requests.DeskRequest.{DeskRequest}
use Rattle.desk_words.specs.declared.requests.DeskRequest.TheVariants.{Whole}
use Rattle.desk_words.specs.declared.requests.WholeRequest.TheVariants.{Convert}
use Rattle.log_verdict.specs.declared.sources.Source.{Source}

-- the request to write the records of this log in this form
abbrev pub request_to_convert : Which → Source → Form → DeskRequest
request_to_convert log source into =
    Whole (Convert log source.form source.name.now into)
