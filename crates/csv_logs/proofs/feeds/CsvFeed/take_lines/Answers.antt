use Rattle.std.proofs.Common.{◌≡◌, [], ◌∷◌, ◌++◌, List, ℕ, Some, ap, sym, refl, rules, ◌∙◌, append_assoc}
use Rattle.std.specs.Prelude.{option_map}
use Rattle.std.specs.Fmt.{option_append}
use Rattle.csv.specs.Reading.{builder_config, builder_is_flexible, builder_names_headers, builder_trim, strip_bom}
use Rattle.csv_logs.specs.Readers.{is_closed}
use Rattle.csv_logs.proofs.ReaderLemmas.{line-bom, new-reading}
use Rattle.csv_logs.proofs.FeedLemmas.{ends-lines, goes-none, has-line}
use Rattle.csv_logs.proofs.feeds.CsvFeed.take_lines.Goals as goal

pub end_line-requires-clause-room : goal.end_line-requires-clause-room
end_line-requires-clause-room g c = has-line _ _ _ _ _ _ _ c.requires.room

pub returns-then-self-eq0-clause-taken : goal.returns-then-self-eq0-clause-taken
returns-then-self-eq0-clause-taken g c =
    ends-lines _ _ _ _ _ _ _ _ _ _ _ _ _ _ (c.in_ok-end_line.ensures.rest ∙ c.requires.rest) c.in_ok-end_line.ensures.taken (goes-none _ _)

pub read_on-requires-clause-closed : goal.read_on-requires-clause-closed
read_on-requires-clause-closed g c = ap is_closed (sym c.without_cr.ensures) ∙ sym c.is_closed.ensures ∙ c.if-not-is_closed.false

pub read_on-requires-clause-reading : goal.read_on-requires-clause-reading
read_on-requires-clause-reading g c =
    let made = c.from_reader-reader.ensures in
    let closed = ap is_closed (sym c.without_cr.ensures) ∙ sym c.is_closed.ensures ∙ c.if-not-is_closed.false in
    let lf : c.as_slice.result.now ≡ 10 ∷ [] = search rules in
    let line = c.chain-ended.ensures.bytes ∙ ap (λ (b : List ℕ). option_append (Some c.args.line.now) (Some b)) lf in
    new-reading _ c.from_reader-reader.result (c.args.line.now ++ 10 ∷ c.args.text.now) (made.config ∙ ap builder_config c.flexible.ensures ∙ ap builder_config c.has_headers.ensures ∙ c.new.ensures.config)
    (made.trim ∙ ap builder_trim c.flexible.ensures ∙ ap builder_trim c.has_headers.ensures ∙ c.new.ensures.trim)
    (made.flexible ∙ ap builder_is_flexible c.flexible.ensures)
    (made.has_headers ∙ ap builder_names_headers c.flexible.ensures ∙ ap builder_names_headers c.has_headers.ensures)
    made.headers made.fresh made.state
    (made.source ∙ ap (option_map strip_bom) (c.chain.ensures.bytes ∙ ap (λ (o : _). option_append o (Some c.args.text.now)) line)
    ∙ ap (λ (t : List ℕ). Some (strip_bom t)) (append_assoc c.args.line.now (10 ∷ []) c.args.text.now))
    (line-bom (c.args.line.now ++ 10 ∷ c.args.text.now) c.args.line.now c.args.text.now refl closed)
