use Rattle.page_parts.proofs.documents.page_of.Goals as goal

pub returns : goal.returns
returns c = record {
  style = c.style_text.result.now;
  plain = c.style_text.ensures.plain;
  inside = c.style_text.ensures.inside;
  written = c.in_ok-text.ensures.written;
  nested = c.in_ok-text.ensures.nested;
}
