-- The bytes are the text of the tokens that were written.
use Rattle.std.proofs.Common.{◌∙◌, ap}
use Rattle.agg_response.proofs.BulkTokens.{listed_text}
use Rattle.agg_response.proofs.bulk.listed.Goals as goal

pub returns : goal.returns
returns c =
    c.from_string.ensures ∙ ap (λ v. v.items) c.in-Ok.ensures.ok ∙ c.into_inner.ensures.items
    ∙ listed_text c.args.index.now c.args.items.now _ _ (c.new-out.ensures.before ∙ c.new.ensures.items) c.new-out.ensures.tokens c.in_ok-write_line.ensures
