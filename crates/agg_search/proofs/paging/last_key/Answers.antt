use Rattle.std.proofs.Common.{◌∙◌, None, Some, ap, sym}
use Rattle.std.specs.Prelude.{option_copied}
use Rattle.std.specs.List.{last_or}
use Rattle.agg_response.proofs.LastItem.{last_is}
use Rattle.agg_search.proofs.LastKeys.{last-of}
use Rattle.agg_search.proofs.paging.last_key.Goals as goal

pub returns-in_ok-copy-in-Some-last : goal.returns-in_ok-copy-in-Some-last
returns-in_ok-copy-in-Some-last c =
    ap Some c.in_ok-copy-in-Some-last.ensures
    ∙ last-of c.args.answer.now.nodes c.in-Some.node.now c.in-Some-last.bucket.now (sym c.get.ensures ∙ ap option_copied c.in-Some.is)
    (ap (last_or None) (sym c.as_slice.ensures) ∙ last_is c.as_slice.result.now c.in-Some-last.bucket.now (sym (sym c.last.ensures.value ∙ ap option_copied c.in-Some-last.is)))
