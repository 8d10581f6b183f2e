use Rattle.agg_generate.proofs.Documents.{document_pieces}
use Rattle.agg_generate.proofs.script.append_document.Goals as goal

pub returns-clause-text : goal.returns-clause-text
returns-clause-text c =
    document_pieces _ _ _ _ _ c.args.id c.args.draws.now.state _ _ _ _ _ _
    c.below-tag.ensures.state c.below-price.ensures.state c.below-count.ensures.state
    c.below-tag.ensures.answer c.below-price.ensures.answer c.below-count.ensures.answer
    c.in_ok-append_action.ensures c.in_ok-push_str.ensures.bytes c.in_ok-append_items.ensures.text c.in_ok-append_behind_items.ensures
