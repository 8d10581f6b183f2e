use Rattle.std.proofs.Common.{◌∙◌, ap, take}
use Rattle.std.specs.Prelude.{filter}
use Rattle.agg_evaluation.specs.Orders.{bucket_key, composite_cmp}
use Rattle.agg_evaluation.specs.Shard.{sorted_by_key}
use Rattle.list_laws.specs.Sorting.{sorted}
use Rattle.list_laws.proofs.Booleans.{holds}
use Rattle.composite_page.specs.Pages.{is_beyond_any}
use Rattle.composite_page.proofs.PageOrder.{page-any}
use Rattle.composite_page.proofs.paging.first_buckets.Goals as goal

pub returns : goal.returns
returns c =
    let sources = c.args.sources.now in
    let after = c.args.after.now in
    c.from_vec.ensures
    ∙ (c.in_ok-sort_by_key.ensures.sorted
    ∙ ap sorted_by_key (c.truncate.ensures.items
    ∙ ap (take c.args.size) (c.keep_beyond.ensures
    ∙ (ap (filter (λ b. is_beyond_any sources after (bucket_key b))) (c.in_ok-sort_composites.ensures.sorted
    ∙ ap (sorted (λ a b. composite_cmp sources (bucket_key a) (bucket_key b))) c.into_vec-first.ensures)
    ∙ page-any sources c.args.size after c.args.buckets (holds _ c.requires.parts) (holds _ c.requires.cursor)))))
