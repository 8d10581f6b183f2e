use Rattle.std.proofs.Common.{rules, ap, ◌∙◌, map}
use Rattle.std.proofs.lemmas.Result.{on_ok_weaker}
use Rattle.pipeline_agg.specs.Entries.{entry_cmp, view_of}
use Rattle.list_laws.proofs.StableSort.{sorted_from_sort_by}
use Rattle.pipeline_agg.proofs.EntryLaws.{entry_total, map-sorted}
use Rattle.pipeline_agg.proofs.entries.sort_entries.Goals as goal

pub returns : goal.returns
returns c =
    on_ok_weaker c.sort_by.result
    (λ up. ap (map view_of) (sorted_from_sort_by (λ a b. entry_cmp (view_of a) (view_of b)) entry_total c.args.entries.now.items _ up c.sort_by.ensures.stable (λ a r f k. search rules))
    ∙ map-sorted view_of entry_cmp c.args.entries.now.items)
    c.sort_by.ensures.sorted
