use Rattle.std.proofs.Common.{sym, subst, map, List}
use Rattle.std.specs.Prelude.{T}
use Rattle.std.specs.List.{list_all}
use Rattle.std.specs.Ordering.{is_lt}
use Rattle.agg_model.specs.declared.aggregation.CompositeSource.{CompositeSource}
use Rattle.agg_model.specs.declared.aggregation.Kind.{Kind}
use Rattle.agg_model.specs.declared.aggregation.Kind.TheVariants as kind
use Rattle.agg_model.specs.declared.key.Key.{Key}
use Rattle.agg_evaluation.specs.Keys.{combinations, keys, source_keys}
use Rattle.agg_evaluation.specs.Rows.{row_of}
use Rattle.bucket_order.specs.Composites.{any_parts_cmp}
use Rattle.composite_agg.specs.FirstPages.{empty_page}
use Rattle.composite_agg.specs.InOrder.{page_cmp}
use Rattle.composite_agg.proofs.LaterKeys.{all-keys}
use Rattle.composite_agg.proofs.behind.are_behind.Goals as goal

pub returns-in-Many : goal.returns-in-Many
returns-in-Many c says =
    let row = row_of c.args.shard.now.rows c.args.row in
    let parts = c.begin_behind.ensures says in
    let sources_are = subst (λ (ss : List CompositeSource). T (list_all (λ js. is_lt (any_parts_cmp ss c.as_slice-in-Many.result.now js)) (combinations (map (source_keys row) ss)))) c.as_slice.ensures parts in
    let both = subst (λ (ps : List Key). T (list_all (λ js. is_lt (any_parts_cmp c.in-Composite.sources ps js)) (combinations (map (source_keys row) c.in-Composite.sources)))) c.as_slice-in-Many.ensures sources_are in
    subst (λ (k : Kind). T (list_all (λ q. is_lt (page_cmp (empty_page k).sources c.args.key.now q)) (keys c.args.shard.now.rows k row))) (sym c.in-Composite.is)
    (subst (λ (j : Key). T (list_all (λ q. is_lt (page_cmp c.in-Composite.sources j q)) (keys c.args.shard.now.rows (kind.Composite c.in-Composite.sources c.in-Composite.size c.in-Composite.after) row))) (sym c.in-Many.is)
    (all-keys c.in-Composite.sources row c.in-Many.parts both))
