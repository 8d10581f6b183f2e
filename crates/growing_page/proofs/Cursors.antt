-- The key after which the page of a composite begins has a part for each source.
use Rattle.std.specs.Prelude.{◌≡◌, refl, ℕ, Bool, true, ◌&&◌, nat_le, List, length, map}
use Rattle.std.specs.List.{list_all}
use Rattle.std.specs.Option.{option_map_or}
use Rattle.std.proofs.Common.{sym, ◌∙◌, ap}
use Rattle.std.proofs.Math.Bool.{Bool-set}
use Rattle.std.proofs.Math.Logic.{∥∥₁_elim}
use Rattle.agg_model.specs.declared.aggregation.Agg.{Agg, out-Agg}
use Rattle.agg_model.specs.declared.aggregation.Kind.{Kind}
use Rattle.agg_model.specs.declared.aggregation.Kind.TheVariants as kind
use Rattle.agg_model.specs.declared.mapping.Mapping.{Mapping}
use Rattle.agg_model.specs.declared.limits.TheConstants.{MAX_PAGE, MAX_SOURCES}
use Rattle.agg_evaluation.specs.CompositeKeys.{is_composite_of}
use Rattle.agg_evaluation.specs.Folds.{fold_agg}
use Rattle.agg_evaluation.specs.SearchFits.{Made, kind_fits, made_at, source_fits}
use Rattle.agg_evaluation.proofs.AggFolds.{fold_agg-level}
use Rattle.agg_evaluation.proofs.MadeSearches.{made_parts}
use Rattle.composite_agg.specs.FirstPages.{empty_page}
use Rattle.composite_page.specs.Pages.{is_cursor}
use Rattle.list_laws.proofs.Booleans.{and_second}
use Rattle.shard_columns.specs.Columns.{Columns}
use Rattle.shard_columns.specs.Made.{IsAggFor}

kind-cursor : (m : Mapping) (top : Bool) (context : ℕ) (children : List Kind) (k : Kind) → kind_fits m top context children k ≡ true → is_cursor (length (empty_page k).sources) (empty_page k).after ≡ true
kind-cursor m top context children (kind.Composite sources size after) h =
    let ends = option_map_or (is_composite_of (length sources)) after true in
    let sized = nat_le size MAX_PAGE && ends in
    let fits = list_all (source_fits m) sources && (nat_le 1 size && sized) in
    let many = nat_le (length sources) MAX_SOURCES && fits in
    and_second (nat_le size MAX_PAGE) ends (and_second (nat_le 1 size) sized (and_second (list_all (source_fits m) sources) (nat_le 1 size && sized)
    (and_second (nat_le (length sources) MAX_SOURCES) fits (and_second (nat_le 1 (length sources)) many (and_second top (nat_le 1 (length sources) && many) h)))))
kind-cursor m top context children _ h = refl

pub agg-cursor : (shard : Columns) (a : Agg) → IsAggFor shard a → is_cursor (length (empty_page (out-Agg a).kind).sources) (empty_page (out-Agg a).kind).after ≡ true
agg-cursor shard a made =
    ∥∥₁_elim made (Bool-set _ _) (λ found.
    let m = found.0 in
    let top = found.1.0 in
    let context = found.1.1.0 in
    let level = ap (λ (x : Made). x.fits top context) (fold_agg-level (made_at m) a) in
    let parts = made_parts m (out-Agg a).kind (map (fold_agg (made_at m)) (out-Agg a).children) top context (sym level ∙ found.1.1.1.1) in
    kind-cursor m top context _ (out-Agg a).kind parts.0)
