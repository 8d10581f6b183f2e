-- Each reading of a pipeline is refused with a number of search bodies.
use Rattle.std.specs.Prelude.{refl, ℕ, ◌+◌, ◌||◌, List, [], ◌∷◌, ◌++◌, length, drop, Bool, false, Option, nat_le, codes}
use Rattle.std.specs.Str.{bytes_eq}
use Rattle.serde_json.specs.Data.{Data, Items, no_items, item, Members}
use Rattle.serde_json.specs.Find.{get_member}
use Rattle.agg_model.specs.declared.aggregation.Agg.{Agg, out-Agg}
use Rattle.agg_model.specs.declared.pipeline.Pipe.{Pipe}
use Rattle.agg_model.specs.declared.pipeline.PipeOrder.{PipeOrder}
use Rattle.agg_reading.specs.declared.names.PipeName.{PipeName}
use Rattle.agg_reading.specs.declared.names.PipeName.TheVariants as name
use Rattle.agg_reading.specs.declared.parts.NamedOrder.{NamedOrder}
use Rattle.agg_reading.specs.declared.pipes.NamedPath.{NamedPath}
use Rattle.agg_reading.specs.declared.pipes.ReadPipeKind.{ReadPipeKind}
use Rattle.agg_reading.specs.declared.pipes.ReadPipeKind.TheVariants as written
use Rattle.agg_reading.specs.declared.pipes.FoundPipe.{FoundPipe}
use Rattle.agg_reading.specs.declared.pipes.FoundPipe.TheVariants as walked
use Rattle.agg_reading.specs.Pointer.{member_step, item_step}
use Rattle.agg_reading.specs.Numbers.{whole_at}
use Rattle.agg_reading.specs.Orders.{item_count, child_named}
use Rattle.agg_reading.specs.Pipelines.{path_at, sort_order_at, sort_orders_from, sort_orders_at, bucket_sort_at, pipe_kind_at}
use Rattle.agg_reading.specs.PipePaths.{Around, value_path, sibling_from, sibling_path, sort_paths, resolved_kind, resolved_pipes, may_stand, is_sort, placed_pipes, fitted_pipes}
use Rattle.agg_reading.specs.Refusals.{body_refusals}
use Rattle.agg_reading.proofs.Refusing.{Refusing, value, refused, found, then, either, an_object, a_list, a_text, one_member, names, maybe}
use Rattle.agg_reading.proofs.QueryRefusals.{a_member, a_number}
use Rattle.agg_reading.proofs.KindRefusals.{a_direction}

-- members

a_path_member : (at : List ℕ) (d : Data) → Refusing body_refusals (path_at at d)
unfolding path_at
a_path_member at d =
    then _ _ (an_object 103 at d refl) (λ ms. then _ _ (names 101 _ at ms refl) (λ u.
    then _ _ (a_member (codes "buckets_path") at ms) (λ said. then _ _ (a_text 103 _ said refl) (λ text. value _))))

a_sort_order : (at : List ℕ) (ms : Members) → Refusing body_refusals (sort_order_at at ms)
unfolding sort_order_at
a_sort_order at ms =
    then _ _ (one_member 107 at ms refl) (λ said. then _ _ (an_object 103 _ said.1 refl) (λ inner. then _ _ (names 101 _ _ inner refl) (λ u.
    then _ _ (a_member (codes "order") _ inner) (λ direction. then _ _ (a_direction _ direction) (λ descending. value _)))))

some_sort_orders : (at : List ℕ) (n : ℕ) (done : List NamedOrder) (ds : Items) → Refusing body_refusals (sort_orders_from at n done ds)
unfolding sort_orders_from
some_sort_orders at n done no_items = value done
some_sort_orders at n done (item d ds) =
    then _ _ (an_object 103 _ d refl) (λ ms. then _ _ (a_sort_order (at ++ item_step n) ms) (λ o. some_sort_orders at (n + 1) (done ++ o ∷ []) ds))

all_sort_orders : (at : List ℕ) (d : Data) → Refusing body_refusals (sort_orders_at at d)
unfolding sort_orders_at
all_sort_orders at d = then _ _ (a_list 103 at d refl) (λ ds. either (nat_le (item_count ds) 4) _ _ (some_sort_orders at 0 [] ds) (refused 104 at refl))

a_bucket_sort : (at : List ℕ) (d : Data) → Refusing body_refusals (bucket_sort_at at d)
unfolding bucket_sort_at
a_bucket_sort at d =
    then _ _ (an_object 103 at d refl) (λ ms. then _ _ (names 101 _ at ms refl) (λ u.
    then _ _ (maybe (whole_at 0 2147483647) _ (get_member (codes "from") ms) (a_number _ _)) (λ start.
    then _ _ (maybe (whole_at 0 2147483647) _ (get_member (codes "size") ms) (a_number _ _)) (λ size.
    then _ _ (maybe sort_orders_at _ (get_member (codes "sort") ms) all_sort_orders) (λ sort. value _)))))

pub a_pipe_kind : (k : PipeName) (at : List ℕ) (d : Data) → Refusing body_refusals (pipe_kind_at k at d)
unfolding pipe_kind_at
a_pipe_kind name.BucketSort at d = a_bucket_sort at d
a_pipe_kind name.CumulativeSum at d = then _ _ (a_path_member at d) (λ p. value _)
a_pipe_kind name.Derivative at d = then _ _ (a_path_member at d) (λ p. value _)
a_pipe_kind name.MaxBucket at d = then _ _ (a_path_member at d) (λ p. value _)
a_pipe_kind name.MinBucket at d = then _ _ (a_path_member at d) (λ p. value _)
a_pipe_kind name.SumBucket at d = then _ _ (a_path_member at d) (λ p. value _)

-- paths

a_value_path : (children : List Agg) (at text : List ℕ) → Refusing body_refusals (value_path children at text)
unfolding value_path
a_value_path children at text =
    either (bytes_eq text (codes "_count")) _ _ (value _) (then _ _ (found 114 at (child_named text children) refl) (λ n. value _))

a_sibling_path : (aggs : List Agg) (p : NamedPath) → Refusing body_refusals (sibling_path aggs p)
unfolding sibling_path
a_sibling_path aggs p =
    then _ _ (found 114 p.at (sibling_from 0 p.path aggs) refl) (λ a.
    then _ _ (a_value_path (out-Agg a.1).children p.at (drop (length (out-Agg a.1).name + 1) p.path)) (λ v. value _))

some_sort_paths : (aggs : List Agg) (done : List PipeOrder) (os : List NamedOrder) → Refusing body_refusals (sort_paths aggs done os)
unfolding sort_paths
some_sort_paths aggs done [] = value done
some_sort_paths aggs done (o ∷ os) =
    then _ _ (a_value_path aggs o.at o.name) (λ v. some_sort_paths aggs (done ++ record { path = v; descending = o.descending } ∷ []) os)

a_resolved_kind : (aggs : List Agg) (k : ReadPipeKind) → Refusing body_refusals (resolved_kind aggs k)
unfolding resolved_kind
a_resolved_kind aggs (written.CumulativeSum p) = then _ _ (a_value_path aggs p.at p.path) (λ v. value _)
a_resolved_kind aggs (written.Derivative p) = then _ _ (a_value_path aggs p.at p.path) (λ v. value _)
a_resolved_kind aggs (written.SumBucket p) = then _ _ (a_sibling_path aggs p) (λ s. value _)
a_resolved_kind aggs (written.MinBucket p) = then _ _ (a_sibling_path aggs p) (λ s. value _)
a_resolved_kind aggs (written.MaxBucket p) = then _ _ (a_sibling_path aggs p) (λ s. value _)
a_resolved_kind aggs (written.BucketSort sort start size) = then _ _ (some_sort_paths aggs [] sort) (λ os. value _)

some_resolved : (aggs : List Agg) (done : List Pipe) (pipes : List FoundPipe) → Refusing body_refusals (resolved_pipes aggs done pipes)
unfolding resolved_pipes
some_resolved aggs done [] = value done
some_resolved aggs done (walked.Below p ∷ rest) = some_resolved aggs (done ++ p ∷ []) rest
some_resolved aggs done (walked.Here p ∷ rest) =
    then _ _ (a_resolved_kind aggs p.kind) (λ k. some_resolved aggs (done ++ record { at = []; name = p.name; kind = k } ∷ []) rest)

-- places

some_placed : (around : Around) (sorts : Bool) (pipes : List FoundPipe) → Refusing body_refusals (placed_pipes around sorts pipes)
unfolding placed_pipes
some_placed around sorts [] = value tt
some_placed around sorts (walked.Below p ∷ rest) = some_placed around sorts rest
some_placed around sorts (walked.Here p ∷ rest) =
    either (may_stand around sorts p.kind) _ _ (some_placed around (sorts || is_sort p.kind) rest) (refused 115 p.at refl)

pub some_fitted : (around : Around) (aggs : List Agg) (pipes : List FoundPipe) → Refusing body_refusals (fitted_pipes around aggs pipes)
unfolding fitted_pipes
some_fitted around aggs pipes = then _ _ (some_resolved aggs [] pipes) (λ resolved. then _ _ (some_placed around false pipes) (λ u. value _))
