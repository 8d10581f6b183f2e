-- Each reading of a search body is refused with a number of search bodies, unless the bytes are no JSON.
use Rattle.std.specs.Prelude.{◌≡◌, ◌≢◌, refl, ℕ, zero, suc, List, [], ◌∷◌, ◌++◌, length, Bool, true, false, not, ◌&&◌, Option, Some, None, Ok, Err, nat_le, codes}
use Rattle.serde_json.specs.Data.{Data, Members, no_members, member}
use Rattle.serde_json.specs.Find.{get_member}
use Rattle.std.specs.Str.{bytes_eq}
use Rattle.agg_model.specs.declared.aggregation.Agg.{Agg}
use Rattle.agg_model.specs.declared.aggregation.Order.{Order}
use Rattle.agg_model.specs.declared.aggregation.Search.{Search}
use Rattle.agg_model.specs.declared.mapping.Mapping.{Mapping}
use Rattle.agg_reading.specs.declared.fault.RequestFault.TheVariants.{NotJson, Bad, Memory}
use Rattle.agg_reading.specs.declared.names.KindName.{KindName}
use Rattle.agg_reading.specs.declared.parts.Counts.{Counts}
use Rattle.agg_reading.specs.declared.parts.NamedOrder.{NamedOrder}
use Rattle.agg_reading.specs.declared.parts.ReadKind.{ReadKind}
use Rattle.agg_reading.specs.declared.names.PipeName.{PipeName}
use Rattle.agg_reading.specs.declared.pipes.ReadItem.{ReadItem}
use Rattle.agg_reading.specs.declared.pipes.ReadPipeKind.{ReadPipeKind}
use Rattle.agg_reading.specs.declared.pipes.Siblings.{Siblings}
use Rattle.agg_reading.specs.Reading.{Reading, ◌>>=◌}
use Rattle.agg_reading.specs.Pointer.{member_step}
use Rattle.agg_reading.specs.Json.{reading, or_not_json, json_at}
use Rattle.agg_reading.specs.Orders.{child_named, compared_by, resolved}
use Rattle.agg_reading.specs.Aggregations.{is_aggregation_name, is_metric, is_top_kind, has_both, kind_member, kind_name, children_name}
use Rattle.agg_reading.specs.Pipelines.{pipe_name}
use Rattle.agg_reading.specs.PipePaths.{Around, around_of}
use Rattle.agg_reading.specs.Request.{Aggregated, no_siblings, with_item, aggregations_from, aggregations_at, children_of, children_in, is_childless, placed, assembled, assembled_pipe, counts_after, one_more, kind_of, pipe_of, item_of, aggregation_of, aggregation_at, query_or_all, search_in, search_value_at, search_of}
use Rattle.agg_reading.specs.Refusals.{body_refusals}
use Rattle.agg_reading.proofs.Steps.{fails_bind}
use Rattle.agg_reading.proofs.Refusing.{Refusing, value, refused, found, then, either, an_object, names, maybe, not_json, not_memory}
use Rattle.agg_reading.proofs.QueryRefusals.{a_top_query, a_truth}
use Rattle.agg_reading.proofs.KindRefusals.{a_kind}
use Rattle.agg_reading.proofs.PipeRefusals.{a_pipe_kind, some_fitted}

-- what orders compare

one_compared : (children : List Agg) (o : NamedOrder) → Refusing body_refusals (compared_by children o)
unfolding compared_by
one_compared children o =
    either (bytes_eq o.name (codes "_count")) _ _ (value _) (either (bytes_eq o.name (codes "_key")) _ _ (value _) (then _ _ (found 113 o.at (child_named o.name children) refl) (λ n. value _)))

all_resolved : (children : List Agg) (done : List Order) (os : List NamedOrder) → Refusing body_refusals (resolved children done os)
unfolding resolved
all_resolved children done [] = value done
all_resolved children done (o ∷ os) = then _ _ (one_compared children o) (λ what. all_resolved children (done ++ record { by = what; descending = o.descending } ∷ []) os)

in_place : (top : Bool) (k : KindName) (at : List ℕ) (ms : Members) (children : Siblings) → Refusing body_refusals (placed top k at ms children)
unfolding placed
in_place top k at ms children =
    either (is_metric k && not (is_childless children)) _ _ (refused 110 _ refl) (either (is_top_kind k && not top) _ _ (refused 110 at refl) (value tt))

whole : (top : Bool) (k : KindName) (s at : List ℕ) (ms : Members) (kind : ReadKind) (children : Aggregated) → Refusing body_refusals (assembled top k s at ms kind children)
unfolding assembled
whole top k s at ms kind children =
    then _ _ (in_place top k at ms children.0) (λ u. then _ _ (all_resolved children.0.aggs [] kind.order) (λ order.
    then _ _ (some_fitted (around_of k) children.0.aggs children.0.pipes) (λ pipes. value _)))

a_pipe : (s at : List ℕ) (ms : Members) (kind : ReadPipeKind) (children : Aggregated) → Refusing body_refusals (assembled_pipe s at ms kind children)
unfolding assembled_pipe
a_pipe s at ms kind children = either (is_childless children.0) _ _ (value _) (refused 110 _ refl)

one_kind : (at : List ℕ) (ms : Members) → Refusing body_refusals (kind_member at ms)
unfolding kind_member
one_kind at ms = either (has_both ms) _ _ (refused 107 at refl) (found 107 at _ refl)

-- aggregations within, where each is refused so
abbrev Each : (ℕ → List ℕ → List ℕ → Counts → Data → Reading (ReadItem × Counts)) → Type 0
Each read = (context : ℕ) (s at : List ℕ) (counts : Counts) (d : Data) → Refusing body_refusals (read context s at counts d)

module _ (read : ℕ → List ℕ → List ℕ → Counts → Data → Reading (ReadItem × Counts)) (each : Each read) where
  some_aggregations : (context : ℕ) (at : List ℕ) (done : Siblings) (counts : Counts) (ms : Members) → Refusing body_refusals (aggregations_from read context at done counts ms)
  unfolding aggregations_from
  some_aggregations context at done counts no_members = value _
  some_aggregations context at done counts (member k d ms) =
      either (is_aggregation_name k) _ _
      (then _ _ (each context k _ counts d) (λ a. some_aggregations context at (with_item a.0 done) a.1 ms))
      (refused 112 _ refl)

  all_aggregations : (context : ℕ) (at : List ℕ) (counts : Counts) (d : Data) → Refusing body_refusals (aggregations_at read context at counts d)
  unfolding aggregations_at
  all_aggregations context at counts d = then _ _ (an_object 103 at d refl) (λ ms. some_aggregations context at no_siblings counts ms)

  some_children : (context : ℕ) (at : List ℕ) (counts : Counts) (d : Option Data) → Refusing body_refusals (children_of read context at counts d)
  some_children context at counts None = value _
  some_children context at counts (Some d) = all_aggregations context at counts d

  the_children : (context : ℕ) (at : List ℕ) (counts : Counts) (ms : Members) → Refusing body_refusals (children_in read context at counts ms)
  unfolding children_in
  the_children context at counts ms = some_children context (at ++ member_step (children_name ms)) counts (get_member (children_name ms) ms)

  one_of_a_kind : (m : Mapping) (top : Bool) (context : ℕ) (s at : List ℕ) (counts : Counts) (ms : Members) (said : List ℕ × Data) → Refusing body_refusals (kind_of read m top context s at counts ms said)
  unfolding kind_of
  one_of_a_kind m top context s at counts ms said =
      then _ _ (found 106 _ (kind_name said.0) refl) (λ kind.
      then _ _ (a_kind kind m context counts.queries _ said.1) (λ read_kind.
      then _ _ (the_children read_kind.within at (counts_after read_kind counts) ms) (λ children. whole top kind s at ms read_kind children)))

  one_pipe : (p : PipeName) (context : ℕ) (s at : List ℕ) (counts : Counts) (ms : Members) (said : List ℕ × Data) → Refusing body_refusals (pipe_of read p context s at counts ms said)
  unfolding pipe_of
  one_pipe p context s at counts ms said =
      then _ _ (a_pipe_kind p _ said.1) (λ kind. then _ _ (the_children context at (one_more counts) ms) (λ children. a_pipe s at ms kind children))

  one_item : (p : Option PipeName) (m : Mapping) (top : Bool) (context : ℕ) (s at : List ℕ) (counts : Counts) (ms : Members) (said : List ℕ × Data) → Refusing body_refusals (item_of read p m top context s at counts ms said)
  unfolding item_of
  one_item (Some p) m top context s at counts ms said = one_pipe p context s at counts ms said
  one_item None m top context s at counts ms said = one_of_a_kind m top context s at counts ms said

  an_aggregation_of : (m : Mapping) (top : Bool) (context : ℕ) (s at : List ℕ) (counts : Counts) (d : Data) → Refusing body_refusals (aggregation_of read m top context s at counts d)
  unfolding aggregation_of
  an_aggregation_of m top context s at counts d =
      then _ _ (an_object 103 at d refl) (λ ms. then _ _ (one_kind at ms) (λ said. one_item (pipe_name said.0) m top context s at counts ms said))

an_aggregation : (left : ℕ) (m : Mapping) (top : Bool) (context : ℕ) (s at : List ℕ) (counts : Counts) (d : Data) → Refusing body_refusals (aggregation_at left m top context s at counts d)
unfolding aggregation_at
an_aggregation zero m top context s at counts d = refused 111 at refl
an_aggregation (suc left) m top context s at counts d =
    either (nat_le 256 counts.aggregations) _ _ (refused 111 at refl) (an_aggregation_of (aggregation_at left m false) (an_aggregation left m false) m top context s at counts d)

-- bodies

a_query_or_all : (m : Mapping) (count : ℕ) (d : Option Data) → Refusing body_refusals (query_or_all m count d)
a_query_or_all m count None = value _
a_query_or_all m count (Some d) = then _ _ (a_top_query m 0 count _ d) (λ q. value _)

a_search : (m : Mapping) (bytes : ℕ) (ms : Members) → Refusing body_refusals (search_in m bytes ms)
unfolding search_in
a_search m bytes ms =
    then _ _ (the_children (aggregation_at 16 m true) (an_aggregation 16 m true) 0 [] _ ms) (λ aggs.
    then _ _ (maybe _ _ (get_member (codes "allow_partial_search_results") ms) a_truth) (λ partial.
    then _ _ (a_query_or_all m aggs.1.queries (get_member (codes "query") ms)) (λ query.
    then _ _ (some_fitted Around.other aggs.0.aggs aggs.0.pipes) (λ pipes. value _))))

pub a_search_value : (m : Mapping) (bytes : ℕ) (d : Data) → Refusing body_refusals (search_value_at m bytes d)
unfolding search_value_at
a_search_value m bytes d =
    then _ _ (an_object 100 [] d refl) (λ ms. either (has_both ms) _ _ (refused 107 [] refl) (then _ _ (names 101 _ [] ms refl) (λ u. a_search m bytes ms)))

-- the bytes lack a reading where the search does
lacks : (r : Reading Data) (f : Data → Reading Search) → ((d : Data) → Refusing body_refusals (f d)) → (r >>= f) ≡ Err NotJson → r ≡ Err NotJson
lacks (Ok d) f h e = absurd (not_json (f d) (h d) e)
lacks (Err NotJson) f h e = refl
lacks (Err (Bad code at)) f h e = cc
lacks (Err Memory) f h e = cc

pub json_lacks : (m : Mapping) (body : List ℕ) → search_of m body ≡ Err NotJson → json_at body ≡ Err NotJson
unfolding search_of
json_lacks m body e = lacks (json_at body) (search_value_at m (length body)) (a_search_value m (length body)) e

-- and the search where the bytes do
pub search_lacks : (m : Mapping) (body : List ℕ) → json_at body ≡ Err NotJson → search_of m body ≡ Err NotJson
unfolding search_of
search_lacks m body e = fails_bind NotJson (json_at body) (search_value_at m (length body)) e

-- and memory never
remembers : (o : Option Data) (f : Data → Reading Search) → ((d : Data) → Refusing body_refusals (f d)) → (or_not_json o >>= f) ≢ Err Memory
remembers None f h = λ q. cc
remembers (Some d) f h = not_memory (f d) (h d)

pub memory_stays : (m : Mapping) (body : List ℕ) → search_of m body ≢ Err Memory
unfolding search_of json_at
memory_stays m body = remembers (reading body) (search_value_at m (length body)) (a_search_value m (length body))
