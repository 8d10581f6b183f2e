-- The answers to aggregations are the trees of their definition: a loop's body puts what the definition puts next.
use Rattle.std.proofs.Common.{arith, ◌≡◌, [], ◌∷◌, ◌++◌, ◌+◌, ◌∙◌, ap, sym, subst, true, false, IfOk, List, drop, map, refl, rules}
use Rattle.std.specs.Prelude.{ℤ, Bool, Option, None, Some, flat_map, length, zip, option_to_list, option_copied, codes, slice_get}
use Rattle.std.specs.Option.{option_map_or}
use Rattle.std.proofs.lemmas.Option.{slice_get_within}
use Rattle.serde_json.specs.Data.{Data, object}
use Rattle.serde_json.specs.View.{view, members_view}
use Rattle.agg_model.specs.declared.answer.BucketAnswer.{out-BucketAnswer, size-BucketAnswer}
use denote.Param.Weighed.{most}
use mir.Syntax.{w64}
use mir.Val.{SFits}
use Rattle.std.proofs.lemmas.Int.{to_z-of_z}
use Rattle.agg_model.specs.declared.answer.NodeAnswer.{NodeAnswer, out-NodeAnswer}
use Rattle.agg_model.specs.declared.aggregation.Agg.{Agg, out-Agg}
use Rattle.agg_model.specs.declared.aggregation.Kind.{Kind}
use Rattle.agg_model.specs.declared.aggregation.Kind.TheVariants as kind
use Rattle.agg_model.specs.declared.mapping.Mapping.{Mapping}
use Rattle.agg_model.specs.declared.text.Text.{Text}
use Rattle.agg_spec.specs.AnswerTree.{NotedBucket, ZonedNote, noted_at, noted_buckets, note_members, printer, tree_at, named_answers, object_members}
use Rattle.agg_spec.specs.AnswerTree.{bucket_members, key_name, after_key, value_of}
use Rattle.agg_spec.specs.Average.{average}
use Rattle.agg_spec.specs.Json.{Member, with_members, object_of, array_of, count, whole_number}
use Rattle.agg_spec.specs.RangeCheck.{checker, check_bucket, sum_in_range}
use Rattle.agg_response.specs.Buckets.{bucket_tree, histogram_buckets, own_members}
use Rattle.agg_response.proofs.Levels.{printer-kind}
use Rattle.agg_response.proofs.InRange.{bucket_here, buckets_later, sum_of_answer, buckets_of_answer, answer_here, answers_later, children_of_bucket}
use Rattle.agg_response.proofs.InRange.{keys_of_buckets}
use Rattle.agg_response.proofs.Places.{drop_here, drop_found, drop_missing, pairs_put, pairs_put-here, pairs_put-no_first, pairs_put-no_second}
use Rattle.agg_response.proofs.Sizes.{buckets_less, children_less, bucket_most, answer_found}
use Rattle.std.proofs.lemmas.List.{drop_all}
use Rattle.list_laws.proofs.Lists.{append-nil}
use Rattle.std.proofs.lemmas.Result.{IfOk-weaker}
use Rattle.agg_response.specs.Seen.{seen_notes}
use Rattle.agg_response.proofs.NotedLaws.{noted_here, noted_end}
use Rattle.agg_response.proofs.PutLaws.{with_members-append, bucket_made, mapped_here, flat_here, listed_here, answers_put, answers_here, answers_end}
use Rattle.agg_response.proofs.answers.+answers.Goals as goal

-- what a bucket prints under the text of its key, and under its name
abbrev keyed : Mapping → Option ℤ → Kind → List Agg → NotedBucket → Member
keyed m zone kind children b = (key_name zone (out-BucketAnswer b.bucket).key, bucket_tree m kind (map (printer m) children) b)

abbrev named : Mapping → Kind → List Agg → Text × NotedBucket → Member
named m kind children b = (b.0, bucket_tree m kind (map (printer m) children) b.1)

pub bucket_list-bucket_value-requires : goal.bucket_list-bucket_value-requires
bucket_list-bucket_value-requires t c = (
  omega (
    arith,
    c.decreases,
    bucket_most c.as_slice-bucket-items.result.now c.loop-place.place c.bucket-item.result c.loop-place-test.true
        c.bucket-item.is,
    ap (most size-BucketAnswer) c.as_slice-bucket-items.ensures,
  ),
  bucket_here
      (check_bucket (map checker c.args.children.now)) c.bucket-item.result (drop c.loop-place.place c.as_slice-bucket-items.result.now)
      (drop (c.loop-place.place + 1) c.as_slice-bucket-items.result.now)
      (drop_here c.as_slice-bucket-items.result.now c.loop-place.place c.bucket-item.result c.loop-place-test.true c.bucket-item.is)
      c.loop-place.invariant.in_range,
)

pub bucket_list-loop-place-preserved : goal.bucket_list-loop-place-preserved
bucket_list-loop-place-preserved t c = record {
  in_range = buckets_later (check_bucket (map checker c.args.children.now)) c.bucket-item.result (drop c.loop-place.place c.as_slice-bucket-items.result.now)
      (drop (c.loop-place.place + 1) c.as_slice-bucket-items.result.now)
      (drop_here c.as_slice-bucket-items.result.now c.loop-place.place c.bucket-item.result c.loop-place-test.true c.bucket-item.is)
      c.loop-place.invariant.in_range;
  all =
      listed_here (bucket_tree c.args.mapping.now c.args.kind.now (map (printer c.args.mapping.now) c.args.children.now))
      (noted_buckets (seen_notes c.args.seen.now) c.as_slice-bucket-items.result.now) c.loop-place.place
      (noted_at (seen_notes c.args.seen.now) (c.loop-place.place, c.bucket-item.result)) (view c.in_ok-bucket_value.field-0.value)
      (map view c.loop-place.values.items.items)
      (map view c.in_ok-values.values.items.items) (noted_here
      (seen_notes c.args.seen.now) c.as_slice-bucket-items.result.now c.loop-place.place c.bucket-item.result
      (drop_here c.as_slice-bucket-items.result.now c.loop-place.place c.bucket-item.result c.loop-place-test.true c.bucket-item.is))
      (c.in_ok-bucket_value.ensures ∙ ap (λ ns. bucket_tree c.args.mapping.now c.args.kind.now
      (map (printer c.args.mapping.now) c.args.children.now) (record { bucket = c.bucket-item.result; notes = ns }))
      (c.part-inner.ensures ∙ ap (λ ps. option_map_or seen_notes (slice_get ps c.loop-place.place) []) c.as_slice.ensures.value
      ∙ c.in_ok-parts.ensures c.loop-place.place
      (omega (arith, c.loop-place-test.true, c.len.ensures, ap length c.as_slice-bucket-items.ensures)))) c.in_ok-values.ensures
      ∙ c.loop-place.invariant.all;
}

pub keyed_buckets-bucket_value-requires : goal.keyed_buckets-bucket_value-requires
keyed_buckets-bucket_value-requires t c = (
  omega (
    arith,
    c.decreases,
    bucket_most c.as_slice-bucket-items.result.now c.loop-place.place c.bucket-item.result c.loop-place-test.true
        c.bucket-item.is,
    ap (most size-BucketAnswer) c.as_slice-bucket-items.ensures,
  ),
  bucket_here
      (check_bucket (map checker c.args.children.now)) c.bucket-item.result (drop c.loop-place.place c.as_slice-bucket-items.result.now)
      (drop (c.loop-place.place + 1) c.as_slice-bucket-items.result.now)
      (drop_here c.as_slice-bucket-items.result.now c.loop-place.place c.bucket-item.result c.loop-place-test.true c.bucket-item.is)
      c.loop-place.invariant.in_range,
)

pub keyed_buckets-loop-place-preserved : goal.keyed_buckets-loop-place-preserved
keyed_buckets-loop-place-preserved t c = record {
  in_range = buckets_later (check_bucket (map checker c.args.children.now)) c.bucket-item.result (drop c.loop-place.place c.as_slice-bucket-items.result.now)
      (drop (c.loop-place.place + 1) c.as_slice-bucket-items.result.now)
      (drop_here c.as_slice-bucket-items.result.now c.loop-place.place c.bucket-item.result c.loop-place-test.true c.bucket-item.is)
      c.loop-place.invariant.in_range;
  all =
      mapped_here (keyed c.args.mapping.now c.args.zone c.args.kind.now c.args.children.now)
      (noted_buckets (seen_notes c.args.seen.now) c.as_slice-bucket-items.result.now) c.loop-place.place
      (noted_at (seen_notes c.args.seen.now) (c.loop-place.place, c.bucket-item.result)) c.as_str.result.now (view c.in_ok-bucket_value.field-0.value)
      (members_view c.loop-place.object.members.entries) (members_view c.in_ok-object.object.members.entries)
      (noted_here (seen_notes c.args.seen.now) c.as_slice-bucket-items.result.now c.loop-place.place c.bucket-item.result
      (drop_here c.as_slice-bucket-items.result.now c.loop-place.place c.bucket-item.result c.loop-place-test.true c.bucket-item.is))
      (c.as_str.ensures.value ∙ c.in_ok-name.ensures)
      (c.in_ok-bucket_value.ensures ∙ ap (λ ns. bucket_tree c.args.mapping.now c.args.kind.now
      (map (printer c.args.mapping.now) c.args.children.now) (record { bucket = c.bucket-item.result; notes = ns }))
      (c.part-inner.ensures ∙ ap (λ ps. option_map_or seen_notes (slice_get ps c.loop-place.place) []) c.as_slice.ensures.value
      ∙ c.in_ok-parts.ensures c.loop-place.place
      (omega (arith, c.loop-place-test.true, c.len.ensures, ap length c.as_slice-bucket-items.ensures)))) c.in_ok-object.ensures
      ∙ c.loop-place.invariant.all;
}

pub named_buckets-bucket_value-requires : goal.named_buckets-bucket_value-requires
named_buckets-bucket_value-requires t c = (
  omega (
    arith,
    c.decreases,
    bucket_most c.as_slice-bucket-items.result.now c.loop-place.place c.bucket-item.result c.loop-place-test.true
        c.bucket-item.is,
    ap (most size-BucketAnswer) c.as_slice-bucket-items.ensures,
  ),
  bucket_here
      (check_bucket (map checker c.args.children.now)) c.bucket-item.result (drop c.loop-place.place c.as_slice-bucket-items.result.now)
      (drop (c.loop-place.place + 1) c.as_slice-bucket-items.result.now)
      (drop_here c.as_slice-bucket-items.result.now c.loop-place.place c.bucket-item.result c.loop-place-test.true c.bucket-item.is)
      c.loop-place.invariant.in_range,
)

pub named_buckets-loop-place-preserved : goal.named_buckets-loop-place-preserved
named_buckets-loop-place-preserved t c = record {
  in_range = buckets_later (check_bucket (map checker c.args.children.now)) c.bucket-item.result (drop c.loop-place.place c.as_slice-bucket-items.result.now)
      (drop (c.loop-place.place + 1) c.as_slice-bucket-items.result.now)
      (drop_here c.as_slice-bucket-items.result.now c.loop-place.place c.bucket-item.result c.loop-place-test.true c.bucket-item.is)
      c.loop-place.invariant.in_range;
  all =
      pairs_put-here (named c.args.mapping.now c.args.kind.now c.args.children.now) (c.args.names.now ++ option_to_list c.args.other.now)
      (noted_buckets (seen_notes c.args.seen.now) c.as_slice-bucket-items.result.now) c.loop-place.place c.in-Some.name.now
      (noted_at (seen_notes c.args.seen.now) (c.loop-place.place, c.bucket-item.result)) c.as_str.result.now (view c.in_ok-bucket_value.field-0.value)
      (members_view c.loop-place.object.members.entries) (members_view c.in_ok-object.object.members.entries)
      (drop_found (c.args.names.now ++ option_to_list c.args.other.now) c.loop-place.place c.in-Some.name.now
      (sym (ap option_copied c.in-Some.is) ∙ c.name_at.ensures))
      (noted_here (seen_notes c.args.seen.now) c.as_slice-bucket-items.result.now c.loop-place.place c.bucket-item.result
      (drop_here c.as_slice-bucket-items.result.now c.loop-place.place c.bucket-item.result c.loop-place-test.true c.bucket-item.is)) c.as_str.ensures
      (c.in_ok-bucket_value.ensures ∙ ap (λ ns. bucket_tree c.args.mapping.now c.args.kind.now (map (printer c.args.mapping.now) c.args.children.now)
      (record { bucket = c.bucket-item.result; notes = ns }))
      (c.part-inner.ensures ∙ ap (λ ps. option_map_or seen_notes (slice_get ps c.loop-place.place) []) c.as_slice.ensures.value
      ∙ c.in_ok-parts.ensures c.loop-place.place
      (omega (arith, c.loop-place-test.true, c.len.ensures, ap length c.as_slice-bucket-items.ensures)))) c.in_ok-object.ensures
      ∙ c.loop-place.invariant.all;
}

pub with_answers-answer_value-requires : goal.with_answers-answer_value-requires
with_answers-answer_value-requires t c =
    let here = drop_here c.as_slice-agg-items.result.now c.loop-place.place c.agg-item.result c.loop-place-test.true c.agg-item.is in
    let found = drop_found c.args.nodes.now c.loop-place.place c.in-Some.node.now (sym (ap option_copied c.in-Some.is) ∙ c.get.ensures) in (
      omega (arith, c.decreases, answer_found c.args.nodes.now c.loop-place.place c.in-Some.node.now (sym (ap option_copied c.in-Some.is) ∙ c.get.ensures)),
      answer_here c.agg-item.result c.in-Some.node.now (drop c.loop-place.place c.as_slice-agg-items.result.now)
          (drop (c.loop-place.place + 1) c.as_slice-agg-items.result.now)
          (drop c.loop-place.place c.args.nodes.now) (drop (c.loop-place.place + 1) c.args.nodes.now) here found c.loop-place.invariant.in_range,
    )

pub with_answers-loop-place-preserved : goal.with_answers-loop-place-preserved
with_answers-loop-place-preserved t c =
    let here = drop_here c.as_slice-agg-items.result.now c.loop-place.place c.agg-item.result c.loop-place-test.true c.agg-item.is in
    let found = drop_found c.args.nodes.now c.loop-place.place c.in-Some.node.now (sym (ap option_copied c.in-Some.is) ∙ c.get.ensures) in
    record {
      in_range =
          answers_later c.agg-item.result c.in-Some.node.now (drop c.loop-place.place c.as_slice-agg-items.result.now)
          (drop (c.loop-place.place + 1) c.as_slice-agg-items.result.now)
          (drop c.loop-place.place c.args.nodes.now) (drop (c.loop-place.place + 1) c.args.nodes.now) here found c.loop-place.invariant.in_range;
      all =
          answers_here c.args.mapping.now
          (seen_notes c.args.seen.now) c.as_slice-agg-items.result.now c.args.nodes.now c.loop-place.place c.agg-item.result c.in-Some.node.now
          c.as_str.result.now (view c.in_ok-answer_value.field-0.value)
          (members_view c.loop-place.object.members.entries) (members_view c.in_ok-object.object.members.entries) here found c.as_str.ensures
          (c.in_ok-answer_value.ensures ∙ ap (λ ns. printer c.args.mapping.now c.agg-item.result ns c.in-Some.node.now)
          (c.part-inner.ensures ∙ ap (λ ps. option_map_or seen_notes (slice_get ps c.loop-place.place) []) c.as_slice.ensures.value
          ∙ c.in_ok-parts.ensures c.loop-place.place
          (omega (
            arith,
            c.len.ensures,
            slice_get_within c.args.nodes.now c.loop-place.place c.in-Some.node.now
                (sym (sym (ap option_copied c.in-Some.is) ∙ c.get.ensures)),
          )))) c.in_ok-object.ensures
          ∙ c.loop-place.invariant.all;
    }

pub with_answers-returns-in_default : goal.with_answers-returns-in_default
with_answers-returns-in_default t c =
    let here = drop_here c.as_slice-agg-items.result.now c.loop-place.place c.agg-item.result c.loop-place-test.true c.agg-item.is in
    let missing = drop_missing c.args.nodes.now c.loop-place.place (sym (ap option_copied c.in_default.is) ∙ c.get.ensures) in
    let notes = seen_notes c.args.seen.now in
    let start = members_view c.args.object.members.entries in
    let all =
    sym (answers_end c.args.mapping.now c.loop-place.place notes c.agg-item.result (drop c.loop-place.place c.as_slice-agg-items.result.now)
    (drop (c.loop-place.place + 1) c.as_slice-agg-items.result.now)
    (drop c.loop-place.place c.args.nodes.now) (members_view c.loop-place.object.members.entries) here missing)
    ∙ c.loop-place.invariant.all
    ∙ ap (λ xs. answers_put c.args.mapping.now 0 notes xs c.args.nodes.now start) c.as_slice-agg-items.ensures in
    IfOk-weaker c.with_notes.result _ _ (λ o told.
    told ∙ ap (with_members (note_members notes)) all ∙ sym
    (with_members-append (named_answers 0 (map (printer c.args.mapping.now) c.args.aggs.now) notes c.args.nodes.now) (note_members notes) start))
    c.with_notes.ensures

pub single_bucket-with_answers-requires : goal.single_bucket-with_answers-requires
single_bucket-with_answers-requires t c = (
  omega (
    arith,
    c.decreases,
    children_less c.bucket-item.result,
    bucket_most c.as_slice-bucket-items.result.now c.loop-place.place c.bucket-item.result
        c.loop-place-test.true c.bucket-item.is,
    ap (most size-BucketAnswer) c.as_slice-bucket-items.ensures,
  ),
  children_of_bucket
      (map checker c.args.children.now) c.bucket-item.result
      (bucket_here (check_bucket (map checker c.args.children.now)) c.bucket-item.result (drop c.loop-place.place c.as_slice-bucket-items.result.now)
      (drop (c.loop-place.place + 1) c.as_slice-bucket-items.result.now)
      (drop_here c.as_slice-bucket-items.result.now c.loop-place.place c.bucket-item.result c.loop-place-test.true c.bucket-item.is)
      c.loop-place.invariant.in_range),
)

pub single_bucket-loop-place-preserved : goal.single_bucket-loop-place-preserved
single_bucket-loop-place-preserved t c = record {
  in_range = buckets_later (check_bucket (map checker c.args.children.now)) c.bucket-item.result (drop c.loop-place.place c.as_slice-bucket-items.result.now)
      (drop (c.loop-place.place + 1) c.as_slice-bucket-items.result.now)
      (drop_here c.as_slice-bucket-items.result.now c.loop-place.place c.bucket-item.result c.loop-place-test.true c.bucket-item.is)
      c.loop-place.invariant.in_range;
  all =
      flat_here (λ b. bucket_members (map (printer c.args.mapping.now) c.args.children.now) (own_members c.args.mapping.now c.args.kind.now b.bucket) b)
      (noted_buckets (seen_notes c.args.seen.now) c.as_slice-bucket-items.result.now) c.loop-place.place
      (noted_at (seen_notes c.args.seen.now) (c.loop-place.place, c.bucket-item.result)) (members_view c.loop-place.object.members.entries)
      (members_view c.in_ok-object-2.object.members.entries)
      (noted_here (seen_notes c.args.seen.now) c.as_slice-bucket-items.result.now c.loop-place.place c.bucket-item.result
      (drop_here c.as_slice-bucket-items.result.now c.loop-place.place c.bucket-item.result c.loop-place-test.true c.bucket-item.is))
      (c.in_ok-object-2.ensures ∙ ap (with_members (object_members (map (printer c.args.mapping.now) c.args.children.now) (seen_notes c.part-inner.result.now)
      (out-BucketAnswer c.bucket-item.result).children)) c.in_ok-object.ensures
      ∙ bucket_made (map (printer c.args.mapping.now) c.args.children.now) (own_members c.args.mapping.now c.args.kind.now c.bucket-item.result)
      (record { bucket = c.bucket-item.result; notes = seen_notes c.part-inner.result.now }) (members_view c.loop-place.object.members.entries)
      ∙ ap (λ ns. with_members (bucket_members (map (printer c.args.mapping.now) c.args.children.now)
      (own_members c.args.mapping.now c.args.kind.now c.bucket-item.result) (record { bucket = c.bucket-item.result; notes = ns }))
      (members_view c.loop-place.object.members.entries))
      (c.part-inner.ensures ∙ ap (λ ps. option_map_or seen_notes (slice_get ps c.loop-place.place) []) c.as_slice.ensures.value
      ∙ c.in_ok-parts.ensures c.loop-place.place (omega (arith, c.loop-place-test.true, c.len.ensures, ap length c.as_slice-bucket-items.ensures))))
      ∙ c.loop-place.invariant.all;
}

pub answer_value-bucket_list-requires : goal.answer_value-bucket_list-requires
answer_value-bucket_list-requires t c = (omega (arith, c.decreases, buckets_less c.args.node.now), buckets_of_answer c.args.agg.now c.args.node.now c.requires)

pub answer_value-named_buckets-requires : goal.answer_value-named_buckets-requires
answer_value-named_buckets-requires t c =
    (omega (arith, c.decreases, buckets_less c.args.node.now), buckets_of_answer c.args.agg.now c.args.node.now c.requires)

pub answer_value-histogram_value-requires : goal.answer_value-histogram_value-requires
answer_value-histogram_value-requires t c =
    (omega (arith, c.decreases, buckets_less c.args.node.now), buckets_of_answer c.args.agg.now c.args.node.now c.requires)

pub answer_value-histogram_value-requires-in-DateHistogram : goal.answer_value-histogram_value-requires-in-DateHistogram
answer_value-histogram_value-requires-in-DateHistogram t c =
    (omega (arith, c.decreases, buckets_less c.args.node.now), buckets_of_answer c.args.agg.now c.args.node.now c.requires)

pub answer_value-bucket_list-requires-in_default : goal.answer_value-bucket_list-requires-in_default
answer_value-bucket_list-requires-in_default t c = (
  omega
      (arith, c.decreases, buckets_less c.args.node.now),
  buckets_of_answer c.args.agg.now c.args.node.now c.requires,
)

pub answer_value-bucket_list-requires-in-Composite : goal.answer_value-bucket_list-requires-in-Composite
answer_value-bucket_list-requires-in-Composite t c = (
  omega
      (arith, c.decreases, buckets_less c.args.node.now),
  buckets_of_answer c.args.agg.now c.args.node.now c.requires,
)

pub answer_value-single_bucket-requires : goal.answer_value-single_bucket-requires
answer_value-single_bucket-requires t c =
    (omega (arith, c.decreases, buckets_less c.args.node.now), buckets_of_answer c.args.agg.now c.args.node.now c.requires)

pub answer_value-single_bucket-requires-in-Missing : goal.answer_value-single_bucket-requires-in-Missing
answer_value-single_bucket-requires-in-Missing t c = (
  omega
      (arith, c.decreases, buckets_less c.args.node.now),
  buckets_of_answer c.args.agg.now c.args.node.now c.requires,
)

pub answer_value-single_bucket-requires-in-Global : goal.answer_value-single_bucket-requires-in-Global
answer_value-single_bucket-requires-in-Global t c = (
  omega
      (arith, c.decreases, buckets_less c.args.node.now),
  buckets_of_answer c.args.agg.now c.args.node.now c.requires,
)

pub answer_value-single_bucket-requires-in-Nested : goal.answer_value-single_bucket-requires-in-Nested
answer_value-single_bucket-requires-in-Nested t c = (
  omega
      (arith, c.decreases, buckets_less c.args.node.now),
  buckets_of_answer c.args.agg.now c.args.node.now c.requires,
)

pub answer_value-single_bucket-requires-in-ReverseNested : goal.answer_value-single_bucket-requires-in-ReverseNested
answer_value-single_bucket-requires-in-ReverseNested t c =
    (omega (arith, c.decreases, buckets_less c.args.node.now), buckets_of_answer c.args.agg.now c.args.node.now c.requires)

pub bucket_value-with_answers-requires : goal.bucket_value-with_answers-requires
bucket_value-with_answers-requires t c = (
  omega (arith, c.decreases, children_less c.args.bucket.now),
  children_of_bucket
      (map checker c.args.children.now) c.args.bucket.now c.requires,
)

pub answer_value-sum_object-requires : goal.answer_value-sum_object-requires
answer_value-sum_object-requires t c = sym (ap (λ k. sum_in_range k (out-NodeAnswer c.args.node.now).metric.sum) c.in-Sum.is)
    ∙ sum_of_answer c.args.agg.now c.args.node.now c.requires

pub answer_value-average_object-requires : goal.answer_value-average_object-requires
answer_value-average_object-requires t c = sym (ap (λ k. sum_in_range k (out-NodeAnswer c.args.node.now).metric.sum) c.in-Avg.is)
    ∙ sum_of_answer c.args.agg.now c.args.node.now c.requires

pub answer_value-returns-in_ok-buckets-in-Terms : goal.answer_value-returns-in_ok-buckets-in-Terms
answer_value-returns-in_ok-buckets-in-Terms t c = subst (λ d. IfOk c.terms_object.result (λ j. view j.value ≡ d))
    (ap (λ b. object_of ((codes "buckets", b) ∷ (codes "doc_count_error_upper_bound", whole_number (out-NodeAnswer c.args.node.now).error) ∷
    (codes "sum_other_doc_count", count (out-NodeAnswer c.args.node.now).other) ∷ [])) c.in_ok-buckets-in-Terms.ensures
    ∙ printer-kind c.args.mapping.now c.args.agg.now (seen_notes c.args.seen.now) c.args.node.now _
    (λ k. object_of ((
      codes "buckets",
      array_of
          (map (bucket_tree c.args.mapping.now k (map (printer c.args.mapping.now) (out-Agg c.args.agg.now).children))
          (noted_buckets (seen_notes c.args.seen.now) (out-NodeAnswer c.args.node.now).buckets)),
    ) ∷
    (codes "doc_count_error_upper_bound", whole_number (out-NodeAnswer c.args.node.now).error) ∷
    (codes "sum_other_doc_count", count (out-NodeAnswer c.args.node.now).other) ∷ [])) c.in-Terms.is refl) c.terms_object.ensures

pub histogram_value-returns-then-keyed : goal.histogram_value-returns-then-keyed
histogram_value-returns-then-keyed t c =
    let children = map (printer c.args.mapping.now) c.args.children.now in
    subst (λ d. IfOk c.only.result (λ j. view j.value ≡ object_of ((codes "buckets", d) ∷ [])))
    (c.in_ok-named.ensures ∙ ap (λ (b : Bool). histogram_buckets c.args.mapping.now c.args.kind.now children c.args.zone b
    (noted_buckets (seen_notes c.args.seen.now) c.args.buckets.now)) (sym c.if-keyed.true)) c.only.ensures

-- a histogram's buckets, by a tree that depends on its kind
abbrev spaced_tree : Mapping → List Agg → Option ℤ → Bool → List NotedBucket → Kind → Data
spaced_tree m children zone keyed buckets k = object_of ((codes "buckets", histogram_buckets m k (map (printer m) children) zone keyed buckets) ∷ [])

by_keyed : (m : Mapping) (a : Agg) (notes : List ZonedNote) (n : NodeAnswer) (k : Bool → Kind) (zone : Option ℤ) (keyed : Bool)
    → ((b : Bool) → spaced_tree m (out-Agg a).children zone b (noted_buckets notes (out-NodeAnswer n).buckets) (k b)
    ≡ tree_at m (map (printer m) (out-Agg a).children) (k b) notes (out-NodeAnswer n)) → (out-Agg a).kind ≡ k keyed
    → spaced_tree m (out-Agg a).children zone keyed (noted_buckets notes (out-NodeAnswer n).buckets) (out-Agg a).kind ≡ printer m a notes n
by_keyed m a notes n k zone keyed same is = printer-kind m a notes n (k keyed)
    (spaced_tree m (out-Agg a).children zone keyed (noted_buckets notes (out-NodeAnswer n).buckets)) is (same keyed)

each_way : (b : Bool) (P : Bool → Type 0) → P true → P false → P b
each_way true P first second = first
each_way false P first second = second

pub answer_value-returns-in-Histogram : goal.answer_value-returns-in-Histogram
answer_value-returns-in-Histogram t c =
    let m = c.args.mapping.now in
    let a = c.args.agg.now in
    let n = c.args.node.now in
    let notes = seen_notes c.args.seen.now in
    let h = c.in-Histogram in
    let k = λ (b : Bool). kind.Histogram h.field h.interval h.offset h.min_doc_count h.extended h.hard b h.order h.missing in
    let same = λ (b : Bool). spaced_tree m (out-Agg a).children None b (noted_buckets notes (out-NodeAnswer n).buckets) (k b)
    ≡ tree_at m (map (printer m) (out-Agg a).children) (k b) notes (out-NodeAnswer n) in
    subst (λ d. IfOk c.histogram_value.result (λ j. view j.value ≡ d))
    (by_keyed m a notes n k None h.keyed (λ b. each_way b same refl refl) h.is) c.histogram_value.ensures

pub answer_value-returns-in-DateHistogram : goal.answer_value-returns-in-DateHistogram
answer_value-returns-in-DateHistogram t c =
    let m = c.args.mapping.now in
    let a = c.args.agg.now in
    let n = c.args.node.now in
    let notes = seen_notes c.args.seen.now in
    let h = c.in-DateHistogram in
    let k = λ (b : Bool). kind.DateHistogram h.field h.period h.zone h.min_doc_count h.extended h.hard b h.order h.missing in
    let same = λ (b : Bool). spaced_tree m (out-Agg a).children (Some h.zone) b (noted_buckets notes (out-NodeAnswer n).buckets) (k b)
    ≡ tree_at m (map (printer m) (out-Agg a).children) (k b) notes (out-NodeAnswer n) in
    let fits : SFits w64 h.zone = search rules in
    let tree = λ (z : ℤ). spaced_tree m (out-Agg a).children (Some z) h.keyed (noted_buckets notes (out-NodeAnswer n).buckets) (out-Agg a).kind in
    subst (λ d. IfOk c.histogram_value-in-DateHistogram.result (λ j. view j.value ≡ d))
    (ap tree (to_z-of_z w64 h.zone fits) ∙ by_keyed m a notes n k (Some h.zone) h.keyed (λ b. each_way b same refl refl) h.is)
    c.histogram_value-in-DateHistogram.ensures

pub answer_value-returns-in_default : goal.answer_value-returns-in_default
answer_value-returns-in_default t c = subst (λ d. IfOk c.only.result (λ j. view j.value ≡ d))
    (ap (λ b. object_of ((codes "buckets", b) ∷ [])) c.in_ok-anonymous-in-Filters.ensures
    ∙ printer-kind c.args.mapping.now c.args.agg.now (seen_notes c.args.seen.now) c.args.node.now _
    (λ k. object_of ((
      codes "buckets",
      array_of (map
          (bucket_tree c.args.mapping.now k (map (printer c.args.mapping.now) (out-Agg c.args.agg.now).children))
          (noted_buckets (seen_notes c.args.seen.now) (out-NodeAnswer c.args.node.now).buckets)),
    ) ∷ []))
    (c.in-Filters.is ∙ ap (λ ns. kind.Filters ns c.in-Filters.filters c.in-Filters.other) c.in_default.is) refl) c.only.ensures

pub answer_value-returns-in_ok-filtered-in-Filters : goal.answer_value-returns-in_ok-filtered-in-Filters
answer_value-returns-in_ok-filtered-in-Filters t c = subst (λ d. IfOk c.only-in-Filters.result (λ j. view j.value ≡ d))
    (ap (λ b. object_of ((codes "buckets", b) ∷ [])) c.in_ok-filtered-in-Filters.ensures
    ∙ printer-kind c.args.mapping.now c.args.agg.now (seen_notes c.args.seen.now) c.args.node.now _
    (λ k. object_of ((
      codes "buckets",
      object_of
          (map (named c.args.mapping.now k (out-Agg c.args.agg.now).children)
          (zip (c.in-Some.names ++ option_to_list c.in-Filters.other)
          (noted_buckets (seen_notes c.args.seen.now) (out-NodeAnswer c.args.node.now).buckets))),
    ) ∷ []))
    (c.in-Filters.is ∙ ap (λ ns. kind.Filters ns c.in-Filters.filters c.in-Filters.other) c.in-Some.is) refl) c.only-in-Filters.ensures

pub answer_value-returns-in_ok-page-in-Composite : goal.answer_value-returns-in_ok-page-in-Composite
answer_value-returns-in_ok-page-in-Composite t c = subst (λ d. IfOk c.composite_object.result (λ j. view j.value ≡ d))
    (ap (λ b. object_of (after_key c.in-Composite.sources (out-NodeAnswer c.args.node.now).buckets ++
    (codes "buckets", b) ∷ [])) c.in_ok-page-in-Composite.ensures
    ∙ printer-kind c.args.mapping.now c.args.agg.now (seen_notes c.args.seen.now) c.args.node.now _
    (λ k. object_of (after_key c.in-Composite.sources (out-NodeAnswer c.args.node.now).buckets ++ (
      codes "buckets",
      array_of (map (bucket_tree c.args.mapping.now k (map (printer c.args.mapping.now) (out-Agg c.args.agg.now).children))
          (noted_buckets (seen_notes c.args.seen.now)
          (out-NodeAnswer c.args.node.now).buckets)),
    ) ∷ [])) c.in-Composite.is refl) c.composite_object.ensures

pub answer_value-returns-in-Sum : goal.answer_value-returns-in-Sum
answer_value-returns-in-Sum t c = subst (λ d. IfOk c.sum_object.result (λ j. view j.value ≡ d))
    (printer-kind c.args.mapping.now c.args.agg.now (seen_notes c.args.seen.now) c.args.node.now _
    (λ k. object_of ((codes "value", whole_number (out-NodeAnswer c.args.node.now).metric.sum) ∷ [])) c.in-Sum.is refl) c.sum_object.ensures

pub answer_value-returns-in-Min : goal.answer_value-returns-in-Min
answer_value-returns-in-Min t c = subst (λ d. IfOk c.only-in-Min.result (λ j. view j.value ≡ d))
    (ap (λ v. object_of ((codes "value", v) ∷ [])) c.optional_value.ensures
    ∙ printer-kind c.args.mapping.now c.args.agg.now (seen_notes c.args.seen.now) c.args.node.now _
    (λ k. object_of ((codes "value", value_of (out-NodeAnswer c.args.node.now).metric.least) ∷ [])) c.in-Min.is refl) c.only-in-Min.ensures

pub answer_value-returns-in-Max : goal.answer_value-returns-in-Max
answer_value-returns-in-Max t c = subst (λ d. IfOk c.only-in-Max.result (λ j. view j.value ≡ d))
    (ap (λ v. object_of ((codes "value", v) ∷ [])) c.optional_value-in-Max.ensures
    ∙ printer-kind c.args.mapping.now c.args.agg.now (seen_notes c.args.seen.now) c.args.node.now _
    (λ k. object_of ((codes "value", value_of (out-NodeAnswer c.args.node.now).metric.greatest) ∷ [])) c.in-Max.is refl) c.only-in-Max.ensures

pub answer_value-returns-in-ValueCount : goal.answer_value-returns-in-ValueCount
answer_value-returns-in-ValueCount t c = subst (λ d. IfOk c.only-in-ValueCount.result (λ j. view j.value ≡ d))
    (ap (λ v. object_of ((codes "value", v) ∷ [])) c.count_value.ensures
    ∙ printer-kind c.args.mapping.now c.args.agg.now (seen_notes c.args.seen.now) c.args.node.now _
    (λ k. object_of ((codes "value", count (out-NodeAnswer c.args.node.now).metric.count) ∷ [])) c.in-ValueCount.is refl) c.only-in-ValueCount.ensures

pub answer_value-returns-in-Avg : goal.answer_value-returns-in-Avg
answer_value-returns-in-Avg t c = subst (λ d. IfOk c.average_object.result (λ j. view j.value ≡ d))
    (printer-kind c.args.mapping.now c.args.agg.now (seen_notes c.args.seen.now) c.args.node.now _
    (λ k. object_of ((codes "count", count (out-NodeAnswer c.args.node.now).metric.count) ∷
    (codes "sum", whole_number (out-NodeAnswer c.args.node.now).metric.sum) ∷ (
      codes "value_as_string",
      average (out-NodeAnswer c.args.node.now).metric.sum
          (out-NodeAnswer c.args.node.now).metric.count,
    ) ∷ [])) c.in-Avg.is refl) c.average_object.ensures

pub answer_value-returns-in-Filter : goal.answer_value-returns-in-Filter
answer_value-returns-in-Filter t c = subst (λ d. IfOk c.single_bucket.result (λ j. view j.value ≡ d))
    (printer-kind c.args.mapping.now c.args.agg.now (seen_notes c.args.seen.now) c.args.node.now _
    (λ k. object_of (flat_map (λ b. bucket_members (map (printer c.args.mapping.now) (out-Agg c.args.agg.now).children)
    (own_members c.args.mapping.now k b.bucket) b)
    (noted_buckets (seen_notes c.args.seen.now) (out-NodeAnswer c.args.node.now).buckets))) c.in-Filter.is refl) c.single_bucket.ensures

pub answer_value-returns-in-Missing : goal.answer_value-returns-in-Missing
answer_value-returns-in-Missing t c = subst (λ d. IfOk c.single_bucket-in-Missing.result (λ j. view j.value ≡ d))
    (printer-kind c.args.mapping.now c.args.agg.now (seen_notes c.args.seen.now) c.args.node.now _
    (λ k. object_of (flat_map (λ b. bucket_members (map (printer c.args.mapping.now) (out-Agg c.args.agg.now).children)
    (own_members c.args.mapping.now k b.bucket) b)
    (noted_buckets (seen_notes c.args.seen.now) (out-NodeAnswer c.args.node.now).buckets))) c.in-Missing.is refl) c.single_bucket-in-Missing.ensures

pub answer_value-returns-in-Global : goal.answer_value-returns-in-Global
answer_value-returns-in-Global t c = subst (λ d. IfOk c.single_bucket-in-Global.result (λ j. view j.value ≡ d))
    (printer-kind c.args.mapping.now c.args.agg.now (seen_notes c.args.seen.now) c.args.node.now _
    (λ k. object_of (flat_map (λ b. bucket_members (map (printer c.args.mapping.now) (out-Agg c.args.agg.now).children)
    (own_members c.args.mapping.now k b.bucket) b)
    (noted_buckets (seen_notes c.args.seen.now) (out-NodeAnswer c.args.node.now).buckets))) c.in-Global.is refl) c.single_bucket-in-Global.ensures

pub answer_value-returns-in-Nested : goal.answer_value-returns-in-Nested
answer_value-returns-in-Nested t c = subst (λ d. IfOk c.single_bucket-in-Nested.result (λ j. view j.value ≡ d))
    (printer-kind c.args.mapping.now c.args.agg.now (seen_notes c.args.seen.now) c.args.node.now _
    (λ k. object_of (flat_map (λ b. bucket_members (map (printer c.args.mapping.now) (out-Agg c.args.agg.now).children)
    (own_members c.args.mapping.now k b.bucket) b)
    (noted_buckets (seen_notes c.args.seen.now) (out-NodeAnswer c.args.node.now).buckets))) c.in-Nested.is refl) c.single_bucket-in-Nested.ensures

pub answer_value-returns-in-ReverseNested : goal.answer_value-returns-in-ReverseNested
answer_value-returns-in-ReverseNested t c = subst (λ d. IfOk c.single_bucket-in-ReverseNested.result (λ j. view j.value ≡ d))
    (printer-kind c.args.mapping.now c.args.agg.now (seen_notes c.args.seen.now) c.args.node.now _
    (λ k. object_of (flat_map (λ b. bucket_members (map (printer c.args.mapping.now) (out-Agg c.args.agg.now).children)
    (own_members c.args.mapping.now k b.bucket) b)
    (noted_buckets (seen_notes c.args.seen.now)
    (out-NodeAnswer c.args.node.now).buckets))) c.in-ReverseNested.is refl) c.single_bucket-in-ReverseNested.ensures

pub named_buckets-returns-in_default : goal.named_buckets-returns-in_default
named_buckets-returns-in_default t c = c.into_json.ensures ∙
    ap object (
    sym (pairs_put-no_first (named c.args.mapping.now c.args.kind.now c.args.children.now)
    (drop c.loop-place.place (c.args.names.now ++ option_to_list c.args.other.now))
    (drop c.loop-place.place (noted_buckets (seen_notes c.args.seen.now) c.as_slice-bucket-items.result.now))
    (members_view c.loop-place.object.members.entries)
    (drop_missing (c.args.names.now ++ option_to_list c.args.other.now) c.loop-place.place
    (sym (ap option_copied c.in_default.is) ∙ c.name_at.ensures)))
    ∙ c.loop-place.invariant.all
    ∙ ap (λ bs. pairs_put (named c.args.mapping.now c.args.kind.now c.args.children.now) (c.args.names.now ++ option_to_list c.args.other.now)
    (noted_buckets (seen_notes c.args.seen.now) bs) (members_view c.new-object.result.members.entries)) c.as_slice-bucket-items.ensures
    ∙ ap (pairs_put (named c.args.mapping.now c.args.kind.now c.args.children.now) (c.args.names.now ++ option_to_list c.args.other.now)
    (noted_buckets (seen_notes c.args.seen.now) c.args.buckets.now)) c.new-object.ensures)

pub named_buckets-returns : goal.named_buckets-returns
named_buckets-returns t c = c.into_json-2.ensures ∙
    ap object (
    sym (pairs_put-no_second (named c.args.mapping.now c.args.kind.now c.args.children.now)
    (drop c.loop-place.place (c.args.names.now ++ option_to_list c.args.other.now))
    (drop c.loop-place.place (noted_buckets (seen_notes c.args.seen.now) c.as_slice-bucket-items.result.now))
    (members_view c.loop-place.object.members.entries)
    (noted_end (seen_notes c.args.seen.now) c.as_slice-bucket-items.result.now c.loop-place.place
    (drop_all c.loop-place.place c.as_slice-bucket-items.result.now c.loop-place-test.false)))
    ∙ c.loop-place.invariant.all
    ∙ ap (λ bs. pairs_put (named c.args.mapping.now c.args.kind.now c.args.children.now) (c.args.names.now ++ option_to_list c.args.other.now)
    (noted_buckets (seen_notes c.args.seen.now) bs) (members_view c.new-object.result.members.entries)) c.as_slice-bucket-items.ensures
    ∙ ap (pairs_put (named c.args.mapping.now c.args.kind.now c.args.children.now) (c.args.names.now ++ option_to_list c.args.other.now)
    (noted_buckets (seen_notes c.args.seen.now) c.args.buckets.now)) c.new-object.ensures)

pub answer_value-composite_object-requires : goal.answer_value-composite_object-requires
answer_value-composite_object-requires t c = keys_of_buckets (map checker (out-Agg c.args.agg.now).children) (out-NodeAnswer c.args.node.now).buckets
    (buckets_of_answer c.args.agg.now c.args.node.now c.requires)

pub bucket_list-returns : goal.bucket_list-returns
bucket_list-returns t c =
    let notes = seen_notes c.args.seen.now in
    let items = c.as_slice-bucket-items.result.now in
    let tree = bucket_tree c.args.mapping.now c.args.kind.now (map (printer c.args.mapping.now) c.args.children.now) in
    let values = map view c.loop-place.values.items.items in
    let end = noted_end notes items c.loop-place.place (drop_all c.loop-place.place items c.loop-place-test.false) in
    c.into_json.ensures
    ∙ ap array_of (sym (append-nil values) ∙ ap (λ bs. values ++ map tree bs) (sym end) ∙ c.loop-place.invariant.all
    ∙ ap (λ bs. map tree (noted_buckets notes bs)) c.as_slice-bucket-items.ensures)

pub keyed_buckets-returns : goal.keyed_buckets-returns
keyed_buckets-returns t c =
    let notes = seen_notes c.args.seen.now in
    let items = c.as_slice-bucket-items.result.now in
    let member = keyed c.args.mapping.now c.args.zone c.args.kind.now c.args.children.now in
    let put = members_view c.loop-place.object.members.entries in
    let end = noted_end notes items c.loop-place.place (drop_all c.loop-place.place items c.loop-place-test.false) in
    c.into_json.ensures
    ∙ ap object (sym (ap (λ bs. with_members (map member bs) put) end) ∙ c.loop-place.invariant.all
    ∙ ap (λ bs. with_members (map member (noted_buckets notes bs)) (members_view c.new-object.result.members.entries)) c.as_slice-bucket-items.ensures
    ∙ ap (with_members (map member (noted_buckets notes c.args.buckets.now))) c.new-object.ensures)

pub single_bucket-returns : goal.single_bucket-returns
single_bucket-returns t c =
    let notes = seen_notes c.args.seen.now in
    let items = c.as_slice-bucket-items.result.now in
    let members = λ (b : NotedBucket). bucket_members (map (printer c.args.mapping.now) c.args.children.now)
    (own_members c.args.mapping.now c.args.kind.now b.bucket) b in
    let put = members_view c.loop-place.object.members.entries in
    let end = noted_end notes items c.loop-place.place (drop_all c.loop-place.place items c.loop-place-test.false) in
    c.into_json.ensures
    ∙ ap object (sym (ap (λ bs. with_members (flat_map members bs) put) end) ∙ c.loop-place.invariant.all
    ∙ ap (λ bs. with_members (flat_map members (noted_buckets notes bs)) (members_view c.new-object.result.members.entries)) c.as_slice-bucket-items.ensures
    ∙ ap (with_members (flat_map members (noted_buckets notes c.args.buckets.now))) c.new-object.ensures)

pub with_answers-returns : goal.with_answers-returns
with_answers-returns t c =
    let m = c.args.mapping.now in
    let notes = seen_notes c.args.seen.now in
    let nodes = c.args.nodes.now in
    let items = c.as_slice-agg-items.result.now in
    let i = c.loop-place.place in
    let put = members_view c.loop-place.object.members.entries in
    let start = members_view c.args.object.members.entries in
    let all =
    sym (ap (λ xs. answers_put m i notes xs (drop i nodes) put) (drop_all i items c.loop-place-test.false))
    ∙ c.loop-place.invariant.all
    ∙ ap (λ xs. answers_put m 0 notes xs nodes start) c.as_slice-agg-items.ensures in
    IfOk-weaker c.with_notes-2.result _ _ (λ o told.
    told ∙ ap (with_members (note_members notes)) all ∙ sym
    (with_members-append (named_answers 0 (map (printer m) c.args.aggs.now) notes nodes) (note_members notes) start))
    c.with_notes-2.ensures
