use Rattle.std.proofs.Common.{◌≡◌, ◌+◌, ◌*◌, [], ◌++◌, map, drop}
use Rattle.std.specs.Prelude.{zip, flat_map, option_to_list}
use Rattle.serde_json.specs.View.{view, members_view}
use Rattle.agg_model.specs.declared.answer.BucketAnswer.{out-BucketAnswer}
use Rattle.agg_spec.specs.AnswerTree.{NotedBucket, noted_buckets, printer, key_name, bucket_members}
use Rattle.agg_spec.specs.Json.{with_members}
use Rattle.agg_spec.specs.RangeCheck.{checker, check_bucket}
use Rattle.agg_response.specs.Seen.{seen_notes}
use Rattle.agg_response.specs.Buckets.{bucket_tree, own_members}
use Rattle.agg_response.proofs.InRange.{pairs_check}
use Rattle.agg_response.proofs.PutLaws.{answers_put}
use Rattle.agg_model.specs.declared.answer.BucketAnswer.{size-BucketAnswer}
use Rattle.agg_model.specs.declared.answer.NodeAnswer.{size-NodeAnswer}
use denote.Param.Weighed.{most}
use Rattle.agg_response.proofs.answers.+answers.Given as goal

-- the depth of what is printed, three times; a list's is that of its deepest item, and one more; and a histogram's two more
abbrev pub decreases-answer_value : goal.decreases-answer_value
decreases-answer_value l = 3 * size-NodeAnswer l.node.now

abbrev pub decreases-bucket_value : goal.decreases-bucket_value
decreases-bucket_value l = 3 * size-BucketAnswer l.bucket.now

abbrev pub decreases-with_answers : goal.decreases-with_answers
decreases-with_answers l = 3 * most size-NodeAnswer l.nodes.now + 1

abbrev pub decreases-bucket_list : goal.decreases-bucket_list
decreases-bucket_list l = 3 * most size-BucketAnswer l.buckets.now + 1

abbrev pub decreases-keyed_buckets : goal.decreases-keyed_buckets
decreases-keyed_buckets l = 3 * most size-BucketAnswer l.buckets.now + 1

abbrev pub decreases-histogram_value : goal.decreases-histogram_value
decreases-histogram_value l = 3 * most size-BucketAnswer l.buckets.now + 2

abbrev pub decreases-named_buckets : goal.decreases-named_buckets
decreases-named_buckets l = 3 * most size-BucketAnswer l.buckets.now + 1

abbrev pub decreases-single_bucket : goal.decreases-single_bucket
decreases-single_bucket l = 3 * most size-BucketAnswer l.buckets.now + 1

abbrev pub invariant-with_answers-loop-place : goal.invariant-with_answers-loop-place
invariant-with_answers-loop-place l = record {
  in_range : pairs_check (drop l.place l.agg-items) (drop l.place l.nodes) ≡ [];
  all : answers_put l.mapping l.place (seen_notes l.seen) (drop l.place l.agg-items) (drop l.place l.nodes) (members_view l.object.members.entries)
      ≡ answers_put l.mapping 0 (seen_notes l.seen) l.agg-items l.nodes (members_view l.initial.object.members.entries);
}

abbrev pub invariant-bucket_list-loop-place : goal.invariant-bucket_list-loop-place
invariant-bucket_list-loop-place l = record {
  in_range : flat_map (check_bucket (map checker l.children)) (drop l.place l.bucket-items) ≡ [];
  all : map view l.values.items.items ++ map (bucket_tree l.mapping l.kind (map (printer l.mapping) l.children))
      (drop l.place (noted_buckets (seen_notes l.seen) l.bucket-items))
      ≡ map (bucket_tree l.mapping l.kind (map (printer l.mapping) l.children)) (noted_buckets (seen_notes l.seen) l.bucket-items);
}

abbrev pub invariant-keyed_buckets-loop-place : goal.invariant-keyed_buckets-loop-place
invariant-keyed_buckets-loop-place l = record {
  in_range : flat_map (check_bucket (map checker l.children)) (drop l.place l.bucket-items) ≡ [];
  all : with_members (map (λ (b : NotedBucket). (
    key_name l.zone (out-BucketAnswer b.bucket).key,
    bucket_tree l.mapping l.kind
        (map (printer l.mapping) l.children) b,
  )) (drop l.place (noted_buckets (seen_notes l.seen) l.bucket-items)))
      (members_view l.object.members.entries)
      ≡ with_members (map (λ (b : NotedBucket). (
        key_name l.zone (out-BucketAnswer b.bucket).key,
        bucket_tree l.mapping l.kind
            (map (printer l.mapping) l.children) b,
      )) (noted_buckets (seen_notes l.seen) l.bucket-items))
      (members_view l.initial.object.members.entries);
}

abbrev pub invariant-named_buckets-loop-place : goal.invariant-named_buckets-loop-place
invariant-named_buckets-loop-place l = record {
  in_range : flat_map (check_bucket (map checker l.children)) (drop l.place l.bucket-items) ≡ [];
  all : with_members (map (λ b. (b.0, bucket_tree l.mapping l.kind (map (printer l.mapping) l.children) b.1))
      (zip (drop l.place (l.names ++ option_to_list l.other)) (drop l.place (noted_buckets (seen_notes l.seen) l.bucket-items))))
      (members_view l.object.members.entries)
      ≡ with_members (map (λ b. (b.0, bucket_tree l.mapping l.kind (map (printer l.mapping) l.children) b.1))
      (zip (l.names ++ option_to_list l.other) (noted_buckets (seen_notes l.seen) l.bucket-items)))
      (members_view l.initial.object.members.entries);
}

abbrev pub invariant-single_bucket-loop-place : goal.invariant-single_bucket-loop-place
invariant-single_bucket-loop-place l = record {
  in_range : flat_map (check_bucket (map checker l.children)) (drop l.place l.bucket-items) ≡ [];
  all : with_members (flat_map (λ b. bucket_members (map (printer l.mapping) l.children) (own_members l.mapping l.kind b.bucket) b)
      (drop l.place (noted_buckets (seen_notes l.seen) l.bucket-items))) (members_view l.object.members.entries)
      ≡ with_members (flat_map (λ b. bucket_members (map (printer l.mapping) l.children) (own_members l.mapping l.kind b.bucket) b)
      (noted_buckets (seen_notes l.seen) l.bucket-items)) (members_view l.initial.object.members.entries);
}
