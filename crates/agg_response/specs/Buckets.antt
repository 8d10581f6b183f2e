-- The trees of an aggregation's buckets, by its kind (the response bodies of 'Aggregations').
use Rattle.std.specs.Prelude.{ℤ, Bool, if◌then◌else◌, List, [], ◌∷◌, ◌++◌, map, Option, codes}
use Rattle.serde_json.specs.Data.{Data}
use Rattle.agg_model.specs.declared.mapping.Mapping.{Mapping}
use Rattle.agg_model.specs.declared.answer.BucketAnswer.{BucketAnswer, out-BucketAnswer}
use Rattle.agg_model.specs.declared.aggregation.Kind.{Kind}
use Rattle.agg_evaluation.specs.Profile.{Form, profile}
use Rattle.agg_spec.specs.AnswerTree.{Printer, NotedBucket, zone_of_terms, zone_of_spacing, term_members, key_name, error_members, composite_value}
use Rattle.agg_spec.specs.AnswerTree.{bucket_members}
use Rattle.agg_spec.specs.Json.{Member, object_of, array_of}

-- the members that a bucket has of its kind
abbrev pub own_members : Mapping → Kind → BucketAnswer → List Member
own_members m k b = elim (profile k).form [
  | Form.terms t ↦ term_members (zone_of_terms m t.field) (out-BucketAnswer b).key ++ error_members t.show_error (out-BucketAnswer b).error
  | Form.histogram h ↦ term_members (zone_of_spacing h.spacing) (out-BucketAnswer b).key
  | Form.pages sources size after ↦ (codes "key", composite_value sources (out-BucketAnswer b).key) ∷ []
  | Form.fixed ks ↦ []
  | Form.number o ↦ []
]

-- a bucket with the notes in its object
abbrev pub bucket_tree : Mapping → Kind → List Printer → NotedBucket → Data
bucket_tree m kind children b = object_of (bucket_members children (own_members m kind b.bucket) b)

-- the buckets of a histogram under the texts of their keys, or as a list
abbrev pub histogram_buckets : Mapping → Kind → List Printer → Option ℤ → Bool → List NotedBucket → Data
histogram_buckets m kind children zone keyed buckets =
    if keyed then object_of (map (λ b. (key_name zone (out-BucketAnswer b.bucket).key, bucket_tree m kind children b)) buckets)
    else array_of (map (bucket_tree m kind children) buckets)
