-- The JSON tree of an answer (the response bodies of 'Aggregations' and 'Pipeline aggregations').
use Rattle.std.specs.Prelude.{ℕ, ℤ, pos, Bool, true, false, if◌then◌else◌, List, [], ◌∷◌, ◌++◌, ◌+◌, map, filter, filter_map, flat_map, zip, Option, Some, None, option_map, option_to_list, codes}
use Rattle.std.specs.List.{enumerate_from, last_or}
use Rattle.std.specs.Option.{option_map_or}
use Rattle.std.specs.Fmt.{signed_decimal}
use Rattle.serde_json.specs.Data.{Data, null, boolean, string}
use Rattle.agg_model.specs.declared.mapping.Mapping.{Mapping}
use Rattle.agg_model.specs.FieldKinds.{is_date_kind}
use Rattle.agg_evaluation.specs.QueryFits.{field_is}
use Rattle.agg_model.specs.declared.key.Key.{Key, out-Key}
use Rattle.agg_model.specs.declared.key.Key.TheOpen.{Key-F}
use Rattle.agg_model.specs.declared.key.Key.TheVariants as key
use Rattle.agg_model.specs.declared.answer.BucketAnswer.{BucketAnswer, out-BucketAnswer}
use Rattle.agg_model.specs.declared.answer.NodeAnswer.{NodeAnswer, out-NodeAnswer}
use Rattle.agg_model.specs.declared.answer.BucketAnswer.TheOpen.{NodeAnswer-F}
use Rattle.agg_model.specs.declared.aggregation.Kind.{Kind}
use Rattle.agg_model.specs.declared.aggregation.Spacing.{Spacing}
use Rattle.agg_model.specs.declared.aggregation.Spacing.TheVariants.{Numbers, Dates}
use Rattle.agg_model.specs.declared.partial.Metric.{Metric}
use Rattle.agg_model.specs.Options.{Options, Measure, options_of}
use Rattle.agg_model.specs.declared.aggregation.CompositeSource.{CompositeSource}
use Rattle.agg_model.specs.declared.aggregation.Agg.{Agg}
use Rattle.agg_evaluation.specs.Folds.{fold_agg}
use Rattle.agg_spec.specs.Json.{Member, object_of, array_of, count, whole_number}
use Rattle.agg_model.specs.declared.pipeline.Note.{Note}
use Rattle.agg_spec.specs.Average.{average}
use Rattle.agg_spec.specs.InstantTexts.{instant_text}
use Rattle.agg_spec.specs.Notes.{places_behind}
use Rattle.agg_spec.specs.Remarks.{are_no_places}

-- a note with the zone in which its keys are printed where they are instants
pub record ZonedNote : Type 0 where
  pub zone : Option ℤ
  pub note : Note

-- the tree of an answer to one aggregation, with the notes below it
abbrev pub Printer : Type 0
Printer = List ZonedNote → NodeAnswer → Data

abbrev pub note_behind : ZonedNote → List ℕ → ZonedNote
note_behind n rest = record { zone = n.zone; note = record n.note { at = rest } }

-- the notes beneath this place, as they are seen from there
abbrev pub notes_within : ℕ → List ZonedNote → List ZonedNote
notes_within i notes = filter_map (λ n. option_map (note_behind n) (places_behind i n.note.at)) notes

-- the answers to the aggregations, each under its name; places are counted from i
abbrev pub named_answers : ℕ → List Printer → List ZonedNote → List NodeAnswer → List Member
named_answers i [] notes nodes = []
named_answers i (p ∷ ps) notes [] = []
named_answers i (p ∷ ps) notes (n ∷ ns) = ((out-NodeAnswer n).name, p (notes_within i notes) n) ∷ named_answers (i + 1) ps notes ns

abbrev pub flag_text : Bool → List ℕ
flag_text b = if b then codes "true" else codes "false"

-- a number; or an instant, which has a text too, in some zone
abbrev pub number_members : Option ℤ → ℤ → List Member
number_members None n = (codes "key", whole_number n) ∷ []
number_members (Some zone) n = (codes "key", whole_number n) ∷ (codes "key_as_string", string (instant_text zone n)) ∷ []

-- the key of a bucket, whose whole numbers are instants where they are dated, in some zone; a truth value has a number and a text
abbrev pub term_members : Option ℤ → Key → List Member
term_members dated key.Null = (codes "key", null) ∷ []
term_members dated (key.Whole n) = number_members dated n
term_members dated (key.Flag b) = (codes "key", count (if b then 1 else 0)) ∷ (codes "key_as_string", string (flag_text b)) ∷ []
term_members dated (key.Word w) = (codes "key", string w) ∷ []
term_members dated (key.Fixed n) = (codes "key", null) ∷ []
term_members dated (key.Many' n parts) = (codes "key", null) ∷ []

-- the field is one of dates
abbrev pub is_dated : Mapping → ℕ → Bool
is_dated m field = field_is m is_date_kind field

-- the zone in which terms are printed that are dates
abbrev pub zone_of_terms : Mapping → ℕ → Option ℤ
zone_of_terms m field = if is_dated m field then Some (pos 0) else None

-- the zone in which the keys of a histogram are printed that are dates
abbrev pub zone_of_spacing : Spacing → Option ℤ
zone_of_spacing (Numbers interval offset) = None
zone_of_spacing (Dates period zone) = Some zone

-- the error of a bucket's count, where it is shown
abbrev pub error_members : Bool → Option ℤ → List Member
error_members true (Some error) = (codes "doc_count_error_upper_bound", whole_number error) ∷ []
error_members _ _ = []

-- a number, or an instant in some zone, as a name
abbrev pub number_name : Option ℤ → ℤ → List ℕ
number_name None n = signed_decimal n
number_name (Some zone) n = instant_text zone n

-- the name of a keyed bucket of a histogram
abbrev pub key_name : Option ℤ → Key → List ℕ
key_name dated key.Null = []
key_name dated (key.Whole n) = number_name dated n
key_name dated (key.Flag b) = []
key_name dated (key.Word w) = []
key_name dated (key.Fixed n) = []
key_name dated (key.Many' n parts) = []

-- the text of a key, of a number its decimal text or where it is an instant its text in some zone
abbrev pub key_text : Option ℤ → Key → List ℕ
key_text dated key.Null = []
key_text dated (key.Whole n) = number_name dated n
key_text dated (key.Flag b) = flag_text b
key_text dated (key.Word w) = w
key_text dated (key.Fixed n) = []
key_text dated (key.Many' n parts) = []

abbrev pub value_of : Option ℤ → Data
value_of = λ n. option_map_or whole_number n null

-- A least or greatest value stands beside the keys of the buckets that have it, and it alone may be null. All other pipelines
-- have a number and no keys.
abbrev pub keys_members : Option ℤ → Option ℤ → List Key → List Member
keys_members dated None keys = (codes "keys", array_of (map (λ k. string (key_text dated k)) keys)) ∷ []
keys_members dated (Some n) [] = []
keys_members dated (Some n) (k ∷ ks) = (codes "keys", array_of (map (λ j. string (key_text dated j)) (k ∷ ks))) ∷ []

abbrev pub note_tree : ZonedNote → Data
note_tree n = object_of (keys_members n.zone n.note.value n.note.keys ++ (codes "value", value_of n.note.value) ∷ [])

-- the notes of the object itself, each under its name
abbrev pub note_members : List ZonedNote → List Member
note_members notes = map (λ n. (n.note.name, note_tree n)) (filter (λ n. are_no_places n.note.at) notes)

-- all that stands in an object beside what it has itself
abbrev pub object_members : List Printer → List ZonedNote → List NodeAnswer → List Member
object_members children notes nodes = named_answers 0 children notes nodes ++ note_members notes

-- a bucket with the notes in its object
pub record NotedBucket : Type 0 where
  pub bucket : BucketAnswer
  pub notes : List ZonedNote

abbrev pub noted_at : List ZonedNote → ℕ × BucketAnswer → NotedBucket
noted_at notes b = record { bucket = b.1; notes = notes_within b.0 notes }

abbrev pub noted_buckets : List ZonedNote → List BucketAnswer → List NotedBucket
noted_buckets notes buckets = map (noted_at notes) (enumerate_from 0 buckets)

-- one part of a composite key
abbrev pub part_value : Key → Data
part_value key.Null = null
part_value (key.Whole n) = whole_number n
part_value (key.Flag b) = boolean b
part_value (key.Word w) = string w
part_value (key.Fixed n) = null
part_value (key.Many' n parts) = null

abbrev pub named_parts : List CompositeSource → Key-F Key → List Member
named_parts sources Key-F.Null = []
named_parts sources (Key-F.Whole n) = []
named_parts sources (Key-F.Flag b) = []
named_parts sources (Key-F.Word w) = []
named_parts sources (Key-F.Fixed n) = []
named_parts sources (Key-F.Many ks) = map (λ p. (p.0.name, part_value p.1)) (zip sources ks)

-- a composite key, each part under the name of its source
abbrev pub composite_value : List CompositeSource → Key → Data
composite_value sources k = object_of (named_parts sources (out-Key k))

-- the number of documents of a bucket, members of its kind, and what stands below it
abbrev pub bucket_members : List Printer → List Member → NotedBucket → List Member
bucket_members children own b =
    (codes "doc_count", count (out-BucketAnswer b.bucket).count) ∷ (own ++ object_members children b.notes (out-BucketAnswer b.bucket).children)

abbrev pub term_bucket : List Printer → Option ℤ → Bool → NotedBucket → Data
term_bucket children zone show_error b =
    object_of (bucket_members children (term_members zone (out-BucketAnswer b.bucket).key ++ error_members show_error (out-BucketAnswer b.bucket).error) b)

abbrev pub interval_bucket : List Printer → Option ℤ → NotedBucket → Data
interval_bucket children zone b = object_of (bucket_members children (term_members zone (out-BucketAnswer b.bucket).key) b)

abbrev pub plain_bucket : List Printer → NotedBucket → Data
plain_bucket children b = object_of (bucket_members children [] b)

abbrev pub composite_bucket : List CompositeSource → List Printer → NotedBucket → Data
composite_bucket sources children b =
    object_of (bucket_members children ((codes "key", composite_value sources (out-BucketAnswer b.bucket).key) ∷ []) b)

-- the last bucket's key, where there is a bucket
abbrev pub after_key : List CompositeSource → List BucketAnswer → List Member
after_key sources buckets = option_map_or (λ b. (codes "after_key", composite_value sources (out-BucketAnswer b).key) ∷ []) (last_or None buckets) []

-- the buckets by name where there are names, else as a list
abbrev pub filter_buckets : List Printer → Option (List (List ℕ)) → Option (List ℕ) → List NotedBucket → Data
filter_buckets children (Some names) other buckets = object_of (map (λ b. (b.0, plain_bucket children b.1)) (zip (names ++ option_to_list other) buckets))
filter_buckets children None other buckets = array_of (map (plain_bucket children) buckets)

abbrev pub histogram_buckets : List Printer → Option ℤ → Bool → List NotedBucket → Data
histogram_buckets children zone true buckets =
    object_of (map (λ b. (key_name zone (out-BucketAnswer b.bucket).key, interval_bucket children zone b)) buckets)
histogram_buckets children zone false buckets = array_of (map (interval_bucket children zone) buckets)

-- what a metric shows
abbrev pub metric_tree : Measure → Metric → Data
metric_tree Measure.sum m = object_of ((codes "value", whole_number m.sum) ∷ [])
metric_tree Measure.least m = object_of ((codes "value", value_of m.least) ∷ [])
metric_tree Measure.greatest m = object_of ((codes "value", value_of m.greatest) ∷ [])
metric_tree Measure.average m = object_of (
    (codes "count", count m.count) ∷ (codes "sum", whole_number m.sum) ∷ (codes "value_as_string", average m.sum m.count) ∷ [])
metric_tree Measure.value_count m = object_of ((codes "value", count m.count) ∷ [])

-- the number of documents of the one bucket, and the answers below it
abbrev pub single_tree : List Printer → List NotedBucket → Data
single_tree children buckets = object_of (flat_map (bucket_members children []) buckets)

abbrev pub tree_at : Mapping → List Printer → Kind → List ZonedNote → NodeAnswer-F BucketAnswer NodeAnswer → Data
tree_at m children k notes n =
    let buckets = noted_buckets notes n.buckets in
    elim (options_of k) [
      | Options.Terms t ↦ object_of (
          (codes "buckets", array_of (map (term_bucket children (zone_of_terms m t.field) t.show_error) buckets))
          ∷ (codes "doc_count_error_upper_bound", whole_number n.error)
          ∷ (codes "sum_other_doc_count", count n.other) ∷ [])
      | Options.Histogram h ↦ object_of ((codes "buckets", histogram_buckets children (zone_of_spacing h.spacing) h.keyed buckets) ∷ [])
      | Options.Filters names filters other ↦ object_of ((codes "buckets", filter_buckets children names other buckets) ∷ [])
      | Options.Filter query ↦ single_tree children buckets
      | Options.Missing field ↦ single_tree children buckets
      | Options.Global ↦ single_tree children buckets
      | Options.Nested context ↦ single_tree children buckets
      | Options.ReverseNested context ↦ single_tree children buckets
      | Options.Composite sources size after ↦
          object_of (after_key sources n.buckets ++ (codes "buckets", array_of (map (composite_bucket sources children) buckets)) ∷ [])
      | Options.Metric o ↦ metric_tree o.measure n.metric
    ]

abbrev pub printer : Mapping → Agg → Printer
printer m = fold_agg (λ a notes n. tree_at m a.children a.kind notes (out-NodeAnswer n))
