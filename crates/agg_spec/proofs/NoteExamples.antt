-- Answers with pipelines, computed: notes beside children and siblings, cuts, and the path of a value out of range.
use Rattle.std.specs.Prelude.{◌≡◌, refl, ℕ, ℤ, pos, negsuc, ◌-◌, ◌^◌, true, false, List, [], ◌∷◌, ◌++◌, map, replicate, Option, Some, None, codes}
use Rattle.agg_model.specs.declared.key.Key.{Key}
use Rattle.agg_model.specs.declared.key.Key.TheVariants as key
use Rattle.agg_model.specs.declared.query.Query.TheVariants as query
use Rattle.agg_model.specs.declared.aggregation.Agg.{Agg}
use Rattle.agg_model.specs.declared.aggregation.Kind.TheVariants as kind
use Rattle.agg_model.specs.declared.aggregation.Search.{Search}
use Rattle.agg_model.specs.declared.answer.Answer.{Answer}
use Rattle.agg_model.specs.declared.pipeline.Pipe.{Pipe}
use Rattle.agg_model.specs.declared.pipeline.PipeKind.{PipeKind}
use Rattle.agg_model.specs.declared.pipeline.PipeKind.TheVariants as pipe
use Rattle.agg_model.specs.declared.pipeline.PipePath.TheVariants as path
use Rattle.agg_model.specs.declared.pipeline.Note.{Note}
use Rattle.agg_model.specs.declared.pipeline.Piped.{Piped}
use Rattle.agg_evaluation.specs.Keys.{no_bounds}
use Rattle.agg_spec.specs.Index.{Index, shard_numbers}
use Rattle.agg_spec.specs.Outcome.{answer_of}
use Rattle.agg_spec.specs.Notes.{piped, pipe_out_of_range}
use Rattle.agg_spec.proofs.Samples.{numbers, words, row, one_shard, by_count, by_key, agg, leaf, search_of, aggregations_text}
use Rattle.agg_spec.proofs.Computing.{computing}

abbrev pipe_at : List ℕ → List ℕ → PipeKind → Pipe
pipe_at at name kind = record { at = at; name = name; kind = kind }

abbrev note : List ℕ → List ℕ → ℤ → List Key → Note
note at name value keys = record { at = at; name = name; value = Some value; keys = keys }

-- what pipelines say of the search's answer
abbrev notes_in : Index → Search → List Note
notes_in index search = (piped search (answer_of index search (shard_numbers index))).notes

abbrev wide_in : Index → Search → Option (List ℕ)
wide_in index search = pipe_out_of_range search (answer_of index search (shard_numbers index))

-- counts 1, 1, 0, 1 at the keys -10, 0, 10, 20
abbrev three_numbers : Index
three_numbers = one_shard (row (numbers (negsuc 0 ∷ []) ∷ []) ∷ row (numbers (pos 0 ∷ []) ∷ []) ∷ row (numbers (pos 25 ∷ []) ∷ []) ∷ [])

abbrev by_tens : List Agg → Agg
by_tens children = agg (codes "h") (kind.Histogram 1 10 0 0 no_bounds no_bounds false by_key None) children

abbrev with_pipes : List Pipe → Search → Search
with_pipes pipes search = record search { pipes = pipes }

-- running sums and changes of counts below the histogram, their sum and the greatest beside it
abbrev four_pipes : Search
four_pipes =
    with_pipes
    (pipe_at (0 ∷ []) (codes "c") (pipe.CumulativeSum path.Count)
    ∷ pipe_at (0 ∷ []) (codes "d") (pipe.Derivative path.Count)
    ∷ pipe_at [] (codes "s") (pipe.SumBucket 0 path.Count)
    ∷ pipe_at [] (codes "x") (pipe.MaxBucket 0 path.Count) ∷ [])
    (search_of query.All (by_tens [] ∷ []))

below_and_beside :
    notes_in three_numbers four_pipes
    ≡ note (0 ∷ 0 ∷ []) (codes "c") (pos 1) []
    ∷ note (0 ∷ 1 ∷ []) (codes "c") (pos 2) []
    ∷ note (0 ∷ 1 ∷ []) (codes "d") (pos 0) []
    ∷ note (0 ∷ 2 ∷ []) (codes "c") (pos 2) []
    ∷ note (0 ∷ 2 ∷ []) (codes "d") (negsuc 0) []
    ∷ note (0 ∷ 3 ∷ []) (codes "c") (pos 3) []
    ∷ note (0 ∷ 3 ∷ []) (codes "d") (pos 1) []
    ∷ note [] (codes "s") (pos 3) []
    ∷ note [] (codes "x") (pos 1) (key.Whole (negsuc 9) ∷ key.Whole (pos 0) ∷ key.Whole (pos 20) ∷ []) ∷ []
unfolding computing
below_and_beside = refl

-- twelve `a` and eight `b`
abbrev two_words : Index
two_words = one_shard (replicate 12 (row (words (codes "a" ∷ []) ∷ [])) ++ replicate 8 (row (words (codes "b" ∷ []) ∷ [])))

abbrev rarest_term : Search
rarest_term =
    with_pipes
    (pipe_at (0 ∷ []) (codes "z") (pipe.BucketSort (record { path = path.Count; descending = false } ∷ []) 0 (Some 1)) ∷ [])
    (search_of query.All (leaf (codes "t") (kind.Terms 2 10 25 1 by_count None [] None false) ∷ []))

-- the answer without pipelines to the rarest term alone
abbrev answer_in : Index → Search → Answer
answer_in index search = answer_of index search (shard_numbers index)

cut_to_the_rarest :
    piped rarest_term (answer_in two_words rarest_term)
    ≡ record {
      answer = record (answer_in (one_shard (replicate 8 (row (words (codes "b" ∷ []) ∷ [])))) rarest_term) { hits = 20 };
      notes = [];
    }
unfolding computing
cut_to_the_rarest = refl

-- Sums are taken before buckets are sorted and cut: the two with the greatest values stay, the later one in front with its sum over all.
abbrev last_sums : Search
last_sums =
    with_pipes
    (pipe_at (0 ∷ []) (codes "c") (pipe.CumulativeSum path.Count)
    ∷ pipe_at (0 ∷ []) (codes "z") (pipe.BucketSort (record { path = path.Child 0; descending = true } ∷ []) 0 (Some 2))
    ∷ pipe_at [] (codes "s") (pipe.SumBucket 0 path.Count) ∷ [])
    (search_of query.All (by_tens (leaf (codes "m") (kind.Max 1 None) ∷ []) ∷ []))

a_bucket_takes_its_notes_along :
    notes_in three_numbers last_sums
    ≡ note (0 ∷ 0 ∷ []) (codes "c") (pos 3) [] ∷ note (0 ∷ 1 ∷ []) (codes "c") (pos 2) [] ∷ note [] (codes "s") (pos 3) [] ∷ []
unfolding computing
a_bucket_takes_its_notes_along = refl

-- the two greatest numbers of 64 bits
abbrev two_great : Index
two_great = one_shard (row (numbers (pos (2 ^ 63 - 1) ∷ []) ∷ []) ∷ row (numbers (pos (2 ^ 63 - 2) ∷ []) ∷ []) ∷ [])

abbrev sum_of_greatest : Search
sum_of_greatest =
    with_pipes
    (pipe_at (0 ∷ []) (codes "c") (pipe.CumulativeSum (path.Child 0))
    ∷ pipe_at (0 ∷ []) (codes "z") (pipe.BucketSort [] 0 (Some 1)) ∷ [])
    (search_of query.All (agg (codes "t") (kind.Histogram 1 1 0 1 no_bounds no_bounds false by_key None) (leaf (codes "s") (kind.Sum 1 None) ∷ []) ∷ []))

-- the value of a bucket that is cut counts too
out_of_range_though_cut : wide_in two_great sum_of_greatest ≡ Some (codes "/t/c")
unfolding computing
out_of_range_though_cut = refl

in_range_at_the_first : wide_in three_numbers sum_of_greatest ≡ None
unfolding computing
in_range_at_the_first = refl

-- a pipeline at a place without an aggregation says nothing wrong
nothing_beside :
    notes_in three_numbers (with_pipes (pipe_at [] (codes "s") (pipe.SumBucket 7 path.Count) ∷ []) (search_of query.All (by_tens [] ∷ [])))
    ≡ note [] (codes "s") (pos 0) [] ∷ []
unfolding computing
nothing_beside = refl

-- beside the children and siblings, in byte order of the names
printed_below_and_beside :
    aggregations_text three_numbers four_pipes
    ≡ codes "{\"h\":{\"buckets\":[{\"c\":{\"value\":1},\"doc_count\":1,\"key\":-10},{\"c\":{\"value\":2},\"d\":{\"value\":0},\"doc_count\":1,\"key\":0},{\"c\":{\"value\":2},\"d\":{\"value\":-1},\"doc_count\":0,\"key\":10},{\"c\":{\"value\":3},\"d\":{\"value\":1},\"doc_count\":1,\"key\":20}]},\"s\":{\"value\":3},\"x\":{\"keys\":[\"-10\",\"0\",\"20\"],\"value\":1}}"
unfolding computing
printed_below_and_beside = refl

printed_rarest :
    aggregations_text two_words rarest_term
    ≡ codes "{\"t\":{\"buckets\":[{\"doc_count\":8,\"key\":\"b\"}],\"doc_count_error_upper_bound\":0,\"sum_other_doc_count\":0}}"
unfolding computing
printed_rarest = refl

-- of no bucket
abbrev no_extreme : Search
no_extreme =
    with_pipes (pipe_at [] (codes "x") (pipe.MinBucket 0 path.Count) ∷ pipe_at [] (codes "y") (pipe.SumBucket 0 path.Count) ∷ [])
    (search_of query.All (by_tens [] ∷ []))

printed_of_no_bucket :
    aggregations_text (one_shard []) no_extreme
    ≡ codes "{\"h\":{\"buckets\":[]},\"x\":{\"keys\":[],\"value\":null},\"y\":{\"value\":0}}"
unfolding computing
printed_of_no_bucket = refl
