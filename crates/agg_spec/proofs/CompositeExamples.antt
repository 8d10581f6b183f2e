-- Pages of composite aggregations, computed.
use Rattle.std.specs.Prelude.{◌≡◌, refl, pos, negsuc, true, false, [], ◌∷◌, Some, None, codes}
use Rattle.agg_model.specs.declared.key.Key.TheVariants as key
use Rattle.agg_model.specs.declared.query.Query.TheVariants as query
use Rattle.agg_model.specs.declared.aggregation.Kind.TheVariants as kind
use Rattle.agg_spec.specs.Index.{Index}
use Rattle.agg_spec.proofs.Samples.{flags, numbers, words, row, one_shard, agg, leaf, search_of, aggregations_text}
use Rattle.agg_spec.proofs.Computing.{computing}

abbrev pairs : Index
pairs = one_shard (row (numbers (pos 1 ∷ pos 2 ∷ []) ∷ words (codes "x" ∷ []) ∷ []) ∷ row (numbers (pos 1 ∷ pos 2 ∷ pos 3 ∷ []) ∷ words (codes "y" ∷ []) ∷ []) ∷ [])

first_page :
    aggregations_text pairs (search_of query.All (leaf (codes "c") (kind.Composite (record { name = codes "k"; field = 2; interval = None; descending = false; missing_bucket = false } ∷ record { name = codes "m"; field = 1; interval = None; descending = false; missing_bucket = false } ∷ []) 2 None) ∷ []))
    ≡ codes "{\"c\":{\"after_key\":{\"k\":\"x\",\"m\":2},\"buckets\":[{\"doc_count\":1,\"key\":{\"k\":\"x\",\"m\":1}},{\"doc_count\":1,\"key\":{\"k\":\"x\",\"m\":2}}]}}"
unfolding computing
first_page = refl

second_page :
    aggregations_text pairs (search_of query.All (leaf (codes "c") (kind.Composite (record { name = codes "k"; field = 2; interval = None; descending = false; missing_bucket = false } ∷ record { name = codes "m"; field = 1; interval = None; descending = false; missing_bucket = false } ∷ []) 2 (Some (key.Many ((key.Word (codes "x")) ∷ (key.Whole (pos 2)) ∷ [])))) ∷ []))
    ≡ codes "{\"c\":{\"after_key\":{\"k\":\"y\",\"m\":2},\"buckets\":[{\"doc_count\":1,\"key\":{\"k\":\"y\",\"m\":1}},{\"doc_count\":1,\"key\":{\"k\":\"y\",\"m\":2}}]}}"
unfolding computing
second_page = refl

third_page :
    aggregations_text pairs (search_of query.All (leaf (codes "c") (kind.Composite (record { name = codes "k"; field = 2; interval = None; descending = false; missing_bucket = false } ∷ record { name = codes "m"; field = 1; interval = None; descending = false; missing_bucket = false } ∷ []) 2 (Some (key.Many ((key.Word (codes "y")) ∷ (key.Whole (pos 2)) ∷ [])))) ∷ []))
    ≡ codes "{\"c\":{\"after_key\":{\"k\":\"y\",\"m\":3},\"buckets\":[{\"doc_count\":1,\"key\":{\"k\":\"y\",\"m\":3}}]}}"
unfolding computing
third_page = refl

page_without_a_bucket :
    aggregations_text pairs (search_of query.All (leaf (codes "c") (kind.Composite (record { name = codes "k"; field = 2; interval = None; descending = false; missing_bucket = false } ∷ record { name = codes "m"; field = 1; interval = None; descending = false; missing_bucket = false } ∷ []) 2 (Some (key.Many ((key.Word (codes "y")) ∷ (key.Whole (pos 3)) ∷ [])))) ∷ []))
    ≡ codes "{\"c\":{\"buckets\":[]}}"
unfolding computing
page_without_a_bucket = refl

abbrev pairs_and_a_null : Index
pairs_and_a_null = one_shard (row (numbers (pos 1 ∷ pos 2 ∷ []) ∷ words (codes "x" ∷ []) ∷ []) ∷ row (numbers (pos 1 ∷ pos 2 ∷ pos 3 ∷ []) ∷ words (codes "y" ∷ []) ∷ []) ∷ row (numbers (pos 7 ∷ []) ∷ []) ∷ [])

null_first :
    aggregations_text pairs_and_a_null (search_of query.All (leaf (codes "c") (kind.Composite (record { name = codes "k"; field = 2; interval = None; descending = false; missing_bucket = true } ∷ record { name = codes "m"; field = 1; interval = None; descending = false; missing_bucket = false } ∷ []) 2 None) ∷ []))
    ≡ codes "{\"c\":{\"after_key\":{\"k\":\"x\",\"m\":1},\"buckets\":[{\"doc_count\":1,\"key\":{\"k\":null,\"m\":7}},{\"doc_count\":1,\"key\":{\"k\":\"x\",\"m\":1}}]}}"
unfolding computing
null_first = refl

after_a_key_that_no_row_has :
    aggregations_text pairs_and_a_null (search_of query.All (leaf (codes "c") (kind.Composite (record { name = codes "k"; field = 2; interval = None; descending = false; missing_bucket = true } ∷ record { name = codes "m"; field = 1; interval = None; descending = false; missing_bucket = false } ∷ []) 2 (Some (key.Many ((key.Word (codes "xx")) ∷ (key.Whole (pos 0)) ∷ [])))) ∷ []))
    ≡ codes "{\"c\":{\"after_key\":{\"k\":\"y\",\"m\":2},\"buckets\":[{\"doc_count\":1,\"key\":{\"k\":\"y\",\"m\":1}},{\"doc_count\":1,\"key\":{\"k\":\"y\",\"m\":2}}]}}"
unfolding computing
after_a_key_that_no_row_has = refl

null_last_descending :
    aggregations_text pairs_and_a_null (search_of query.All (leaf (codes "c") (kind.Composite (record { name = codes "k"; field = 2; interval = None; descending = true; missing_bucket = true } ∷ record { name = codes "m"; field = 1; interval = None; descending = false; missing_bucket = false } ∷ []) 10 None) ∷ []))
    ≡ codes "{\"c\":{\"after_key\":{\"k\":null,\"m\":7},\"buckets\":[{\"doc_count\":1,\"key\":{\"k\":\"y\",\"m\":1}},{\"doc_count\":1,\"key\":{\"k\":\"y\",\"m\":2}},{\"doc_count\":1,\"key\":{\"k\":\"y\",\"m\":3}},{\"doc_count\":1,\"key\":{\"k\":\"x\",\"m\":1}},{\"doc_count\":1,\"key\":{\"k\":\"x\",\"m\":2}},{\"doc_count\":1,\"key\":{\"k\":null,\"m\":7}}]}}"
unfolding computing
null_last_descending = refl

after_a_null_descending :
    aggregations_text pairs_and_a_null (search_of query.All (leaf (codes "c") (kind.Composite (record { name = codes "k"; field = 2; interval = None; descending = true; missing_bucket = true } ∷ []) 10 (Some (key.Many ((key.Word (codes "x")) ∷ [])))) ∷ []))
    ≡ codes "{\"c\":{\"after_key\":{\"k\":null},\"buckets\":[{\"doc_count\":1,\"key\":{\"k\":null}}]}}"
unfolding computing
after_a_null_descending = refl

second_source_descending :
    aggregations_text pairs (search_of query.All (leaf (codes "c") (kind.Composite (record { name = codes "k"; field = 2; interval = None; descending = false; missing_bucket = false } ∷ record { name = codes "m"; field = 1; interval = None; descending = true; missing_bucket = false } ∷ []) 3 None) ∷ []))
    ≡ codes "{\"c\":{\"after_key\":{\"k\":\"y\",\"m\":3},\"buckets\":[{\"doc_count\":1,\"key\":{\"k\":\"x\",\"m\":2}},{\"doc_count\":1,\"key\":{\"k\":\"x\",\"m\":1}},{\"doc_count\":1,\"key\":{\"k\":\"y\",\"m\":3}}]}}"
unfolding computing
second_source_descending = refl

abbrev flags_and_prices : Index
flags_and_prices = one_shard (row (flags (true ∷ []) ∷ numbers (negsuc 0 ∷ []) ∷ []) ∷ row (flags (false ∷ []) ∷ numbers (pos 12 ∷ []) ∷ []) ∷ row (flags (true ∷ []) ∷ numbers (pos 19 ∷ []) ∷ []) ∷ [])

flags_and_intervals :
    aggregations_text flags_and_prices (search_of query.All (agg (codes "c") (kind.Composite (record { name = codes "b"; field = 0; interval = None; descending = false; missing_bucket = false } ∷ record { name = codes "p"; field = 1; interval = Some 10; descending = false; missing_bucket = false } ∷ []) 10 None) (leaf (codes "s") (kind.Sum 1 None) ∷ []) ∷ []))
    ≡ codes "{\"c\":{\"after_key\":{\"b\":true,\"p\":10},\"buckets\":[{\"doc_count\":1,\"key\":{\"b\":false,\"p\":10},\"s\":{\"value\":12}},{\"doc_count\":1,\"key\":{\"b\":true,\"p\":-10},\"s\":{\"value\":-1}},{\"doc_count\":1,\"key\":{\"b\":true,\"p\":10},\"s\":{\"value\":19}}]}}"
unfolding computing
flags_and_intervals = refl
