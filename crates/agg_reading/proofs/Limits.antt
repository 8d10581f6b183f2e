-- Limits, each at the first thing beyond it.
use Rattle.std.specs.Prelude.{◌≡◌, refl, ℕ, List, [], ◌∷◌, ◌++◌, replicate, nat_lt, if◌then◌else◌, Some, None, Ok, Err, true, false, codes}
use Rattle.std.proofs.Common.{sym, subst}
use Rattle.serde_json.specs.Data.{string, boolean, object, no_members, item, no_items}
use Rattle.agg_model.specs.declared.bulk.Applied.{Applied}
use Rattle.agg_model.specs.declared.mapping.FieldKind.TheVariants.{Keyword, Boolean}
use Rattle.agg_model.specs.declared.query.Query as query
use Rattle.agg_model.specs.declared.row.Scalar.TheVariants as scalar
use Rattle.agg_reading.specs.declared.fault.RequestFault.TheVariants.{NotJson}
use Rattle.agg_reading.specs.declared.parts.Draft.{Draft}
use Rattle.agg_reading.specs.Reading.{Reading, refuse}
use Rattle.agg_reading.specs.Document.{document_at, scalar_at, member_at}
use Rattle.agg_reading.specs.Rows.{empty_draft}
use Rattle.agg_reading.specs.Store.{Store, store_weight, kept}
use Rattle.agg_reading.specs.Leaves.{values_from}
use Rattle.agg_reading.specs.Query.{query_at}
use Rattle.agg_reading.specs.Filters.{listed_from, name_at}
use Rattle.agg_reading.specs.Aggregations.{is_aggregation_name}
use Rattle.agg_reading.specs.Request.{search_of, aggregation_at}
use Rattle.agg_reading.proofs.Computing.{computing}
use Rattle.agg_reading.proofs.Mappings.{plain, nested_orders}

-- The nesting of JSON.

abbrev lists : ℕ → List ℕ
lists n = replicate n 91 ++ replicate n 93

a_body_of_128_nested_lists_is_not_json : search_of plain (lists 128) ≡ Err NotJson
unfolding computing
a_body_of_128_nested_lists_is_not_json = refl

a_body_of_127_nested_lists_is_json_and_100 : search_of plain (lists 127) ≡ refuse 100 []
unfolding computing
a_body_of_127_nested_lists_is_json_and_100 = refl

a_source_of_128_nested_lists_is_20 : document_at plain (lists 128) ≡ refuse 20 []
unfolding computing
a_source_of_128_nested_lists_is_20 = refl

-- Documents.

a_word_of_32767_bytes_is_23 : scalar_at Keyword None (codes "t") (string (replicate 32767 97)) ≡ refuse 23 (codes "t")
unfolding computing
a_word_of_32767_bytes_is_23 = refl

a_word_of_32766_bytes_is_taken : scalar_at Keyword None (codes "t") (string (replicate 32766 97)) ≡ Ok (Some (scalar.Word (replicate 32766 97)))
unfolding computing
a_word_of_32766_bytes_is_taken = refl

a_word_that_is_ignored_is_never_23 : scalar_at Keyword (Some 5) (codes "t") (string (replicate 32767 97)) ≡ Ok None
unfolding computing
a_word_that_is_ignored_is_never_23 = refl

the_10001st_nested_object_is_24 : member_at nested_orders 0 (codes "items") (empty_draft, 10000) (object no_members) ≡ refuse 24 (codes "items")
unfolding computing
the_10001st_nested_object_is_24 = refl

abbrev full : ℕ → Draft
full n = record { values = record { field = 0; values = replicate n (scalar.Flag true) } ∷ []; children = [] }

the_1025th_value_is_25 : member_at plain 0 (codes "b") (full 1024, 0) (boolean true) ≡ refuse 25 (codes "b")
unfolding computing
the_1025th_value_is_25 = refl

the_1024th_value_is_taken : member_at plain 0 (codes "b") (full 1023, 0) (boolean true) ≡ Ok (full 1024, 0)
unfolding computing
the_1024th_value_is_taken = refl

abbrev if_light : Applied → Store → ℕ → Reading (Applied × Store)
if_light what store n = if nat_lt n 4294967296 then Ok (what, store) else refuse 28 []

documents_that_weigh_2_to_the_32_are_28 : (what : Applied) (store : Store) → store_weight store ≡ 4294967296 → kept what store ≡ refuse 28 []
documents_that_weigh_2_to_the_32_are_28 what store heavy =
    let P : ℕ → Type 0 = λ n. if_light what store n ≡ refuse 28 [] in subst P (sym heavy) refl

-- Queries and aggregations.

queries_nest_32_deep : search_of plain (codes "{\"query\":{\"bool\":{\"must\":{\"bool\":{\"must\":{\"bool\":{\"must\":{\"bool\":{\"must\":{\"bool\":{\"must\":{\"bool\":{\"must\":{\"bool\":{\"must\":{\"bool\":{\"must\":{\"bool\":{\"must\":{\"bool\":{\"must\":{\"bool\":{\"must\":{\"bool\":{\"must\":{\"bool\":{\"must\":{\"bool\":{\"must\":{\"bool\":{\"must\":{\"bool\":{\"must\":{\"bool\":{\"must\":{\"bool\":{\"must\":{\"bool\":{\"must\":{\"bool\":{\"must\":{\"bool\":{\"must\":{\"bool\":{\"must\":{\"bool\":{\"must\":{\"bool\":{\"must\":{\"bool\":{\"must\":{\"bool\":{\"must\":{\"bool\":{\"must\":{\"bool\":{\"must\":{\"bool\":{\"must\":{\"bool\":{\"must\":{\"bool\":{\"must\":{\"match_all\":{}}}}}}}}}}}}}}}}}}}}}}}}}}}}}}}}}}}}}}}}}}}}}}}}}}}}}}}}}}}}}}}}}") ≡ Ok (record { query = query.Bool ((query.Bool ((query.Bool ((query.Bool ((query.Bool ((query.Bool ((query.Bool ((query.Bool ((query.Bool ((query.Bool ((query.Bool ((query.Bool ((query.Bool ((query.Bool ((query.Bool ((query.Bool ((query.Bool ((query.Bool ((query.Bool ((query.Bool ((query.Bool ((query.Bool ((query.Bool ((query.Bool ((query.Bool ((query.Bool ((query.Bool ((query.Bool ((query.Bool ((query.Bool ((query.Bool (query.All ∷ []) [] [] 0) ∷ []) [] [] 0) ∷ []) [] [] 0) ∷ []) [] [] 0) ∷ []) [] [] 0) ∷ []) [] [] 0) ∷ []) [] [] 0) ∷ []) [] [] 0) ∷ []) [] [] 0) ∷ []) [] [] 0) ∷ []) [] [] 0) ∷ []) [] [] 0) ∷ []) [] [] 0) ∷ []) [] [] 0) ∷ []) [] [] 0) ∷ []) [] [] 0) ∷ []) [] [] 0) ∷ []) [] [] 0) ∷ []) [] [] 0) ∷ []) [] [] 0) ∷ []) [] [] 0) ∷ []) [] [] 0) ∷ []) [] [] 0) ∷ []) [] [] 0) ∷ []) [] [] 0) ∷ []) [] [] 0) ∷ []) [] [] 0) ∷ []) [] [] 0) ∷ []) [] [] 0) ∷ []) [] [] 0) ∷ []) [] [] 0; aggs = []; body_bytes = 584; partial = false; pipes = [] })
unfolding computing
queries_nest_32_deep = refl

the_33rd_level_of_queries_is_111 : search_of plain (codes "{\"query\":{\"bool\":{\"must\":{\"bool\":{\"must\":{\"bool\":{\"must\":{\"bool\":{\"must\":{\"bool\":{\"must\":{\"bool\":{\"must\":{\"bool\":{\"must\":{\"bool\":{\"must\":{\"bool\":{\"must\":{\"bool\":{\"must\":{\"bool\":{\"must\":{\"bool\":{\"must\":{\"bool\":{\"must\":{\"bool\":{\"must\":{\"bool\":{\"must\":{\"bool\":{\"must\":{\"bool\":{\"must\":{\"bool\":{\"must\":{\"bool\":{\"must\":{\"bool\":{\"must\":{\"bool\":{\"must\":{\"bool\":{\"must\":{\"bool\":{\"must\":{\"bool\":{\"must\":{\"bool\":{\"must\":{\"bool\":{\"must\":{\"bool\":{\"must\":{\"bool\":{\"must\":{\"bool\":{\"must\":{\"bool\":{\"must\":{\"bool\":{\"must\":{\"bool\":{\"must\":{\"match_all\":{}}}}}}}}}}}}}}}}}}}}}}}}}}}}}}}}}}}}}}}}}}}}}}}}}}}}}}}}}}}}}}}}}}}") ≡ refuse 111 (codes "/query/bool/must/bool/must/bool/must/bool/must/bool/must/bool/must/bool/must/bool/must/bool/must/bool/must/bool/must/bool/must/bool/must/bool/must/bool/must/bool/must/bool/must/bool/must/bool/must/bool/must/bool/must/bool/must/bool/must/bool/must/bool/must/bool/must/bool/must/bool/must/bool/must/bool/must/bool/must/bool/must")
unfolding computing
the_33rd_level_of_queries_is_111 = refl

the_1025th_query_is_111 : query_at 32 plain 0 1024 (codes "/query") (object no_members) ≡ refuse 111 (codes "/query")
unfolding computing
the_1025th_query_is_111 = refl

the_17th_level_of_aggregations_is_111 : search_of plain (codes "{\"aggs\":{\"a\":{\"missing\":{\"field\":\"t\"},\"aggs\":{\"a\":{\"missing\":{\"field\":\"t\"},\"aggs\":{\"a\":{\"missing\":{\"field\":\"t\"},\"aggs\":{\"a\":{\"missing\":{\"field\":\"t\"},\"aggs\":{\"a\":{\"missing\":{\"field\":\"t\"},\"aggs\":{\"a\":{\"missing\":{\"field\":\"t\"},\"aggs\":{\"a\":{\"missing\":{\"field\":\"t\"},\"aggs\":{\"a\":{\"missing\":{\"field\":\"t\"},\"aggs\":{\"a\":{\"missing\":{\"field\":\"t\"},\"aggs\":{\"a\":{\"missing\":{\"field\":\"t\"},\"aggs\":{\"a\":{\"missing\":{\"field\":\"t\"},\"aggs\":{\"a\":{\"missing\":{\"field\":\"t\"},\"aggs\":{\"a\":{\"missing\":{\"field\":\"t\"},\"aggs\":{\"a\":{\"missing\":{\"field\":\"t\"},\"aggs\":{\"a\":{\"missing\":{\"field\":\"t\"},\"aggs\":{\"a\":{\"missing\":{\"field\":\"t\"},\"aggs\":{\"a\":{\"missing\":{\"field\":\"t\"}}}}}}}}}}}}}}}}}}}}}}}}}}}}}}}}}}}}") ≡ refuse 111 (codes "/aggs/a/aggs/a/aggs/a/aggs/a/aggs/a/aggs/a/aggs/a/aggs/a/aggs/a/aggs/a/aggs/a/aggs/a/aggs/a/aggs/a/aggs/a/aggs/a/aggs/a")
unfolding computing
the_17th_level_of_aggregations_is_111 = refl

the_257th_aggregation_is_111 : aggregation_at 16 plain true 0 (codes "a") (codes "/aggs/a") (record { queries = 0; aggregations = 256 }) (object no_members) ≡ refuse 111 (codes "/aggs/a")
unfolding computing
the_257th_aggregation_is_111 = refl

the_257th_filter_is_111 : listed_from plain 0 (codes "/filters") 256 [] 0 (item (boolean true) no_items) ≡ refuse 111 (codes "/filters/256")
unfolding computing
the_257th_filter_is_111 = refl

the_65537th_value_of_a_list_is_111 : values_from Boolean (codes "/terms/b") 65536 [] (item (boolean true) no_items) ≡ refuse 111 (codes "/terms/b/65536")
unfolding computing
the_65537th_value_of_a_list_is_111 = refl

the_17th_source_is_111 : search_of plain (codes "{\"aggs\":{\"a\":{\"composite\":{\"sources\":[{\"s0\":{\"terms\":{\"field\":\"t\"}}},{\"s1\":{\"terms\":{\"field\":\"t\"}}},{\"s2\":{\"terms\":{\"field\":\"t\"}}},{\"s3\":{\"terms\":{\"field\":\"t\"}}},{\"s4\":{\"terms\":{\"field\":\"t\"}}},{\"s5\":{\"terms\":{\"field\":\"t\"}}},{\"s6\":{\"terms\":{\"field\":\"t\"}}},{\"s7\":{\"terms\":{\"field\":\"t\"}}},{\"s8\":{\"terms\":{\"field\":\"t\"}}},{\"s9\":{\"terms\":{\"field\":\"t\"}}},{\"s10\":{\"terms\":{\"field\":\"t\"}}},{\"s11\":{\"terms\":{\"field\":\"t\"}}},{\"s12\":{\"terms\":{\"field\":\"t\"}}},{\"s13\":{\"terms\":{\"field\":\"t\"}}},{\"s14\":{\"terms\":{\"field\":\"t\"}}},{\"s15\":{\"terms\":{\"field\":\"t\"}}},{\"s16\":{\"terms\":{\"field\":\"t\"}}}]}}}}") ≡ refuse 111 (codes "/aggs/a/composite/sources/16")
unfolding computing
the_17th_source_is_111 = refl

a_name_of_513_bytes_is_112 : name_at (codes "/a") (replicate 513 97) ≡ refuse 112 (codes "/a")
unfolding computing
a_name_of_513_bytes_is_112 = refl

an_aggregation_name_has_at_most_512_bytes : is_aggregation_name (replicate 513 97) ≡ false
unfolding computing
an_aggregation_name_has_at_most_512_bytes = refl

a_name_of_512_bytes_is_taken : is_aggregation_name (replicate 512 97) ≡ true
unfolding computing
a_name_of_512_bytes_is_taken = refl
