-- Bodies with each kind of query, and the searches that they are.
use Rattle.std.specs.Prelude.{◌≡◌, refl, pos, negsuc, [], ◌∷◌, Ok, true, false, codes}
use Rattle.agg_model.specs.declared.query.Query as query
use Rattle.agg_model.specs.declared.query.Probe.TheVariants as probe
use Rattle.agg_model.specs.declared.query.RangeOp.TheVariants as op
use Rattle.agg_reading.specs.Request.{search_of}
use Rattle.agg_reading.proofs.Computing.{computing}
use Rattle.agg_reading.proofs.Mappings.{plain, nested_orders}

an_absent_query_matches_all : search_of plain (codes "{}") ≡ Ok (record { query = query.All; aggs = []; body_bytes = 2; partial = false; pipes = [] })
unfolding computing
an_absent_query_matches_all = refl

match_all : search_of plain (codes "{\"query\":{\"match_all\":{\"boost\":2}}}") ≡ Ok (record { query = query.All; aggs = []; body_bytes = 35; partial = false; pipes = [] })
unfolding computing
match_all = refl

term_bare : search_of plain (codes "{\"query\":{\"term\":{\"t\":5}}}") ≡ Ok (record { query = query.Term 2 (probe.Word (codes "5")); aggs = []; body_bytes = 26; partial = false; pipes = [] })
unfolding computing
term_bare = refl

term_in_an_object : search_of plain (codes "{\"query\":{\"term\":{\"b\":{\"value\":\"true\",\"boost\":1}}}}") ≡ Ok (record { query = query.Term 0 (probe.Flag true); aggs = []; body_bytes = 51; partial = false; pipes = [] })
unfolding computing
term_in_an_object = refl

terms : search_of plain (codes "{\"query\":{\"terms\":{\"n\":[1,\"2\",18446744073709551615,\"-99999999999999999999\"],\"boost\":1}}}") ≡ Ok (record { query = query.Terms 1 (probe.Whole (pos 1) ∷ probe.Whole (pos 2) ∷ probe.Whole (pos 18446744073709551615) ∷ probe.Whole (negsuc 99999999999999999998) ∷ []); aggs = []; body_bytes = 88; partial = false; pipes = [] })
unfolding computing
terms = refl

range_with_null_as_absent : search_of plain (codes "{\"query\":{\"range\":{\"n\":{\"lte\":\"9\",\"gt\":null,\"gte\":-1}}}}") ≡ Ok (record { query = query.Range 1 (record { op = op.Gte; value = probe.Whole (negsuc 0) } ∷ record { op = op.Lte; value = probe.Whole (pos 9) } ∷ []); aggs = []; body_bytes = 56; partial = false; pipes = [] })
unfolding computing
range_with_null_as_absent = refl

range_over_words : search_of plain (codes "{\"query\":{\"range\":{\"t\":{\"gt\":\"a\",\"lt\":true}}}}") ≡ Ok (record { query = query.Range 2 (record { op = op.Gt; value = probe.Word (codes "a") } ∷ record { op = op.Lt; value = probe.Word (codes "true") } ∷ []); aggs = []; body_bytes = 46; partial = false; pipes = [] })
unfolding computing
range_over_words = refl

exists : search_of plain (codes "{\"query\":{\"exists\":{\"field\":\"b\"}}}") ≡ Ok (record { query = query.Exists 0; aggs = []; body_bytes = 34; partial = false; pipes = [] })
unfolding computing
exists = refl

ids : search_of plain (codes "{\"query\":{\"ids\":{\"values\":[\"1\",\"\"]}}}") ≡ Ok (record { query = query.Ids (codes "1" ∷ [] ∷ []); aggs = []; body_bytes = 37; partial = false; pipes = [] })
unfolding computing
ids = refl

bool_puts_filter_before_must : search_of plain (codes "{\"query\":{\"bool\":{\"must\":{\"exists\":{\"field\":\"n\"}},\"filter\":[{\"exists\":{\"field\":\"t\"}}],\"must_not\":[],\"should\":[{\"match_all\":{}}]}}}") ≡ Ok (record { query = query.Bool (query.Exists 2 ∷ query.Exists 1 ∷ []) [] (query.All ∷ []) 0; aggs = []; body_bytes = 130; partial = false; pipes = [] })
unfolding computing
bool_puts_filter_before_must = refl

should_alone_wants_one : search_of plain (codes "{\"query\":{\"bool\":{\"should\":[{\"match_all\":{}},{\"exists\":{\"field\":\"t\"}}]}}}") ≡ Ok (record { query = query.Bool [] [] (query.All ∷ query.Exists 2 ∷ []) 1; aggs = []; body_bytes = 73; partial = false; pipes = [] })
unfolding computing
should_alone_wants_one = refl

without_should_the_minimum_is_0 : search_of plain (codes "{\"query\":{\"bool\":{\"minimum_should_match\":3}}}") ≡ Ok (record { query = query.Bool [] [] [] 0; aggs = []; body_bytes = 45; partial = false; pipes = [] })
unfolding computing
without_should_the_minimum_is_0 = refl

minimum_should_match : search_of plain (codes "{\"query\":{\"bool\":{\"minimum_should_match\":2,\"should\":[{\"match_all\":{}},{\"match_all\":{}}],\"must\":[]}}}") ≡ Ok (record { query = query.Bool [] [] (query.All ∷ query.All ∷ []) 2; aggs = []; body_bytes = 100; partial = false; pipes = [] })
unfolding computing
minimum_should_match = refl

nested_query : search_of nested_orders (codes "{\"query\":{\"nested\":{\"path\":\"items\",\"query\":{\"term\":{\"items.s\":\"k\"}},\"score_mode\":\"none\"}}}") ≡ Ok (record { query = query.Nested 0 (query.Term 0 (probe.Word (codes "k"))); aggs = []; body_bytes = 90; partial = false; pipes = [] })
unfolding computing
nested_query = refl

a_decimal_text_of_38_digits_is_a_value : search_of plain (codes "{\"query\":{\"term\":{\"n\":\"11111111111111111111111111111111111111\"}}}") ≡ Ok (record { query = query.Term 1 (probe.Whole (pos 11111111111111111111111111111111111111)); aggs = []; body_bytes = 65; partial = false; pipes = [] })
unfolding computing
a_decimal_text_of_38_digits_is_a_value = refl

partial_results_are_allowed : search_of plain (codes "{\"allow_partial_search_results\":true}") ≡ Ok (record { query = query.All; aggs = []; body_bytes = 37; partial = true; pipes = [] })
unfolding computing
partial_results_are_allowed = refl
