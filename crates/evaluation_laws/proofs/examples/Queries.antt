-- Which documents a query matches. Fields: 0 is b (boolean), 1 is n (long), 2 is t (keyword).
use Rattle.std.specs.Prelude.{◌≡◌, refl, pos, negsuc, true, false, List, [], ◌∷◌, map, codes}
use Rattle.agg_model.specs.declared.query.Query.TheVariants as query
use Rattle.agg_model.specs.declared.query.Probe.TheVariants as probe
use Rattle.agg_model.specs.declared.query.RangeOp.TheVariants.{Gt, Gte, Lt, Lte}
use Rattle.agg_evaluation.specs.Rows.{PlacedRow, shard_rows}
use Rattle.agg_evaluation.specs.Matching.{matched_roots}
use Rattle.agg_evaluation.proofs.Computing.{computing}
use Rattle.evaluation_laws.proofs.Samples.{numbers, words, flags, flat, document, bound}

abbrev documents : List PlacedRow
documents = shard_rows
    (document (codes "1") (flat (flags 0 (true ∷ []) ∷ numbers 1 ((pos 1) ∷ (pos 9) ∷ []) ∷ words 2 ((codes "a") ∷ (codes "c") ∷ []) ∷ []))
    ∷ document (codes "2") (flat (numbers 1 ((pos 5) ∷ []) ∷ words 2 ((codes "b") ∷ []) ∷ []))
    ∷ document (codes "3") (flat (flags 0 (false ∷ true ∷ []) ∷ numbers 1 ((negsuc 2) ∷ []) ∷ []))
    ∷ document (codes "4") (flat [])
    ∷ [])

match_all_matches_each : map (λ r. r.id) (matched_roots documents query.All)
    ≡ ((codes "1") ∷ (codes "2") ∷ (codes "3") ∷ (codes "4") ∷ [])
unfolding computing
match_all_matches_each = refl

term_matches_one_of_the_values : map (λ r. r.id) (matched_roots documents (query.Term 2 (probe.Word (codes "c"))))
    ≡ ((codes "1") ∷ [])
unfolding computing
term_matches_one_of_the_values = refl

term_of_a_number : map (λ r. r.id) (matched_roots documents (query.Term 1 (probe.Whole (pos 5))))
    ≡ ((codes "2") ∷ [])
unfolding computing
term_of_a_number = refl

term_of_a_flag : map (λ r. r.id) (matched_roots documents (query.Term 0 (probe.Flag false)))
    ≡ ((codes "3") ∷ [])
unfolding computing
term_of_a_flag = refl

term_of_another_type_matches_none : map (λ r. r.id) (matched_roots documents (query.Term 2 (probe.Word (codes "5"))))
    ≡ []
unfolding computing
term_of_another_type_matches_none = refl

terms_matches_any_of_the_list : map (λ r. r.id) (matched_roots documents (query.Terms 2 ((probe.Word (codes "b")) ∷ (probe.Word (codes "a")) ∷ [])))
    ≡ ((codes "1") ∷ (codes "2") ∷ [])
unfolding computing
terms_matches_any_of_the_list = refl

terms_of_no_value_matches_none : map (λ r. r.id) (matched_roots documents (query.Terms 2 []))
    ≡ []
unfolding computing
terms_of_no_value_matches_none = refl

-- 1 and 9 together do not pass: one value has to lie between
range_asks_one_value_for_all_bounds : map (λ r. r.id) (matched_roots documents (query.Range 1 (bound Gt (probe.Whole (pos 1)) ∷ bound Lt (probe.Whole (pos 9)) ∷ [])))
    ≡ ((codes "2") ∷ [])
unfolding computing
range_asks_one_value_for_all_bounds = refl

range_with_equal_bounds : map (λ r. r.id) (matched_roots documents (query.Range 1 (bound Gte (probe.Whole (pos 9)) ∷ bound Lte (probe.Whole (pos 9)) ∷ [])))
    ≡ ((codes "1") ∷ [])
unfolding computing
range_with_equal_bounds = refl

range_beyond_the_type : map (λ r. r.id) (matched_roots documents (query.Range 1 (bound Gte (probe.Whole (negsuc 9223372036854775808)) ∷ [])))
    ≡ ((codes "1") ∷ (codes "2") ∷ (codes "3") ∷ [])
unfolding computing
range_beyond_the_type = refl

range_of_words_goes_by_bytes : map (λ r. r.id) (matched_roots documents (query.Range 2 (bound Gt (probe.Word (codes "a")) ∷ bound Lte (probe.Word (codes "b")) ∷ [])))
    ≡ ((codes "2") ∷ [])
unfolding computing
range_of_words_goes_by_bytes = refl

exists_asks_for_a_value : map (λ r. r.id) (matched_roots documents (query.Exists 0))
    ≡ ((codes "1") ∷ (codes "3") ∷ [])
unfolding computing
exists_asks_for_a_value = refl

ids_matches_the_document : map (λ r. r.id) (matched_roots documents (query.Ids ((codes "4") ∷ (codes "2") ∷ (codes "9") ∷ [])))
    ≡ ((codes "2") ∷ (codes "4") ∷ [])
unfolding computing
ids_matches_the_document = refl

bool_without_clauses_matches_each : map (λ r. r.id) (matched_roots documents (query.Bool [] [] [] 0))
    ≡ ((codes "1") ∷ (codes "2") ∷ (codes "3") ∷ (codes "4") ∷ [])
unfolding computing
bool_without_clauses_matches_each = refl

bool_joins_must_and_filter_and_must_not : map (λ r. r.id) (matched_roots documents (query.Bool ((query.Exists 2) ∷ (query.Exists 1) ∷ []) ((query.Term 2 (probe.Word (codes "a"))) ∷ []) [] 0))
    ≡ ((codes "2") ∷ [])
unfolding computing
bool_joins_must_and_filter_and_must_not = refl

should_alone_asks_for_one : map (λ r. r.id) (matched_roots documents (query.Bool [] [] ((query.Term 2 (probe.Word (codes "b"))) ∷ (query.Term 1 (probe.Whole (negsuc 2))) ∷ []) 1))
    ≡ ((codes "2") ∷ (codes "3") ∷ [])
unfolding computing
should_alone_asks_for_one = refl

should_beside_must_asks_for_none : map (λ r. r.id) (matched_roots documents (query.Bool ((query.Exists 1) ∷ []) [] ((query.Term 2 (probe.Word (codes "b"))) ∷ []) 0))
    ≡ ((codes "1") ∷ (codes "2") ∷ (codes "3") ∷ [])
unfolding computing
should_beside_must_asks_for_none = refl

minimum_should_match_counts : map (λ r. r.id) (matched_roots documents (query.Bool [] [] ((query.Term 2 (probe.Word (codes "a"))) ∷ (query.Term 1 (probe.Whole (pos 1))) ∷ (query.Term 1 (probe.Whole (pos 5))) ∷ []) 2))
    ≡ ((codes "1") ∷ [])
unfolding computing
minimum_should_match_counts = refl

minimum_should_match_of_0_matches_each : map (λ r. r.id) (matched_roots documents (query.Bool [] [] ((query.Term 2 (probe.Word (codes "a"))) ∷ []) 0))
    ≡ ((codes "1") ∷ (codes "2") ∷ (codes "3") ∷ (codes "4") ∷ [])
unfolding computing
minimum_should_match_of_0_matches_each = refl

-- what is kept of the request is then a minimum of 0
minimum_should_match_without_should : map (λ r. r.id) (matched_roots documents (query.Bool [] ((query.Term 2 (probe.Word (codes "b"))) ∷ []) [] 0))
    ≡ ((codes "1") ∷ (codes "3") ∷ (codes "4") ∷ [])
unfolding computing
minimum_should_match_without_should = refl

minimum_should_match_above_the_clauses_matches_none : map (λ r. r.id) (matched_roots documents (query.Bool [] [] (query.All ∷ []) 2))
    ≡ []
unfolding computing
minimum_should_match_above_the_clauses_matches_none = refl
