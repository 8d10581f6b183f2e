-- Trees that grow root by root, computed. Fields: 0 is t (keyword), 1 is w (keyword) of the nested path c.
use Rattle.std.specs.Prelude.{◌≡◌, refl, ℕ, pos, negsuc, true, false, List, [], ◌∷◌, None, codes}
use Rattle.agg_model.specs.declared.aggregation.Agg.{Agg}
use Rattle.agg_model.specs.declared.aggregation.Kind.TheVariants as kind
use Rattle.agg_model.specs.declared.key.Key.TheVariants as key
use Rattle.agg_model.specs.declared.partial.Node.{Node}
use Rattle.agg_model.specs.declared.partial.Node.TheVariants.{Fixed}
use Rattle.agg_model.specs.declared.query.Query.TheVariants as query
use Rattle.agg_evaluation.specs.Rows.{PlacedRow, shard_rows}
use Rattle.agg_evaluation.specs.Trace.{trace}
use Rattle.agg_evaluation.proofs.Computing.{computing}
use Rattle.evaluation_laws.proofs.Samples.{agg, bucket, document, flat, keyed, nested, row, search_of, source, terms, words}
use Rattle.growth_laws.specs.Amounts.{amounts, granted_before, place_without_zeros}
use Rattle.growth_laws.specs.Gathering.{gathered}
use Rattle.growth_laws.specs.Steps.{tree_after}

-- long, s, long
abbrev lengths : List PlacedRow
lengths = shard_rows
    (document (codes "1") (flat (words 0 (codes "long" ∷ []) ∷ []))
    ∷ document (codes "2") (flat (words 0 (codes "s" ∷ []) ∷ []))
    ∷ document (codes "3") (flat (words 0 (codes "long" ∷ []) ∷ []))
    ∷ [])

-- a page of one key, the last word first
abbrev last_word : Agg
last_word = agg (codes "c") (kind.Composite (source (codes "k") 0 None true false ∷ []) 1 None) []

-- a page with the one word
abbrev one_word : List ℕ → Node
one_word word = keyed (bucket (key.Many (key.Word word ∷ [])) 1 [] ∷ [])

a_page_has_the_first_key : tree_after (search_of query.All (last_word ∷ [])) lengths last_word 1 ≡ one_word (codes "long")
unfolding computing
a_page_has_the_first_key = refl

a_key_that_comes_before_evicts_the_last : tree_after (search_of query.All (last_word ∷ [])) lengths last_word 2 ≡ one_word (codes "s")
unfolding computing
a_key_that_comes_before_evicts_the_last = refl

a_key_once_evicted_stays_out : tree_after (search_of query.All (last_word ∷ [])) lengths last_word 3 ≡ one_word (codes "s")
unfolding computing
a_key_once_evicted_stays_out = refl

-- the second root
abbrev second_root : List PlacedRow
second_root = shard_rows (document (codes "2") (flat (words 0 (codes "s" ∷ []) ∷ [])) ∷ [])

gathering_evicts : gathered lengths last_word second_root (one_word (codes "long")) ≡ one_word (codes "s")
unfolding computing
gathering_evicts = refl

-- an evicted key gives its bytes back, and a key that stays out charges nothing
amounts_of_a_page : amounts (search_of query.All (last_word ∷ [])) lengths ≡ (pos 4608 ∷ pos 132 ∷ negsuc 2 ∷ pos 0 ∷ negsuc 4095 ∷ [])
unfolding computing
amounts_of_a_page = refl

its_trace_has_no_zero : trace (search_of query.All (last_word ∷ [])) lengths ≡ (pos 4608 ∷ pos 132 ∷ negsuc 2 ∷ negsuc 4095 ∷ [])
unfolding computing
its_trace_has_no_zero = refl

the_last_amount_stands_one_place_earlier : place_without_zeros (amounts (search_of query.All (last_word ∷ [])) lengths) 4 ≡ 3
unfolding computing
the_last_amount_stands_one_place_earlier = refl

what_is_given_back_is_not_granted : granted_before (amounts (search_of query.All (last_word ∷ [])) lengths) 4 ≡ 4740
unfolding computing
what_is_given_back_is_not_granted = refl

-- two nested documents with the word x in the first document, and one in the second
abbrev comments : List PlacedRow
comments = shard_rows
    (document (codes "1") (row [] (nested 0 (flat (words 1 (codes "x" ∷ []) ∷ []) ∷ flat (words 1 (codes "x" ∷ []) ∷ []) ∷ []) ∷ []))
    ∷ document (codes "2") (row [] (nested 0 (flat (words 1 (codes "x" ∷ []) ∷ []) ∷ []) ∷ []))
    ∷ [])

-- the nested documents by word, and the documents around them
abbrev by_word : Agg
by_word = agg (codes "c") (kind.Nested 1) (agg (codes "w") (terms 1) (agg (codes "d") (kind.ReverseNested 0) [] ∷ []) ∷ [])

-- so many nested documents with the word, in so many documents
abbrev counted_by_word : ℕ → ℕ → Node
counted_by_word rows documents = Fixed (bucket (key.Fixed 0) rows
    (keyed (bucket (key.Word (codes "x")) rows (Fixed (bucket (key.Fixed 0) documents [] ∷ []) ∷ []) ∷ []) ∷ []) ∷ [])

a_document_around_two_rows_counts_once : tree_after (search_of query.All (by_word ∷ [])) comments by_word 1 ≡ counted_by_word 2 1
unfolding computing
a_document_around_two_rows_counts_once = refl

a_later_document_is_one_more : tree_after (search_of query.All (by_word ∷ [])) comments by_word 2 ≡ counted_by_word 3 2
unfolding computing
a_later_document_is_one_more = refl

-- the roots that are gathered, one and then the other
abbrev root_at : ℕ → List PlacedRow
root_at n = record { place = n ∷ []; context = 0; id = codes "1"; values = [] } ∷ []

the_first_is_gathered_once : gathered comments by_word (root_at 0) (Fixed (bucket (key.Fixed 0) 0 (keyed [] ∷ []) ∷ [])) ≡ counted_by_word 2 1
unfolding computing
the_first_is_gathered_once = refl

the_second_is_gathered_behind_it : gathered comments by_word (root_at 1) (counted_by_word 2 1) ≡ counted_by_word 3 2
unfolding computing
the_second_is_gathered_behind_it = refl
