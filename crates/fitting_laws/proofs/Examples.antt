-- What fits and what does not, computed.
use Rattle.std.specs.Prelude.{Option, Some, ◌≡◌, refl, ℕ, pos, negsuc, List, [], ◌∷◌, None, true, false, codes}
use Rattle.agg_model.specs.declared.mapping.FieldKind.TheVariants.{Byte, Keyword}
use Rattle.agg_model.specs.declared.mapping.Mapping.{Mapping}
use Rattle.agg_model.specs.declared.row.FieldValues.{FieldValues}
use Rattle.agg_model.specs.declared.row.Row.{Row, roll-Row}
use Rattle.agg_model.specs.declared.row.Children.{Children, roll-Children}
use Rattle.agg_model.specs.declared.row.Scalar.{Scalar}
use Rattle.agg_model.specs.declared.row.Scalar.TheVariants.{Whole, Word}
use Rattle.agg_evaluation.proofs.Computing.{computing}
use Rattle.agg_model.specs.declared.aggregation.Agg.{Agg, roll-Agg}
use Rattle.agg_model.specs.declared.aggregation.Bounds.{Bounds}
use Rattle.agg_model.specs.declared.aggregation.Kind.{Kind}
use Rattle.agg_model.specs.declared.aggregation.Kind.TheVariants as kind
use Rattle.agg_model.specs.declared.aggregation.Order.{Order}
use Rattle.agg_model.specs.declared.aggregation.OrderBy.TheVariants as by
use Rattle.agg_model.specs.declared.aggregation.Search.{Search}
use Rattle.agg_model.specs.declared.key.Key.{Key}
use Rattle.agg_model.specs.declared.key.Key.TheVariants as key
use Rattle.agg_model.specs.declared.query.Query.TheVariants as query
use Rattle.agg_evaluation.specs.SearchFits.{search_fits}
use Rattle.agg_evaluation.specs.DocumentFits.{fits}
use Rattle.agg_model.specs.Contexts.{parents_before}

-- a byte and a keyword at the root, and a byte in one nested path
abbrev sample : Mapping
sample = record {
  fields = record { path = codes "b"; kind = Byte; ignore_above = None; context = 0 } ∷ record { path = codes "i.b"; kind = Byte; ignore_above = None; context = 1 }
      ∷ record { path = codes "t"; kind = Keyword; ignore_above = None; context = 0 } ∷ [];
  nested = record { path = codes "i"; parent = 0 } ∷ [];
  objects = [];
  strict = false;
}

abbrev of_field : ℕ → List Scalar → FieldValues
of_field field values = record { field = field; values = values }

abbrev row : List FieldValues → List Children → Row
row values children = roll-Row (record { values = values; children = children })

abbrev beneath : ℕ → List Row → Children
beneath path rows = roll-Children (record { path = path; rows = rows })

a_document_fits : fits sample (row (of_field 0 (Whole (negsuc 127) ∷ Whole (pos 5) ∷ Whole (pos 5) ∷ []) ∷ of_field 2 (Word (codes "a") ∷ Word (codes "b") ∷ []) ∷ []) (beneath 0 (row (of_field 1 (Whole (pos 127) ∷ []) ∷ []) [] ∷ row [] [] ∷ []) ∷ [])) ≡ true
unfolding computing
a_document_fits = refl

its_paths_stand_in_order : parents_before sample ≡ true
its_paths_stand_in_order = refl

a_byte_of_128_does_not : fits sample (row (of_field 0 (Whole (pos 128) ∷ []) ∷ []) []) ≡ false
unfolding computing
a_byte_of_128_does_not = refl

a_field_of_another_context_does_not : fits sample (row (of_field 1 (Whole (pos 1) ∷ []) ∷ []) []) ≡ false
unfolding computing
a_field_of_another_context_does_not = refl

falling_numbers_do_not : fits sample (row (of_field 0 (Whole (pos 3) ∷ Whole (pos 1) ∷ []) ∷ []) []) ≡ false
unfolding computing
falling_numbers_do_not = refl

equal_words_do_not : fits sample (row (of_field 2 (Word (codes "a") ∷ Word (codes "a") ∷ []) ∷ []) []) ≡ false
unfolding computing
equal_words_do_not = refl

a_field_without_values_does_not : fits sample (row (of_field 0 [] ∷ []) []) ≡ false
unfolding computing
a_field_without_values_does_not = refl

a_path_beneath_another_row_does_not : fits sample (row [] (beneath 0 (row [] (beneath 0 (row [] [] ∷ []) ∷ []) ∷ []) ∷ [])) ≡ false
unfolding computing
a_path_beneath_another_row_does_not = refl

-- searches

abbrev agg : Kind → List Agg → Agg
agg k children = roll-Agg (record { name = codes "a"; kind = k; children = children })

abbrev search_with : Agg → Search
search_with a = record { query = query.All; aggs = a ∷ []; body_bytes = 2; partial = false; pipes = [] }

abbrev by_child : ℕ → List Order
by_child n = record { by = by.Child n; descending = true } ∷ []

abbrev terms : List Order → Kind
terms order = kind.Terms 2 10 25 1 order None [] None false

abbrev total : Agg
total = agg (kind.Sum 0 None) []

abbrev no_bounds : Bounds
no_bounds = record { min = None; max = None }

abbrev pages : Option Key → Kind
pages after = kind.Composite (record { name = codes "s"; field = 2; interval = None; descending = false; missing_bucket = false } ∷ []) 10 after

terms_by_a_sum_fit : search_fits sample (search_with (agg (terms (by_child 0)) (total ∷ []))) ≡ true
unfolding computing
terms_by_a_sum_fit = refl

an_order_by_no_child_does_not : search_fits sample (search_with (agg (terms (by_child 1)) (total ∷ []))) ≡ false
unfolding computing
an_order_by_no_child_does_not = refl

an_interval_of_0_does_not : search_fits sample (search_with (agg (kind.Histogram 0 0 0 1 no_bounds no_bounds false (record { by = by.Key; descending = false } ∷ []) None) [])) ≡ false
unfolding computing
an_interval_of_0_does_not = refl

a_histogram_of_words_does_not : search_fits sample (search_with (agg (kind.Histogram 2 1 0 1 no_bounds no_bounds false (record { by = by.Key; descending = false } ∷ []) None) [])) ≡ false
unfolding computing
a_histogram_of_words_does_not = refl

global_below_the_top_does_not : search_fits sample (search_with (agg (kind.Missing 0) (agg kind.Global [] ∷ []))) ≡ false
unfolding computing
global_below_the_top_does_not = refl

nested_and_back_fits : search_fits sample (search_with (agg (kind.Nested 1) (agg (kind.ReverseNested 0) (total ∷ []) ∷ []))) ≡ true
unfolding computing Rattle.agg_model.specs.Contexts.is_in_context Rattle.agg_model.specs.Contexts.encloses
nested_and_back_fits = refl

nested_in_itself_does_not : search_fits sample (search_with (agg (kind.Nested 1) (agg (kind.Nested 1) [] ∷ []))) ≡ false
unfolding computing Rattle.agg_model.specs.Contexts.is_in_context Rattle.agg_model.specs.Contexts.encloses
nested_in_itself_does_not = refl

a_page_fits : search_fits sample (search_with (agg (pages (Some (key.Many (key.Word (codes "x") ∷ [])))) [])) ≡ true
unfolding computing
a_page_fits = refl

a_key_of_two_parts_does_not : search_fits sample (search_with (agg (pages (Some (key.Many (key.Word (codes "x") ∷ key.Null ∷ [])))) [])) ≡ false
unfolding computing
a_key_of_two_parts_does_not = refl
