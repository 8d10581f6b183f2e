-- The lines of bulk actions, of refusals, of breakers and of statistics, computed.
use Rattle.std.specs.Prelude.{◌≡◌, refl, ℕ, pos, negsuc, true, false, List, [], ◌∷◌, codes}
use Rattle.serde_json.specs.Written.{compact_text}
use Rattle.agg_model.specs.declared.bulk.ActionKind.TheVariants as action
use Rattle.agg_model.specs.declared.bulk.Applied.TheVariants as applied
use Rattle.agg_model.specs.declared.bulk.ItemEnd.TheVariants as end
use Rattle.agg_model.specs.declared.bulk.Item.{Item}
use Rattle.agg_model.specs.declared.breaker.Which.{Which}
use Rattle.agg_model.specs.declared.breaker.Which.TheVariants as which
use Rattle.agg_model.specs.declared.breaker.Tripped.{Tripped}
use Rattle.agg_model.specs.declared.outcome.Refused.TheVariants as refused
use Rattle.agg_spec.specs.Average.{average}
use Rattle.agg_spec.specs.BulkLine.{bulk_line}
use Rattle.agg_spec.specs.ErrorLines.{exception_line, refusal_line}
use Rattle.agg_spec.specs.EndLines.{usage_line, script_line}
use Rattle.agg_spec.specs.StatisticsLine.{statistics_line}
use Rattle.agg_spec.proofs.Samples.{stats}
use Rattle.agg_spec.proofs.Computing.{computing}

abbrev item : action.the_data → List ℕ → end.the_data → Item
item kind id end = record { kind = kind; id = id; end = end }

abbrev refusal : ℕ → List ℕ → end.the_data
refusal number path = end.Refused (record { number = number; path = path })

abbrev tripped : Which → ℕ → ℕ → Tripped
tripped which wanted limit = record { which = which; wanted = wanted; limit = limit }

no_items :
    bulk_line (codes "i") [] false
    ≡ codes "{\"errors\":false,\"items\":[],\"took\":0}"
unfolding computing
no_items = refl

number_of_generated_items :
    bulk_line (codes "generated") [] true
    ≡ codes "{\"errors\":false,\"items\":0,\"took\":0}"
unfolding computing
number_of_generated_items = refl

one_created :
    bulk_line (codes "i") (item action.Index (codes "_auto_0") (end.Applied applied.Created) ∷ []) false
    ≡ codes "{\"errors\":false,\"items\":[{\"index\":{\"_id\":\"_auto_0\",\"_index\":\"i\",\"result\":\"created\",\"status\":201}}],\"took\":0}"
unfolding computing
one_created = refl

create_of_a_live_id :
    bulk_line (codes "i") (item action.Create (codes "1") (end.Applied applied.Created) ∷ item action.Create (codes "1") (refusal 26 []) ∷ item action.Delete (codes "9") (end.Applied applied.NotFound) ∷ []) false
    ≡ codes "{\"errors\":true,\"items\":[{\"create\":{\"_id\":\"1\",\"_index\":\"i\",\"result\":\"created\",\"status\":201}},{\"create\":{\"_id\":\"1\",\"_index\":\"i\",\"error\":{\"number\":26,\"type\":\"version_conflict_engine_exception\"},\"status\":409}},{\"delete\":{\"_id\":\"9\",\"_index\":\"i\",\"result\":\"not_found\",\"status\":404}}],\"took\":0}"
unfolding computing
create_of_a_live_id = refl

numbers_of_the_wrong_form :
    bulk_line (codes "i") (item action.Index (codes "_auto_0") (refusal 21 (codes "n")) ∷ item action.Index (codes "_auto_1") (end.Applied applied.Created) ∷ item action.Index (codes "_auto_2") (refusal 22 (codes "n")) ∷ []) false
    ≡ codes "{\"errors\":true,\"items\":[{\"index\":{\"_id\":\"_auto_0\",\"_index\":\"i\",\"error\":{\"number\":21,\"path\":\"n\",\"type\":\"mapper_parsing_exception\"},\"status\":400}},{\"index\":{\"_id\":\"_auto_1\",\"_index\":\"i\",\"result\":\"created\",\"status\":201}},{\"index\":{\"_id\":\"_auto_2\",\"_index\":\"i\",\"error\":{\"number\":22,\"path\":\"n\",\"type\":\"mapper_parsing_exception\"},\"status\":400}}],\"took\":0}"
unfolding computing
numbers_of_the_wrong_form = refl

strict_mapping_update_and_delete :
    bulk_line (codes "i") (item action.Index (codes "1") (refusal 27 (codes "x")) ∷ item action.Index (codes "1") (end.Applied applied.Created) ∷ item action.Index (codes "1") (end.Applied applied.Updated) ∷ item action.Delete (codes "1") (end.Applied applied.Deleted) ∷ item action.Index (codes "2") (refusal 20 []) ∷ []) false
    ≡ codes "{\"errors\":true,\"items\":[{\"index\":{\"_id\":\"1\",\"_index\":\"i\",\"error\":{\"number\":27,\"path\":\"x\",\"type\":\"strict_dynamic_mapping_exception\"},\"status\":400}},{\"index\":{\"_id\":\"1\",\"_index\":\"i\",\"result\":\"created\",\"status\":201}},{\"index\":{\"_id\":\"1\",\"_index\":\"i\",\"result\":\"updated\",\"status\":200}},{\"delete\":{\"_id\":\"1\",\"_index\":\"i\",\"result\":\"deleted\",\"status\":200}},{\"index\":{\"_id\":\"2\",\"_index\":\"i\",\"error\":{\"number\":20,\"path\":\"\",\"type\":\"mapper_parsing_exception\"},\"status\":400}}],\"took\":0}"
unfolding computing
strict_mapping_update_and_delete = refl

index_is_full :
    bulk_line (codes "i") (item action.Index (codes "1") (refusal 28 []) ∷ []) false
    ≡ codes "{\"errors\":true,\"items\":[{\"index\":{\"_id\":\"1\",\"_index\":\"i\",\"error\":{\"number\":28,\"type\":\"index_full_exception\"},\"status\":400}}],\"took\":0}"
unfolding computing
index_is_full = refl

request_breaker :
    exception_line (tripped which.Request 4866 4865) (codes "search") 429 []
    ≡ codes "{\"error\":{\"bytes_limit\":4865,\"bytes_wanted\":4866,\"durability\":\"TRANSIENT\",\"reason\":\"[request] Data too large, data for [search] would be [4866b], which is larger than the limit of [4865b]\",\"type\":\"circuit_breaking_exception\"},\"status\":429}"
unfolding computing
request_breaker = refl

parent_breaker :
    exception_line (tripped which.Parent 4703 95) (codes "search") 429 []
    ≡ codes "{\"error\":{\"bytes_limit\":95,\"bytes_wanted\":4703,\"durability\":\"TRANSIENT\",\"reason\":\"[parent] Data too large, data for [search] would be [4703b], which is larger than the limit of [95b]\",\"type\":\"circuit_breaking_exception\"},\"status\":429}"
unfolding computing
parent_breaker = refl

columns_at_fielddata :
    exception_line (tripped which.Fielddata 19 18) (codes "columns") 6 []
    ≡ codes "{\"error\":{\"bytes_limit\":18,\"bytes_wanted\":19,\"durability\":\"PERMANENT\",\"reason\":\"[fielddata] Data too large, data for [columns] would be [19b], which is larger than the limit of [18b]\",\"type\":\"circuit_breaking_exception\"},\"status\":6}"
unfolding computing
columns_at_fielddata = refl

columns_at_the_parent :
    exception_line (tripped which.Parent 19 0) (codes "columns") 6 []
    ≡ codes "{\"error\":{\"bytes_limit\":0,\"bytes_wanted\":19,\"durability\":\"TRANSIENT\",\"reason\":\"[parent] Data too large, data for [columns] would be [19b], which is larger than the limit of [0b]\",\"type\":\"circuit_breaking_exception\"},\"status\":6}"
unfolding computing
columns_at_the_parent = refl

inflight_breaker :
    exception_line (tripped which.Inflight 76 10) (codes "search") 429 []
    ≡ codes "{\"error\":{\"bytes_limit\":10,\"bytes_wanted\":76,\"durability\":\"TRANSIENT\",\"reason\":\"[inflight_requests] Data too large, data for [search] would be [76b], which is larger than the limit of [10b]\",\"type\":\"circuit_breaking_exception\"},\"status\":429}"
unfolding computing
inflight_breaker = refl

body_is_not_json :
    refusal_line refused.NotJson []
    ≡ codes "{\"error\":{\"reason\":\"the body is not JSON\",\"type\":\"parsing_exception\"},\"status\":400}"
unfolding computing
body_is_not_json = refl

bad_request :
    refusal_line (refused.Bad 108 (codes "/aggs/t/terms/field")) []
    ≡ codes "{\"error\":{\"code\":108,\"path\":\"/aggs/t/terms/field\",\"reason\":\"bad request\",\"type\":\"parsing_exception\"},\"status\":400}"
unfolding computing
bad_request = refl

too_many_buckets :
    refusal_line (refused.TooManyBuckets 10000000001 65536) []
    ≡ codes "{\"error\":{\"count\":10000000001,\"max_buckets\":65536,\"reason\":\"too many buckets\",\"type\":\"too_many_buckets_exception\"},\"status\":400}"
unfolding computing
too_many_buckets = refl

number_out_of_range :
    refusal_line (refused.SumRange (codes "/s")) []
    ≡ codes "{\"error\":{\"path\":\"/s\",\"reason\":\"a number is outside 64 bits\",\"type\":\"number_range_exception\"},\"status\":400}"
unfolding computing
number_out_of_range = refl

too_wide :
    refusal_line refused.TooWide []
    ≡ codes "{\"error\":{\"reason\":\"the search is too wide\",\"type\":\"too_wide_exception\"},\"status\":400}"
unfolding computing
too_wide = refl

no_workers :
    usage_line (record { key = codes "--workers"; value = codes "0" })
    ≡ codes "{\"error\":{\"key\":\"--workers\",\"type\":\"usage\",\"value\":\"0\"},\"status\":2}"
unfolding computing
no_workers = refl

update_is_not_supported :
    script_line 33 3 []
    ≡ codes "{\"error\":{\"line\":3,\"number\":33,\"type\":\"update_not_supported\"},\"status\":5}"
unfolding computing
update_is_not_supported = refl

bad_index_line :
    script_line 31 1 (codes "/mappings/properties/x/type")
    ≡ codes "{\"error\":{\"line\":1,\"number\":31,\"path\":\"/mappings/properties/x/type\",\"type\":\"bad_index_line\"},\"status\":5}"
unfolding computing
bad_index_line = refl

not_built :
    script_line 29 3 []
    ≡ codes "{\"error\":{\"line\":3,\"number\":29,\"type\":\"not_built\"},\"status\":5}"
unfolding computing
not_built = refl

line_too_long :
    script_line 30 7 []
    ≡ codes "{\"error\":{\"line\":7,\"number\":30,\"type\":\"line_too_long\"},\"status\":5}"
unfolding computing
line_too_long = refl

malformed_action :
    script_line 32 7 []
    ≡ codes "{\"error\":{\"line\":7,\"number\":32,\"type\":\"malformed_action\"},\"status\":5}"
unfolding computing
malformed_action = refl

missing_source :
    script_line 34 7 []
    ≡ codes "{\"error\":{\"line\":7,\"number\":34,\"type\":\"missing_source\"},\"status\":5}"
unfolding computing
missing_source = refl

too_many_documents :
    script_line 35 7 []
    ≡ codes "{\"error\":{\"line\":7,\"number\":35,\"type\":\"too_many_documents\"},\"status\":5}"
unfolding computing
too_many_documents = refl

missing_body :
    script_line 36 7 []
    ≡ codes "{\"error\":{\"line\":7,\"number\":36,\"type\":\"missing_body\"},\"status\":5}"
unfolding computing
missing_body = refl

input_too_long :
    script_line 37 7 []
    ≡ codes "{\"error\":{\"line\":7,\"number\":37,\"type\":\"input_too_long\"},\"status\":5}"
unfolding computing
input_too_long = refl

missing_section :
    script_line 38 7 []
    ≡ codes "{\"error\":{\"line\":7,\"number\":38,\"type\":\"missing_section\"},\"status\":5}"
unfolding computing
missing_section = refl

bad_header :
    script_line 39 7 []
    ≡ codes "{\"error\":{\"line\":7,\"number\":39,\"type\":\"bad_header\"},\"status\":5}"
unfolding computing
bad_header = refl

statistics_of_one_search :
    statistics_line (record { request = stats 0 4873 644245094 100 0; fielddata = stats 0 0 429496729 103 0; inflight = stats 0 76 1073741824 200 0; parent = stats 0 4949 751619276 100 0 })
    ≡ codes "{\"breakers\":{\"fielddata\":{\"estimated_size_in_bytes\":0,\"granted_size_in_bytes\":0,\"limit_size_in_bytes\":429496729,\"overhead_percent\":103,\"tripped\":0},\"inflight_requests\":{\"estimated_size_in_bytes\":0,\"granted_size_in_bytes\":76,\"limit_size_in_bytes\":1073741824,\"overhead_percent\":200,\"tripped\":0},\"parent\":{\"estimated_size_in_bytes\":0,\"granted_size_in_bytes\":4949,\"limit_size_in_bytes\":751619276,\"overhead_percent\":100,\"tripped\":0},\"request\":{\"estimated_size_in_bytes\":0,\"granted_size_in_bytes\":4873,\"limit_size_in_bytes\":644245094,\"overhead_percent\":100,\"tripped\":0}}}"
unfolding computing
statistics_of_one_search = refl

average_cut_toward_zero :
    compact_text (average (negsuc 0) 3)
    ≡ codes "\"-0.333333\""
unfolding computing
average_cut_toward_zero = refl

average_below_one_millionth :
    compact_text (average (pos 1) 200000)
    ≡ codes "\"0.000005\""
unfolding computing
average_below_one_millionth = refl

average_that_is_cut_to_zero :
    compact_text (average (negsuc 0) 2000000)
    ≡ codes "\"0.000000\""
unfolding computing
average_that_is_cut_to_zero = refl

average_of_larger_numbers :
    compact_text (average (pos 25) 2)
    ≡ codes "\"12.500000\""
unfolding computing
average_of_larger_numbers = refl

average_of_nothing :
    compact_text (average (pos 0) 0)
    ≡ codes "null"
unfolding computing
average_of_nothing = refl
