-- Outputs of a scan: the pages of a composite aggregation one after another, computed from bytes to bytes.
use Rattle.std.specs.Prelude.{◌≡◌, refl, ℕ, pos, true, false, List, [], ◌∷◌, length, Option, Some, None, Ok, codes}
use Rattle.std.proofs.Common.{inl, lit≤}
use Rattle.clap.specs.Walk.{Text}
use Rattle.agg_model.specs.declared.query.Query.TheVariants.{All}
use Rattle.agg_model.specs.declared.aggregation.Kind.TheVariants.{Composite}
use Rattle.agg_model.specs.declared.aggregation.CompositeSource.{CompositeSource}
use Rattle.agg_model.specs.declared.key.Key.{Key}
use Rattle.agg_model.specs.declared.key.Key.TheVariants as key
use Rattle.agg_model.specs.declared.breaker.Totals.{Totals}
use Rattle.agg_model.specs.declared.outcome.Answered.{Answered}
use Rattle.agg_model.specs.declared.outcome.Outcome.TheVariants as ended
use Rattle.agg_model.specs.declared.settings.Settings.{Settings}
use Rattle.agg_settings.specs.Changes.{changed}
use Rattle.agg_settings.specs.Settings.{settings_of}
use Rattle.agg_spec.specs.Index.{Index}
use Rattle.agg_spec.specs.Outcome.{Request}
use Rattle.agg_spec.specs.Charges.{Amounts, no_amounts}
use Rattle.agg_spec.specs.Requests.{LoadedScript}
use Rattle.agg_spec.specs.Rounds.{Round}
use Rattle.agg_spec.specs.Solo.{idle, solo_answer}
use Rattle.agg_spec.specs.Wave.{MayAnswerWave}
use Rattle.agg_spec.specs.Statistics.{solo_totals, AreTotals}
use Rattle.agg_spec.specs.Answers.{page_after, ArePages}
use Rattle.agg_spec.proofs.Samples.{numbers, words, leaf, search_of, stats, default_limits, settings}
use Rattle.answer_laws.proofs.Scripts.{document, automatic, all_created, index_of, asked, searches, script, round}
use Rattle.answer_laws.proofs.Rounds.{page-follows, page-is_last, all_within}
use Rattle.answer_laws.proofs.Runs.{Writes, Reads, by_words, ends_well}
use Rattle.agg_settings.proofs.Computing.{computing as words_computing}
use Rattle.agg_reading.proofs.Computing.{computing as reading_computing}
use Rattle.agg_spec.proofs.Computing.{computing}

abbrev two_documents : Index
two_documents = index_of ((document (automatic 0) (numbers (pos 1 ∷ pos 2 ∷ []) ∷ words (codes "x" ∷ []) ∷ []) ∷ document (automatic 1) (numbers (pos 1 ∷ pos 2 ∷ pos 3 ∷ []) ∷ words (codes "y" ∷ []) ∷ []) ∷ []) ∷ [])

abbrev source : List ℕ → ℕ → CompositeSource
source name field = record { name = name; field = field; interval = None; descending = false; missing_bucket = false }

-- the pairs of a word and a number, two a page
abbrev page : Option Key → Request
page after = asked 111 (search_of All (leaf (codes "c") (Composite (source (codes "k") 2 ∷ source (codes "m") 1 ∷ []) 2 after) ∷ []))

abbrev pair : List ℕ → ℕ → Option Key
pair word n = Some (key.Many (key.Word word ∷ key.Whole (pos n) ∷ []))

abbrev first : Request
first = page None

abbrev second : Request
second = page (pair (codes "x") 2)

abbrev third : Request
third = page (pair (codes "y") 2)

abbrev last : Request
last = page (pair (codes "y") 3)

abbrev first_answer : Answered
first_answer = record { outcome = ended.Response (codes "{\"_shards\":{\"failed\":0,\"skipped\":0,\"successful\":1,\"total\":1},\"aggregations\":{\"c\":{\"after_key\":{\"k\":\"x\",\"m\":2},\"buckets\":[{\"doc_count\":1,\"key\":{\"k\":\"x\",\"m\":1}},{\"doc_count\":1,\"key\":{\"k\":\"x\",\"m\":2}}]}},\"hits\":{\"hits\":[],\"max_score\":null,\"total\":{\"relation\":\"eq\",\"value\":2}},\"status\":200,\"timed_out\":false,\"took\":0}"); failures = [] }

abbrev second_answer : Answered
second_answer = record { outcome = ended.Response (codes "{\"_shards\":{\"failed\":0,\"skipped\":0,\"successful\":1,\"total\":1},\"aggregations\":{\"c\":{\"after_key\":{\"k\":\"y\",\"m\":2},\"buckets\":[{\"doc_count\":1,\"key\":{\"k\":\"y\",\"m\":1}},{\"doc_count\":1,\"key\":{\"k\":\"y\",\"m\":2}}]}},\"hits\":{\"hits\":[],\"max_score\":null,\"total\":{\"relation\":\"eq\",\"value\":2}},\"status\":200,\"timed_out\":false,\"took\":0}"); failures = [] }

abbrev third_answer : Answered
third_answer = record { outcome = ended.Response (codes "{\"_shards\":{\"failed\":0,\"skipped\":0,\"successful\":1,\"total\":1},\"aggregations\":{\"c\":{\"after_key\":{\"k\":\"y\",\"m\":3},\"buckets\":[{\"doc_count\":1,\"key\":{\"k\":\"y\",\"m\":3}}]}},\"hits\":{\"hits\":[],\"max_score\":null,\"total\":{\"relation\":\"eq\",\"value\":2}},\"status\":200,\"timed_out\":false,\"took\":0}"); failures = [] }

abbrev last_answer : Answered
last_answer = record { outcome = ended.Response (codes "{\"_shards\":{\"failed\":0,\"skipped\":0,\"successful\":1,\"total\":1},\"aggregations\":{\"c\":{\"buckets\":[]}},\"hits\":{\"hits\":[],\"max_score\":null,\"total\":{\"relation\":\"eq\",\"value\":2}},\"status\":200,\"timed_out\":false,\"took\":0}"); failures = [] }

after_first : page_after two_documents 60 first (first_answer ∷ []) ≡ Some second
unfolding computing reading_computing
after_first = refl

after_second : page_after two_documents 60 second (second_answer ∷ []) ≡ Some third
unfolding computing reading_computing
after_second = refl

after_third : page_after two_documents 60 third (third_answer ∷ []) ≡ Some last
unfolding computing reading_computing
after_third = refl

after_last : page_after two_documents 60 last (last_answer ∷ []) ≡ None
unfolding computing reading_computing
after_last = refl

abbrev input : List ℕ
input = codes "{\"index\":\"i\",\"mappings\":{\"properties\":{\"b\":{\"type\":\"boolean\"},\"n\":{\"type\":\"long\"},\"t\":{\"type\":\"keyword\"}}},\"settings\":{\"number_of_shards\":1}}\n\n{\"index\":{}}\n{\"t\":\"x\",\"n\":[1,2]}\n{\"index\":{}}\n{\"t\":\"y\",\"n\":[1,2,3]}\n\n{}\n{\"aggs\":{\"c\":{\"composite\":{\"size\":2,\"sources\":[{\"k\":{\"terms\":{\"field\":\"t\"}}},{\"m\":{\"terms\":{\"field\":\"n\"}}}]}}}}\n"

abbrev scanned : LoadedScript
scanned = script two_documents (all_created 2) 60 (searches (first ∷ []))

abbrev pages : Settings → List Round
pages words = round words first first_answer ∷ round words second second_answer ∷ round words third third_answer ∷ round words last last_answer ∷ []

follow : (words : Settings) → ArePages two_documents 60 (first ∷ []) (pages words)
follow words =
    page-follows two_documents 60 words first second first_answer [] (round words second second_answer ∷ round words third third_answer ∷ round words last last_answer ∷ []) after_first
    (page-follows two_documents 60 words second third second_answer [] (round words third third_answer ∷ round words last last_answer ∷ []) after_second
    (page-follows two_documents 60 words third last third_answer [] (round words last last_answer ∷ []) after_third (page-is_last two_documents 60 words last last_answer after_last)))

-- one worker
abbrev scan : Settings
scan = record (settings default_limits) { scan = true }

scan_is_read : settings_of true (codes "--scan" ∷ []) ≡ Ok scan
unfolding words_computing
scan_is_read = refl

input_is_read : Reads scan input scanned
unfolding computing reading_computing
input_is_read = refl

first_is_answered : first_answer ≡ solo_answer scan two_documents (idle 60) first
unfolding computing
first_is_answered = refl

second_is_answered : second_answer ≡ solo_answer scan two_documents (idle 60) second
unfolding computing
second_is_answered = refl

third_is_answered : third_answer ≡ solo_answer scan two_documents (idle 60) third
unfolding computing
third_is_answered = refl

last_is_answered : last_answer ≡ solo_answer scan two_documents (idle 60) last
unfolding computing
last_is_answered = refl

abbrev totals : Totals
totals = record { request = stats 0 20224 644245094 100 0; fielddata = stats 60 60 429496729 103 0; inflight = stats 0 888 1073741824 200 0; parent = stats 60 21172 751619276 100 0 }

pages_add_up : totals ≡ solo_totals scan two_documents 60 (pages scan)
unfolding computing
pages_add_up = refl

pages_of_a_scan : Writes changed (settings_of true (codes "--scan" ∷ [])) input (length input) 0 (codes "{\"errors\":false,\"items\":[{\"index\":{\"_id\":\"_auto_0\",\"_index\":\"i\",\"result\":\"created\",\"status\":201}},{\"index\":{\"_id\":\"_auto_1\",\"_index\":\"i\",\"result\":\"created\",\"status\":201}}],\"took\":0}\n{\"_shards\":{\"failed\":0,\"skipped\":0,\"successful\":1,\"total\":1},\"aggregations\":{\"c\":{\"after_key\":{\"k\":\"x\",\"m\":2},\"buckets\":[{\"doc_count\":1,\"key\":{\"k\":\"x\",\"m\":1}},{\"doc_count\":1,\"key\":{\"k\":\"x\",\"m\":2}}]}},\"hits\":{\"hits\":[],\"max_score\":null,\"total\":{\"relation\":\"eq\",\"value\":2}},\"status\":200,\"timed_out\":false,\"took\":0}\n{\"_shards\":{\"failed\":0,\"skipped\":0,\"successful\":1,\"total\":1},\"aggregations\":{\"c\":{\"after_key\":{\"k\":\"y\",\"m\":2},\"buckets\":[{\"doc_count\":1,\"key\":{\"k\":\"y\",\"m\":1}},{\"doc_count\":1,\"key\":{\"k\":\"y\",\"m\":2}}]}},\"hits\":{\"hits\":[],\"max_score\":null,\"total\":{\"relation\":\"eq\",\"value\":2}},\"status\":200,\"timed_out\":false,\"took\":0}\n{\"_shards\":{\"failed\":0,\"skipped\":0,\"successful\":1,\"total\":1},\"aggregations\":{\"c\":{\"after_key\":{\"k\":\"y\",\"m\":3},\"buckets\":[{\"doc_count\":1,\"key\":{\"k\":\"y\",\"m\":3}}]}},\"hits\":{\"hits\":[],\"max_score\":null,\"total\":{\"relation\":\"eq\",\"value\":2}},\"status\":200,\"timed_out\":false,\"took\":0}\n{\"_shards\":{\"failed\":0,\"skipped\":0,\"successful\":1,\"total\":1},\"aggregations\":{\"c\":{\"buckets\":[]}},\"hits\":{\"hits\":[],\"max_score\":null,\"total\":{\"relation\":\"eq\",\"value\":2}},\"status\":200,\"timed_out\":false,\"took\":0}\n{\"breakers\":{\"fielddata\":{\"estimated_size_in_bytes\":60,\"granted_size_in_bytes\":60,\"limit_size_in_bytes\":429496729,\"overhead_percent\":103,\"tripped\":0},\"inflight_requests\":{\"estimated_size_in_bytes\":0,\"granted_size_in_bytes\":888,\"limit_size_in_bytes\":1073741824,\"overhead_percent\":200,\"tripped\":0},\"parent\":{\"estimated_size_in_bytes\":60,\"granted_size_in_bytes\":21172,\"limit_size_in_bytes\":751619276,\"overhead_percent\":100,\"tripped\":0},\"request\":{\"estimated_size_in_bytes\":0,\"granted_size_in_bytes\":20224,\"limit_size_in_bytes\":644245094,\"overhead_percent\":100,\"tripped\":0}}}\n")
unfolding computing
pages_of_a_scan = by_words scan_is_read (ends_well changed scan input (length input) scanned (pages scan ∷ []) (codes "{\"errors\":false,\"items\":[{\"index\":{\"_id\":\"_auto_0\",\"_index\":\"i\",\"result\":\"created\",\"status\":201}},{\"index\":{\"_id\":\"_auto_1\",\"_index\":\"i\",\"result\":\"created\",\"status\":201}}],\"took\":0}\n{\"_shards\":{\"failed\":0,\"skipped\":0,\"successful\":1,\"total\":1},\"aggregations\":{\"c\":{\"after_key\":{\"k\":\"x\",\"m\":2},\"buckets\":[{\"doc_count\":1,\"key\":{\"k\":\"x\",\"m\":1}},{\"doc_count\":1,\"key\":{\"k\":\"x\",\"m\":2}}]}},\"hits\":{\"hits\":[],\"max_score\":null,\"total\":{\"relation\":\"eq\",\"value\":2}},\"status\":200,\"timed_out\":false,\"took\":0}\n{\"_shards\":{\"failed\":0,\"skipped\":0,\"successful\":1,\"total\":1},\"aggregations\":{\"c\":{\"after_key\":{\"k\":\"y\",\"m\":2},\"buckets\":[{\"doc_count\":1,\"key\":{\"k\":\"y\",\"m\":1}},{\"doc_count\":1,\"key\":{\"k\":\"y\",\"m\":2}}]}},\"hits\":{\"hits\":[],\"max_score\":null,\"total\":{\"relation\":\"eq\",\"value\":2}},\"status\":200,\"timed_out\":false,\"took\":0}\n{\"_shards\":{\"failed\":0,\"skipped\":0,\"successful\":1,\"total\":1},\"aggregations\":{\"c\":{\"after_key\":{\"k\":\"y\",\"m\":3},\"buckets\":[{\"doc_count\":1,\"key\":{\"k\":\"y\",\"m\":3}}]}},\"hits\":{\"hits\":[],\"max_score\":null,\"total\":{\"relation\":\"eq\",\"value\":2}},\"status\":200,\"timed_out\":false,\"took\":0}\n{\"_shards\":{\"failed\":0,\"skipped\":0,\"successful\":1,\"total\":1},\"aggregations\":{\"c\":{\"buckets\":[]}},\"hits\":{\"hits\":[],\"max_score\":null,\"total\":{\"relation\":\"eq\",\"value\":2}},\"status\":200,\"timed_out\":false,\"took\":0}\n{\"breakers\":{\"fielddata\":{\"estimated_size_in_bytes\":60,\"granted_size_in_bytes\":60,\"limit_size_in_bytes\":429496729,\"overhead_percent\":103,\"tripped\":0},\"inflight_requests\":{\"estimated_size_in_bytes\":0,\"granted_size_in_bytes\":888,\"limit_size_in_bytes\":1073741824,\"overhead_percent\":200,\"tripped\":0},\"parent\":{\"estimated_size_in_bytes\":60,\"granted_size_in_bytes\":21172,\"limit_size_in_bytes\":751619276,\"overhead_percent\":100,\"tripped\":0},\"request\":{\"estimated_size_in_bytes\":0,\"granted_size_in_bytes\":20224,\"limit_size_in_bytes\":644245094,\"overhead_percent\":100,\"tripped\":0}}}\n") totals input_is_read refl
    (record { form = follow scan; each = ((refl, inl first_is_answered), ((refl, inl second_is_answered), ((refl, inl third_is_answered), ((refl, inl last_is_answered), tt)))) }, tt) pages_add_up refl refl)

-- two workers
abbrev two_workers : Settings
two_workers = record scan { workers = 2 }

abbrev two_words : List Text
two_words = codes "--workers" ∷ codes "2" ∷ codes "--scan" ∷ []

two_words_are_read : settings_of true two_words ≡ Ok two_workers
unfolding words_computing
two_words_are_read = refl

input_is_read_too : Reads two_workers input scanned
unfolding computing reading_computing
input_is_read_too = refl

first_may_be_answered : MayAnswerWave two_workers two_documents 60 (first ∷ []) (first_answer ∷ [])
unfolding computing
first_may_be_answered = ((tt, (refl, record { at_request = all_within _ 644245094 (lit≤ tt); at_parent = all_within _ 751619276 (lit≤ tt) }, record { at_request = lit≤ tt; at_parent = lit≤ tt })), tt)

second_may_be_answered : MayAnswerWave two_workers two_documents 60 (second ∷ []) (second_answer ∷ [])
unfolding computing
second_may_be_answered = ((tt, (refl, record { at_request = all_within _ 644245094 (lit≤ tt); at_parent = all_within _ 751619276 (lit≤ tt) }, record { at_request = lit≤ tt; at_parent = lit≤ tt })), tt)

third_may_be_answered : MayAnswerWave two_workers two_documents 60 (third ∷ []) (third_answer ∷ [])
unfolding computing
third_may_be_answered = ((tt, (refl, record { at_request = all_within _ 644245094 (lit≤ tt); at_parent = all_within _ 751619276 (lit≤ tt) }, record { at_request = lit≤ tt; at_parent = lit≤ tt })), tt)

last_may_be_answered : MayAnswerWave two_workers two_documents 60 (last ∷ []) (last_answer ∷ [])
unfolding computing
last_may_be_answered = ((tt, (refl, record { at_request = all_within _ 644245094 (lit≤ tt); at_parent = all_within _ 751619276 (lit≤ tt) }, record { at_request = lit≤ tt; at_parent = lit≤ tt })), tt)

abbrev granted : Amounts
granted = record { request = 20224; fielddata = 0; inflight = 888; parent = 21112 }

pages_rise : AreTotals two_workers two_documents 60 (pages two_workers) totals
unfolding computing
pages_rise = record {
  granted = granted;
  trips = no_amounts;
  rose = record {
    fielddata = (refl, refl);
    inflight = (refl, refl);
    searches = lit≤ tt;
    exactly = λ e. refl;
    parent = refl;
    request_trips = lit≤ tt;
    parent_trips = lit≤ tt;
    no_trips = λ e. refl;
  };
  totals = refl;
}

pages_by_two_workers : Writes changed (settings_of true two_words) input (length input) 0 (codes "{\"errors\":false,\"items\":[{\"index\":{\"_id\":\"_auto_0\",\"_index\":\"i\",\"result\":\"created\",\"status\":201}},{\"index\":{\"_id\":\"_auto_1\",\"_index\":\"i\",\"result\":\"created\",\"status\":201}}],\"took\":0}\n{\"_shards\":{\"failed\":0,\"skipped\":0,\"successful\":1,\"total\":1},\"aggregations\":{\"c\":{\"after_key\":{\"k\":\"x\",\"m\":2},\"buckets\":[{\"doc_count\":1,\"key\":{\"k\":\"x\",\"m\":1}},{\"doc_count\":1,\"key\":{\"k\":\"x\",\"m\":2}}]}},\"hits\":{\"hits\":[],\"max_score\":null,\"total\":{\"relation\":\"eq\",\"value\":2}},\"status\":200,\"timed_out\":false,\"took\":0}\n{\"_shards\":{\"failed\":0,\"skipped\":0,\"successful\":1,\"total\":1},\"aggregations\":{\"c\":{\"after_key\":{\"k\":\"y\",\"m\":2},\"buckets\":[{\"doc_count\":1,\"key\":{\"k\":\"y\",\"m\":1}},{\"doc_count\":1,\"key\":{\"k\":\"y\",\"m\":2}}]}},\"hits\":{\"hits\":[],\"max_score\":null,\"total\":{\"relation\":\"eq\",\"value\":2}},\"status\":200,\"timed_out\":false,\"took\":0}\n{\"_shards\":{\"failed\":0,\"skipped\":0,\"successful\":1,\"total\":1},\"aggregations\":{\"c\":{\"after_key\":{\"k\":\"y\",\"m\":3},\"buckets\":[{\"doc_count\":1,\"key\":{\"k\":\"y\",\"m\":3}}]}},\"hits\":{\"hits\":[],\"max_score\":null,\"total\":{\"relation\":\"eq\",\"value\":2}},\"status\":200,\"timed_out\":false,\"took\":0}\n{\"_shards\":{\"failed\":0,\"skipped\":0,\"successful\":1,\"total\":1},\"aggregations\":{\"c\":{\"buckets\":[]}},\"hits\":{\"hits\":[],\"max_score\":null,\"total\":{\"relation\":\"eq\",\"value\":2}},\"status\":200,\"timed_out\":false,\"took\":0}\n{\"breakers\":{\"fielddata\":{\"estimated_size_in_bytes\":60,\"granted_size_in_bytes\":60,\"limit_size_in_bytes\":429496729,\"overhead_percent\":103,\"tripped\":0},\"inflight_requests\":{\"estimated_size_in_bytes\":0,\"granted_size_in_bytes\":888,\"limit_size_in_bytes\":1073741824,\"overhead_percent\":200,\"tripped\":0},\"parent\":{\"estimated_size_in_bytes\":60,\"granted_size_in_bytes\":21172,\"limit_size_in_bytes\":751619276,\"overhead_percent\":100,\"tripped\":0},\"request\":{\"estimated_size_in_bytes\":0,\"granted_size_in_bytes\":20224,\"limit_size_in_bytes\":644245094,\"overhead_percent\":100,\"tripped\":0}}}\n")
unfolding computing
pages_by_two_workers = by_words two_words_are_read (ends_well changed two_workers input (length input) scanned (pages two_workers ∷ []) (codes "{\"errors\":false,\"items\":[{\"index\":{\"_id\":\"_auto_0\",\"_index\":\"i\",\"result\":\"created\",\"status\":201}},{\"index\":{\"_id\":\"_auto_1\",\"_index\":\"i\",\"result\":\"created\",\"status\":201}}],\"took\":0}\n{\"_shards\":{\"failed\":0,\"skipped\":0,\"successful\":1,\"total\":1},\"aggregations\":{\"c\":{\"after_key\":{\"k\":\"x\",\"m\":2},\"buckets\":[{\"doc_count\":1,\"key\":{\"k\":\"x\",\"m\":1}},{\"doc_count\":1,\"key\":{\"k\":\"x\",\"m\":2}}]}},\"hits\":{\"hits\":[],\"max_score\":null,\"total\":{\"relation\":\"eq\",\"value\":2}},\"status\":200,\"timed_out\":false,\"took\":0}\n{\"_shards\":{\"failed\":0,\"skipped\":0,\"successful\":1,\"total\":1},\"aggregations\":{\"c\":{\"after_key\":{\"k\":\"y\",\"m\":2},\"buckets\":[{\"doc_count\":1,\"key\":{\"k\":\"y\",\"m\":1}},{\"doc_count\":1,\"key\":{\"k\":\"y\",\"m\":2}}]}},\"hits\":{\"hits\":[],\"max_score\":null,\"total\":{\"relation\":\"eq\",\"value\":2}},\"status\":200,\"timed_out\":false,\"took\":0}\n{\"_shards\":{\"failed\":0,\"skipped\":0,\"successful\":1,\"total\":1},\"aggregations\":{\"c\":{\"after_key\":{\"k\":\"y\",\"m\":3},\"buckets\":[{\"doc_count\":1,\"key\":{\"k\":\"y\",\"m\":3}}]}},\"hits\":{\"hits\":[],\"max_score\":null,\"total\":{\"relation\":\"eq\",\"value\":2}},\"status\":200,\"timed_out\":false,\"took\":0}\n{\"_shards\":{\"failed\":0,\"skipped\":0,\"successful\":1,\"total\":1},\"aggregations\":{\"c\":{\"buckets\":[]}},\"hits\":{\"hits\":[],\"max_score\":null,\"total\":{\"relation\":\"eq\",\"value\":2}},\"status\":200,\"timed_out\":false,\"took\":0}\n{\"breakers\":{\"fielddata\":{\"estimated_size_in_bytes\":60,\"granted_size_in_bytes\":60,\"limit_size_in_bytes\":429496729,\"overhead_percent\":103,\"tripped\":0},\"inflight_requests\":{\"estimated_size_in_bytes\":0,\"granted_size_in_bytes\":888,\"limit_size_in_bytes\":1073741824,\"overhead_percent\":200,\"tripped\":0},\"parent\":{\"estimated_size_in_bytes\":60,\"granted_size_in_bytes\":21172,\"limit_size_in_bytes\":751619276,\"overhead_percent\":100,\"tripped\":0},\"request\":{\"estimated_size_in_bytes\":0,\"granted_size_in_bytes\":20224,\"limit_size_in_bytes\":644245094,\"overhead_percent\":100,\"tripped\":0}}}\n") totals input_is_read_too refl
    (record { form = follow two_workers; each = ((refl, first_may_be_answered), ((refl, second_may_be_answered), ((refl, third_may_be_answered), ((refl, last_may_be_answered), tt)))) }, tt) pages_rise refl refl)
