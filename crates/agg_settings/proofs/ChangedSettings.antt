-- Settings lines, and the settings after them.
use Rattle.std.specs.Prelude.{◌≡◌, refl, ℕ, List, Option, Some, None, option_map, Bool, true, false, Ok, Err, codes}
use Rattle.agg_model.specs.declared.settings.Settings.{Settings}
use Rattle.agg_reading.specs.Json.{reading}
use Rattle.agg_reading.specs.SettingsLines.{is_settings_line}
use Rattle.agg_settings.specs.Changes.{Change, changed}
use Rattle.agg_settings.proofs.ComputingLines.{computing}

-- settings of the words, with a heap of 1,000 bytes
abbrev start : Settings
start = record {
  workers = 1;
  batch = 512;
  width = 4;
  limits = record { request = 600; fielddata = 400; inflight = 1000; parent = 700 };
  heap = 1000;
  max_buckets = 65536;
  scan = false;
  generate = None;
}

-- settings that earlier lines left in force
abbrev now : Settings
now = record start { batch = 2; limits = record { request = 1; fielddata = 2; inflight = 3; parent = 4 }; max_buckets = 5 }

abbrev after : List ℕ → Option Change
after line = option_map (changed now start) (reading line)

abbrev is_line : List ℕ → Option Bool
is_line line = option_map is_settings_line (reading line)

a_limit_in_bytes : after (codes "{\"persistent\":{\"indices.breaker.request.limit\":\"4866b\"}}") ≡ Some (Ok (record now { limits = record { request = 4866; fielddata = 2; inflight = 3; parent = 4 } }))
unfolding computing
a_limit_in_bytes = refl

a_transient_limit : after (codes "{\"transient\":{\"indices.breaker.fielddata.limit\":\"18b\"}}") ≡ Some (Ok (record now { limits = record { request = 1; fielddata = 18; inflight = 3; parent = 4 } }))
unfolding computing
a_transient_limit = refl

a_percentage_is_of_the_heap_of_the_words : after (codes "{\"persistent\":{\"indices.breaker.total.limit\":\"50%\"}}") ≡ Some (Ok (record now { limits = record { request = 1; fielddata = 2; inflight = 3; parent = 500 } }))
unfolding computing
a_percentage_is_of_the_heap_of_the_words = refl

no_bytes : after (codes "{\"persistent\":{\"network.breaker.inflight_requests.limit\":\"0\"}}") ≡ Some (Ok (record now { limits = record { request = 1; fielddata = 2; inflight = 0; parent = 4 } }))
unfolding computing
no_bytes = refl

null_is_what_the_words_gave : after (codes "{\"persistent\":{\"batched_reduce_size\":null,\"indices.breaker.fielddata.limit\":null,\"indices.breaker.request.limit\":null,\"indices.breaker.total.limit\":null,\"network.breaker.inflight_requests.limit\":null,\"search.max_buckets\":null}}") ≡ Some (Ok start)
unfolding computing
null_is_what_the_words_gave = refl

null_for_one_setting : after (codes "{\"persistent\":{\"indices.breaker.request.limit\":null,\"search.max_buckets\":null}}") ≡ Some (Ok (record now { limits = record { request = 600; fielddata = 2; inflight = 3; parent = 4 }; max_buckets = 65536 }))
unfolding computing
null_for_one_setting = refl

one_bucket : after (codes "{\"persistent\":{\"search.max_buckets\":1}}") ≡ Some (Ok (record now { max_buckets = 1 }))
unfolding computing
one_bucket = refl

a_million_buckets : after (codes "{\"persistent\":{\"search.max_buckets\":\"1000000\"}}") ≡ Some (Ok (record now { max_buckets = 1000000 }))
unfolding computing
a_million_buckets = refl

a_batch_as_a_text : after (codes "{\"persistent\":{\"batched_reduce_size\":\"0003\"}}") ≡ Some (Ok (record now { batch = 3 }))
unfolding computing
a_batch_as_a_text = refl

a_batch_as_a_number : after (codes "{\"persistent\":{\"batched_reduce_size\":1024}}") ≡ Some (Ok (record now { batch = 1024 }))
unfolding computing
a_batch_as_a_number = refl

no_setting : after (codes "{\"persistent\":{}}") ≡ Some (Ok now)
unfolding computing
no_setting = refl

the_last_of_a_name : after (codes "{\"persistent\":1,\"persistent\":{\"search.max_buckets\":7,\"search.max_buckets\":8}}") ≡ Some (Ok (record now { max_buckets = 8 }))
unfolding computing
the_last_of_a_name = refl

an_unknown_name : after (codes "{\"persistent\":{\"x\":1}}") ≡ Some (Err (codes "x"))
unfolding computing
an_unknown_name = refl

an_unknown_name_with_null : after (codes "{\"persistent\":{\"x\":null}}") ≡ Some (Err (codes "x"))
unfolding computing
an_unknown_name_with_null = refl

the_heap_stays : after (codes "{\"persistent\":{\"heap_size\":\"1gb\"}}") ≡ Some (Err (codes "heap_size"))
unfolding computing
the_heap_stays = refl

real_memory_stays : after (codes "{\"persistent\":{\"indices.breaker.total.use_real_memory\":\"false\"}}") ≡ Some (Err (codes "indices.breaker.total.use_real_memory"))
unfolding computing
real_memory_stays = refl

a_limit_is_a_text : after (codes "{\"persistent\":{\"indices.breaker.total.limit\":5}}") ≡ Some (Err (codes "indices.breaker.total.limit"))
unfolding computing
a_limit_is_a_text = refl

two_zeros : after (codes "{\"persistent\":{\"indices.breaker.total.limit\":\"00\"}}") ≡ Some (Err (codes "indices.breaker.total.limit"))
unfolding computing
two_zeros = refl

no_bucket : after (codes "{\"persistent\":{\"search.max_buckets\":0}}") ≡ Some (Err (codes "search.max_buckets"))
unfolding computing
no_bucket = refl

more_than_a_million_buckets : after (codes "{\"persistent\":{\"search.max_buckets\":1000001}}") ≡ Some (Err (codes "search.max_buckets"))
unfolding computing
more_than_a_million_buckets = refl

fewer_than_no_bucket : after (codes "{\"persistent\":{\"search.max_buckets\":\"-1\"}}") ≡ Some (Err (codes "search.max_buckets"))
unfolding computing
fewer_than_no_bucket = refl

half_a_bucket : after (codes "{\"persistent\":{\"search.max_buckets\":1.5}}") ≡ Some (Err (codes "search.max_buckets"))
unfolding computing
half_a_bucket = refl

a_batch_of_one : after (codes "{\"persistent\":{\"batched_reduce_size\":\"1\"}}") ≡ Some (Err (codes "batched_reduce_size"))
unfolding computing
a_batch_of_one = refl

a_bad_value_after_a_good_one : after (codes "{\"persistent\":{\"batched_reduce_size\":3,\"search.max_buckets\":0}}") ≡ Some (Err (codes "search.max_buckets"))
unfolding computing
a_bad_value_after_a_good_one = refl

the_first_in_byte_order : after (codes "{\"persistent\":{\"indices.breaker.total.limit\":\"x\",\"b\":1}}") ≡ Some (Err (codes "b"))
unfolding computing
the_first_in_byte_order = refl

persistent_is_an_object : after (codes "{\"persistent\":5}") ≡ Some (Err (codes "persistent"))
unfolding computing
persistent_is_an_object = refl

transient_is_an_object : after (codes "{\"transient\":null}") ≡ Some (Err (codes "transient"))
unfolding computing
transient_is_an_object = refl

one_member : is_line (codes "{\"persistent\":5}") ≡ Some true
unfolding computing
one_member = refl

two_members : is_line (codes "{\"persistent\":{},\"x\":1}") ≡ Some false
unfolding computing
two_members = refl

both_names : is_line (codes "{\"persistent\":{},\"transient\":{}}") ≡ Some false
unfolding computing
both_names = refl

another_name : is_line (codes "{\"defaults\":{}}") ≡ Some false
unfolding computing
another_name = refl

no_member : is_line (codes "{}") ≡ Some false
unfolding computing
no_member = refl

a_list : is_line (codes "[\"persistent\"]") ≡ Some false
unfolding computing
a_list = refl
