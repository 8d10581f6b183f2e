-- Output of several workers that run two searches side by side, computed.
use Rattle.std.specs.Prelude.{refl, ℕ, false, List, [], ◌∷◌, ◌++◌, length, Ok, codes}
use Rattle.std.proofs.Common.{inl, lit≤}
use Rattle.agg_model.specs.declared.settings.Settings.{Settings}
use Rattle.agg_model.specs.declared.outcome.Answered.{Answered}
use Rattle.agg_model.specs.declared.outcome.Outcome.TheVariants as ended
use Rattle.agg_spec.specs.Charges.{Amounts, no_amounts}
use Rattle.agg_spec.specs.Outcome.{Request}
use Rattle.agg_spec.specs.Requests.{LoadedScript, Segment}
use Rattle.agg_spec.specs.Rounds.{Round}
use Rattle.agg_spec.specs.BulkLine.{bulk_line}
use Rattle.agg_spec.specs.Statistics.{totals_after}
use Rattle.agg_spec.specs.Written.{Line, bulk, answer, statistics}
use Rattle.agg_spec.proofs.Samples.{default_limits, settings}
use Rattle.answer_laws.proofs.Runs.{Writes, no_change}
use Rattle.answer_laws.proofs.Rounds.{all_within}
use Rattle.answer_laws.proofs.AloneRuns.{script_in}
use Rattle.agg_reading.proofs.Computing.{computing as reading_computing}
use Rattle.agg_spec.proofs.Computing.{computing}

abbrev two_searches : List ℕ
two_searches = codes "{\"index\":\"i\",\"mappings\":{\"properties\":{\"b\":{\"type\":\"boolean\"},\"n\":{\"type\":\"long\"},\"t\":{\"type\":\"keyword\"}}},\"settings\":{\"number_of_shards\":1}}\n\n{\"index\":{}}\n{\"t\":\"a\"}\n{\"index\":{}}\n{\"t\":\"b\"}\n\n{}\n{\"aggs\":{\"t\":{\"terms\":{\"field\":\"t\"}}}}\n{}\n{\"aggs\":{\"t\":{\"terms\":{\"field\":\"t\"}}}}\n"

abbrev words : Settings
words = record (settings default_limits) { workers = 2; width = 2 }

abbrev script : LoadedScript
script = script_in words two_searches

abbrev response : Answered
response = record { outcome = ended.Response (codes "{\"_shards\":{\"failed\":0,\"skipped\":0,\"successful\":1,\"total\":1},\"aggregations\":{\"t\":{\"buckets\":[{\"doc_count\":1,\"key\":\"a\"},{\"doc_count\":1,\"key\":\"b\"}],\"doc_count_error_upper_bound\":0,\"sum_other_doc_count\":0}},\"hits\":{\"hits\":[],\"max_score\":null,\"total\":{\"relation\":\"eq\",\"value\":2}},\"status\":200,\"timed_out\":false,\"took\":0}"); failures = [] }

abbrev requests_of : List Segment → List Request
requests_of [] = []
requests_of (s ∷ rest) = s.requests

abbrev wave : Round
wave = record { settings = words; requests = requests_of script.segments; answers = response ∷ response ∷ [] }

abbrev granted : Amounts
granted = record { request = 10364; fielddata = 0; inflight = 152; parent = 10516 }

abbrev answers : List Line
answers = bulk (bulk_line script.index.name script.items false) ∷ answer response ∷ answer response ∷ []

two_workers : Writes no_change (Ok words) two_searches (length two_searches) 0 (codes "{\"errors\":false,\"items\":[{\"index\":{\"_id\":\"_auto_0\",\"_index\":\"i\",\"result\":\"created\",\"status\":201}},{\"index\":{\"_id\":\"_auto_1\",\"_index\":\"i\",\"result\":\"created\",\"status\":201}}],\"took\":0}\n{\"_shards\":{\"failed\":0,\"skipped\":0,\"successful\":1,\"total\":1},\"aggregations\":{\"t\":{\"buckets\":[{\"doc_count\":1,\"key\":\"a\"},{\"doc_count\":1,\"key\":\"b\"}],\"doc_count_error_upper_bound\":0,\"sum_other_doc_count\":0}},\"hits\":{\"hits\":[],\"max_score\":null,\"total\":{\"relation\":\"eq\",\"value\":2}},\"status\":200,\"timed_out\":false,\"took\":0}\n{\"_shards\":{\"failed\":0,\"skipped\":0,\"successful\":1,\"total\":1},\"aggregations\":{\"t\":{\"buckets\":[{\"doc_count\":1,\"key\":\"a\"},{\"doc_count\":1,\"key\":\"b\"}],\"doc_count_error_upper_bound\":0,\"sum_other_doc_count\":0}},\"hits\":{\"hits\":[],\"max_score\":null,\"total\":{\"relation\":\"eq\",\"value\":2}},\"status\":200,\"timed_out\":false,\"took\":0}\n{\"breakers\":{\"fielddata\":{\"estimated_size_in_bytes\":19,\"granted_size_in_bytes\":19,\"limit_size_in_bytes\":429496729,\"overhead_percent\":103,\"tripped\":0},\"inflight_requests\":{\"estimated_size_in_bytes\":0,\"granted_size_in_bytes\":152,\"limit_size_in_bytes\":1073741824,\"overhead_percent\":200,\"tripped\":0},\"parent\":{\"estimated_size_in_bytes\":19,\"granted_size_in_bytes\":10535,\"limit_size_in_bytes\":751619276,\"overhead_percent\":100,\"tripped\":0},\"request\":{\"estimated_size_in_bytes\":0,\"granted_size_in_bytes\":10364,\"limit_size_in_bytes\":644245094,\"overhead_percent\":100,\"tripped\":0}}}\n")
unfolding computing reading_computing
two_workers =
    record {
      written = answers ++ statistics (totals_after words script.index 19 granted no_amounts) ∷ [];
      piece = [];
      output = record {
        printed = refl;
        by_status = inl (
          inl (
            refl,
            record {
              answers = answers;
              at_end = record { settings = words; rounds = wave ∷ [] };
              totals = totals_after words script.index 19 granted no_amounts;
              whole = refl;
              answered = record {
                rounds = (wave ∷ []) ∷ [];
                allowed = (
                  record {
                    form = refl;
                    each = (
                      (
                        refl,
                        (
                          (tt, (refl, record { at_request = all_within 4866 644245094 (lit≤ tt); at_parent = all_within 4866 751619276 (lit≤ tt) }, record { at_request = lit≤ tt; at_parent = lit≤ tt })),
                          ((tt, (refl, record { at_request = all_within 4866 644245094 (lit≤ tt); at_parent = all_within 4866 751619276 (lit≤ tt) }, record { at_request = lit≤ tt; at_parent = lit≤ tt })), tt),
                        ),
                      ),
                      tt,
                    );
                  },
                  tt,
                );
                lines = refl;
                recent = refl;
              };
              total = record {
                granted = granted;
                trips = no_amounts;
                rose = record {
                  fielddata = (refl, refl);
                  inflight = (refl, refl);
                  searches = lit≤ tt;
                  exactly = λ e. refl;
                  parent = refl;
                  request_trips = lit≤ tt;
                  parent_trips = lit≤ tt;
                  no_trips = λ e. refl;
                };
                totals = refl;
              };
              lines = refl;
            },
          ),
          refl,
        );
      };
      bytes = refl;
    }
