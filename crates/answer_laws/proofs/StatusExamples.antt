-- Output of runs that end early, and of a generated script, computed.
use Rattle.std.specs.Prelude.{◌≡◌, refl, ℕ, List, [], ◌∷◌, ◌++◌, map, take, drop, length, Some, Ok, Err, codes}
use Rattle.std.proofs.Common.{inl, inr}
use Rattle.agg_model.specs.declared.settings.Settings.{Settings}
use Rattle.agg_model.specs.declared.outcome.Answered.{Answered}
use Rattle.agg_model.specs.declared.outcome.Outcome.TheVariants as ended
use Rattle.agg_spec.specs.Generator.{generated}
use Rattle.agg_reading.specs.Script.{loaded}
use Rattle.agg_spec.specs.Requests.{LoadedScript, Segment, cut_short}
use Rattle.agg_spec.specs.Rounds.{Round}
use Rattle.agg_spec.specs.Written.{Line, answer, told}
use Rattle.agg_spec.specs.Statistics.{solo_totals}
use Rattle.agg_spec.specs.Output.{EndsWell, whole_lines}
use Rattle.agg_spec.proofs.Samples.{default_limits, settings}
use Rattle.answer_laws.proofs.Runs.{Writes, no_change}
use Rattle.answer_laws.proofs.AloneRuns.{script_in, script_or, well, lines_alone, rounds_alone, end_alone, all_lines_alone}
use Rattle.agg_reading.proofs.Computing.{computing as reading_computing}
use Rattle.agg_spec.proofs.Computing.{computing}

wrong_word : Writes no_change (Err (record { key = codes "--workers"; value = codes "0" })) [] 0 2 (codes "{\"error\":{\"key\":\"--workers\",\"type\":\"usage\",\"value\":\"0\"},\"status\":2}\n")
unfolding computing
wrong_word = record { written = _; piece = []; output = record { printed = refl; by_status = inl ((refl, refl), refl) }; bytes = refl }

abbrev two_searches : List ℕ
two_searches = codes "{\"index\":\"i\",\"mappings\":{\"properties\":{\"b\":{\"type\":\"boolean\"},\"n\":{\"type\":\"long\"},\"t\":{\"type\":\"keyword\"}}},\"settings\":{\"number_of_shards\":1}}\n\n\n{}\n{\"aggs\":{\"t\":{\"terms\":{\"field\":\"t\"}}}}\n{}\n{\"aggs\":{\"t\":{\"terms\":{\"field\":\"t\"}}}}\n"

abbrev words : Settings
words = settings default_limits

abbrev script : LoadedScript
script = script_in words two_searches

abbrev response : Answered
response = record { outcome = ended.Response (codes "{\"_shards\":{\"failed\":0,\"skipped\":0,\"successful\":1,\"total\":1},\"aggregations\":{\"t\":{\"buckets\":[],\"doc_count_error_upper_bound\":0,\"sum_other_doc_count\":0}},\"hits\":{\"hits\":[],\"max_score\":null,\"total\":{\"relation\":\"eq\",\"value\":0}},\"status\":200,\"timed_out\":false,\"took\":0}"); failures = [] }

abbrev statistics_behind : List Line
statistics_behind = drop 3 (all_lines_alone no_change words script)

-- the source fails within the first body
abbrev script_before_the_fault : LoadedScript
script_before_the_fault = script_or (loaded (whole_lines (take 150 two_searches)))

abbrev segments_before_the_fault : List Segment
segments_before_the_fault = cut_short 1 script_before_the_fault.segments

source_fails : Writes no_change (Ok words) two_searches 150 3 (codes "{\"errors\":false,\"items\":[],\"took\":0}\n")
unfolding computing reading_computing
source_fails = record {
  written = lines_alone no_change words script_before_the_fault segments_before_the_fault;
  piece = [];
  output = record {
    printed = refl;
    by_status = inr (inl (
      refl,
      (
        refl,
        record {
          answers = lines_alone no_change words script_before_the_fault segments_before_the_fault;
          at_end = end_alone no_change words script_before_the_fault segments_before_the_fault;
          answered = record {
            rounds = rounds_alone no_change words script_before_the_fault segments_before_the_fault;
            allowed = (record { form = refl; each = tt }, tt);
            lines = refl;
            recent = refl;
          };
          lines = refl;
        },
      ),
      refl,
    ));
  };
  bytes = refl;
}

-- the whole output
ends : EndsWell no_change words script (all_lines_alone no_change words script)
unfolding computing reading_computing
ends = record {
  answers = lines_alone no_change words script script.segments;
  at_end = end_alone no_change words script script.segments;
  totals = solo_totals words script.index script.columns (end_alone no_change words script script.segments).rounds;
  whole = refl;
  answered = record {
    rounds = rounds_alone no_change words script script.segments;
    allowed = (record { form = refl; each = ((refl, inl refl), ((refl, inl refl), tt)) }, tt);
    lines = refl;
    recent = refl;
  };
  total = refl;
  lines = refl;
}

-- the sink fails within the first response
sink_fails : Writes no_change (Ok words) two_searches (length two_searches) 4 (codes "{\"errors\":false,\"items\":[],\"took\":0}\n{\"_shards\":{\"failed\"")
unfolding computing reading_computing
sink_fails = record {
  written = take 1 (all_lines_alone no_change words script);
  piece = codes "{\"_shards\":{\"failed\"";
  output = record {
    printed = refl;
    by_status = inr (inr (inl (
      refl,
      record {
        next = answer response;
        cut = record { later = drop 2 (all_lines_alone no_change words script); status = 0; whole = inl (refl, ends) };
        printed = refl;
        left = codes ":0,\"skipped\":0,\"successful\":1,\"total\":1},\"aggregations\":{\"t\":{\"buckets\":[],\"doc_count_error_upper_bound\":0,\"sum_other_doc_count\":0}},\"hits\":{\"hits\":[],\"max_score\":null,\"total\":{\"relation\":\"eq\",\"value\":0}},\"status\":200,\"timed_out\":false,\"took\":0}\n";
        some_left = λ e. (let no : ⊥ = cc in no);
        front = refl;
      },
    )));
  };
  bytes = refl;
}

-- want of memory at the second search
memory_runs_out : Writes no_change (Ok words) two_searches (length two_searches) 7 (codes "{\"errors\":false,\"items\":[],\"took\":0}\n{\"_shards\":{\"failed\":0,\"skipped\":0,\"successful\":1,\"total\":1},\"aggregations\":{\"t\":{\"buckets\":[],\"doc_count_error_upper_bound\":0,\"sum_other_doc_count\":0}},\"hits\":{\"hits\":[],\"max_score\":null,\"total\":{\"relation\":\"eq\",\"value\":0}},\"status\":200,\"timed_out\":false,\"took\":0}\n")
unfolding computing reading_computing
memory_runs_out =
    let wanting : Answered = record { outcome = ended.Memory; failures = [] } in
    let first = take 1 (end_alone no_change words script script.segments).rounds in
    let second = map (λ (r : Round). record r { answers = wanting ∷ [] }) (drop 1 (end_alone no_change words script script.segments).rounds) in
    record {
      written = take 2 (all_lines_alone no_change words script);
      piece = [];
      output = record {
        printed = refl;
        by_status = inr (inr (inr (
          refl,
          record {
            next = answer wanting;
            cut = record {
              later = statistics_behind;
              status = 0;
              whole = inl (
                refl,
                record {
                  answers = take 2 (all_lines_alone no_change words script) ++ answer wanting ∷ [];
                  at_end = record { settings = words; rounds = first ++ second };
                  totals = solo_totals words script.index script.columns (first ++ second);
                  whole = refl;
                  answered = record {
                    rounds = (first ++ second) ∷ [];
                    allowed = (record { form = refl; each = ((refl, inl refl), ((refl, inr refl), tt)) }, tt);
                    lines = refl;
                    recent = refl;
                  };
                  total = refl;
                  lines = refl;
                },
              );
            };
          },
          refl,
        )));
      };
      bytes = refl;
    }

-- listeners are told of both answers, which are the second and the third line
two_answers_are_told :
    told (all_lines_alone no_change words script) ≡ record { line = 2; status = 200; bytes = 265 } ∷ record { line = 3; status = 200; bytes = 265 } ∷ []
unfolding computing reading_computing
two_answers_are_told = refl

three_generated_documents : generated (record { number = 7; documents = 3; shards = 2 }) ≡ codes "{\"index\":\"generated\",\"mappings\":{\"properties\":{\"items\":{\"properties\":{\"qty\":{\"type\":\"integer\"},\"sku\":{\"type\":\"keyword\"}},\"type\":\"nested\"},\"price\":{\"type\":\"long\"},\"tag\":{\"type\":\"keyword\"}}},\"settings\":{\"number_of_shards\":2}}\n\n{\"index\":{\"_id\":\"0\"}}\n{\"items\":[],\"price\":3231,\"tag\":\"t28\"}\n{\"index\":{\"_id\":\"1\"}}\n{\"items\":[{\"qty\":64,\"sku\":\"s4\"},{\"qty\":86,\"sku\":\"s19\"}],\"price\":5545,\"tag\":\"t23\"}\n{\"index\":{\"_id\":\"2\"}}\n{\"items\":[{\"qty\":49,\"sku\":\"s0\"},{\"qty\":5,\"sku\":\"s2\"}],\"price\":3075,\"tag\":\"t45\"}\n\n{}\n{\"size\":0,\"aggs\":{\"tags\":{\"terms\":{\"field\":\"tag\",\"size\":5},\"aggs\":{\"total\":{\"sum\":{\"field\":\"price\"}}}},\"items\":{\"nested\":{\"path\":\"items\"},\"aggs\":{\"skus\":{\"terms\":{\"field\":\"items.sku\",\"size\":3}}}}}}\n"
unfolding computing
three_generated_documents = refl

generated_without_documents : Writes no_change (Ok (record (settings default_limits) { generate = Some (record { number = 0; documents = 0; shards = 1 }) })) [] 0 0 (codes "{\"errors\":false,\"items\":0,\"took\":0}\n{\"_shards\":{\"failed\":0,\"skipped\":0,\"successful\":1,\"total\":1},\"aggregations\":{\"items\":{\"doc_count\":0,\"skus\":{\"buckets\":[],\"doc_count_error_upper_bound\":0,\"sum_other_doc_count\":0}},\"tags\":{\"buckets\":[],\"doc_count_error_upper_bound\":0,\"sum_other_doc_count\":0}},\"hits\":{\"hits\":[],\"max_score\":null,\"total\":{\"relation\":\"eq\",\"value\":0}},\"status\":200,\"timed_out\":false,\"took\":0}\n{\"breakers\":{\"fielddata\":{\"estimated_size_in_bytes\":0,\"granted_size_in_bytes\":0,\"limit_size_in_bytes\":429496729,\"overhead_percent\":103,\"tripped\":0},\"inflight_requests\":{\"estimated_size_in_bytes\":0,\"granted_size_in_bytes\":394,\"limit_size_in_bytes\":1073741824,\"overhead_percent\":200,\"tripped\":0},\"parent\":{\"estimated_size_in_bytes\":0,\"granted_size_in_bytes\":6524,\"limit_size_in_bytes\":751619276,\"overhead_percent\":100,\"tripped\":0},\"request\":{\"estimated_size_in_bytes\":0,\"granted_size_in_bytes\":6130,\"limit_size_in_bytes\":644245094,\"overhead_percent\":100,\"tripped\":0}}}\n")
unfolding computing reading_computing
generated_without_documents = well no_change (record (settings default_limits) { generate = Some (record { number = 0; documents = 0; shards = 1 }) }) [] 0 (codes "{\"errors\":false,\"items\":0,\"took\":0}\n{\"_shards\":{\"failed\":0,\"skipped\":0,\"successful\":1,\"total\":1},\"aggregations\":{\"items\":{\"doc_count\":0,\"skus\":{\"buckets\":[],\"doc_count_error_upper_bound\":0,\"sum_other_doc_count\":0}},\"tags\":{\"buckets\":[],\"doc_count_error_upper_bound\":0,\"sum_other_doc_count\":0}},\"hits\":{\"hits\":[],\"max_score\":null,\"total\":{\"relation\":\"eq\",\"value\":0}},\"status\":200,\"timed_out\":false,\"took\":0}\n{\"breakers\":{\"fielddata\":{\"estimated_size_in_bytes\":0,\"granted_size_in_bytes\":0,\"limit_size_in_bytes\":429496729,\"overhead_percent\":103,\"tripped\":0},\"inflight_requests\":{\"estimated_size_in_bytes\":0,\"granted_size_in_bytes\":394,\"limit_size_in_bytes\":1073741824,\"overhead_percent\":200,\"tripped\":0},\"parent\":{\"estimated_size_in_bytes\":0,\"granted_size_in_bytes\":6524,\"limit_size_in_bytes\":751619276,\"overhead_percent\":100,\"tripped\":0},\"request\":{\"estimated_size_in_bytes\":0,\"granted_size_in_bytes\":6130,\"limit_size_in_bytes\":644245094,\"overhead_percent\":100,\"tripped\":0}}}\n") refl refl (record { form = refl; each = ((refl, inl refl), tt) }, tt) refl refl refl
