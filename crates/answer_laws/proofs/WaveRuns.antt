-- Outputs of waves: a short wave, a fault of the source behind a full wave, and want of memory within a wave, computed.
use Rattle.std.specs.Prelude.{◌≡◌, refl, ℕ, List, [], ◌∷◌, ◌++◌, take, length, Some, Ok, codes}
use Rattle.std.proofs.Common.{inl, inr, lit≤, sym, subst}
use Rattle.agg_model.specs.declared.outcome.Answered.{Answered}
use Rattle.agg_model.specs.declared.outcome.Outcome.TheVariants as ended
use Rattle.agg_model.specs.declared.settings.Settings.{Settings}
use Rattle.agg_reading.specs.Lines.{ScriptRefusal}
use Rattle.agg_reading.specs.Script.{loaded}
use Rattle.agg_spec.specs.Charges.{Amounts, no_amounts}
use Rattle.agg_spec.specs.Output.{EndsWell, IsWholeOf, answered, script_from, whole_lines}
use Rattle.agg_spec.specs.Requests.{LoadedScript}
use Rattle.agg_spec.specs.Rounds.{Round}
use Rattle.agg_spec.specs.Statistics.{AreTotals, totals_after}
use Rattle.agg_spec.specs.Wave.{MayAnswerWave}
use Rattle.agg_spec.specs.Written.{Line, answer, statistics}
use Rattle.agg_spec.proofs.Samples.{default_limits, settings}
use Rattle.answer_laws.proofs.Scripts.{all_created, searches, script}
use Rattle.answer_laws.proofs.Rounds.{all_within}
use Rattle.answer_laws.proofs.Runs.{Writes, Reads, no_change, ends_refused, ends_stopped, lines_of}
use Rattle.answer_laws.proofs.SettingsLineExamples.{two_words, terms, response}
use Rattle.agg_reading.proofs.Computing.{computing as reading_computing}
use Rattle.agg_spec.proofs.Computing.{computing}

-- one worker that runs so many searches side by side
abbrev pub side_by_side : ℕ → Settings
side_by_side width = record (settings default_limits) { width = width }

-- three searches of two words
abbrev pub three_searches : List ℕ
three_searches = codes "{\"index\":\"i\",\"mappings\":{\"properties\":{\"b\":{\"type\":\"boolean\"},\"n\":{\"type\":\"long\"},\"t\":{\"type\":\"keyword\"}}},\"settings\":{\"number_of_shards\":1}}\n\n{\"index\":{}}\n{\"t\":\"a\"}\n{\"index\":{}}\n{\"t\":\"b\"}\n\n{}\n{\"aggs\":{\"t\":{\"terms\":{\"field\":\"t\"}}}}\n{}\n{\"aggs\":{\"t\":{\"terms\":{\"field\":\"t\"}}}}\n{}\n{\"aggs\":{\"t\":{\"terms\":{\"field\":\"t\"}}}}\n"

abbrev pub three_terms : LoadedScript
three_terms = script two_words (all_created 2) 19 (searches (terms ∷ terms ∷ terms ∷ []))

-- a full wave of two
abbrev wave_of_two : Round
wave_of_two = record { settings = side_by_side 2; requests = terms ∷ terms ∷ []; answers = response ∷ response ∷ [] }

wave_of_two_may_be_answered : MayAnswerWave (side_by_side 2) two_words 19 (terms ∷ terms ∷ []) (response ∷ response ∷ [])
unfolding computing
wave_of_two_may_be_answered = ((tt, (refl, record { at_request = all_within _ 644245094 (lit≤ tt); at_parent = all_within _ 751619276 (lit≤ tt) }, record { at_request = lit≤ tt; at_parent = lit≤ tt })), ((tt, (refl, record { at_request = all_within _ 644245094 (lit≤ tt); at_parent = all_within _ 751619276 (lit≤ tt) }, record { at_request = lit≤ tt; at_parent = lit≤ tt })), tt))

-- and a header that is no object behind them
abbrev pub bad_header_input : List ℕ
bad_header_input = codes "{\"index\":\"i\",\"mappings\":{\"properties\":{\"b\":{\"type\":\"boolean\"},\"n\":{\"type\":\"long\"},\"t\":{\"type\":\"keyword\"}}},\"settings\":{\"number_of_shards\":1}}\n\n{\"index\":{}}\n{\"t\":\"a\"}\n{\"index\":{}}\n{\"t\":\"b\"}\n\n{}\n{\"aggs\":{\"t\":{\"terms\":{\"field\":\"t\"}}}}\n{}\n{\"aggs\":{\"t\":{\"terms\":{\"field\":\"t\"}}}}\n{}\n{\"aggs\":{\"t\":{\"terms\":{\"field\":\"t\"}}}}\n[]\nx\n"

abbrev pub bad_header : ScriptRefusal
bad_header = record { number = 39; line = 14; path = [] }

abbrev pub refused_terms : LoadedScript
refused_terms = record three_terms { refused = Some bad_header }

pub bad_header_is_read : Reads (side_by_side 2) bad_header_input refused_terms
unfolding computing reading_computing
bad_header_is_read = refl

-- status 5: the third search is a short wave, and is not answered
short_wave_before_a_bad_header : Writes no_change (Ok (side_by_side 2)) bad_header_input (length bad_header_input) 5 (codes "{\"errors\":false,\"items\":[{\"index\":{\"_id\":\"_auto_0\",\"_index\":\"i\",\"result\":\"created\",\"status\":201}},{\"index\":{\"_id\":\"_auto_1\",\"_index\":\"i\",\"result\":\"created\",\"status\":201}}],\"took\":0}\n{\"_shards\":{\"failed\":0,\"skipped\":0,\"successful\":1,\"total\":1},\"aggregations\":{\"t\":{\"buckets\":[{\"doc_count\":1,\"key\":\"a\"},{\"doc_count\":1,\"key\":\"b\"}],\"doc_count_error_upper_bound\":0,\"sum_other_doc_count\":0}},\"hits\":{\"hits\":[],\"max_score\":null,\"total\":{\"relation\":\"eq\",\"value\":2}},\"status\":200,\"timed_out\":false,\"took\":0}\n{\"_shards\":{\"failed\":0,\"skipped\":0,\"successful\":1,\"total\":1},\"aggregations\":{\"t\":{\"buckets\":[{\"doc_count\":1,\"key\":\"a\"},{\"doc_count\":1,\"key\":\"b\"}],\"doc_count_error_upper_bound\":0,\"sum_other_doc_count\":0}},\"hits\":{\"hits\":[],\"max_score\":null,\"total\":{\"relation\":\"eq\",\"value\":2}},\"status\":200,\"timed_out\":false,\"took\":0}\n{\"error\":{\"line\":14,\"number\":39,\"type\":\"bad_header\"},\"status\":5}\n")
unfolding computing
short_wave_before_a_bad_header = ends_refused no_change (side_by_side 2) bad_header_input (length bad_header_input) refused_terms ((wave_of_two ∷ []) ∷ []) (codes "{\"errors\":false,\"items\":[{\"index\":{\"_id\":\"_auto_0\",\"_index\":\"i\",\"result\":\"created\",\"status\":201}},{\"index\":{\"_id\":\"_auto_1\",\"_index\":\"i\",\"result\":\"created\",\"status\":201}}],\"took\":0}\n{\"_shards\":{\"failed\":0,\"skipped\":0,\"successful\":1,\"total\":1},\"aggregations\":{\"t\":{\"buckets\":[{\"doc_count\":1,\"key\":\"a\"},{\"doc_count\":1,\"key\":\"b\"}],\"doc_count_error_upper_bound\":0,\"sum_other_doc_count\":0}},\"hits\":{\"hits\":[],\"max_score\":null,\"total\":{\"relation\":\"eq\",\"value\":2}},\"status\":200,\"timed_out\":false,\"took\":0}\n{\"_shards\":{\"failed\":0,\"skipped\":0,\"successful\":1,\"total\":1},\"aggregations\":{\"t\":{\"buckets\":[{\"doc_count\":1,\"key\":\"a\"},{\"doc_count\":1,\"key\":\"b\"}],\"doc_count_error_upper_bound\":0,\"sum_other_doc_count\":0}},\"hits\":{\"hits\":[],\"max_score\":null,\"total\":{\"relation\":\"eq\",\"value\":2}},\"status\":200,\"timed_out\":false,\"took\":0}\n{\"error\":{\"line\":14,\"number\":39,\"type\":\"bad_header\"},\"status\":5}\n") bad_header bad_header_is_read refl (record { form = refl; each = ((refl, wave_of_two_may_be_answered), tt) }, tt) refl refl

-- status 3: the source fails behind the third search, which is a short wave
pub stopped_is_read : script_from (side_by_side 2) (loaded (whole_lines (take (length three_searches) three_searches))) ≡ answered three_terms
unfolding computing reading_computing
stopped_is_read = refl

full_wave_before_a_fault : Writes no_change (Ok (side_by_side 2)) three_searches (length three_searches) 3 (codes "{\"errors\":false,\"items\":[{\"index\":{\"_id\":\"_auto_0\",\"_index\":\"i\",\"result\":\"created\",\"status\":201}},{\"index\":{\"_id\":\"_auto_1\",\"_index\":\"i\",\"result\":\"created\",\"status\":201}}],\"took\":0}\n{\"_shards\":{\"failed\":0,\"skipped\":0,\"successful\":1,\"total\":1},\"aggregations\":{\"t\":{\"buckets\":[{\"doc_count\":1,\"key\":\"a\"},{\"doc_count\":1,\"key\":\"b\"}],\"doc_count_error_upper_bound\":0,\"sum_other_doc_count\":0}},\"hits\":{\"hits\":[],\"max_score\":null,\"total\":{\"relation\":\"eq\",\"value\":2}},\"status\":200,\"timed_out\":false,\"took\":0}\n{\"_shards\":{\"failed\":0,\"skipped\":0,\"successful\":1,\"total\":1},\"aggregations\":{\"t\":{\"buckets\":[{\"doc_count\":1,\"key\":\"a\"},{\"doc_count\":1,\"key\":\"b\"}],\"doc_count_error_upper_bound\":0,\"sum_other_doc_count\":0}},\"hits\":{\"hits\":[],\"max_score\":null,\"total\":{\"relation\":\"eq\",\"value\":2}},\"status\":200,\"timed_out\":false,\"took\":0}\n")
unfolding computing
full_wave_before_a_fault = ends_stopped no_change (side_by_side 2) three_searches (length three_searches) three_terms ((wave_of_two ∷ []) ∷ []) (codes "{\"errors\":false,\"items\":[{\"index\":{\"_id\":\"_auto_0\",\"_index\":\"i\",\"result\":\"created\",\"status\":201}},{\"index\":{\"_id\":\"_auto_1\",\"_index\":\"i\",\"result\":\"created\",\"status\":201}}],\"took\":0}\n{\"_shards\":{\"failed\":0,\"skipped\":0,\"successful\":1,\"total\":1},\"aggregations\":{\"t\":{\"buckets\":[{\"doc_count\":1,\"key\":\"a\"},{\"doc_count\":1,\"key\":\"b\"}],\"doc_count_error_upper_bound\":0,\"sum_other_doc_count\":0}},\"hits\":{\"hits\":[],\"max_score\":null,\"total\":{\"relation\":\"eq\",\"value\":2}},\"status\":200,\"timed_out\":false,\"took\":0}\n{\"_shards\":{\"failed\":0,\"skipped\":0,\"successful\":1,\"total\":1},\"aggregations\":{\"t\":{\"buckets\":[{\"doc_count\":1,\"key\":\"a\"},{\"doc_count\":1,\"key\":\"b\"}],\"doc_count_error_upper_bound\":0,\"sum_other_doc_count\":0}},\"hits\":{\"hits\":[],\"max_score\":null,\"total\":{\"relation\":\"eq\",\"value\":2}},\"status\":200,\"timed_out\":false,\"took\":0}\n") refl stopped_is_read (record { form = refl; each = ((refl, wave_of_two_may_be_answered), tt) }, tt) refl refl

-- status 7: the second search of a wave of three wants memory
abbrev wanting : Answered
wanting = record { outcome = ended.Memory; failures = [] }

abbrev wave_of_three : Round
wave_of_three = record { settings = side_by_side 3; requests = terms ∷ terms ∷ terms ∷ []; answers = response ∷ wanting ∷ response ∷ [] }

wave_of_three_may_be_answered : MayAnswerWave (side_by_side 3) two_words 19 (terms ∷ terms ∷ terms ∷ []) (response ∷ wanting ∷ response ∷ [])
unfolding computing
wave_of_three_may_be_answered = ((tt, (refl, record { at_request = all_within _ 644245094 (lit≤ tt); at_parent = all_within _ 751619276 (lit≤ tt) }, record { at_request = lit≤ tt; at_parent = lit≤ tt })), ((tt, tt), ((tt, (refl, record { at_request = all_within _ 644245094 (lit≤ tt); at_parent = all_within _ 751619276 (lit≤ tt) }, record { at_request = lit≤ tt; at_parent = lit≤ tt })), tt)))

three_are_read : Reads (side_by_side 3) three_searches three_terms
unfolding computing reading_computing
three_are_read = refl

-- each body of 38 bytes is charged twice; a search that wants memory may have been granted anything
abbrev granted : Amounts
granted = record { request = 10364; fielddata = 0; inflight = 228; parent = 10592 }

wave_rises : AreTotals (side_by_side 3) two_words 19 (wave_of_three ∷ []) (totals_after (side_by_side 3) two_words 19 granted no_amounts)
unfolding computing
wave_rises = record {
  granted = granted;
  trips = no_amounts;
  rose = record {
    fielddata = (refl, refl);
    inflight = (refl, refl);
    searches = lit≤ tt;
    exactly = λ e. (let no : ⊥ = cc in absurd no);
    parent = refl;
    request_trips = lit≤ tt;
    parent_trips = lit≤ tt;
    no_trips = λ e. refl;
  };
  totals = refl;
}

abbrev first_lines : List Line
first_lines = lines_of no_change (side_by_side 3) three_terms three_terms.segments ((record wave_of_three { requests = terms ∷ []; answers = response ∷ [] } ∷ []) ∷ [])

abbrev last_lines : List Line
last_lines = answer response ∷ statistics (totals_after (side_by_side 3) two_words 19 granted no_amounts) ∷ []

wave_ends : EndsWell no_change (side_by_side 3) three_terms (first_lines ++ answer wanting ∷ last_lines)
unfolding computing
wave_ends = record {
  answers = first_lines ++ answer wanting ∷ answer response ∷ [];
  at_end = record { settings = side_by_side 3; rounds = wave_of_three ∷ [] };
  totals = totals_after (side_by_side 3) two_words 19 granted no_amounts;
  whole = refl;
  answered = record {
    rounds = (wave_of_three ∷ []) ∷ [];
    allowed = (record { form = refl; each = ((refl, wave_of_three_may_be_answered), tt) }, tt);
    lines = refl;
    recent = refl;
  };
  total = wave_rises;
  lines = refl;
}

memory_runs_out_in_a_wave : Writes no_change (Ok (side_by_side 3)) three_searches (length three_searches) 7 (codes "{\"errors\":false,\"items\":[{\"index\":{\"_id\":\"_auto_0\",\"_index\":\"i\",\"result\":\"created\",\"status\":201}},{\"index\":{\"_id\":\"_auto_1\",\"_index\":\"i\",\"result\":\"created\",\"status\":201}}],\"took\":0}\n{\"_shards\":{\"failed\":0,\"skipped\":0,\"successful\":1,\"total\":1},\"aggregations\":{\"t\":{\"buckets\":[{\"doc_count\":1,\"key\":\"a\"},{\"doc_count\":1,\"key\":\"b\"}],\"doc_count_error_upper_bound\":0,\"sum_other_doc_count\":0}},\"hits\":{\"hits\":[],\"max_score\":null,\"total\":{\"relation\":\"eq\",\"value\":2}},\"status\":200,\"timed_out\":false,\"took\":0}\n")
unfolding computing
memory_runs_out_in_a_wave = record {
  written = first_lines;
  piece = [];
  output = record {
    printed = refl;
    by_status = inr (inr (inr (
      refl,
      record {
        next = answer wanting;
        cut = record {
          later = last_lines;
          status = 0;
          whole = subst (λ found. IsWholeOf no_change (side_by_side 3) found 0 (first_lines ++ answer wanting ∷ last_lines)) (sym three_are_read) (inl (refl, wave_ends));
        };
      },
      refl,
    )));
  };
  bytes = refl;
}
