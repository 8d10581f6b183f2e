-- Runs of one worker whose script and answers are computed, and not written out.
use Rattle.std.specs.Prelude.{◌≡◌, refl, ℕ, zero, suc, List, [], ◌∷◌, ◌++◌, map, option_to_list, Some, None, Result, Ok, Err, Bool, true, false}
use Rattle.std.proofs.Common.{sym, subst}
use Rattle.agg_model.specs.Lines.{lines}
use Rattle.agg_model.specs.declared.settings.Settings.{Settings}
use Rattle.agg_reading.specs.Lines.{ScriptRefusal}
use Rattle.agg_reading.specs.Script.{Loaded, loaded}
use Rattle.agg_spec.specs.Index.{Index}
use Rattle.agg_spec.specs.Outcome.{Request}
use Rattle.agg_spec.specs.Requests.{LoadedScript, Segment, loaded_script, cut_short}
use Rattle.agg_spec.specs.Rounds.{Round}
use Rattle.agg_spec.specs.Solo.{idle, solo_answer}
use Rattle.agg_spec.specs.Statistics.{is_solo, solo_totals, AreTotals, AreTotalsBy}
use Rattle.agg_spec.specs.Answers.{Change, Recent, after_line, with_rounds, page_after}
use Rattle.agg_spec.specs.Written.{Line, statistics, all_printed, text_of}
use Rattle.agg_spec.specs.Output.{text_read, refusal_line}
use Rattle.answer_laws.proofs.Runs.{Writes, Reads, AreAllowed, started, lines_of, end_of, ends_well, ends_refused}

abbrev pub no_script : LoadedScript
no_script = record {
  index = record { name = []; mapping = record { fields = []; nested = []; objects = []; strict = false }; shards = [] };
  items = [];
  columns = 0;
  segments = [];
  refused = None;
}

abbrev pub script_or : Result Loaded ScriptRefusal → LoadedScript
script_or (Ok l) = loaded_script l
script_or (Err r) = no_script

-- the loaded script of an input
abbrev pub script_in : Settings → List ℕ → LoadedScript
script_in words input = script_or (loaded (lines (text_read words input)))

abbrev pub round_alone : Settings → Index → ℕ → Request → Round
round_alone settings index columns r = record { settings = settings; requests = r ∷ []; answers = solo_answer settings index (idle columns) r ∷ [] }

-- pages one after another, so many at most
abbrev pub pages_alone : ℕ → Settings → Index → ℕ → List Request → List Round
pages_alone zero settings index columns requests = []
pages_alone (suc n) settings index columns [] = []
pages_alone (suc n) settings index columns (r ∷ rest) =
    let round = round_alone settings index columns r in
    round ∷ pages_alone n settings index columns (option_to_list (page_after index columns r round.answers) ++ rest)

-- one search after another, each answered by the solo run
abbrev pub alone : Settings → Index → ℕ → List Request → List Round
alone settings index columns requests =
    elim settings.scan [ true ↦ pages_alone 20 settings index columns requests | false ↦ map (round_alone settings index columns) requests ]

abbrev pub alone_each : Change → Settings → LoadedScript → Recent → List Segment → List (List Round)
alone_each change words s recent [] = []
alone_each change words s recent (segment ∷ rest) =
    let rounds = alone recent.settings s.index s.columns segment.requests in
    rounds ∷ alone_each change words s (after_line change words s.index s.columns segment.change (with_rounds rounds recent)) rest

module _ (change : Change) (words : Settings) (s : LoadedScript) where
  abbrev pub rounds_alone : List Segment → List (List Round)
  rounds_alone segments = alone_each change words s (started words) segments

  -- the bulk line and the answers to these segments
  abbrev pub lines_alone : List Segment → List Line
  lines_alone segments = lines_of change words s segments (rounds_alone segments)

  abbrev pub end_alone : List Segment → Recent
  end_alone segments = end_of change words s segments (rounds_alone segments)

  -- and the statistics
  abbrev pub all_lines_alone : List Line
  all_lines_alone =
      let at_end = end_alone s.segments in
      lines_alone s.segments ++ statistics (solo_totals at_end.settings s.index s.columns at_end.rounds) ∷ []

module _ (change : Change) (words : Settings) (input : List ℕ) (read : ℕ) (text : List ℕ) where
  abbrev script : LoadedScript
  script = script_in words input

  abbrev pub Alone : List Segment → Type 0
  Alone segments = AreAllowed change words script segments (rounds_alone change words script segments)

  abbrev early : ScriptRefusal → List Line
  early r = lines_alone change words script (cut_short words.width script.segments) ++ refusal_line r ∷ []

  -- a run of one worker to the end of its input
  pub well : Reads words (text_read words input) script → script.refused ≡ None → Alone script.segments → is_solo (end_alone change words script script.segments).settings ≡ true
      → all_printed (all_lines_alone change words script) ≡ true → text_of (all_lines_alone change words script) ++ [] ≡ text → Writes change (Ok words) input read 0 text
  well is whole allowed solo printed bytes =
      let at_end = end_alone change words script script.segments in
      let totals = solo_totals at_end.settings script.index script.columns at_end.rounds in
      let total : AreTotals at_end.settings script.index script.columns at_end.rounds totals =
      subst (λ (b : Bool). AreTotalsBy at_end.settings script.index script.columns b at_end.rounds totals) (sym solo) refl in
      ends_well change words input read script (rounds_alone change words script script.segments) text totals is whole allowed total printed bytes

  -- a run of one worker up to a refusal behind the bulk lines
  pub refused_at : (r : ScriptRefusal) → Reads words (text_read words input) script → script.refused ≡ Some r → Alone (cut_short words.width script.segments)
      → all_printed (early r) ≡ true → text_of (early r) ++ [] ≡ text → Writes change (Ok words) input read 5 text
  refused_at r is found allowed printed bytes =
      ends_refused change words input read script (rounds_alone change words script (cut_short words.width script.segments)) text r is found allowed printed bytes
