-- Where an output stops, and where it ends.
use Rattle.std.specs.Prelude.{◌≡◌, ◌≤◌, ℕ, List, [], ◌∷◌, ◌++◌, map, length, Option, Some, Result, Ok, Err, OnOk, IfErr}
use Rattle.std.proofs.Common.{inl, inr, ◌∙◌, refl, sym, ap, subst, append-nil, arith}
use Rattle.std.proofs.lemmas.List.{length-append, length-map}
use Rattle.list_laws.proofs.Lists.{map-append}
use Rattle.serde_json.specs.Data.{Data}
use Rattle.agg_model.specs.declared.breaker.Totals.{Totals}
use Rattle.agg_model.specs.declared.settings.Settings.{Settings}
use Rattle.agg_reading.specs.Entries.{Entry, Entries, body, no_more, refused_with}
use Rattle.agg_reading.specs.Entries.{change as changing}
use Rattle.agg_reading.specs.Lines.{ScriptRefusal}
use Rattle.agg_settings.specs.Changes.{changed}
use Rattle.agg_spec.specs.Index.{Index}
use Rattle.agg_spec.specs.Requests.{request_of}
use Rattle.agg_spec.specs.Rounds.{Round}
use Rattle.agg_spec.specs.Statistics.{AreTotals}
use Rattle.agg_spec.specs.Answers.{Recent, IsAllowed, AreRounds, with_rounds, changed_by, after_line}
use Rattle.agg_spec.specs.Written.{Line, settings, statistics, round_lines}
use Rattle.agg_spec.specs.Output.{refusal_line}
use Rattle.script_lines.specs.Reading.{behind}
use Rattle.script_answers.specs.Outputs.{Output}
use Rattle.script_answers.specs.Puts.{Stops}
use Rattle.script_answers.specs.Rest.{IsRest, EndsWell, EndsEarly}
use Rattle.script_answers.specs.Stepping.{bodies_of, IsReady, TakesEntry, StopsAt, Finishes}
use Rattle.script_answers.specs.Steps.{Leads, WroteLines}
use Rattle.script_answers.specs.Waves.{PutsWave, PutsTotals}
use Rattle.script_answers.specs.declared.stop.Stop.{Stop}
use Rattle.script_answers.specs.declared.stop.Stop.TheVariants.{Write, Memory}
use Rattle.script_answers.proofs.Completing.{some-rest, some-totals}
use Rattle.script_answers.proofs.Leading.{wave-leads, change-leads, ends-well, ends-early}
use Rattle.script_answers.proofs.Putting.{stops-behind, stops-before, wrote-append, front-append, wrote-nothing}
use Rattle.script_answers.proofs.Stepping.{nothing-leads, cut-behind, cut-within}

module _ (words : Settings) (index : Index) (columns : ℕ) where
  -- ---- a step that stops

  -- lines that answer entries, of which the first ones were written
  pub stops-within : (recent now : Recent) (answered : List Entry) (lines : List Line) (before after : Output) (stop : Stop)
      → Leads changed words index columns recent answered lines now → Stops before after lines stop → (left : Entries) → StopsAt words index columns recent (behind answered left) before after stop
  stops-within recent now answered lines before after Write leads stops left =
      (stops.done, stops.next, stops.wrote, cut-within changed words index columns recent now answered lines leads left stops.done stops.others stops.next stops.are)
  stops-within recent now answered lines before after Memory leads stops left =
      (stops.done, stops.next, stops.wrote, cut-within changed words index columns recent now answered lines leads left stops.done stops.others stops.next stops.are)

  -- a rest of which the first lines were written
  pub stops-rest : (recent : Recent) (left : Entries) (status : ℕ) (lines : List Line) (before after : Output) (stop : Stop)
      → IsRest changed words index columns recent left status lines → Stops before after lines stop → StopsAt words index columns recent left before after stop
  stops-rest recent left status lines before after Write rest stops =
      (stops.done, stops.next, stops.wrote, record { later = stops.others; status = status; rest = subst (IsRest changed words index columns recent left status) stops.are rest })
  stops-rest recent left status lines before after Memory rest stops =
      (stops.done, stops.next, stops.wrote, record { later = stops.others; status = status; rest = subst (IsRest changed words index columns recent left status) stops.are rest })

  -- nothing was written
  pub stops-here : (recent : Recent) (left : Entries) (before : Output) → StopsAt words index columns recent left before before Memory
  stops-here recent left before =
      let more = some-rest changed words index columns recent left in
      ([], more.next, wrote-nothing before, more.cut)

  -- behind lines that were written
  pub stops-later : (recent now : Recent) (answered : List Entry) (lines : List Line) (start before after : Output) (stop : Stop) (left : Entries)
      → Leads changed words index columns recent answered lines now → WroteLines start before lines → StopsAt words index columns now left before after stop
      → StopsAt words index columns recent (behind answered left) start after stop
  stops-later recent now answered lines start before after Write left leads wrote stops =
      (lines ++ stops.0, stops.1, front-append start before after lines stops.0 wrote stops.1 stops.2, cut-behind changed words index columns recent now answered lines leads left stops.0 stops.1 stops.3)
  stops-later recent now answered lines start before after Memory left leads wrote stops =
      (lines ++ stops.0, stops.1, wrote-append start before after lines stops.0 wrote stops.2, cut-behind changed words index columns recent now answered lines leads left stops.0 stops.1 stops.3)

  -- ---- a search

  -- a wave that is not full yet
  pub still-waiting : (recent : Recent) (wave now : List (List ℕ)) (text : List ℕ) (before : Output) → now ≡ wave ++ text ∷ []
      → TakesEntry words index columns recent wave (body text) before before recent now
  still-waiting recent wave now text before is = record {
    answered = [];
    written = [];
    entries = sym (ap bodies_of is ∙ map-append body wave (text ∷ []));
    leads = nothing-leads changed words index columns recent;
    wrote = wrote-nothing before;
  }

  module _ (recent now : Recent) (wave full : List (List ℕ)) (text : List ℕ) (before after : Output) (ready : IsReady words recent wave)
      (is : full ≡ wave ++ text ∷ []) (enough : words.width ≤ length full) where
    wave-length : length (map (request_of index) full) ≡ recent.settings.width
    wave-length = let l = ap length is ∙ length-append wave (text ∷ []) in
        length-map full (request_of index) ∙ omega (arith, l, enough, ready.short, ready.wide)

    wave-entries : bodies_of wave ++ body text ∷ [] ≡ bodies_of full
    wave-entries = sym (ap bodies_of is ∙ map-append body wave (text ∷ []))

    leads-full : (rounds : List Round) → AreRounds index columns (IsAllowed index columns) recent.settings (map (request_of index) full) rounds
        → Leads changed words index columns recent (bodies_of full) (round_lines rounds) (with_rounds rounds recent)
    leads-full rounds are = wave-leads changed words index columns recent full rounds (subst (λ n. 1 ≤ n) (sym ready.wide) ready.some) wave-length ready.wide are

    -- a full wave
    pub wave-taken : {X : Type 0} (x : X) → PutsWave {X = X} index columns recent (map (request_of index) full) before after now (Ok x)
        → TakesEntry words index columns recent wave (body text) before after now []
    wave-taken x puts = record {
      answered = bodies_of full;
      written = round_lines puts.rounds;
      entries = wave-entries ∙ sym (append-nil (bodies_of full));
      leads = subst (Leads changed words index columns recent (bodies_of full) (round_lines puts.rounds)) (sym puts.recent_is) (leads-full puts.rounds puts.are);
      wrote = puts.puts;
    }

    pub wave-stops : {X : Type 0} (stop : Stop) → PutsWave {X = X} index columns recent (map (request_of index) full) before after now (Err stop)
        → (left : Entries) → StopsAt words index columns recent (behind (bodies_of wave ++ body text ∷ []) left) before after stop
    wave-stops stop puts left =
        subst (λ es. StopsAt words index columns recent (behind es left) before after stop) (sym wave-entries)
        (stops-within recent (with_rounds puts.rounds recent) (bodies_of full) (round_lines puts.rounds) before after stop (leads-full puts.rounds puts.are) puts.puts left)

  -- ---- a settings line

  module _ (recent : Recent) (wave : List (List ℕ)) (line : Data) (before mid after : Output) where
    abbrev changed_line : Recent → Line
    changed_line now = settings (changed_by changed words index columns now line)

    leads-change : (rounds : List Round) → AreRounds index columns (IsAllowed index columns) recent.settings (map (request_of index) wave) rounds
        → Leads changed words index columns recent (bodies_of wave ++ changing line ∷ []) (round_lines rounds ++ changed_line (with_rounds rounds recent) ∷ [])
        (after_line changed words index columns (Some line) (with_rounds rounds recent))
    leads-change rounds are = change-leads changed words index columns recent wave rounds line are

    pub change-taken : {X : Type 0} (x : X) (now next : Recent) → PutsWave {X = X} index columns recent (map (request_of index) wave) before mid now (Ok x)
        → WroteLines mid after (changed_line now ∷ []) → next ≡ after_line changed words index columns (Some line) now
        → TakesEntry words index columns recent wave (changing line) before after next []
    change-taken x now next puts changes next_is = record {
      answered = bodies_of wave ++ changing line ∷ [];
      written = round_lines puts.rounds ++ changed_line (with_rounds puts.rounds recent) ∷ [];
      entries = sym (append-nil (bodies_of wave ++ changing line ∷ []));
      leads = subst (Leads changed words index columns recent (bodies_of wave ++ changing line ∷ []) (round_lines puts.rounds ++ changed_line (with_rounds puts.rounds recent) ∷ []))
          (sym (next_is ∙ ap (after_line changed words index columns (Some line)) puts.recent_is)) (leads-change puts.rounds puts.are);
      wrote = wrote-append before mid after (round_lines puts.rounds) (changed_line (with_rounds puts.rounds recent) ∷ []) puts.puts
          (subst (λ r. WroteLines mid after (changed_line r ∷ [])) puts.recent_is changes);
    }

    pub wave-stops-change : {X : Type 0} (stop : Stop) (now : Recent) → PutsWave {X = X} index columns recent (map (request_of index) wave) before mid now (Err stop)
        → (left : Entries) → StopsAt words index columns recent (behind (bodies_of wave ++ changing line ∷ []) left) before mid stop
    wave-stops-change stop now puts left =
        stops-within recent _ (bodies_of wave ++ changing line ∷ []) (round_lines puts.rounds ++ changed_line (with_rounds puts.rounds recent) ∷ []) before mid stop (leads-change puts.rounds puts.are)
        (stops-before before mid (round_lines puts.rounds) (changed_line (with_rounds puts.rounds recent) ∷ []) stop puts.puts) left

    pub change-stops : {X : Type 0} (x : X) (stop : Stop) (now : Recent) → PutsWave {X = X} index columns recent (map (request_of index) wave) before mid now (Ok x)
        → Stops mid after (changed_line now ∷ []) stop
        → (left : Entries) → StopsAt words index columns recent (behind (bodies_of wave ++ changing line ∷ []) left) before after stop
    change-stops x stop now puts changes left =
        stops-within recent _ (bodies_of wave ++ changing line ∷ []) (round_lines puts.rounds ++ changed_line (with_rounds puts.rounds recent) ∷ []) before after stop (leads-change puts.rounds puts.are)
        (stops-behind before mid after (round_lines puts.rounds) (changed_line (with_rounds puts.rounds recent) ∷ []) stop puts.puts
        (subst (λ r. Stops mid after (changed_line r ∷ []) stop) puts.recent_is changes)) left

  -- ---- the end of the script

  module _ (recent : Recent) (wave : List (List ℕ)) (before mid after : Output) where
    rest-well : (rounds : List Round) (t : Totals) → AreRounds index columns (IsAllowed index columns) recent.settings (map (request_of index) wave) rounds
        → AreTotals recent.settings index columns (with_rounds rounds recent).rounds t
        → EndsWell changed words index columns recent (behind (bodies_of wave) no_more) (round_lines rounds ++ statistics t ∷ [])
    rest-well rounds t are total = ends-well changed words index columns recent wave rounds t are total

    totals-of : (rounds : List Round) (now : Recent) (t : Totals) → now ≡ with_rounds rounds recent → AreTotals now.settings index columns now.rounds t
        → AreTotals recent.settings index columns (with_rounds rounds recent).rounds t
    totals-of rounds now t is are = subst (λ (r : Recent). AreTotals r.settings index columns r.rounds t) is are

    pub ends-finished : {X Y : Type 0} (x : X) (y : Y) (now : Recent) → PutsWave {X = X} index columns recent (map (request_of index) wave) before mid now (Ok x)
        → PutsTotals {X = Y} index columns now mid after (Ok y) → Finishes words index columns recent (behind (bodies_of wave) no_more) before after
    ends-finished x y now puts totals = (
      round_lines puts.rounds ++ statistics totals.totals ∷ [],
      wrote-append before mid after (round_lines puts.rounds) (statistics totals.totals ∷ []) puts.puts totals.puts,
      rest-well puts.rounds totals.totals puts.are (totals-of puts.rounds now totals.totals puts.recent_is totals.are),
    )

    pub wave-stops-end : {X : Type 0} (stop : Stop) (now : Recent) → PutsWave {X = X} index columns recent (map (request_of index) wave) before mid now (Err stop)
        → StopsAt words index columns recent (behind (bodies_of wave) no_more) before mid stop
    wave-stops-end stop now puts =
        let t = some-totals index columns recent.settings (with_rounds puts.rounds recent).rounds in
        stops-rest recent (behind (bodies_of wave) no_more) 0 (round_lines puts.rounds ++ statistics t.0 ∷ []) before mid stop (inl (refl, rest-well puts.rounds t.0 puts.are t.1))
        (stops-before before mid (round_lines puts.rounds) (statistics t.0 ∷ []) stop puts.puts)

    pub totals-stop : {X Y : Type 0} (x : X) (stop : Stop) (now : Recent) → PutsWave {X = X} index columns recent (map (request_of index) wave) before mid now (Ok x)
        → PutsTotals {X = Y} index columns now mid after (Err stop) → StopsAt words index columns recent (behind (bodies_of wave) no_more) before after stop
    totals-stop x stop now puts totals =
        stops-rest recent (behind (bodies_of wave) no_more) 0 (round_lines puts.rounds ++ statistics totals.totals ∷ []) before after stop
        (inl (refl, rest-well puts.rounds totals.totals puts.are (totals-of puts.rounds now totals.totals puts.recent_is totals.are)))
        (stops-behind before mid after (round_lines puts.rounds) (statistics totals.totals ∷ []) stop puts.puts totals.puts)

    -- how the script ends by what became of the statistics
    pub end-finishes : {X Y : Type 0} (x : X) (now : Recent) (result : Result Y Stop) → PutsWave {X = X} index columns recent (map (request_of index) wave) before mid now (Ok x)
        → PutsTotals index columns now mid after result → OnOk result (Finishes words index columns recent (behind (bodies_of wave) no_more) before after)
    end-finishes x now (Ok y) puts totals = ends-finished x y now puts totals
    end-finishes x now (Err stop) puts totals = tt

    pub end-stops : {X Y : Type 0} (x : X) (now : Recent) (result : Result Y Stop) → PutsWave {X = X} index columns recent (map (request_of index) wave) before mid now (Ok x)
        → PutsTotals index columns now mid after result → IfErr result (λ stop. StopsAt words index columns recent (behind (bodies_of wave) no_more) before after stop)
    end-stops x now (Ok y) puts totals = tt
    end-stops x now (Err stop) puts totals = totals-stop x stop now puts totals

  -- ---- a refused script

  -- a wave that is not full is not answered where the script is refused, or read no further
  pub short-unanswered : (recent : Recent) (wave : List (List ℕ)) (refused : Option ScriptRefusal) (last : List Line) → IsReady words recent wave
      → EndsEarly changed words index columns recent (behind (bodies_of wave) (record { entries = []; refused = refused })) last last
  short-unanswered recent wave refused last ready =
      ends-early changed words index columns recent wave refused last (subst (λ n. 1 ≤ n) (sym ready.wide) ready.some) ready.wide ready.short

  pub refusal-stops : (recent : Recent) (wave : List (List ℕ)) (r : ScriptRefusal) (before after : Output) (stop : Stop) → IsReady words recent wave
      → Stops before after (refusal_line r ∷ []) stop → StopsAt words index columns recent (behind (bodies_of wave) (refused_with r)) before after stop
  refusal-stops recent wave r before after stop ready stops =
      stops-rest recent (behind (bodies_of wave) (refused_with r)) 5 (refusal_line r ∷ []) before after stop (inr (refl, short-unanswered recent wave (Some r) (refusal_line r ∷ []) ready)) stops
