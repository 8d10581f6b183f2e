-- One worker that runs one search at a time answers an input that has room by the whole reduction.
use Rattle.std.specs.Prelude.{◌≡◌, refl, ℕ, ◌∷◌, true, false, IsTrue, List, [], map, Option, Some, None, Result, Ok, Err}
use Rattle.std.specs.List.{AllByRecursion}
use Rattle.std.proofs.Common.{◌∙◌, ap, sym, subst}
use Rattle.serde_json.specs.Data.{Data}
use Rattle.agg_model.specs.declared.breaker.Tripped.{Tripped}
use Rattle.agg_model.specs.declared.settings.Settings.{Settings}
use Rattle.agg_model.specs.Lines.{lines}
use Rattle.agg_reading.specs.Script.{loaded}
use Rattle.agg_spec.specs.Index.{Index}
use Rattle.agg_spec.specs.Charges.{no_amounts}
use Rattle.agg_spec.specs.Columns.{columns_refusal}
use Rattle.agg_spec.specs.Complete.{IsPlain, HasRoom, HasRoomFor, ScriptFits}
use Rattle.agg_spec.specs.Outcome.{Request}
use Rattle.agg_spec.specs.Reduction.{batches}
use Rattle.agg_spec.specs.Requests.{LoadedScript, Segment}
use Rattle.agg_spec.specs.Rounds.{Round}
use Rattle.agg_spec.specs.Solo.{idle, solo_run}
use Rattle.agg_spec.specs.Statistics.{is_solo}
use Rattle.agg_spec.specs.Answers.{Change, Changed, accepted, refused, too_heavy, Recent, IsAllowed, AreRounds, AreAnswered, if_light, changed_to, changed_by, after_change, after_line, with_rounds}
use Rattle.agg_spec.specs.Written.{Line, all_printed}
use Rattle.agg_spec.specs.Output.{Script, answered, EndsWell, IsWhole, IsWholeOf, script_from, text_read}
use Rattle.agg_spec.specs.Output.{refused as refused_script, too_heavy as heavy_script}
use Rattle.answer_laws.specs.Completing.{ArePlain, AreQuiet, IsAlone, KeepsAlone}
use Rattle.answer_laws.proofs.AnswerCounts.{Formed}
use Rattle.answer_laws.proofs.Completing.{RoomBy, whole-plain, whole-quiet, only-status_0}
use Rattle.answer_laws.proofs.PlainRounds.{plain_round}

module _ (index : Index) (columns : ℕ) where
  -- no charge of these searches is refused
  abbrev AreGranted : Settings → List Request → Type 0
  AreGranted now = AllByRecursion (λ r. (solo_run now index (idle columns) r).run.trips ≡ no_amounts)

  abbrev Rooms : List Round → Type 0
  Rooms = AllByRecursion (HasRoom index columns)

  -- the waves of these searches, answered by the whole reduction
  abbrev pub plain_waves : Settings → List (List Request) → List Round
  plain_waves now = map (plain_round index columns now)

  asks-waves : (now : Settings) (waves : List (List Request)) → map (λ (r : Round). r.requests) (plain_waves now waves) ≡ waves
  asks-waves now [] = refl
  asks-waves now (wave ∷ waves) = ap (λ ws. wave ∷ ws) (asks-waves now waves)

  each-plain : (now : Settings) (waves : List (List Request)) → AllByRecursion (λ round. (round.settings ≡ now) × IsPlain index columns round) (plain_waves now waves)
  each-plain now [] = tt
  each-plain now (wave ∷ waves) = ((refl, refl), each-plain now waves)

  pub waves-answer : (now : Settings) (requests : List Request) → now.scan ≡ false → AreRounds index columns (IsPlain index columns) now requests (plain_waves now (batches now.width requests))
  waves-answer now requests no_scan = record {
    form = subst (Formed index columns now requests (plain_waves now (batches now.width requests))) (sym no_scan) (asks-waves now (batches now.width requests));
    each = each-plain now (batches now.width requests);
  }

  -- other rounds of the same searches have room where these have it
  rounds-room : (now : Settings) (rounds : List Round) (waves : List (List Request)) → is_solo now ≡ true
      → AllByRecursion (λ round. (round.settings ≡ now) × IsAllowed index columns round) rounds → map (λ (r : Round). r.requests) rounds ≡ waves → Rooms (plain_waves now waves) → Rooms rounds
  rounds-room now [] waves solo each same room = tt
  rounds-room now (round ∷ rounds) [] solo each same room = absurd (let no : ⊥ = cc in no)
  rounds-room now (round ∷ rounds) (wave ∷ waves) solo each same room =
      let granted : AreGranted now wave = subst (RoomBy index columns (plain_round index columns now wave)) solo room.0 in
      let asked : round.requests ≡ wave = ap first-of same in
      let here : AreGranted round.settings round.requests = subst (λ s. AreGranted s round.requests) (sym each.0.0) (subst (AreGranted now) (sym asked) granted) in (
        subst (RoomBy index columns round) (sym (ap is_solo each.0.0 ∙ solo)) here,
        rounds-room now rounds waves solo each.1 (ap behind-first same) room.1,
      )
    where
      first-of : List (List Request) → List Request
      first-of [] = []
      first-of (w ∷ ws) = w

      behind-first : List (List Request) → List (List Request)
      behind-first [] = []
      behind-first (w ∷ ws) = ws

module _ (change : Change) (words : Settings) (index : Index) (columns : ℕ) (keeps : KeepsAlone change words) where
  light-alone : (o : Option Tripped) (after : Settings) (recent : Recent) → IsAlone recent.settings → IsAlone after → IsAlone (after_change (if_light after o) recent).settings
  light-alone None after recent now later = later
  light-alone (Some t) after recent now later = now

  changed-alone : (r : Result Settings (List ℕ)) (line : Data) (recent : Recent) → change recent.settings words line ≡ r → IsAlone recent.settings
      → IsAlone (after_change (changed_to columns r) recent).settings
  changed-alone (Err name) line recent same now = now
  changed-alone (Ok after) line recent same now = light-alone (columns_refusal after.limits columns) after recent now (keeps recent.settings after line same now)

  line-alone : (c : Option Data) (recent : Recent) → IsAlone recent.settings → IsAlone (after_line change words index columns c recent).settings
  line-alone None recent now = now
  line-alone (Some line) recent now = changed-alone (change recent.settings words line) line recent refl now

  -- the settings after a line depend on those before it alone
  abbrev next_settings : Option Data → Settings → Settings
  next_settings c now = (after_line change words index columns c (record { settings = now; rounds = [] })).settings

  change-settings : (c : Changed) (recent : Recent) → (after_change c recent).settings ≡ (after_change c (record { settings = recent.settings; rounds = [] })).settings
  change-settings (accepted settings) recent = refl
  change-settings (refused name) recent = refl
  change-settings (too_heavy t) recent = refl

  line-settings : (c : Option Data) (recent : Recent) → (after_line change words index columns c recent).settings ≡ next_settings c recent.settings
  line-settings None recent = refl
  line-settings (Some line) recent = change-settings (changed_by change words index columns recent line) recent

  -- the rounds of these segments, answered by the whole reduction
  abbrev plain_rounds : Settings → List Segment → List (List Round)
  plain_rounds now [] = []
  plain_rounds now (s ∷ rest) = plain_waves index columns now (batches now.width s.requests) ∷ plain_rounds (next_settings s.change now) rest

  rounds-answer : (recent : Recent) (segments : List Segment) → IsAlone recent.settings
      → AreAnswered change words index columns (IsPlain index columns) recent segments (plain_rounds recent.settings segments)
  rounds-answer recent [] alone = tt
  rounds-answer recent (s ∷ rest) alone =
      let waves = plain_waves index columns recent.settings (batches recent.settings.width s.requests) in
      let next = after_line change words index columns s.change (with_rounds waves recent) in (
        waves-answer index columns recent.settings s.requests alone.1,
        subst (λ now. AreAnswered change words index columns (IsPlain index columns) next rest (plain_rounds now rest)) (line-settings s.change (with_rounds waves recent))
            (rounds-answer next rest (line-alone s.change (with_rounds waves recent) alone)),
      )

  segments-room : (recent : Recent) (segments : List Segment) (rounds : List (List Round)) → IsAlone recent.settings
      → AreAnswered change words index columns (IsAllowed index columns) recent segments rounds → AllByRecursion (Rooms index columns) (plain_rounds recent.settings segments)
      → AllByRecursion (Rooms index columns) rounds
  segments-room recent segments [] alone may room = tt
  segments-room recent [] (rounds ∷ later) alone may room = absurd may
  segments-room recent (s ∷ rest) (rounds ∷ later) alone (are, more) room =
      let next = after_line change words index columns s.change (with_rounds rounds recent) in
      let asked = subst (Formed index columns recent.settings s.requests rounds) alone.1 are.form in (
        rounds-room index columns recent.settings rounds (batches recent.settings.width s.requests) alone.0 are.each asked room.0,
        segments-room next rest later (line-alone s.change (with_rounds rounds recent) alone) more
            (subst (λ now. AllByRecursion (Rooms index columns) (plain_rounds now rest)) (sym (line-settings s.change (with_rounds rounds recent))) room.1),
      )

module _ (change : Change) (words : Settings) (keeps : KeepsAlone change words) (alone : IsAlone words) where
  ended-room : (s : LoadedScript) (written : List Line) → ScriptFits change words (answered s) → (ends : EndsWell change words s written)
      → AllByRecursion (Rooms s.index s.columns) ends.answered.rounds
  ended-room s written fits ends =
      let start : Recent = record { settings = words; rounds = [] } in
      segments-room change words s.index s.columns keeps start s.segments ends.answered.rounds alone ends.answered.allowed
      (fits.1 (plain_rounds change words s.index s.columns keeps words s.segments) (rounds-answer change words s.index s.columns keeps start s.segments alone))

  pub ended-plain : (s : LoadedScript) (written : List Line) → ScriptFits change words (answered s) → (ends : EndsWell change words s written) → IsTrue (all_printed written)
      → ArePlain s ends.answered.rounds
  ended-plain s written fits ends printed = whole-plain change words s written ends printed (ended-room s written fits ends)

  whole-output : (script : Script) (status : ℕ) (written : List Line) → ScriptFits change words script → IsWholeOf change words script status written → IsTrue (all_printed written)
      → (status ≡ 0) × AreQuiet written
  whole-output (refused_script r) status written fits whole printed = absurd fits
  whole-output (heavy_script t) status written fits whole printed = absurd fits
  whole-output (answered s) status written fits whole printed =
      let well = only-status_0 change words s status written fits.0 whole in
      (well.0, whole-quiet change words s written well.1 printed (ended-room s written fits well.1))

  pub output-full : (input : List ℕ) (status : ℕ) (written : List Line) → HasRoomFor change words input → IsWhole change (Ok words) input status written → IsTrue (all_printed written)
      → (status ≡ 0) × AreQuiet written
  output-full input status written fits whole printed = whole-output (script_from words (loaded (lines (text_read words input)))) status written fits whole printed
