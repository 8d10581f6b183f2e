-- What was written of a script that was loaded, by how its third section ended.
use Rattle.std.specs.Prelude.{◌≡◌, ◌≤◌, ℕ, Bool, List, [], ◌∷◌, ◌++◌, take, Option, Some, None, is_some, option_map, Ok, Err}
use Rattle.std.proofs.Common.{inl, inr, refl, ◌∙◌, sym, ap, subst}
use Rattle.agg_bulk.specs.Indexing.{IsLoaded}
use Rattle.fitting_laws.specs.Indexes.{index_of}
use Rattle.agg_bulk.specs.declared.index.LoadedIndex.{LoadedIndex}
use Rattle.agg_listen.specs.Hearing.{Hearing}
use Rattle.agg_model.specs.Lines.{Line as InputLine, lines}
use Rattle.agg_model.specs.declared.settings.Settings.{Settings}
use Rattle.agg_reading.specs.Entries.{Entries, entries, no_more}
use Rattle.agg_reading.specs.Lines.{Place}
use Rattle.agg_reading.specs.Script.{Loaded, loaded}
use Rattle.agg_settings.specs.Changes.{changed}
use Rattle.agg_spec.specs.Answers.{Recent}
use Rattle.agg_spec.specs.Columns.{columns_charge, columns_refusal}
use Rattle.agg_spec.specs.Index.{Index}
use Rattle.agg_spec.specs.Output.{Script, answered, if_light, script_from, whole_lines, At3}
use Rattle.agg_spec.specs.Requests.{LoadedScript, loaded_script, loaded_index}
use Rattle.agg_model.specs.declared.bulk.Item.{Item}
use Rattle.agg_spec.specs.BulkLine.{bulk_line}
use Rattle.agg_spec.specs.Written.{Line, bulk, text_of}
use Rattle.script_answers.specs.Outputs.{Output, so_far}
use Rattle.script_answers.specs.Puts.{Stops}
use Rattle.script_answers.specs.Steps.{WroteLines, Wrote}
use Rattle.script_answers.specs.declared.end.ScriptEnd.{ScriptEnd}
use Rattle.script_answers.specs.declared.end.ScriptEnd.TheVariants as ended
use Rattle.script_answers.specs.declared.stop.Stop.{Stop}
use Rattle.script_answers.specs.declared.stop.Stop.TheVariants.{Write, Memory}
use Rattle.script_answers.proofs.Putting.{wrote-append, front-append}
use Rattle.script_lines.specs.Reading.{GoesOnAt, then_entries}
use Rattle.script_run.specs.Ends.{status_of, ended_by}
use Rattle.script_run.specs.Runs.{WroteBy, WroteOf, script_of, IsCutOf}
use Rattle.script_run.specs.declared.status.Status.{Status}
use Rattle.script_run.proofs.Fronts.{behind_front, behind-front}
use Rattle.script_run.proofs.Outputs.{fresh, first_line, left_of, ends-well, ends-early, ends-refused, cut-rest, cut-first}
use Rattle.script_run.proofs.Unread.{seen-behind}

-- the columns are light, so the script is answered
light-script : (words : Settings) (l : Loaded) → columns_refusal words.limits (columns_charge (loaded_index l)) ≡ None → script_from words (Ok l) ≡ answered (loaded_script l)
light-script words l light = ap (if_light (loaded_script l)) light

module _ (words : Settings) (l : Loaded) (bytes : List ℕ) (read : ℕ) (before mid after : Output) (script : script_of words bytes ≡ answered (loaded_script l))
    (wrote : WroteLines before mid (first_line words (loaded_script l) ∷ [])) where
  abbrev s : LoadedScript
  s = loaded_script l

  abbrev seen : List InputLine
  seen = whole_lines (take read bytes)

  abbrev EndedBy : Entries → Entries → ScriptEnd → Type 0
  EndedBy left rest_read end = Wrote changed words s.index s.columns (fresh words s) left rest_read end mid after

  abbrev By : Status → Script → Type 0
  By status whole = WroteBy words whole (script_from words (loaded seen)) status before after

  -- by how the third section ended, but where the source failed
  pub section-ended : (rest_read : Entries) (end : ScriptEnd) → EndedBy (left_of l) rest_read end → (end ≡ ended.Read → ⊥) → WroteOf words bytes read (status_of end) before after
  section-ended rest_read ended.Finished out others = subst (By (status_of ended.Finished)) (sym script) (
    first_line words s ∷ out.0,
    wrote-append before mid after (first_line words s ∷ []) out.0 wrote out.1,
    inl (refl, ends-well words s (left_of l) refl refl out.0 out.2),
  )
  section-ended rest_read ended.Refused out others = subst (By (status_of ended.Refused)) (sym script) (
    first_line words s ∷ out.0,
    wrote-append before mid after (first_line words s ∷ []) out.0 wrote out.1,
    inr (inl (refl, ends-refused words s (left_of l) refl refl out.0 out.2)),
  )
  section-ended rest_read ended.Write out others = subst (By (status_of ended.Write)) (sym script) (
    first_line words s ∷ out.0,
    out.1,
    front-append before mid after (first_line words s ∷ []) out.0 wrote out.1 out.2,
    cut-rest words s (left_of l) refl refl out.0 out.1 out.3,
  )
  section-ended rest_read ended.Memory out others = subst (By (status_of ended.Memory)) (sym script) (
    first_line words s ∷ out.0,
    out.1,
    wrote-append before mid after (first_line words s ∷ []) out.0 wrote out.2,
    cut-rest words s (left_of l) refl refl out.0 out.1 out.3,
  )
  section-ended rest_read ended.Read out others = absurd (others refl)

  -- the source failed behind the lines that were loaded
  pub section-unread : (later : List InputLine) → loaded seen ≡ Ok (record l { rest = later }) → columns_refusal words.limits (columns_charge (loaded_index l)) ≡ None
      → (whole : Entries) → EndedBy whole (entries l.place later) ended.Read → WroteOf words bytes read (status_of ended.Read) before after
  section-unread later is light whole out =
      let now : Loaded = record l { rest = later } in
      let at : script_from words (loaded seen) ≡ answered (loaded_script now) = ap (script_from words) is ∙ light-script words now light in (
        first_line words s ∷ out.0,
        wrote-append before mid after (first_line words s ∷ []) out.0 wrote out.1,
        subst (λ (x : Script). At3 changed words x (first_line words s ∷ out.0)) (sym at) (ends-early words (loaded_script now) (left_of now) refl refl [] out.0 out.2),
      )

-- what was answered of a script by who sees its index so
pub record Answers (words : Settings) (bytes : List ℕ) (read : ℕ) (place : Place) (left : Option (List ℕ)) (count : ℕ) (is_ended : Bool) (end : ScriptEnd) (mid after : Output) : Type 0 where
  pub index : Index
  pub columns : ℕ
  pub recent : Recent
  pub output : (whole : List InputLine → Entries) → GoesOnAt whole bytes (then_entries [] place) left count is_ended
      → Wrote changed words index columns recent (whole (lines bytes)) (whole (whole_lines (take read bytes))) end mid after

module _ (words : Settings) (bytes known : List ℕ) (heard : Hearing) (read : ℕ) (built : LoadedIndex) (place : Place) (left : Option (List ℕ)) (count : ℕ) (is_ended : Bool)
    (is : IsLoaded bytes built place left count is_ended) (light : columns_refusal words.limits (columns_charge (index_of built.index)) ≡ None) where
  abbrev begun : Output
  begun = so_far (Some known) heard

  abbrev l : Loaded
  l = is.defined

  light-here : columns_refusal words.limits (columns_charge (loaded_index l)) ≡ None
  light-here = ap (λ (i : Index). columns_refusal words.limits (columns_charge i)) (sym is.index) ∙ light

  script-here : script_of words bytes ≡ answered (loaded_script l)
  script-here = ap (script_from words) is.script ∙ light-script words l light-here

  -- the entries behind what was loaded, whatever else there may be
  abbrev whole_by : Entries → List InputLine → Entries
  whole_by others = behind_front is.goes_on.front l.place others

  whole-goes-on : (others : Entries) → GoesOnAt (whole_by others) bytes (then_entries [] place) left count is_ended
  whole-goes-on others = record {
    front = is.goes_on.front;
    handed = is.goes_on.handed;
    same = λ later. behind-front is.goes_on.front later l.place others ∙ ap (λ (p : Place). entries p later) (sym is.stands);
  }

  some-is : {A : Type 0} (x y : A) → Some x ≡ Some y → x ≡ y
  some-is x y h = cc

  rest-here : lines is.goes_on.handed.rest ≡ l.rest
  rest-here = some-is _ _ (ap (option_map lines) (sym is.goes_on.handed.to_come) ∙ is.rest)

  whole-here : (others : Entries) → whole_by others (lines bytes) ≡ left_of l
  whole-here others =
      ap (whole_by others) is.goes_on.handed.lines ∙ behind-front is.goes_on.front (lines is.goes_on.handed.rest) l.place others ∙ ap (entries l.place) rest-here

  abbrev first : Line
  first = first_line words (loaded_script l)

  -- the line that is written is that of the definitions
  written-first : (is_generated : Bool) → is_generated ≡ is_some words.generate → bulk (bulk_line built.index.name built.items is_generated) ≡ first
  written-first is_generated same =
      ap (λ (b : Bool). bulk (bulk_line built.index.name built.items b)) same
      ∙ ap (λ (i : Index). bulk (bulk_line i.name built.items (is_some words.generate))) is.index
      ∙ ap (λ (items : List Item). bulk (bulk_line (loaded_index l).name items (is_some words.generate))) is.items

  pub wrote-first : (mid : Output) (is_generated : Bool) → is_generated ≡ is_some words.generate
      → WroteLines begun mid (bulk (bulk_line built.index.name built.items is_generated) ∷ []) → WroteLines begun mid (first ∷ [])
  wrote-first mid is_generated same wrote = subst (λ (line : Line). WroteLines begun mid (line ∷ [])) (written-first is_generated same) wrote

  module _ (mid after : Output) (wrote : WroteLines begun mid (first_line words (loaded_script l) ∷ [])) (end : ScriptEnd)
      (answers : Answers words bytes read place left count is_ended end mid after) (index_is : answers.index ≡ index_of built.index)
      (columns_is : answers.columns ≡ columns_charge (index_of built.index)) (recent_is : answers.recent ≡ fresh words (loaded_script l)) (some : 1 ≤ words.width) where
    index-here : answers.index ≡ loaded_index l
    index-here = index_is ∙ is.index

    columns-here : answers.columns ≡ columns_charge (loaded_index l)
    columns-here = columns_is ∙ ap columns_charge is.index

    -- by each reading of the entries
    out-by : (others : Entries) → Wrote changed words (loaded_index l) (columns_charge (loaded_index l)) (fresh words (loaded_script l)) (left_of l) (whole_by others (whole_lines (take read bytes))) end mid after
    out-by others =
        let seen = whole_by others (whole_lines (take read bytes)) in
        subst (λ (e : Entries). Wrote changed words (loaded_index l) (columns_charge (loaded_index l)) (fresh words (loaded_script l)) e seen end mid after) (whole-here others)
        (subst (λ (i : Index). Wrote changed words i (columns_charge (loaded_index l)) (fresh words (loaded_script l)) (whole_by others (lines bytes)) seen end mid after) index-here
        (subst (λ (n : ℕ). Wrote changed words answers.index n (fresh words (loaded_script l)) (whole_by others (lines bytes)) seen end mid after) columns-here
        (subst (λ (r : Recent). Wrote changed words answers.index answers.columns r (whole_by others (lines bytes)) seen end mid after) recent_is
        (answers.output (whole_by others) (whole-goes-on others)))))

    abbrev OutBy : Entries → ScriptEnd → Type 0
    OutBy others e = Wrote changed words (loaded_index l) (columns_charge (loaded_index l)) (fresh words (loaded_script l)) (left_of l) (whole_by others (whole_lines (take read bytes))) e mid after

    unread-at : (later : (ls : List InputLine) × (whole_lines (take read bytes) ≡ is.goes_on.front ++ ls)) → OutBy no_more ended.Read → WroteOf words bytes read (status_of ended.Read) begun after
    unread-at later out =
        section-unread words l bytes read begun mid after script-here wrote later.0
        (ap loaded later.1 ∙ is.goes_on.same later.0) light-here (left_of l)
        (subst (λ (e : Entries). Wrote changed words (loaded_index l) (columns_charge (loaded_index l)) (fresh words (loaded_script l)) (left_of l) e ended.Read mid after)
        (ap (whole_by no_more) later.1 ∙ behind-front is.goes_on.front later.0 l.place no_more) out)

    mid-is : mid ≡ so_far (Some (known ++ text_of (first_line words (loaded_script l) ∷ []))) mid.hearing
    mid-is = ap (λ (o : Option (List ℕ)). so_far o mid.hearing) wrote.text

    unread : ((others : Entries) → OutBy others ended.Read) → WroteOf words bytes read (status_of ended.Read) begun after
    unread outs = unread-at
        (seen-behind words (loaded_index l) (columns_charge (loaded_index l)) (fresh words (loaded_script l)) (known ++ text_of (first_line words (loaded_script l) ∷ [])) mid.hearing after
        is.goes_on.front (whole_lines (take read bytes)) l.place some
        (λ others. let out = outs others in (out.0, subst (λ (o : Output). WroteLines o after out.0) mid-is out.1, out.2))) (outs no_more)

    by-end : (e : ScriptEnd) → ((others : Entries) → OutBy others e) → WroteOf words bytes read (status_of e) begun after
    by-end ended.Finished outs = section-ended words l bytes read begun mid after script-here wrote no_more ended.Finished (outs no_more) (λ h. cc)
    by-end ended.Refused outs = section-ended words l bytes read begun mid after script-here wrote no_more ended.Refused (outs no_more) (λ h. cc)
    by-end ended.Write outs = section-ended words l bytes read begun mid after script-here wrote no_more ended.Write (outs no_more) (λ h. cc)
    by-end ended.Memory outs = section-ended words l bytes read begun mid after script-here wrote no_more ended.Memory (outs no_more) (λ h. cc)
    by-end ended.Read outs = unread outs

    -- the third section was answered behind the line of the bulk actions
    pub answered-behind : WroteOf words bytes read (status_of end) begun after
    answered-behind = by-end end out-by

  -- of one line that was not written whole the next line is that line
  single : (done others : List Line) (line next : Line) → line ∷ [] ≡ done ++ next ∷ others → (done ≡ []) × (next ≡ line)
  single [] others line next is_one = (refl, cc)
  single (d ∷ []) others line next is_one = absurd (let no : ⊥ = cc in no)
  single (d ∷ e ∷ ds) others line next is_one = absurd (let no : ⊥ = cc in no)

  cut-here : (done : List Line) (next : Line) → (done ≡ []) × (next ≡ first) → IsCutOf words (script_of words bytes) done next
  cut-here done next (none, same) =
      subst (λ (x : Script). IsCutOf words x done next) (sym script-here)
      (subst (λ (ls : List Line). IsCutOf words (answered (loaded_script l)) ls next) (sym none)
      (subst (λ (line : Line). IsCutOf words (answered (loaded_script l)) [] line) (sym same) (cut-first words (loaded_script l) (left_of l) refl refl)))

  stops-here : (after : Output) (stop : Stop) (status : Status) → Stops begun after (first ∷ []) stop → WroteOf words bytes read (ended_by (Err stop) status) begun after
  stops-here after Write status stops = (stops.done, stops.next, stops.wrote, cut-here stops.done stops.next (single stops.done stops.others first stops.next stops.are))
  stops-here after Memory status stops = (stops.done, stops.next, stops.wrote, cut-here stops.done stops.next (single stops.done stops.others first stops.next stops.are))

  -- the line of the bulk actions was not written
  pub first-stops : (after : Output) (stop : Stop) (status : Status) (is_generated : Bool) → is_generated ≡ is_some words.generate
      → Stops begun after (bulk (bulk_line built.index.name built.items is_generated) ∷ []) stop → WroteOf words bytes read (ended_by (Err stop) status) begun after
  first-stops after stop status is_generated same stops =
      stops-here after stop status (subst (λ (line : Line). Stops begun after (line ∷ []) stop) (written-first is_generated same) stops)
