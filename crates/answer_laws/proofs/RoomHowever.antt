-- Rounds that have room when they are answered by the whole reduction have it however they are answered, where one worker runs one
-- search at a time or no search allows partial results.
use Rattle.std.specs.Prelude.{◌≡◌, refl, ◌≤◌, ◌⊎◌, ℕ, ◌+◌, ◌*◌, Bool, true, false, List, [], ◌∷◌, ◌++◌, map, option_map, option_to_list, sum, sum_by, zip, Option, Some, None, Result, Ok, Err, IfSome}
use Rattle.std.specs.List.{AllByRecursion}
use Rattle.std.proofs.Common.{◌∙◌, ap, sym, subst, inl, inr}
use Rattle.std.proofs.lemmas.Bool.{true≢false}
use Rattle.serde_json.specs.Data.{Data}
use Rattle.agg_model.specs.declared.breaker.Tripped.{Tripped}
use Rattle.agg_model.specs.declared.key.Key.{Key}
use Rattle.agg_model.specs.declared.aggregation.Search.{Search}
use Rattle.agg_model.specs.declared.outcome.Answered.{Answered}
use Rattle.agg_model.specs.declared.outcome.Failure.{Failure}
use Rattle.agg_model.specs.declared.outcome.Outcome.{Outcome}
use Rattle.agg_model.specs.declared.outcome.Outcome.TheVariants as ended
use Rattle.agg_model.specs.declared.outcome.Refused.{Refused}
use Rattle.agg_model.specs.declared.settings.Settings.{Settings}
use Rattle.list_laws.proofs.Each.{each-drop, each-map, each-take}
use Rattle.agg_spec.specs.Answers.{Change, Recent, IsAllowed, ArePages, AreRounds, AreAnswered, if_light, changed_to, after_change, page_after, after_line, with_rounds}
use Rattle.agg_spec.specs.Columns.{columns_refusal}
use Rattle.agg_spec.specs.Complete.{IsPlain, HasRoom, NoneTrips, WaveFits}
use Rattle.agg_spec.specs.Failures.{unfailed}
use Rattle.agg_spec.specs.Index.{Index, shard_numbers}
use Rattle.agg_spec.specs.Outcome.{Request, answer_of}
use Rattle.agg_spec.specs.Pages.{is_paged, last_key, next_page, next_search, request_after, search_after}
use Rattle.agg_spec.specs.Reduction.{batches}
use Rattle.agg_spec.specs.Requests.{Segment}
use Rattle.agg_spec.specs.Rounds.{Round, plain_answer, response_bytes}
use Rattle.agg_spec.specs.Statistics.{is_solo}
use Rattle.agg_spec.specs.Wave.{AreAllowed, MayAnswer, MayAnswerEach, MayAnswerWave, allows_partial, search_in, task_peaks, wave_ceiling}
use Rattle.answer_laws.specs.Completing.{AskForAll, KeepsWorkers, RoundHasRoom, TellRoom}
use Rattle.answer_laws.proofs.AnswerCounts.{AllowedBy, Formed}
use Rattle.answer_laws.proofs.Completing.{RoomBy}
use Rattle.answer_laws.proofs.PlainRounds.{plain_round, round_of}

-- the first of some waves, and those behind it
abbrev pub heads : List (List Request) → List Request
heads [] = []
heads (r ∷ rs) = r

abbrev pub tails : List (List Request) → List (List Request)
tails [] = []
tails (r ∷ rs) = rs

-- a search that allows no partial results has no failed shard
failures-none : (settings : Settings) (index : Index) (columns ceiling : ℕ) (r : Request) (failures : List Failure) → AreAllowed settings index columns ceiling r failures → allows_partial r.search ≡ false → failures ≡ []
failures-none settings index columns ceiling r [] allowed whole = refl
failures-none settings index columns ceiling r (f ∷ rest) allowed whole = absurd (true≢false (sym allowed.allowed ∙ whole))

-- so its response is that of all shards
responses-same : (settings : Settings) (index : Index) (columns ceiling : ℕ) (requests : List Request) (refusals : List (Option Tripped)) (answers : List Answered)
    → MayAnswerEach settings index columns ceiling requests refusals answers → AskForAll requests
    → map (λ p. response_bytes index settings p.0 p.1.failures) (zip requests answers) ≡ map (λ p. response_bytes index settings p.0 p.1.failures) (zip requests (map (plain_answer index settings) requests))
responses-same settings index columns ceiling [] refusals [] may whole = refl
responses-same settings index columns ceiling [] refusals (a ∷ answers) may whole = absurd may
responses-same settings index columns ceiling (r ∷ requests) [] answers may whole = absurd may
responses-same settings index columns ceiling (r ∷ requests) (t ∷ refusals) [] may whole = absurd may
responses-same settings index columns ceiling (r ∷ requests) (t ∷ refusals) (a ∷ answers) (first, later) (whole, rest) =
    λ i. response_bytes index settings r (failures-none settings index columns ceiling r a.failures (allowed-of t first) whole i) ∷ responses-same settings index columns ceiling requests refusals answers later rest i
  where
    allowed-of : (t : Option Tripped) → MayAnswer settings index columns ceiling r t a → AreAllowed settings index columns ceiling r a.failures
    allowed-of None may = may.0
    allowed-of (Some x) may = may.0

module _ (index : Index) (columns : ℕ) where
  -- the room of a round does not depend on how it is answered
  room-alike : (now : Settings) (requests : List Request) (answers : List Answered) → IsAllowed index columns (round_of index columns now requests answers) → TellRoom now requests
      → HasRoom index columns (plain_round index columns now requests) → HasRoom index columns (round_of index columns now requests answers)
  room-alike now requests answers may tells room = by (is_solo now) refl
    where
      here : Round
      here = round_of index columns now requests answers

      plain : Round
      plain = plain_round index columns now requests

      by : (b : Bool) → is_solo now ≡ b → HasRoom index columns here
      by true solo =
          let none : NoneTrips index columns here = subst (RoomBy index columns plain) solo room in
          subst (RoomBy index columns here) (sym solo) none
      by false several = subst (RoomBy index columns here) (sym several) (fits tells)
        where
          fits : (is_solo now ≡ true) ⊎ AskForAll requests → WaveFits index columns here
          fits (inl solo) = absurd (true≢false (sym solo ∙ several))
          fits (inr whole) =
              let has : WaveFits index columns plain = subst (RoomBy index columns plain) several room in
              let allowed : MayAnswerWave now index columns requests answers = subst (AllowedBy index columns here) several may in
              let same : wave_ceiling now index columns requests answers ≡ wave_ceiling now index columns requests (map (plain_answer index now) requests) =
              ap (λ rs. columns + sum_by (λ r. 2 * r.bytes + 2 * sum (task_peaks index (search_in now index columns r) (shard_numbers index))) requests + sum rs)
              (responses-same now index columns (wave_ceiling now index columns requests answers) requests _ answers allowed whole) in
              record {
                at_request = subst (λ n. n ≤ now.limits.request) (sym same) has.at_request;
                at_parent = subst (λ n. n ≤ now.limits.parent) (sym same) has.at_parent;
                bodies = has.bodies;
              }

  abbrev whole_request : Request → Type 0
  whole_request r = allows_partial r.search ≡ false

  abbrev asked_by : ℕ → Search → Request
  asked_by bytes s = record { bytes = bytes; search = Ok s }

  search-whole : (bytes : ℕ) (left : List ℕ) (s : Search) → s.partial ≡ false → (b : Bool) → IfSome (option_map (asked_by bytes) (next_search index left b s)) whole_request
  search-whole bytes left s whole false = tt
  search-whole bytes left s whole true = by_key (last_key (answer_of index s left).nodes)
    where
      by_key : (k : Option Key) → IfSome (option_map (asked_by bytes) (option_map (search_after s) k)) whole_request
      by_key None = tt
      by_key (Some key) = whole

  body-whole : (bytes : ℕ) (left : List ℕ) (found : Result Search Refused) → allows_partial found ≡ false → IfSome (request_after index left bytes found) whole_request
  body-whole bytes left (Err x) whole = tt
  body-whole bytes left (Ok s) whole = search-whole bytes left s whole (is_paged s.aggs)

  page-whole : (r : Request) (failures : List Failure) (o : Outcome) → whole_request r → IfSome (next_page index r o failures) whole_request
  page-whole r failures (ended.Response line) whole = body-whole r.bytes (unfailed index failures) r.search whole
  page-whole r failures (ended.Refused x) whole = tt
  page-whole r failures (ended.Tripped t) whole = tt
  page-whole r failures ended.Memory whole = tt

  -- the next page allows what its body does
  next-whole : (r : Request) (answers : List Answered) → whole_request r → IfSome (page_after index columns r answers) whole_request
  next-whole r [] whole = tt
  next-whole r (a ∷ []) whole = page-whole r a.failures a.outcome whole
  next-whole r (a ∷ b ∷ rest) whole = tt

  next-tells : (now : Settings) (r : Request) (rest : List Request) (answers : List Answered) → TellRoom now (r ∷ rest) → TellRoom now (option_to_list (page_after index columns r answers) ++ rest)
  next-tells now r rest answers (inl solo) = inl solo
  next-tells now r rest answers (inr (whole, later)) = inr (by (page_after index columns r answers) (next-whole r answers whole))
    where
      by : (o : Option Request) → IfSome o (λ q. allows_partial q.search ≡ false) → AskForAll (option_to_list o ++ rest)
      by None h = later
      by (Some q) h = (h, later)

  abbrev Rooms : List Round → Type 0
  Rooms = AllByRecursion (HasRoom index columns)

  abbrev IsMeant : Settings → Round → Type 0
  IsMeant now round = (round.settings ≡ now) × IsPlain index columns round

  first-tells : (now : Settings) (r : Request) (rest : List Request) → TellRoom now (r ∷ rest) → TellRoom now (r ∷ [])
  first-tells now r rest (inl solo) = inl solo
  first-tells now r rest (inr (whole, later)) = inr (whole, tt)

  -- a plain round that has room has it however it is answered
  round-however : (now : Settings) (requests : List Request) (round : Round) → IsMeant now round → round.requests ≡ requests → TellRoom now requests → HasRoom index columns round → RoundHasRoom index columns round
  round-however now requests round (is, plain) asks tells room answers may =
      let plain_is : round ≡ plain_round index columns round.settings round.requests = ap (round_of index columns round.settings round.requests) plain in
      let here : TellRoom round.settings round.requests = subst (λ s. TellRoom s round.requests) (sym is) (subst (TellRoom now) (sym asks) tells) in
      room-alike round.settings round.requests answers may here (subst (HasRoom index columns) plain_is room)

  pages-however : (now : Settings) (requests : List Request) (rounds : List Round) → AllByRecursion (IsMeant now) rounds → ArePages index columns requests rounds → TellRoom now requests → Rooms rounds
      → AllByRecursion (RoundHasRoom index columns) rounds
  pages-however now [] [] plain asks tells room = tt
  pages-however now [] (round ∷ rounds) plain asks tells room = absurd asks
  pages-however now (r ∷ rest) [] plain asks tells room = absurd asks
  pages-however now (r ∷ rest) (round ∷ rounds) plain asks tells room = (
    round-however now (r ∷ []) round plain.0 asks.0 (first-tells now r rest tells) room.0,
    pages-however now (option_to_list (page_after index columns r round.answers) ++ rest) rounds plain.1 asks.1 (next-tells now r rest round.answers tells) room.1,
  )

  waves-however : (now : Settings) (waves : List (List Request)) (rounds : List Round) → AllByRecursion (IsMeant now) rounds → map (λ (r : Round). r.requests) rounds ≡ waves → AllByRecursion (TellRoom now) waves
      → Rooms rounds → AllByRecursion (RoundHasRoom index columns) rounds
  waves-however now waves [] plain asks tells room = tt
  waves-however now [] (round ∷ rounds) plain asks tells room = absurd (let no : ⊥ = cc in no)
  waves-however now (wave ∷ waves) (round ∷ rounds) plain asks tells room =
      (round-however now wave round plain.0 (ap heads asks) tells.0 room.0, waves-however now waves rounds plain.1 (ap tails asks) tells.1 room.1)

  wave-tells : (now : Settings) (requests : List Request) → TellRoom now requests → AllByRecursion (TellRoom now) (batches now.width requests)
  wave-tells now requests (inl solo) = each-map (TellRoom now) _ _ (λ i. inl solo)
  wave-tells now requests (inr whole) =
      each-map (TellRoom now) _ _ (λ i. inr (each-take (λ r. allows_partial r.search ≡ false) now.width _ (each-drop (λ r. allows_partial r.search ≡ false) (i * now.width) requests whole)))

  rounds-however : (now : Settings) (requests : List Request) (rounds : List Round) → AreRounds index columns (IsPlain index columns) now requests rounds → TellRoom now requests → Rooms rounds
      → AllByRecursion (RoundHasRoom index columns) rounds
  rounds-however now requests rounds are tells room = by now.scan refl
    where
      by : (b : Bool) → now.scan ≡ b → AllByRecursion (RoundHasRoom index columns) rounds
      by true scan = pages-however now requests rounds are.each (subst (Formed index columns now requests rounds) scan are.form) tells room
      by false waves = waves-however now (batches now.width requests) rounds are.each (subst (Formed index columns now requests rounds) waves are.form) (wave-tells now requests tells) room

module _ (change : Change) (words : Settings) (index : Index) (columns : ℕ) (keeps : KeepsWorkers change words) where
  light-solo : (o : Option Tripped) (after : Settings) (recent : Recent) → is_solo after ≡ is_solo recent.settings → is_solo (after_change (if_light after o) recent).settings ≡ is_solo recent.settings
  light-solo None after recent same = same
  light-solo (Some t) after recent same = refl

  changed-solo : (r : Result Settings (List ℕ)) (line : Data) (recent : Recent) → change recent.settings words line ≡ r → is_solo (after_change (changed_to columns r) recent).settings ≡ is_solo recent.settings
  changed-solo (Err name) line recent same = refl
  changed-solo (Ok after) line recent same = light-solo (columns_refusal after.limits columns) after recent (keeps recent.settings after line same)

  line-solo : (c : Option Data) (recent : Recent) → is_solo (after_line change words index columns c recent).settings ≡ is_solo recent.settings
  line-solo None recent = refl
  line-solo (Some line) recent = changed-solo (change recent.settings words line) line recent refl

  -- the searches of these segments tell whether they have room
  abbrev pub TellEach : Settings → List Segment → Type 0
  TellEach now segments = (is_solo now ≡ true) ⊎ AllByRecursion (λ segment. AskForAll segment.requests) segments

  first-segment : (now : Settings) (s : Segment) (rest : List Segment) → TellEach now (s ∷ rest) → TellRoom now s.requests
  first-segment now s rest (inl solo) = inl solo
  first-segment now s rest (inr whole) = inr whole.0

  later-segments : (now next : Settings) (s : Segment) (rest : List Segment) → is_solo next ≡ is_solo now → TellEach now (s ∷ rest) → TellEach next rest
  later-segments now next s rest same (inl solo) = inl (same ∙ solo)
  later-segments now next s rest same (inr whole) = inr whole.1

  pub segments-however : (recent : Recent) (segments : List Segment) (rounds : List (List Round)) → AreAnswered change words index columns (IsPlain index columns) recent segments rounds → TellEach recent.settings segments
      → AllByRecursion (AllByRecursion (HasRoom index columns)) rounds → AllByRecursion (AllByRecursion (RoundHasRoom index columns)) rounds
  segments-however recent segments [] are tells room = tt
  segments-however recent [] (rounds ∷ later) are tells room = absurd are
  segments-however recent (s ∷ rest) (rounds ∷ later) are tells room =
      let now = with_rounds rounds recent in
      let next = after_line change words index columns s.change now in (
        rounds-however index columns recent.settings s.requests rounds are.0 (first-segment recent.settings s rest tells) room.0,
        segments-however next rest later are.1 (later-segments recent.settings next.settings s rest (line-solo s.change now) tells) room.1,
      )
