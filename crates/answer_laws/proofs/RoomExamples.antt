-- Whether a script has room by its settings, computed: with one worker, and side by side.
use Rattle.std.specs.Prelude.{◌≡◌, refl, ◌≤◌, ℕ, Bool, true, false, List, [], ◌∷◌, map, length, codes}
use Rattle.std.specs.List.{AllByRecursion}
use Rattle.std.proofs.Common.{◌∙◌, ap, sym, subst, inr, lit≤, arith}
use Rattle.agg_model.specs.declared.settings.Settings.{Settings}
use Rattle.agg_model.specs.declared.outcome.Answered.{Answered}
use Rattle.agg_spec.specs.Answers.{Change, AreAnswered, ArePages, AreWaves}
use Rattle.agg_spec.specs.Charges.{Amounts}
use Rattle.agg_spec.specs.Complete.{IsPlain, HasRoom, HasRoomFor, ScriptFits}
use Rattle.agg_spec.specs.Index.{Index}
use Rattle.agg_spec.specs.Outcome.{Request}
use Rattle.agg_spec.specs.Reduction.{batches}
use Rattle.agg_spec.specs.Requests.{LoadedScript}
use Rattle.agg_spec.specs.Rounds.{Round, plain_answer}
use Rattle.agg_spec.proofs.Samples.{request_limit}
use Rattle.answer_laws.specs.Completing.{HasRoomHowever, KeepsWorkers, TellsRoom}
use Rattle.answer_laws.proofs.FullRuns.{room-however}
use Rattle.answer_laws.proofs.Scripts.{all_created, searches, script}
use Rattle.answer_laws.proofs.Runs.{Reads, no_change, started}
use Rattle.answer_laws.proofs.SettingsLineExamples.{two_words, terms}
use Rattle.agg_reading.proofs.Computing.{computing as reading_computing}
use Rattle.agg_spec.proofs.Computing.{computing}

-- a script of one wave
module _ (change : Change) (words : Settings) (index : Index) (columns : ℕ) (requests : List Request) where
  abbrev Room : Settings → List Request → List Answered → Type 0
  Room now asked answers = HasRoom index columns (record { settings = now; requests = asked; answers = answers })

  abbrev Formed : List Round → Bool → Type 0
  Formed rounds b = elim b [ true ↦ ArePages index columns requests rounds | false ↦ AreWaves index columns words.width requests rounds ]

  abbrev Rooms : List (List Round) → Type 0
  Rooms rounds = AllByRecursion (AllByRecursion (HasRoom index columns)) rounds

  abbrev first-of : List (List Request) → List Request
  first-of [] = []
  first-of (wave ∷ waves) = wave

  wave-room : (rounds : List Round) → map (λ (r : Round). r.requests) rounds ≡ requests ∷ []
      → AllByRecursion (λ round. (round.settings ≡ words) × IsPlain index columns round) rounds → Room words requests (map (plain_answer index words) requests)
      → AllByRecursion (HasRoom index columns) rounds
  wave-room [] form each room = tt
  wave-room (round ∷ []) form ((now, plain), rest) room =
      let asked : round.requests ≡ requests = ap first-of form in
      let answers : round.answers ≡ map (plain_answer index words) requests =
      plain ∙ (ap (λ s. map (plain_answer index s) round.requests) now ∙ ap (map (plain_answer index words)) asked) in
      (subst (λ s. Room s round.requests round.answers) (sym now) (subst (λ q. Room words q round.answers) (sym asked) (subst (Room words requests) (sym answers) room)), tt)
  wave-room (first ∷ second ∷ rounds) form each room = let two = ap length form in absurd (let no : ⊥ = omega (arith, two) in no)

  one-wave : words.scan ≡ false → batches words.width requests ≡ requests ∷ [] → Room words requests (map (plain_answer index words) requests) → (rounds : List (List Round))
      → AreAnswered change words index columns (IsPlain index columns) (started words) (searches requests) rounds → Rooms rounds
  one-wave no_scan whole room [] answered = absurd answered
  one-wave no_scan whole room (rounds ∷ []) (are, rest) = (wave-room rounds (subst (Formed rounds) no_scan are.form ∙ whole) are.each room, tt)
  one-wave no_scan whole room (rounds ∷ more ∷ later) (are, rest) = absurd rest

-- one search of two words
abbrev one_search : List ℕ
one_search = codes "{\"index\":\"i\",\"mappings\":{\"properties\":{\"b\":{\"type\":\"boolean\"},\"n\":{\"type\":\"long\"},\"t\":{\"type\":\"keyword\"}}},\"settings\":{\"number_of_shards\":1}}\n\n{\"index\":{}}\n{\"t\":\"a\"}\n{\"index\":{}}\n{\"t\":\"b\"}\n\n{}\n{\"aggs\":{\"t\":{\"terms\":{\"field\":\"t\"}}}}\n"

abbrev one_term : LoadedScript
one_term = script two_words (all_created 2) 19 (searches (terms ∷ []))

one_search_is_read : Reads (request_limit 4866) one_search one_term
unfolding computing reading_computing
one_search_is_read = refl

too_low_is_read : Reads (request_limit 4865) one_search one_term
unfolding computing reading_computing
too_low_is_read = refl

-- the task holds 4866 bytes at most
one_worker_has_room : HasRoomFor no_change (request_limit 4866) one_search
unfolding computing
one_worker_has_room =
    subst (ScriptFits no_change (request_limit 4866)) (sym one_search_is_read)
    (refl, one-wave no_change (request_limit 4866) two_words 19 (terms ∷ []) refl refl (refl, tt))

one_byte_less_is_no_room : HasRoomFor no_change (request_limit 4865) one_search → ⊥
unfolding computing
one_byte_less_is_no_room room =
    let fits = (subst (ScriptFits no_change (request_limit 4865)) too_low_is_read room).1 in
    let plain : Round = record { settings = request_limit 4865; requests = terms ∷ []; answers = plain_answer two_words (request_limit 4865) terms ∷ [] } in
    let none = (fits ((plain ∷ []) ∷ []) (record { form = refl; each = ((refl, refl), tt) }, tt)).0.0.0 in
    let trips : 1 ≡ 0 = ap (λ (a : Amounts). a.request) none in
    omega (arith, trips)

-- with two workers the ceiling of the wave counts: the columns, the body, twice the peak of the task, and the response
abbrev two_workers : ℕ → Settings
two_workers limit = record (request_limit limit) { workers = 2 }

wave_is_read : Reads (two_workers 10143) one_search one_term
unfolding computing reading_computing
wave_is_read = refl

low_wave_is_read : Reads (two_workers 10142) one_search one_term
unfolding computing reading_computing
low_wave_is_read = refl

two_workers_have_room : HasRoomFor no_change (two_workers 10143) one_search
unfolding computing
two_workers_have_room =
    subst (ScriptFits no_change (two_workers 10143)) (sym wave_is_read)
    (refl, one-wave no_change (two_workers 10143) two_words 19 (terms ∷ []) refl refl (record { at_request = lit≤ tt; at_parent = lit≤ tt; bodies = lit≤ tt }))

a_limit_below_the_ceiling_is_no_room : HasRoomFor no_change (two_workers 10142) one_search → ⊥
unfolding computing
a_limit_below_the_ceiling_is_no_room room =
    let fits = (subst (ScriptFits no_change (two_workers 10142)) low_wave_is_read room).1 in
    let plain : Round = record { settings = two_workers 10142; requests = terms ∷ []; answers = plain_answer two_words (two_workers 10142) terms ∷ [] } in
    let within : 10143 ≤ 10142 = (fits ((plain ∷ []) ∷ []) (record { form = refl; each = ((refl, refl), tt) }, tt)).0.0.at_request in
    omega (arith, within)

-- its search allows no partial results, so there is room however it is answered
no_line_is_understood : KeepsWorkers no_change (two_workers 10143)
no_line_is_understood now after line is = let no : ⊥ = cc in absurd no

they_have_room_however_it_is_answered : HasRoomHowever no_change (two_workers 10143) one_search
unfolding computing
they_have_room_however_it_is_answered =
    room-however no_change (two_workers 10143) one_search no_line_is_understood two_workers_have_room (subst (TellsRoom (two_workers 10143)) (sym wave_is_read) (inr ((refl, tt), tt)))
