-- A run that has room answers all by the whole reduction and ends with status 0, unless memory runs out.
use Rattle.std.specs.Prelude.{◌≡◌, ◌≢◌, refl, ◌⊎◌, ℕ, IsTrue, List, [], ◌∷◌, ◌++◌, Ok, None}
use Rattle.std.specs.List.{AllByRecursion}
use Rattle.std.proofs.Common.{◌∙◌, ap, sym, subst, inl, inr}
use Rattle.agg_model.specs.declared.settings.Settings.{Settings}
use Rattle.agg_model.specs.Lines.{lines}
use Rattle.agg_reading.specs.Script.{loaded}
use Rattle.list_laws.proofs.Lists.{append-nil}
use Rattle.agg_spec.specs.Answers.{Change, Recent}
use Rattle.agg_spec.specs.Complete.{HasRoomFor, ScriptFits}
use Rattle.agg_spec.specs.Output.{At4, At7, EndsWell, IsCut, IsOutput, IsStopped, IsWhole, IsWholeOf, Script, answered, refused, text_read, too_heavy}
use Rattle.agg_spec.specs.Requests.{LoadedScript}
use Rattle.agg_spec.specs.Written.{Line, all_printed}
use Rattle.answer_laws.specs.Completing.{AreQuiet, HasRoomHowever, RoundHasRoom, ScriptHasRoom, HasPlainAnswers, HaveRoom, IsAnsweredInFull, IsInFullUnlessMemory, IsPlainWithRoom, KeepsWorkers, TellsRoom, script_of}
use Rattle.answer_laws.proofs.Completing.{ended-printed, only-status_0, whole-plain, whole-quiet}
use Rattle.answer_laws.proofs.LoadedFits.{script-fits}
use Rattle.answer_laws.proofs.QuietFronts.{until-front, whole-until}
use Rattle.answer_laws.proofs.RoomHowever.{segments-however}
use Rattle.answer_laws.proofs.SameRounds.{segments-room, segments-same}
use Rattle.answer_laws.proofs.ScanEnds.{plain-answers}

-- an output that neither the source nor the sink ended is whole, or ended for want of memory
unless-memory : (change : Change) (words : Settings) (input : List ℕ) (read status : ℕ) (written : List Line) (piece : List ℕ) → IsOutput change (Ok words) input read status written piece
    → status ≢ 3 → status ≢ 4 → (IsWhole change (Ok words) input status written × (piece ≡ [])) ⊎ (status ≡ 7)
unless-memory change words input read status written piece output not_3 not_4 = by output.by_status
  where
    by : (IsWhole change (Ok words) input status written × (piece ≡ []))
        ⊎ (((status ≡ 3) × IsStopped change (Ok words) input read written × (piece ≡ []))
        ⊎ (((status ≡ 4) × At4 change (Ok words) input written piece) ⊎ ((status ≡ 7) × At7 change (Ok words) input written × (piece ≡ []))))
        → (IsWhole change (Ok words) input status written × (piece ≡ [])) ⊎ (status ≡ 7)
    by (inl whole) = inl whole
    by (inr (inl stopped)) = absurd (not_3 stopped.0)
    by (inr (inr (inl cut))) = absurd (not_4 cut.0)
    by (inr (inr (inr out))) = inr out.0

-- the script of an input has rounds that are answered by the whole reduction
pub script-plain : (change : Change) (words : Settings) (input : List ℕ) (script : LoadedScript) → script_of words input ≡ answered script → HasPlainAnswers change words script
script-plain change words input script is =
    let found = plain-answers change words script.index script.columns (record { settings = words; rounds = [] }) script.segments (script-fits words (loaded (lines (text_read words input))) script is) in
    record { rounds = found.0; are = found.1 }

module _ (change : Change) (words : Settings) (input : List ℕ) where
  -- an input that has room has it however it is answered, where its searches tell it
  room-of : KeepsWorkers change words → (script : Script) → ScriptFits change words script → TellsRoom words script → ScriptHasRoom change words script
  room-of keeps (refused r) fits tells = absurd fits
  room-of keeps (too_heavy t) fits tells = absurd fits
  room-of keeps (answered s) fits tells =
      (fits.0, λ rounds are. segments-however change words s.index s.columns keeps (record { settings = words; rounds = [] }) s.segments rounds are tells (fits.1 rounds are))

  pub room-however : KeepsWorkers change words → HasRoomFor change words input → TellsRoom words (script_of words input) → HasRoomHowever change words input
  room-however keeps room tells = room-of keeps (script_of words input) room tells

  -- then the rounds of a run are those that are answered by the whole reduction
  ended-room : (s : LoadedScript) (written : List Line) → script_of words input ≡ answered s → ScriptHasRoom change words (answered s)
      → (ends : EndsWell change words s written) → IsTrue (all_printed written) → HaveRoom s ends.answered.rounds
  ended-room s written is room ends printed =
      let plain = script-plain change words input s is in
      let lines_printed = sym (ap all_printed ends.answered.lines) ∙ ended-printed change words s written ends printed in
      let rooms = room.1 plain.rounds plain.are in
      let start : Recent = record { settings = words; rounds = [] } in
      let same = segments-same change words s.index s.columns start s.segments ends.answered.rounds plain.rounds ends.answered.allowed plain.are rooms lines_printed in
      segments-room change words s.index s.columns start s.segments ends.answered.rounds ends.answered.allowed (subst (AllByRecursion (AllByRecursion (RoundHasRoom s.index s.columns))) (sym same) rooms)

  whole-full : (status : ℕ) (written : List Line) (script : Script) → script_of words input ≡ script → ScriptHasRoom change words script
      → IsWholeOf change words script status written → IsTrue (all_printed written) → (status ≡ 0) × IsAnsweredInFull change words input written
  whole-full status written (refused r) is room whole printed = absurd room
  whole-full status written (too_heavy t) is room whole printed = absurd room
  whole-full status written (answered s) is room whole printed =
      let well = only-status_0 change words s status written room.0 whole in
      let rooms = ended-room s written is room well.1 printed in (
        well.0,
        record {
          script = s;
          is = is;
          ends = well.1;
          plain = whole-plain change words s written well.1 printed rooms;
          quiet = whole-quiet change words s written well.1 printed rooms;
        },
      )

  pub output-full : (read status : ℕ) (written : List Line) (piece : List ℕ) → HasRoomHowever change words input
      → IsOutput change (Ok words) input read status written piece → status ≢ 3 → status ≢ 4 → IsInFullUnlessMemory change words input status written piece
  output-full read status written piece room output not_3 not_4 = by (unless-memory change words input read status written piece output not_3 not_4)
    where
      by : (IsWhole change (Ok words) input status written × (piece ≡ [])) ⊎ (status ≡ 7) → IsInFullUnlessMemory change words input status written piece
      by (inl whole) = let full = whole-full status written (script_of words input) refl room whole.0 output.printed in inl (full.0, full.1, whole.1)
      by (inr out) = inr out

  -- a front of a whole output of which no search wants memory
  front-quiet : (script : Script) → script_of words input ≡ script → ScriptHasRoom change words script → (status : ℕ) (front back : List Line) → IsWholeOf change words script status (front ++ back)
      → IsTrue (all_printed front) → AreQuiet front
  front-quiet (refused r) is room status front back whole printed = absurd room
  front-quiet (too_heavy t) is room status front back whole printed = absurd room
  front-quiet (answered s) is room status front back whole printed =
      let plain = script-plain change words input s is in
      let well = only-status_0 change words s status (front ++ back) room.0 whole in
      until-front front back (whole-until change words s (front ++ back) well.1 plain.rounds plain.are (room.1 plain.rounds plain.are)) printed

  pub output-quiet : (read status : ℕ) (written : List Line) (piece : List ℕ) → HasRoomHowever change words input → IsOutput change (Ok words) input read status written piece → status ≢ 3 → AreQuiet written
  output-quiet read status written piece room output not_3 = by output.by_status
    where
      cut-quiet : (next : Line) → IsCut change (Ok words) input written next → AreQuiet written
      cut-quiet next cut = front-quiet (script_of words input) refl room cut.status written (next ∷ cut.later) cut.whole output.printed

      by : (IsWhole change (Ok words) input status written × (piece ≡ []))
          ⊎ (((status ≡ 3) × IsStopped change (Ok words) input read written × (piece ≡ []))
          ⊎ (((status ≡ 4) × At4 change (Ok words) input written piece) ⊎ ((status ≡ 7) × At7 change (Ok words) input written × (piece ≡ []))))
          → AreQuiet written
      by (inl whole) =
          front-quiet (script_of words input) refl room status written [] (subst (IsWholeOf change words (script_of words input) status) (sym (append-nil written)) whole.0) output.printed
      by (inr (inl stopped)) = absurd (not_3 stopped.0)
      by (inr (inr (inl cut))) = cut-quiet cut.1.next cut.1.cut
      by (inr (inr (inr out))) = cut-quiet out.1.next out.1.cut

-- with any number of workers, and whatever searches allow, by the rounds as they are answered
pub output-plain : (change : Change) (words : Settings) (input : List ℕ) (read status : ℕ) (written : List Line) (piece : List ℕ) (s : LoadedScript) → script_of words input ≡ answered s → s.refused ≡ None
    → IsOutput change (Ok words) input read status written piece → status ≢ 3 → status ≢ 4 → IsPlainWithRoom change words s status written piece
output-plain change words input read status written piece s is none output not_3 not_4 = by (unless-memory change words input read status written piece output not_3 not_4)
  where
    by : (IsWhole change (Ok words) input status written × (piece ≡ [])) ⊎ (status ≡ 7) → IsPlainWithRoom change words s status written piece
    by (inl whole) =
        let well = only-status_0 change words s status written none (subst (λ script. IsWholeOf change words script status written) is whole.0) in
        inl (well.0, (well.1, λ room. (whole-plain change words s written well.1 output.printed room, whole-quiet change words s written well.1 output.printed room)), whole.1)
    by (inr out) = inr out
