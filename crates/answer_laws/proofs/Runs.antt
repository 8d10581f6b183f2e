-- Runs as outputs: from the script that is read, the rounds in which it is answered, and the text of their lines.
use Rattle.std.specs.Prelude.{◌≡◌, refl, ℕ, List, [], ◌∷◌, ◌++◌, take, is_some, Some, None, Result, Ok, Err, true, codes}
use Rattle.std.proofs.Common.{sym, subst, inl, inr}
use Rattle.agg_model.specs.Lines.{lines}
use Rattle.agg_model.specs.declared.breaker.Totals.{Totals}
use Rattle.agg_model.specs.declared.settings.Settings.{Settings}
use Rattle.agg_model.specs.declared.settings.Usage.{Usage}
use Rattle.agg_reading.specs.Lines.{ScriptRefusal}
use Rattle.agg_reading.specs.Script.{loaded}
use Rattle.agg_spec.specs.BulkLine.{bulk_line}
use Rattle.agg_spec.specs.Requests.{LoadedScript, Segment, cut_short}
use Rattle.agg_spec.specs.Rounds.{Round}
use Rattle.agg_spec.specs.Statistics.{AreTotals}
use Rattle.agg_spec.specs.Answers.{Change, Recent, IsAllowed, AreAnswered, latest}
use Rattle.agg_spec.specs.Written.{Line, bulk, statistics, answer_lines, all_printed, text_of}
use Rattle.agg_spec.specs.Output.{IsOutput, IsWholeOf, HasAnswers, EndsWell, EndsEarly, EndsRefused, At3, answered, script_from, text_read, whole_lines, refusal_line}

-- no settings line is understood
abbrev pub no_change : Change
no_change settings words line = Err (codes "persistent")

-- a run writes this text and ends with this status
pub record Writes (change : Change) (words : Result Settings Usage) (input : List ℕ) (read status : ℕ) (text : List ℕ) : Type 0 where
  pub written : List Line
  pub piece : List ℕ
  pub output : IsOutput change words input read status written piece
  pub bytes : text_of written ++ piece ≡ text

-- and so by the words as they stand on the command line
pub by_words : {change : Change} {given : Result Settings Usage} {words : Settings} {input : List ℕ} {read status : ℕ} {text : List ℕ} → given ≡ Ok words
    → Writes change (Ok words) input read status text → Writes change given input read status text
by_words {change} {given} {words} {input} {read} {status} {text} e w = subst (λ g. Writes change g input read status text) (sym e) w

-- the script that is read from this text
abbrev pub Reads : Settings → List ℕ → LoadedScript → Type 0
Reads words text s = script_from words (loaded (lines text)) ≡ answered s

abbrev pub started : Settings → Recent
started words = record { settings = words; rounds = [] }

-- these rounds answer these segments
module _ (change : Change) (words : Settings) (s : LoadedScript) (segments : List Segment) (rounds : List (List Round)) where
  abbrev pub AreAllowed : Type 0
  AreAllowed = AreAnswered change words s.index s.columns (IsAllowed s.index s.columns) (started words) segments rounds

  -- the bulk line and the answers
  abbrev pub lines_of : List Line
  lines_of = bulk (bulk_line s.index.name s.items (is_some words.generate)) ∷ answer_lines change words s.index s.columns (started words) segments rounds

  abbrev pub end_of : Recent
  end_of = latest change words s.index s.columns (started words) segments rounds

  pub has_answers : AreAllowed → HasAnswers change words s segments lines_of end_of
  has_answers allowed = record { rounds = rounds; allowed = allowed; lines = refl; recent = refl }

module _ (change : Change) (words : Settings) (input : List ℕ) (read : ℕ) (s : LoadedScript) (rounds : List (List Round)) (text : List ℕ) where
  abbrev pub at_end : Recent
  at_end = end_of change words s s.segments rounds

  abbrev pub all_lines : Totals → List Line
  all_lines totals = lines_of change words s s.segments rounds ++ statistics totals ∷ []

  -- to the end of the input
  pub ends_well : (totals : Totals) → Reads words (text_read words input) s → s.refused ≡ None → AreAllowed change words s s.segments rounds
      → AreTotals at_end.settings s.index s.columns at_end.rounds totals → all_printed (all_lines totals) ≡ true → text_of (all_lines totals) ++ [] ≡ text
      → Writes change (Ok words) input read 0 text
  ends_well totals is whole allowed total printed bytes =
      let ends : EndsWell change words s (all_lines totals) = record {
        answers = lines_of change words s s.segments rounds;
        at_end = at_end;
        totals = totals;
        whole = whole;
        answered = has_answers change words s s.segments rounds allowed;
        total = total;
        lines = refl;
      } in
      record {
        written = all_lines totals;
        piece = [];
        output = record {
          printed = printed;
          by_status = inl (subst (λ found. IsWholeOf change words found 0 (all_lines totals)) (sym is) (inl (refl, ends)), refl);
        };
        bytes = bytes;
      }

  abbrev pub full_waves : List Segment
  full_waves = cut_short words.width s.segments

  abbrev pub early_lines : List Line → List Line
  early_lines last = lines_of change words s full_waves rounds ++ last

  ends_early : (last : List Line) → AreAllowed change words s full_waves rounds → EndsEarly change words s last (early_lines last)
  ends_early last allowed = record {
    answers = lines_of change words s full_waves rounds;
    at_end = end_of change words s full_waves rounds;
    answered = has_answers change words s full_waves rounds allowed;
    lines = refl;
  }

  -- up to a refusal behind the bulk lines
  pub ends_refused : (r : ScriptRefusal) → Reads words (text_read words input) s → s.refused ≡ Some r → AreAllowed change words s full_waves rounds
      → all_printed (early_lines (refusal_line r ∷ [])) ≡ true → text_of (early_lines (refusal_line r ∷ [])) ++ [] ≡ text → Writes change (Ok words) input read 5 text
  ends_refused r is found allowed printed bytes =
      let last : List Line = refusal_line r ∷ [] in
      record {
        written = early_lines last;
        piece = [];
        output = record {
          printed = printed;
          by_status = inl (
            subst (λ found. IsWholeOf change words found 5 (early_lines last)) (sym is)
                (inr (inl (refl, subst (λ o. EndsRefused change words s o (early_lines last)) (sym found) (ends_early last allowed)))),
            refl,
          );
        };
        bytes = bytes;
      }

  -- up to a fault of the source behind the bulk lines
  pub ends_stopped : words.generate ≡ None → script_from words (loaded (whole_lines (take read input))) ≡ answered s → AreAllowed change words s full_waves rounds
      → all_printed (early_lines []) ≡ true → text_of (early_lines []) ++ [] ≡ text → Writes change (Ok words) input read 3 text
  ends_stopped unmade is allowed printed bytes = record {
    written = early_lines [];
    piece = [];
    output = record {
      printed = printed;
      by_status = inr (inl (refl, (unmade, subst (λ found. At3 change words found (early_lines [])) (sym is) (ends_early [] allowed)), refl));
    };
    bytes = bytes;
  }
