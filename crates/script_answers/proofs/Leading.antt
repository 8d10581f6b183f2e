-- A wave, and a settings line, in front of what follows.
use Rattle.std.specs.Prelude.{◌≡◌, ◌≤◌, ◌<◌, ℕ, List, [], ◌∷◌, ◌++◌, map, length, Option, Some, None}
use Rattle.std.proofs.Common.{◌∙◌, refl, sym, ap, subst, append_assoc, append-nil}
use Rattle.list_laws.proofs.Lists.{flat_map-append}
use Rattle.std.proofs.lemmas.List.{length-map}
use Rattle.serde_json.specs.Data.{Data}
use Rattle.agg_model.specs.declared.settings.Settings.{Settings}
use Rattle.agg_model.specs.declared.breaker.Totals.{Totals}
use Rattle.agg_reading.specs.Lines.{ScriptRefusal}
use Rattle.agg_spec.specs.Statistics.{AreTotals}
use Rattle.agg_reading.specs.Entries.{Entry, Entries, body, no_more}
use Rattle.agg_reading.specs.Entries.{change as changing}
use Rattle.agg_spec.specs.Index.{Index}
use Rattle.agg_spec.specs.Outcome.{Request}
use Rattle.agg_spec.specs.Requests.{Segment, segments, request_of, to_full_waves, cut_short}
use Rattle.agg_spec.specs.Rounds.{Round}
use Rattle.agg_spec.specs.Answers.{Change, Recent, IsAllowed, AreRounds, AreAnswered, after_line, with_rounds, changed_by, latest}
use Rattle.agg_spec.specs.Written.{Line, answer, settings, statistics, round_lines, change_lines, answer_lines}
use Rattle.script_lines.specs.Reading.{behind}
use Rattle.script_answers.specs.Rest.{Answers, EndsWell, EndsEarly}
use Rattle.script_answers.specs.Steps.{Leads}
use Rattle.script_answers.proofs.Batches.{none-full}
use Rattle.script_answers.proofs.Forming.{rounds-append, no-rounds, in_front, begins, bodies-in-front, full-stays}

lines-append : (rs ss : List Round) → round_lines (rs ++ ss) ≡ round_lines rs ++ round_lines ss
lines-append rs ss = flat_map-append (λ (round : Round). map answer round.answers) rs ss

rounds-behind : (rs ss : List Round) (recent : Recent) → with_rounds (rs ++ ss) recent ≡ with_rounds ss (with_rounds rs recent)
rounds-behind rs ss recent = ap (λ (rounds : List Round). record { settings = recent.settings; rounds = rounds }) (sym (append_assoc recent.rounds rs ss))

module _ (change : Change) (words : Settings) (index : Index) (columns : ℕ) where
  -- a wave in front of the first segment
  wave-before : (recent : Recent) (xs : List Request) (rs : List Round) (s : Segment) (rest : List Segment) (written : List Line) (at_end : Recent)
      → 1 ≤ recent.settings.width → length xs ≡ recent.settings.width → AreRounds index columns (IsAllowed index columns) recent.settings xs rs
      → (rounds : List (List Round)) → AreAnswered change words index columns (IsAllowed index columns) (with_rounds rs recent) (s ∷ rest) rounds
      → written ≡ answer_lines change words index columns (with_rounds rs recent) (s ∷ rest) rounds
      → at_end ≡ latest change words index columns (with_rounds rs recent) (s ∷ rest) rounds
      → Answers change words index columns recent (in_front xs s ∷ rest) (round_lines rs ++ written) at_end
  wave-before recent xs rs s rest written at_end some full are [] allowed lines ended = absurd allowed
  wave-before recent xs rs s rest written at_end some full are (ss ∷ later) allowed lines ended =
      let same = rounds-behind rs ss recent in
      record {
        rounds = (rs ++ ss) ∷ later;
        allowed = (
          rounds-append index columns (IsAllowed index columns) recent.settings xs s.requests rs ss some full are allowed.0,
          subst (λ now. AreAnswered change words index columns (IsAllowed index columns) (after_line change words index columns s.change now) rest later) (sym same) allowed.1,
        );
        lines =
            ap (λ ls. round_lines rs ++ ls) lines
            ∙ sym (append_assoc (round_lines rs) (round_lines ss) _)
            ∙ ap (λ ls. ls ++ (change_lines change words index columns (with_rounds ss (with_rounds rs recent)) s.change
            ++ answer_lines change words index columns (after_line change words index columns s.change (with_rounds ss (with_rounds rs recent))) rest later)) (sym (lines-append rs ss))
            ∙ ap (λ now. round_lines (rs ++ ss) ++ (change_lines change words index columns now s.change ++ answer_lines change words index columns (after_line change words index columns s.change now) rest later)) (sym same);
        ended = ended ∙ ap (λ now. latest change words index columns (after_line change words index columns s.change now) rest later) (sym same);
      }

  -- full waves are answered whatever follows
  wave-answers : (recent : Recent) (xs : List Request) (rs : List Round) (s : Segment) (rest : List Segment) (written : List Line) (at_end : Recent)
      → 1 ≤ recent.settings.width → length xs ≡ recent.settings.width → AreRounds index columns (IsAllowed index columns) recent.settings xs rs
      → Answers change words index columns (with_rounds rs recent) (s ∷ rest) written at_end
      → Answers change words index columns recent (in_front xs s ∷ rest) (round_lines rs ++ written) at_end
  wave-answers recent xs rs s rest written at_end some full are a = wave-before recent xs rs s rest written at_end some full are a.rounds a.allowed a.lines a.ended

  module _ (recent : Recent) (bodies : List (List ℕ)) (rs : List Round) (some : 1 ≤ recent.settings.width)
      (full : length (map (request_of index) bodies) ≡ recent.settings.width) (wide : recent.settings.width ≡ words.width)
      (are : AreRounds index columns (IsAllowed index columns) recent.settings (map (request_of index) bodies) rs) where
    parts-well : (left : Entries) (written : List Line) (at_end : Recent)
        → Answers change words index columns (with_rounds rs recent) (segments index left.entries) written at_end
        → Answers change words index columns recent (segments index (map body bodies ++ left.entries)) (round_lines rs ++ written) at_end
    parts-well left written at_end a =
        let b = begins index left.entries in
        let here = subst (λ parts. Answers change words index columns (with_rounds rs recent) parts written at_end) b.are a in
        subst (λ parts. Answers change words index columns recent parts (round_lines rs ++ written) at_end) (sym (bodies-in-front index bodies left.entries b.first b.rest b.are))
        (wave-answers recent (map (request_of index) bodies) rs b.first b.rest written at_end some full are here)

    parts-early : (left : Entries) (written : List Line) (at_end : Recent)
        → Answers change words index columns (with_rounds rs recent) (cut_short words.width (segments index left.entries)) written at_end
        → Answers change words index columns recent (cut_short words.width (segments index (map body bodies ++ left.entries))) (round_lines rs ++ written) at_end
    parts-early left written at_end a =
        let b = begins index left.entries in
        let xs = map (request_of index) bodies in
        let here = subst (λ parts. Answers change words index columns (with_rounds rs recent) (cut_short words.width parts) written at_end) b.are a in
        let stays = full-stays words.width xs b.first (subst (λ w. 1 ≤ w) wide some) (full ∙ wide) in
        subst (λ parts. Answers change words index columns recent (cut_short words.width parts) (round_lines rs ++ written) at_end) (sym (bodies-in-front index bodies left.entries b.first b.rest b.are))
        (subst (λ first. Answers change words index columns recent (first ∷ cut_short words.width b.rest) (round_lines rs ++ written) at_end) (sym stays)
        (wave-answers recent xs rs (to_full_waves words.width b.first b.first.change) (cut_short words.width b.rest) written at_end some full are here))

    pub wave-leads : Leads change words index columns recent (map body bodies) (round_lines rs) (with_rounds rs recent)
    wave-leads = record {
      well = λ left later ends. record {
        answers = round_lines rs ++ ends.answers;
        at_end = ends.at_end;
        totals = ends.totals;
        whole = ends.whole;
        answered = parts-well left ends.answers ends.at_end ends.answered;
        total = ends.total;
        lines = ap (λ ls. round_lines rs ++ ls) ends.lines ∙ sym (append_assoc (round_lines rs) ends.answers _);
      };
      early = λ left last later ends. record {
        answers = round_lines rs ++ ends.answers;
        at_end = ends.at_end;
        answered = parts-early left ends.answers ends.at_end ends.answered;
        lines = ap (λ ls. round_lines rs ++ ls) ends.lines ∙ sym (append_assoc (round_lines rs) ends.answers last);
      };
    }

  -- behind a settings line, which ends the wave before it
  change-answers : (recent : Recent) (xs : List Request) (rs : List Round) (line : Data) (parts : List Segment) (written : List Line) (at_end : Recent)
      → AreRounds index columns (IsAllowed index columns) recent.settings xs rs
      → Answers change words index columns (after_line change words index columns (Some line) (with_rounds rs recent)) parts written at_end
      → Answers change words index columns recent (record { requests = xs ++ []; change = Some line } ∷ parts)
      (round_lines rs ++ settings (changed_by change words index columns (with_rounds rs recent) line) ∷ written) at_end
  change-answers recent xs rs line parts written at_end are a = record {
    rounds = rs ∷ a.rounds;
    allowed = (subst (λ ys. AreRounds index columns (IsAllowed index columns) recent.settings ys rs) (sym (append-nil xs)) are, a.allowed);
    lines = ap (λ ls. round_lines rs ++ settings (changed_by change words index columns (with_rounds rs recent) line) ∷ ls) a.lines;
    ended = a.ended;
  }

  module _ (recent : Recent) (bodies : List (List ℕ)) (rs : List Round) (line : Data)
      (are : AreRounds index columns (IsAllowed index columns) recent.settings (map (request_of index) bodies) rs) where
    abbrev changed_here : Line
    changed_here = settings (changed_by change words index columns (with_rounds rs recent) line)

    changed-parts : (es : List Entry) → segments index ((map body bodies ++ changing line ∷ []) ++ es) ≡ record { requests = map (request_of index) bodies ++ []; change = Some line } ∷ segments index es
    changed-parts es = ap (segments index) (append_assoc (map body bodies) (changing line ∷ []) es) ∙ bodies-in-front index bodies (changing line ∷ es) _ _ refl

    pub change-leads : Leads change words index columns recent (map body bodies ++ changing line ∷ []) (round_lines rs ++ changed_here ∷ [])
        (after_line change words index columns (Some line) (with_rounds rs recent))
    change-leads = record {
      well = λ left later ends. record {
        answers = round_lines rs ++ changed_here ∷ ends.answers;
        at_end = ends.at_end;
        totals = ends.totals;
        whole = ends.whole;
        answered = subst (λ parts. Answers change words index columns recent parts (round_lines rs ++ changed_here ∷ ends.answers) ends.at_end) (sym (changed-parts left.entries))
            (change-answers recent (map (request_of index) bodies) rs line (segments index left.entries) ends.answers ends.at_end are ends.answered);
        total = ends.total;
        lines = append_assoc (round_lines rs) (changed_here ∷ []) later ∙ ap (λ ls. round_lines rs ++ changed_here ∷ ls) ends.lines ∙ sym (append_assoc (round_lines rs) (changed_here ∷ ends.answers) _);
      };
      early = λ left last later ends. record {
        answers = round_lines rs ++ changed_here ∷ ends.answers;
        at_end = ends.at_end;
        answered = subst (λ parts. Answers change words index columns recent (cut_short words.width parts) (round_lines rs ++ changed_here ∷ ends.answers) ends.at_end) (sym (changed-parts left.entries))
            (change-answers recent (map (request_of index) bodies) rs line (cut_short words.width (segments index left.entries)) ends.answers ends.at_end are ends.answered);
        lines = append_assoc (round_lines rs) (changed_here ∷ []) later ∙ ap (λ ls. round_lines rs ++ changed_here ∷ ls) ends.lines ∙ sym (append_assoc (round_lines rs) (changed_here ∷ ends.answers) _);
      };
    }

  module _ (recent : Recent) (bodies : List (List ℕ)) where
    last-parts : segments index (map body bodies ++ []) ≡ record { requests = map (request_of index) bodies ++ []; change = None } ∷ []
    last-parts = bodies-in-front index bodies [] _ _ refl

    -- the last wave, which may be short, and the statistics behind it
    pub ends-well : (rs : List Round) (t : Totals) → AreRounds index columns (IsAllowed index columns) recent.settings (map (request_of index) bodies) rs
        → AreTotals recent.settings index columns (with_rounds rs recent).rounds t
        → EndsWell change words index columns recent (behind (map body bodies) no_more) (round_lines rs ++ statistics t ∷ [])
    ends-well rs t are total = record {
      answers = round_lines rs;
      at_end = with_rounds rs recent;
      totals = t;
      whole = refl;
      answered = subst (λ parts. Answers change words index columns recent parts (round_lines rs) (with_rounds rs recent)) (sym last-parts)
          (record {
            rounds = rs ∷ [];
            allowed = (subst (λ ys. AreRounds index columns (IsAllowed index columns) recent.settings ys rs) (sym (append-nil (map (request_of index) bodies))) are, tt);
            lines = sym (append-nil (round_lines rs));
            ended = refl;
          });
      total = total;
      lines = refl;
    }

    -- a short last wave is not answered
    pub ends-early : (refused : Option ScriptRefusal) (last : List Line) → 1 ≤ recent.settings.width → recent.settings.width ≡ words.width → length bodies < words.width
        → EndsEarly change words index columns recent (behind (map body bodies) (record { entries = []; refused = refused })) last last
    ends-early refused last some wide short =
        let xs = map (request_of index) bodies in
        let few : length (xs ++ []) < words.width = subst (λ ys. length ys < words.width) (sym (append-nil xs)) (subst (λ n. n < words.width) (sym (length-map bodies (request_of index))) short) in
        let none = none-full words.width (xs ++ []) few in
        record {
          answers = [];
          at_end = with_rounds [] recent;
          answered = subst (λ parts. Answers change words index columns recent (cut_short words.width parts) [] (with_rounds [] recent)) (sym last-parts)
              (subst (λ ys. Answers change words index columns recent (record { requests = ys; change = None } ∷ []) [] (with_rounds [] recent)) (sym none)
              (record { rounds = [] ∷ []; allowed = (no-rounds index columns (IsAllowed index columns) recent.settings some, tt); lines = refl; ended = refl }));
          lines = refl;
        }
