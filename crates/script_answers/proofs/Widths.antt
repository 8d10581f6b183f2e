-- A settings line keeps the width of the waves.
use Rattle.std.specs.Prelude.{◌≡◌, ℕ, List, [], Option, Some, None, Result, Ok, Err, OnOk, IfErr}
use Rattle.std.proofs.Common.{◌∙◌, refl, sym, ap, subst, arith}
use Rattle.serde_json.specs.Data.{Data}
use Rattle.agg_model.specs.declared.breaker.Tripped.{Tripped}
use Rattle.agg_model.specs.declared.settings.Settings.{Settings}
use Rattle.agg_settings.specs.Changes.{changed}
use Rattle.agg_settings.proofs.ChangesKeep.{changed-keeps}
use Rattle.agg_spec.specs.Columns.{columns_refusal}
use Rattle.agg_spec.specs.Index.{Index}
use Rattle.agg_spec.specs.Rounds.{Round}
use Rattle.agg_spec.specs.Answers.{Recent, after_change, after_line, changed_by, changed_to, if_light, with_rounds}
use Rattle.agg_spec.specs.Written.{Line, settings}
use Rattle.script_answers.specs.Answering.{fresh_with}
use Rattle.script_answers.specs.Stepping.{IsReady}
use Rattle.script_answers.specs.declared.stop.Stop.{Stop}

module _ (words : Settings) (columns : ℕ) (now : Recent) (line : Data) where
  width-light : (s : Settings) → s.width ≡ now.settings.width → (o : Option Tripped) → (after_change (if_light s o) now).settings.width ≡ now.settings.width
  width-light s same None = same
  width-light s same (Some t) = refl

  width-changed : (r : Result Settings (List ℕ)) → changed now.settings words line ≡ r → (after_change (changed_to columns r) now).settings.width ≡ now.settings.width
  width-changed (Ok s) is = width-light s (changed-keeps words now.settings s line is).0 (columns_refusal s.limits columns)
  width-changed (Err name) is = refl

  -- behind a settings line no search waits, and the width is that of the words
  pub ready-behind : (index : Index) (recent next : Recent) (wave : List (List ℕ)) (rounds : List Round) → IsReady words recent wave → now ≡ with_rounds rounds recent
      → next ≡ after_line changed words index columns (Some line) now → IsReady words next []
  ready-behind index recent next wave rounds ready now_is next_is = record {
    some = ready.some;
    wide = ap (λ (r : Recent). r.settings.width) next_is ∙ width-changed (changed now.settings words line) refl ∙ ap (λ (r : Recent). r.settings.width) now_is ∙ ready.wide;
    short = omega (arith, ready.some);
  }

-- a wave is ready whatever was answered, by the settings in force alone
pub ready-at : (words in_force : Settings) (recent : Recent) (wave : List (List ℕ)) → IsReady words (fresh_with in_force) wave → recent.settings ≡ in_force → IsReady words recent wave
ready-at words in_force recent wave ready same = record {
  some = ready.some;
  wide = ap (λ (s : Settings). s.width) same ∙ ready.wide;
  short = ready.short;
}

-- a settings line is answered by the settings in force alone
pub line-as : (words : Settings) (index : Index) (columns : ℕ) (line : Data) (P : Line → Type 0) (now : Recent) (in_force : Settings) → now.settings ≡ in_force
    → P (settings (changed_by changed words index columns (fresh_with in_force) line)) → P (settings (changed_by changed words index columns now line))
line-as words index columns line P now in_force same holds =
    subst (λ (s : Settings). P (settings (changed_to columns (changed s words line)))) (sym same) holds

-- ---- what holds of each that may be

pub on-each : {X : Type 0} (result : Result X Stop) (May P : Recent → Type 0) → ((recent : Recent) → May recent → OnOk result (P recent)) → OnOk result ((recent : Recent) → May recent → P recent)
on-each (Ok x) May P each = each
on-each (Err e) May P each = tt

pub err-each : {X : Type 0} (result : Result X Stop) (May : Recent → Type 0) (P : Recent → Stop → Type 0) → ((recent : Recent) → May recent → IfErr result (P recent))
    → IfErr result (λ stop. (recent : Recent) → May recent → P recent stop)
err-each (Ok x) May P each = tt
err-each (Err e) May P each = each
