-- What a clause sees of the shared words and of a pass.
use Rattle.std.specs.Prelude.{◌≡◌, ◌≤◌}
use Rattle.atomic_table.specs.Seated.{TableId}
use Rattle.agg_model.specs.declared.breaker.Limits.{Limits}
use Rattle.breaker_words.specs.declared.view.View.{View}
use Rattle.breaker_words.specs.Soundness.{IsConsistent}

-- which words they are, and the limits that they were opened with
pub record WordsModel : Type 0 where
  pub table : TableId
  pub limits : Limits

-- which words the pass is of, and what it knows
pub record PassModel : Type 0 where
  pub table : TableId
  pub view : View

-- the pass is of these words
abbrev pub IsOf : WordsModel → PassModel → Type 0
IsOf b t = (t.table ≡ b.table) × (t.view.limits ≡ b.limits)

-- a pass of the same words that knows v
abbrev pub with_view : PassModel → View → PassModel
with_view t v = record { table = t.table; view = v }

-- what holds of each pass that can be used
pub record IsLive (v : View) : Type 0 where
  pub living : 1 ≤ v.total
  pub ceiling : v.total ≤ 9223372036854775808
  pub within : v.cap ≤ v.total
  pub own : IsConsistent v
