use Rattle.std.proofs.Common.{◌≡◌, ◌≤◌, ℕ, List, None, ◌+◌, ◌-◌, length}
use Rattle.agg_base.specs.Lines.{source_of, source_name, kept, Gave}
use Rattle.agg_model.specs.declared.limits.TheConstants.{MAX_ACTIONS}
use Rattle.agg_reading.specs.Script.{actions, begun}
use Rattle.fitting_laws.specs.Stores.{IsFitting}
use Rattle.script_lines.specs.Steps.{place_of}
use Rattle.column_loading.specs.Loadings.{IsLoadingOf, store_of}
use Rattle.agg_bulk.specs.Loading.{GoesOn, loading_of}
use Rattle.agg_bulk.proofs.sections.bulk_actions.Given as goal

-- the actions that were done so far
pub record Doing (g : goal.Over) (l : goal.Live-loop-items g) : Type 0 where
  pub kept : kept l.lines ≡ None
  pub never_falls : g.S.Source.faults (source_of l.fn.lines) ≤ g.S.Source.faults (source_of l.lines)
  pub same_source : source_name l.lines ≡ source_name l.fn.lines
  pub gave : Gave l.fn.lines l.lines
  pub index : l.index ≡ l.fn.index
  pub few : length l.items ≤ MAX_ACTIONS
  pub fitting : IsFitting l.index.mapping (store_of l.index.mapping l.loading)
  pub loading : IsLoadingOf l.index.mapping l.loading
  pub shards : l.loading.shards ≡ l.index.shards
  pub so_far : (bytes : List ℕ) → GoesOn bytes (actions (begun l.fn.index) (place_of l.fn.lines)) l.fn.lines → GoesOn bytes (actions (loading_of l.index (store_of l.index.mapping l.loading) l.items) (place_of l.lines)) l.lines

abbrev pub invariant-loop-items : goal.invariant-loop-items
invariant-loop-items g l = Doing g l

abbrev pub decreases-loop-items : goal.decreases-loop-items
decreases-loop-items g l = MAX_ACTIONS + 1 - length l.items
