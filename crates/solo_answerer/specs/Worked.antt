-- What the pass of one worker tells of the rounds that it answered (Elasticsearch Reference 8, 'Nodes stats API', breakers).
use Rattle.std.specs.Prelude.{◌≡◌, ℕ, List, flat_map}
use Rattle.fitting_laws.specs.Indexes.{index_of}
use Rattle.agg_model.specs.declared.breaker.Which.TheVariants.{Request, Fielddata, Inflight}
use Rattle.agg_model.specs.declared.settings.Settings.{Settings}
use Rattle.agg_spec.specs.Charges.{no_amounts}
use Rattle.agg_spec.specs.Columns.{columns_charge}
use Rattle.agg_spec.specs.Index.{Index}
use Rattle.agg_spec.specs.Rounds.{Round}
use Rattle.agg_spec.specs.Solo.{after_requests, columns_held, idle}
use Rattle.breaker_words.specs.Passes.{WordsModel, PassModel}
use Rattle.breaker_words.specs.Views.{hold_of}
use Rattle.breaker_words.specs.declared.view.View.{View}
use Rattle.shard_columns.specs.declared.index.Index.{Index as Built}
use Rattle.solo_charges.specs.Alone.{IsAlone}
use Rattle.solo_charges.specs.Standing.{Before, StandsAt}

-- the columns were charged, and nothing else
abbrev pub before_searches : ℕ → Before
before_searches columns = record { granted = columns_held columns; trips = no_amounts }

-- these rounds may be those that the worker answered: its pass stands where their charges lead
abbrev pub HasAnswered : Settings → Index → ℕ → View → List Round → Type 0
HasAnswered settings index columns v rounds =
    StandsAt (before_searches columns) v (after_requests settings index (idle columns) (flat_map (λ round. round.requests) rounds))

-- the same over the index that the worker has
abbrev pub WorkerAnswered : Settings → Built → View → List Round → Type 0
WorkerAnswered settings index v = HasAnswered settings (index_of index) (columns_charge (index_of index)) v

-- settings of one worker that runs one search at a time
pub record IsForOne (settings : Settings) : Type 0 where
  pub worker : settings.workers ≡ 1
  pub search : settings.width ≡ 1

-- between two searches the worker is alone at the breakers, whose limits are those of the settings, and holds the columns alone
pub record IsIdle (settings : Settings) (index : Built) (words : WordsModel) (pass : PassModel) : Type 0 where
  pub alone : IsAlone words pass
  pub limits_are : words.limits ≡ settings.limits
  pub columns : hold_of pass.view Fielddata ≡ columns_charge (index_of index)
  pub request : hold_of pass.view Request ≡ 0
  pub inflight : hold_of pass.view Inflight ≡ 0
