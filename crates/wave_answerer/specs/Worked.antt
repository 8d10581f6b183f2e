-- What the pass of many workers tells of the rounds that they answered (Elasticsearch Reference 8, 'Nodes stats API', breakers).
use Rattle.std.specs.Prelude.{◌≡◌, ℕ, List}
use Rattle.agg_model.specs.declared.breaker.Which.{Which}
use Rattle.agg_model.specs.declared.breaker.Which.TheVariants.{Request, Fielddata, Inflight}
use Rattle.agg_spec.specs.Charges.{Amounts, amount_at}
use Rattle.agg_spec.specs.Columns.{columns_charge}
use Rattle.agg_spec.specs.Index.{Index}
use Rattle.agg_spec.specs.Rises.{RoseBy, all_rises}
use Rattle.agg_spec.specs.Rounds.{Round}
use Rattle.agg_spec.specs.Solo.{columns_held}
use Rattle.breaker_words.specs.Breakers.{counter_value}
use Rattle.breaker_words.specs.Views.{granted_of, hold_of, trips_of}
use Rattle.breaker_words.specs.declared.view.View.{View}
use Rattle.fitting_laws.specs.Indexes.{index_of}
use Rattle.shard_columns.specs.declared.index.Index.{Index as Built}

-- The columns were granted, and beside them what these rounds were. Of the parent's granted total it says nothing, which is that of the
-- children.
pub record HasCounted (index : Index) (columns : ℕ) (v : View) (rounds : List Round) : Type 0 where
  pub granted : Amounts
  pub trips : Amounts
  pub rose : RoseBy (all_rises index columns rounds) granted trips
  pub at_request : granted_of v Request ≡ counter_value granted.request
  pub at_fielddata : granted_of v Fielddata ≡ counter_value columns
  pub at_inflight : granted_of v Inflight ≡ counter_value granted.inflight
  pub trips_are : (x : Which) → trips_of v x ≡ counter_value (amount_at x trips)

-- These rounds may be those that were answered: the columns are held alone, and the totals rose as is known of the rounds.
pub record HasAnswered (index : Index) (columns : ℕ) (v : View) (rounds : List Round) : Type 0 where
  pub holds : (x : Which) → hold_of v x ≡ amount_at x (columns_held columns)
  pub counted : HasCounted index columns v rounds

-- the same over the index that the workers have
abbrev pub CrewAnswered : Built → View → List Round → Type 0
CrewAnswered index v = HasAnswered (index_of index) (columns_charge (index_of index)) v
