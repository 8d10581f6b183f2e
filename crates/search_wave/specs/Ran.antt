-- All that is known once the searches of a wave were answered: what their bodies were charged, what they ask for, how their tasks ended, and
-- how each was answered ('Multi search API'; 'Circuit breaker settings').
use Rattle.std.specs.Prelude.{◌≡◌, ◌<◌, ◌+◌, ℕ, List, Option, length, slice_index_or}
use Rattle.agg_model.specs.declared.aggregation.Search.{Search}
use Rattle.agg_model.specs.declared.breaker.Tripped.{Tripped}
use Rattle.agg_model.specs.declared.breaker.Which.{Which}
use Rattle.agg_model.specs.declared.breaker.Which.TheVariants.{Request, Fielddata, Inflight, Parent}
use Rattle.agg_model.specs.declared.outcome.Answered.{Answered}
use Rattle.agg_model.specs.declared.settings.Settings.{Settings}
use Rattle.agg_spec.specs.Charges.{Amounts}
use Rattle.agg_spec.specs.Outcome.{Request as AnyRequest}
use Rattle.breaker_words.specs.Passes.{PassModel, WordsModel}
use Rattle.breaker_words.specs.Soundness.{IsBounded}
use Rattle.breaker_words.specs.Views.{granted_of, hold_of, most_of, trips_of}
use Rattle.breaker_words.specs.declared.view.View.{View}
use Rattle.fitting_laws.specs.Indexes.{index_of}
use Rattle.shard_pool.specs.Ends.{HasRun, MayEnd}
use Rattle.shard_pool.specs.declared.search_end.SearchEnd.{SearchEnd}
use Rattle.shard_columns.specs.declared.index.Index.{Index as ShardIndex}
use Rattle.shard_pool.specs.PoolOf.{pool_of}
use Rattle.wave_answers.specs.Ended.{AreAnswers}
use Rattle.wave_answers.specs.Rising.{HasRisen}
use Rattle.wave_bodies.specs.Charged.{AreCharged}
use Rattle.wave_bodies.specs.Asking.{AreAsked}
use Rattle.wave_bodies.specs.declared.asked.Asked.{Asked}

-- The pass was `old` before the wave, `charged` when the bodies were charged, `opened` when its ceiling was set anew for the tasks,
-- `closed` when they had ended, and `answered` when all was answered.
pub record HasAnswered (settings : Settings) (index : ShardIndex) (words : WordsModel) (requests : List AnyRequest) (refusals : List (Option Tripped))
    (asked : List Asked) (searches : List Search) (ceilings : List ℕ) (ends : List SearchEnd) (answers : List Answered)
    (old charged : View) (opened closed : PassModel) (answered : View) : Type 0 where
  pub limits : words.limits ≡ settings.limits
  -- it held the columns alone
  pub request_before : hold_of old Request ≡ 0
  pub fielddata_charged : hold_of charged Fielddata ≡ hold_of old Fielddata
  pub request_charged : hold_of charged Request ≡ 0
  pub bodies : AreCharged settings (index_of index) requests old charged refusals
  pub asked_are : AreAsked (index_of index) requests refusals asked searches
  -- setting a ceiling changes no hold and no total, and what stood at most counts from there
  pub holds : (x : Which) → hold_of opened.view x ≡ hold_of charged x
  pub granted : (x : Which) → granted_of opened.view x ≡ granted_of charged x
  pub trips : (x : Which) → trips_of opened.view x ≡ trips_of charged x
  pub most : (x : Which) → most_of opened.view x ≡ hold_of charged x
  -- what it held at the parent is the sum of what it held at the children
  pub parent : hold_of charged Parent ≡ hold_of charged Request + hold_of charged Fielddata + hold_of charged Inflight
  pub number : length ends ≡ length searches
  pub ends_are : (q : ℕ) (e : SearchEnd) → q < length searches → MayEnd (pool_of words index searches ceilings) q settings.batch closed.view (slice_index_or ends q e)
  pub run : HasRun (pool_of words index searches ceilings) settings.batch opened closed ends
  -- no counter was above where it stops
  pub bounded_old : IsBounded settings.limits old
  pub bounded : IsBounded settings.limits closed.view
  pub bounded_before : IsBounded settings.limits opened.view
  -- the answers, and what was granted and refused for them
  pub more : ℕ
  pub more_trips : Amounts
  pub answers_are : AreAnswers settings.limits (index_of index) settings.max_buckets closed.view asked searches ends answers more more_trips
  pub risen : HasRisen more more_trips closed.view answered
