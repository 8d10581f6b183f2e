-- The pages of a search that many workers answer, each as a round of its own ('Composite aggregation', pagination).
use Rattle.std.specs.Prelude.{◌≡◌, ℕ, List, [], ◌∷◌, flat_map}
use Rattle.agg_model.specs.declared.breaker.Which.TheVariants.{Fielddata}
use Rattle.agg_model.specs.declared.outcome.Answered.{Answered}
use Rattle.agg_model.specs.declared.settings.Settings.{Settings}
use Rattle.agg_search.specs.Paging.{IsBehind}
use Rattle.agg_search.specs.declared.solo.Page.{Page}
use Rattle.agg_spec.specs.Answers.{ArePages}
use Rattle.agg_spec.specs.Index.{Index}
use Rattle.agg_spec.specs.Outcome.{Request}
use Rattle.agg_spec.specs.Rounds.{Round}
use Rattle.breaker_words.specs.Views.{hold_of}
use Rattle.breaker_words.specs.declared.view.View.{View}
use Rattle.fitting_laws.specs.Indexes.{index_of}
use Rattle.shard_columns.specs.declared.index.Index.{Index as ShardIndex}
use Rattle.search_wave.specs.Waves.{IsWave}

-- this is the answer to a request as a wave of its own, with the search of the page behind it
pub record IsPage (settings : Settings) (index : ShardIndex) (request : Request) (old new : View) (page : Page) : Type 0 where
  pub wave : IsWave settings (index_of index) (request ∷ []) old new (page.answered ∷ [])
  pub behind : IsBehind index request page.answered.outcome page.answered.failures page.next

-- these rounds ran one after another, and between them the pass held the same columns
abbrev pub AreWavesFrom : Settings → Index → View → List Round → View → Type 0
AreWavesFrom settings index old [] new = new ≡ old
AreWavesFrom settings index old (round ∷ later) new =
    (between : View) × (round.settings ≡ settings) × IsWave settings index round.requests old between round.answers
    × (hold_of between Fielddata ≡ hold_of old Fielddata) × AreWavesFrom settings index between later new

-- the answers are those of the pages of a request
pub record ArePageAnswers (settings : Settings) (index : Index) (columns : ℕ) (request : Request) (old new : View) (answers : List Answered) : Type 0 where
  pub rounds : List Round
  pub pages : ArePages index columns (request ∷ []) rounds
  pub waves : AreWavesFrom settings index old rounds new
  pub answers_are : answers ≡ flat_map (λ (round : Round). round.answers) rounds
