-- Searches that were answered side by side are a wave.
use Rattle.std.specs.Prelude.{ℕ, List, Option}
use Rattle.agg_model.specs.declared.aggregation.Search.{Search}
use Rattle.agg_model.specs.declared.breaker.Tripped.{Tripped}
use Rattle.agg_model.specs.declared.outcome.Answered.{Answered}
use Rattle.agg_model.specs.declared.settings.Settings.{Settings}
use Rattle.agg_spec.specs.Outcome.{Request as AnyRequest}
use Rattle.breaker_words.specs.Passes.{PassModel, WordsModel}
use Rattle.breaker_words.specs.declared.view.View.{View}
use Rattle.fitting_laws.specs.Indexes.{index_of}
use Rattle.shard_pool.specs.declared.search_end.SearchEnd.{SearchEnd}
use Rattle.shard_columns.specs.declared.index.Index.{Index as ShardIndex}
use Rattle.search_wave.proofs.Allowed.{wave-allowed}
use Rattle.search_wave.proofs.Risen.{wave-risen}
use Rattle.search_wave.specs.Ran.{HasAnswered}
use Rattle.search_wave.specs.Waves.{IsWave}
use Rattle.wave_bodies.specs.declared.asked.Asked.{Asked}

pub is-wave : (settings : Settings) (index : ShardIndex) (words : WordsModel) (requests : List AnyRequest) (refusals : List (Option Tripped)) (asked : List Asked) (searches : List Search) (ceilings : List ℕ) (ends : List SearchEnd) (answers : List Answered)
    (old charged : View) (opened closed : PassModel) (answered : View) → HasAnswered settings index words requests refusals asked searches ceilings ends answers old charged opened closed answered
    → IsWave settings (index_of index) requests old answered answers
is-wave settings index words requests refusals asked searches ceilings ends answers old charged opened closed answered ran = record {
  allowed = wave-allowed settings index words requests refusals asked searches ceilings ends answers old charged opened closed answered ran;
  risen = wave-risen settings index words requests refusals asked searches ceilings ends answers old charged opened closed answered ran;
}
