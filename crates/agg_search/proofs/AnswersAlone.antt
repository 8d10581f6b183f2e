-- Where no answer is kept, a search is answered as by one worker alone.
use Rattle.std.specs.Prelude.{◌≡◌, ◌⊎◌, List, []}
use Rattle.std.proofs.Common.{◌∙◌, ap, subst, inl, inr}
use Rattle.cache_spec.specs.declared.shard_search.ShardSearch.{ShardSearch}
use Rattle.agg_model.specs.declared.outcome.Answered.{Answered}
use Rattle.agg_model.specs.declared.settings.Settings.{Settings}
use Rattle.cache_spec.proofs.NothingKept.{run-alone}
use Rattle.cache_spec.specs.Cache.{Cached, answer_at, given_back}
use Rattle.agg_spec.specs.Index.{Index}
use Rattle.agg_spec.specs.Outcome.{Request}
use Rattle.breaker_words.specs.declared.view.View.{View}
use Rattle.solo_charges.specs.Standing.{StandsAt}
use Rattle.agg_search.specs.Answering.{AnswersAlone, AnswersCached}

pub answers-alone : (settings : Settings) (index : Index) (request : Request) (v u : View) (keeps : List ShardSearch) (a : Answered)
    → AnswersCached settings index 0 request v [] u keeps a → AnswersAlone settings index request v u a
answers-alone settings index request v u keeps a (inl memory) = inl memory
answers-alone settings index request v u keeps a (inr answered) = inr (λ before r stands.
    let as_kept = answered before r stands in
    let same = run-alone settings index r request in
    (record {
      answer = as_kept.answer ∙ ap (λ (c : Cached). answer_at settings index request c.going) same;
      stands = subst (λ (c : Cached). StandsAt before u (given_back r c.going.run)) same as_kept.stands;
    }))
