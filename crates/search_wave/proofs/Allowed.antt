-- Searches that were answered side by side are answered as a wave may be.
use Rattle.std.specs.Prelude.{◌≡◌, ◌≤◌, ◌<◌, ℕ, ◌+◌, ◌*◌, List, [], ◌∷◌, length, sum_by, Option, Some, None}
use Rattle.std.proofs.Common.{subst, arith}
use Rattle.std.proofs.lemmas.List.{length-map}
use Rattle.std.proofs.lemmas.List.Sums.{sum_by-cons}
use Rattle.agg_model.specs.declared.aggregation.Search.{Search}
use Rattle.agg_model.specs.declared.breaker.Tripped.{Tripped}
use Rattle.agg_model.specs.declared.breaker.Which.TheVariants.{Request, Fielddata, Inflight, Parent}
use Rattle.agg_model.specs.declared.outcome.Answered.{Answered}
use Rattle.agg_model.specs.declared.settings.Settings.{Settings}
use Rattle.agg_spec.specs.Charges.{Amounts}
use Rattle.agg_spec.specs.Index.{Index}
use Rattle.agg_spec.specs.Outcome.{Request as AnyRequest}
use Rattle.agg_spec.specs.Wave.{MayAnswerEach, MayAnswerWave, wave_ceiling}
use Rattle.batch_reduce.specs.Reduced.{at_both}
use Rattle.breaker_words.specs.Passes.{PassModel, WordsModel}
use Rattle.breaker_words.specs.Views.{hold_of}
use Rattle.breaker_words.specs.declared.view.View.{View}
use Rattle.fitting_laws.specs.Indexes.{index_of}
use Rattle.shard_pool.specs.Ends.{cost_of_ends, over_tasks}
use Rattle.shard_pool.specs.declared.search_end.SearchEnd.{SearchEnd}
use Rattle.pool_results.specs.Pools.{peak_at}
use Rattle.shard_columns.specs.declared.index.Index.{Index as ShardIndex}
use Rattle.shard_pool.specs.PoolOf.{pool_of}
use Rattle.wave_answers.specs.Ended.{AreAnswers}
use Rattle.wave_bodies.specs.Charged.{charged_for}
use Rattle.wave_bodies.specs.Asking.{AreAsked}
use Rattle.wave_bodies.specs.declared.asked.Asked.{Asked}
use Rattle.wave_bodies.specs.declared.asked.Asked.TheVariants as asks
use Rattle.search_wave.specs.Ran.{HasAnswered}
use Rattle.search_wave.proofs.AllowedAnswers.{run-allowed}
use Rattle.search_wave.proofs.AllowedEnds.{HaveEnded, ends-cost, ends-known}
use Rattle.search_wave.proofs.AllowedRefused.{refused-allowed, tripped-allowed}
use Rattle.search_wave.proofs.AllowedSeen.{IsWithin}
use Rattle.search_wave.proofs.AllowedSums.{asked-most, charge-behind, charge-first, pool-peaks, response-behind, response-first, responses, search_peaks}

-- answer by answer
module _ (settings : Settings) (index : Index) (some : 0 < length index.shards) (columns bodies peaks bytes ceiling : ℕ) (view : View) (known : IsWithin columns bodies peaks bytes ceiling view) where
  pub each-allowed : (rs : List AnyRequest) (ts : List (Option Tripped)) (asked : List Asked) (searches : List Search) (ends : List SearchEnd) (answers : List Answered) (charged : ℕ) (trips : Amounts)
      → AreAsked index rs ts asked searches → HaveEnded settings.limits index view searches ends → AreAnswers settings.limits index settings.max_buckets view asked searches ends answers charged trips
      → charged_for settings index columns ts rs ≤ bodies → sum_by (search_peaks index) searches ≤ peaks → responses settings index columns rs answers ≤ bytes
      → MayAnswerEach settings index columns ceiling rs ts answers
  each-allowed [] [] [] [] [] [] charged trips h ends are body few short = tt
  each-allowed (r ∷ rs) (Some t ∷ ts) (asks.Tripped u ∷ more) searches ends (a ∷ later) charged trips h ended are body few short =
      let b = charge-behind settings index columns (Some t) ts r rs in let c = response-behind settings index columns r rs a later in
      (tripped-allowed settings index columns ceiling r t u a h.0 are.0, each-allowed rs ts more searches ends later charged trips h.1 ended are.1 (omega (arith, b, body)) few (omega (arith, c, short)))
  each-allowed (r ∷ rs) (None ∷ ts) (asks.Refused x ∷ more) searches ends (a ∷ later) charged trips h ended are body few short =
      let b = charge-behind settings index columns None ts r rs in let c = response-behind settings index columns r rs a later in
      (refused-allowed settings index columns ceiling r x a h.0 are.0, each-allowed rs ts more searches ends later charged trips h.1 ended are.1 (omega (arith, b, body)) few (omega (arith, c, short)))
  each-allowed (r ∷ rs) (None ∷ ts) (asks.Runs ∷ more) (here ∷ searches) (e ∷ ends) (a ∷ later) charged trips h ended are body few short =
      let first = charge-first settings index columns ts r rs in let behind = charge-behind settings index columns None ts r rs in
      let own = response-first settings index columns r rs a later in let others = response-behind settings index columns r rs a later in
      let all = sum_by-cons (search_peaks index) here searches in (
        run-allowed settings index some columns bodies peaks bytes ceiling view known r here h.0 e ended.0 a are.0 are.2 are.4 (omega (arith, first, body)) (omega (arith, all, few)) (omega (arith, own, short)),
        each-allowed rs ts more searches ends later are.1 are.3 h.1 ended.1 are.5 (omega (arith, behind, body)) (omega (arith, all, few)) (omega (arith, others, short)),
      )
  each-allowed _ _ _ _ _ _ _ _ h ended are _ _ _ = absurd (let no : ⊥ = assumption (h, ended, are) in no)

at-request : (n : ℕ) → at_both n Request ≡ n
at-request n = omega arith

at-parent : (n : ℕ) → at_both n Parent ≡ n
at-parent n = omega arith

-- the law
module _ (settings : Settings) (index : ShardIndex) (words : WordsModel) (requests : List AnyRequest) (refusals : List (Option Tripped)) (asked : List Asked) (searches : List Search)
    (ceilings : List ℕ) (ends : List SearchEnd) (answers : List Answered) (old charged : View) (opened closed : PassModel) (answered : View)
    (ran : HasAnswered settings index words requests refusals asked searches ceilings ends answers old charged opened closed answered) where
  abbrev whole : Index
  whole = index_of index

  abbrev columns : ℕ
  columns = hold_of old Fielddata

  abbrev bodies : ℕ
  bodies = charged_for settings whole columns refusals requests

  abbrev peaks : ℕ
  peaks = sum_by (search_peaks whole) searches

  have-ended : HaveEnded settings.limits whole closed.view searches ends
  have-ended = ends-known words index searches ceilings settings.batch closed.view settings.limits ran.limits ends ran.number ran.ends_are

  within : IsWithin columns bodies peaks (responses settings whole columns requests answers) (wave_ceiling settings whole columns requests answers) closed.view
  within = record {
    all = (let a = asked-most settings whole columns requests refusals asked searches ran.asked_are in omega (arith, a));
    request_most = (let a = ran.run.most Request in let b = ran.most Request in let c = ran.request_charged in let d = all-peaks in let e = at-request (2 * most) in omega (arith, a, b, c, d, e));
    parent_most = (let a = ran.run.most Parent in let b = ran.most Parent in let c = parent-charged in let d = all-peaks in let e = at-parent (2 * most) in omega (arith, a, b, c, d, e));
    request = (let a = ran.run.holds Request in let b = ran.holds Request in let c = ran.request_charged in let d = all-costs in let e = at-request (cost_of_ends ends) in omega (arith, a, b, c, d, e));
    parent = (let a = ran.run.holds Parent in let b = ran.holds Parent in let c = parent-charged in let d = all-costs in let e = at-parent (cost_of_ends ends) in omega (arith, a, b, c, d, e));
    fielddata = (let a = ran.run.holds Fielddata in let b = ran.holds Fielddata in let c = ran.fielddata_charged in omega (arith, a, b, c));
    inflight = (let a = ran.run.holds Inflight in let b = ran.holds Inflight in let c = ran.bodies.held in omega (arith, a, b, c));
  }
    where
      most : ℕ
      most = over_tasks (pool_of words index searches ceilings) (peak_at (pool_of words index searches ceilings))

      all-peaks : most ≡ peaks
      all-peaks = pool-peaks words index searches ceilings

      all-costs : cost_of_ends ends ≤ peaks
      all-costs = ends-cost settings.limits whole closed.view searches ends have-ended

      parent-charged : hold_of charged Parent ≡ columns + bodies
      parent-charged = let a = ran.parent in let b = ran.request_charged in let c = ran.fielddata_charged in let d = ran.bodies.held in omega (arith, a, b, c, d)

  some : 0 < length whole.shards
  some = let a = length-map index.shards (λ s. s.rows) in let b = index.some_shards in omega (arith, a, b)

  pub wave-allowed : MayAnswerWave settings (index_of index) (hold_of old Fielddata) requests answers
  wave-allowed =
      subst (λ ts. MayAnswerEach settings whole columns (wave_ceiling settings whole columns requests answers) requests ts answers) ran.bodies.refusals_are
      (each-allowed settings whole some columns bodies peaks (responses settings whole columns requests answers) (wave_ceiling settings whole columns requests answers) closed.view within
      requests refusals asked searches ends answers ran.more ran.more_trips ran.asked_are have-ended ran.answers_are (omega arith) (omega arith) (omega arith))
