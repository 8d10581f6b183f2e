-- What is known where no answer tells of a refusal.
use Rattle.std.specs.Prelude.{◌≡◌, refl, ◌⊎◌, ◌≤◌, ◌<◌, ℕ, ◌+◌, ◌&&◌, ◌||◌, not, true, false, List, [], ◌∷◌, filter, length, map, sum_by, is_some, Option, Some, None, IsPermutation}
use Rattle.std.specs.List.{AllByRecursion}
use Rattle.std.proofs.Common.{sym, ap, subst, ◌∙◌, arith, ⊎_elim}
use Rattle.std.proofs.lemmas.List.Sums.{sum_by-cons}
use Rattle.list_laws.proofs.Booleans.{and_first, and_second}
use Rattle.list_laws.proofs.Lists.{joined}
use Rattle.agg_evaluation.specs.Cost.{cost}
use Rattle.agg_model.specs.declared.aggregation.Search.{Search}
use Rattle.agg_model.specs.declared.breaker.Limits.{Limits}
use Rattle.agg_model.specs.declared.breaker.Tripped.{Tripped}
use Rattle.agg_model.specs.declared.breaker.Which.{Which}
use Rattle.agg_model.specs.declared.outcome.Answered.{Answered}
use Rattle.agg_model.specs.declared.outcome.Failure.{Failure}
use Rattle.agg_model.specs.declared.outcome.Outcome.{Outcome}
use Rattle.agg_model.specs.declared.outcome.Outcome.TheVariants as ended
use Rattle.agg_model.specs.declared.outcome.Refused.{Refused}
use Rattle.agg_model.specs.declared.settings.Settings.{Settings}
use Rattle.agg_spec.specs.Charges.{Amounts, amount_at, no_amounts}
use Rattle.agg_spec.specs.Failures.{has_failed, unfailed}
use Rattle.agg_spec.specs.Index.{Index, shard_numbers}
use Rattle.agg_spec.specs.Outcome.{Request as AnyRequest, outcome, outcome_of_shards, response_length, running_search, whole_of}
use Rattle.agg_spec.specs.Rises.{least_for_tasks, least_merge_charge, gross_sum, merge_charge, task_costs}
use Rattle.agg_spec.specs.Rounds.{all_quiet, is_quiet, response_bytes}
use Rattle.agg_spec.specs.Wave.{result_cost}
use Rattle.breaker_words.specs.declared.view.View.{View}
use Rattle.shard_pool.specs.Batches.{batch_count}
use Rattle.shard_pool.specs.Ends.{IsTold, all_quiet as all_ends_quiet, is_empty, is_quiet as is_quiet_end, is_stopped, told_in}
use Rattle.shard_pool.specs.declared.search_end.SearchEnd.{SearchEnd}
use Rattle.wave_answers.specs.Ended.{IsAnswer, IsReduced, IsRefused, IsStopped}
use Rattle.wave_bodies.specs.Charged.{trips_in}
use Rattle.wave_bodies.specs.Asking.{IsRefusedAs, IsRunAs}
use Rattle.search_wave.proofs.RisenMerges.{IsLeastMerge, least-merge}
use Rattle.search_wave.proofs.RisenSums.{least_of}
use Rattle.search_wave.proofs.RisenTold.{at-none, at-sum}
use Rattle.search_wave.proofs.RisenTrips.{trips-cons}
use Rattle.search_wave.proofs.RisenWalk.{GoesOn}

-- The parts of an end are the wholes of groups of the shards that are left; one for each batch where no shard is left out.
pub record HasGroups (index : Index) (size : ℕ) (search : Search) (e : SearchEnd) : Type 0 where
  pub groups : List (List ℕ)
  pub parts : e.parts ≡ map (whole_of index search) groups
  pub each : IsPermutation (unfailed index e.failures) (joined groups)
  pub number : e.failures ≡ [] → length groups ≡ batch_count (length index.shards) size

-- what is known of the end of a search
pub record HasEnded (limits : Limits) (index : Index) (size : ℕ) (v : View) (search : Search) (e : SearchEnd) : Type 0 where
  pub told : AllByRecursion (IsTold limits v) (told_in e)
  pub groups : is_stopped e ≡ false → HasGroups index size search e

-- the least that a request is granted at request
abbrev pub least_in : Settings → Index → AnyRequest → ℕ
least_in settings index r = least_for_tasks index settings.batch (running_search index settings.max_buckets r) + response_bytes index settings r []

-- where no shard is left out, all are left
kept-all : (ns : List ℕ) → filter (λ n. not (has_failed [] n)) ns ≡ ns
kept-all [] = refl
kept-all (n ∷ ns) = ap (λ ms. n ∷ ms) (kept-all ns)

pub all-left : (index : Index) → unfailed index [] ≡ shard_numbers index
all-left index = kept-all (shard_numbers index)

-- a quiet answer has no failure, and is no refusal by a breaker
quiet-whole : (o : Outcome) (fs : List Failure) → is_quiet o fs ≡ true → fs ≡ []
quiet-whole (ended.Response line) [] h = refl
quiet-whole (ended.Response line) (f ∷ fs) h = absurd (let no : ⊥ = cc in no)
quiet-whole (ended.Refused r) [] h = refl
quiet-whole (ended.Refused r) (f ∷ fs) h = absurd (let no : ⊥ = cc in no)
quiet-whole (ended.Tripped t) fs h = absurd (let no : ⊥ = cc in no)
quiet-whole ended.Memory fs h = absurd (let no : ⊥ = cc in no)

quiet-granted : (o : Outcome) (fs : List Failure) (t : Tripped) → o ≡ ended.Tripped t → is_quiet o fs ≡ true → ⊥
quiet-granted o fs t e h = let k : false ≡ true = sym (ap (λ z. is_quiet z fs) e) ∙ h in let no : ⊥ = cc in no

none-refused : (o : Option Tripped) → (is_some o ≡ true → ⊥) → o ≡ None
none-refused None h = refl
none-refused (Some t) h = absurd (h refl)

module _ (settings : Settings) (index : Index) (v : View) (some : 0 < length index.shards) (first : ℕ) (others : List ℕ) (left : unfailed index [] ≡ first ∷ others) where
  abbrev limits : Limits
  limits = settings.limits

  abbrev max : ℕ
  max = settings.max_buckets

  abbrev size : ℕ
  size = settings.batch

  abbrev P : Search → SearchEnd → Type 0
  P search e = HasEnded limits index size v search e

  -- a search that was answered quietly
  pub record IsQuietSearch (r : AnyRequest) (search : Search) (e : SearchEnd) (here : ℕ) (own : Amounts) : Type 0 where
    pub none : own ≡ no_amounts
    pub quiet : is_quiet_end e ≡ true
    pub least : least_in settings index r ≤ least_of index size search + here
    pub exactly : length index.shards ≤ size → least_of index size search + here ≡ least_in settings index r

  module _ (r : AnyRequest) (search : Search) (e : SearchEnd) (a : Answered) (here : ℕ) (own : Amounts) (runs : IsRunAs index r search) (p : P search e) (is : IsAnswer limits index max v search e a here own) (quiet : is_quiet a.outcome a.failures ≡ true) where
    no-failure : e.failures ≡ []
    no-failure = sym is.failures_are ∙ quiet-whole a.outcome a.failures quiet

    by_reduced : IsReduced limits index max v search e a.outcome here own → IsQuietSearch r search e here own
    by_reduced red = record {
      none = red.none;
      quiet = ends_quiet;
      least = (let a = charged in let b = merges.least in let c = least_is in omega (arith, a, b, c));
      exactly = λ few. (let a = charged in let b = merges.exactly few in let c = least_is in omega (arith, a, b, c));
    }
      where
        not-refused : e.refused ≡ None
        not-refused = none-refused e.refused (λ h. let k : first ∷ others ≡ [] = sym left ∙ ap (unfailed index) (sym no-failure) ∙ red.passed_over h in let no : ⊥ = cc in no)

        going : is_stopped e ≡ false
        going = λ i. is_some (not-refused i) || is.memory i

        ends_quiet : is_quiet_end e ≡ true
        ends_quiet = λ i. not (going i) && is_empty (no-failure i)

        have : HasGroups index size search e
        have = p.groups going

        each : IsPermutation (shard_numbers index) (joined have.groups)
        each = subst (λ ns. IsPermutation ns (joined have.groups)) (ap (unfailed index) no-failure ∙ all-left index) have.each

        merges : IsLeastMerge index search size (map cost (map (whole_of index search) have.groups))
        merges = least-merge index search size some have.groups (have.number no-failure) each

        answer-is : a.outcome ≡ outcome index max r []
        answer-is = red.outcome_is ∙ ap (λ fs. outcome_of_shards index max search fs (unfailed index fs)) no-failure ∙ sym (runs.outcome_is max [])

        charged : here ≡ merge_charge (map cost (map (whole_of index search) have.groups)) + response_bytes index settings r []
        charged = red.charged_is not-refused ∙ (λ i. merge_charge (map cost (have.parts i)) + response_length (answer-is i))

        least_is : least_in settings index r ≡ gross_sum index search + least_merge_charge size (result_cost index (Some search) (shard_numbers index)) (task_costs index search) + response_bytes index settings r []
        least_is = ap (λ o. least_for_tasks index size o + response_bytes index settings r []) (runs.runs max)

    pub quiet-search : IsQuietSearch r search e here own
    quiet-search = ⊎_elim by_reduced
        (λ (k : ((t : Tripped) × IsStopped limits index max e a.outcome t own) ⊎ ((t : Tripped) × IsRefused limits index max v search e a.outcome t own)). ⊎_elim
        (λ (s : (t : Tripped) × IsStopped limits index max e a.outcome t own). absurd (quiet-granted a.outcome a.failures s.0 s.1.outcome_is quiet))
        (λ (s : (t : Tripped) × IsRefused limits index max v search e a.outcome t own). absurd (quiet-granted a.outcome a.failures s.0 s.1.outcome_is quiet))
        k)
        is.is

  -- what is known of all of them
  pub record AreQuiet (requests : List AnyRequest) (refusals : List (Option Tripped)) (searches : List Search) (ends : List SearchEnd) (c : ℕ) (m : Amounts) : Type 0 where
    pub bodies : (x : Which) → amount_at x (trips_in refusals) ≡ 0
    pub own : (x : Which) → amount_at x m ≡ 0
    pub ends_are : all_ends_quiet ends ≡ true
    pub least : sum_by (least_in settings index) requests ≤ sum_by (least_of index size) searches + c
    pub exactly : length index.shards ≤ size → sum_by (least_of index size) searches + c ≡ sum_by (least_in settings index) requests

  abbrev pub IfQuiet : List AnyRequest → List (Option Tripped) → List Search → List SearchEnd → List Answered → ℕ → Amounts → Type 0
  IfQuiet requests refusals searches ends answers c m = all_quiet answers ≡ true → AreQuiet requests refusals searches ends c m

  refused-least : (r : AnyRequest) (w : Refused) → IsRefusedAs index r w → least_in settings index r ≡ 0
  refused-least r w h = λ i. least_for_tasks index size (h.none max i) + response_length (h.outcome_is max [] i)

  pub goes-quiet : GoesOn limits index max v P IfQuiet
  goes-quiet = record {
    none = λ c m z n quiet. record {
      bodies = at-none;
      own = λ x. ap (amount_at x) n ∙ at-none x;
      ends_are = refl;
      least = omega arith;
      exactly = λ few. omega (arith, z);
    };
    tripped = λ r t a is rs ts searches ends later c m rest quiet. absurd (quiet-granted a.outcome a.failures t (ap (λ (b : Answered). b.outcome) is) (and_first (is_quiet a.outcome a.failures) (all_quiet later) quiet));
    refused = λ r w a of is rs ts searches ends later c m rest quiet.
        (let known = rest (and_second (is_quiet a.outcome a.failures) (all_quiet later) quiet) in let sum = sum_by-cons (least_in settings index) r rs in let zero = refused-least r w of in
        record {
          bodies = λ x. (let k = trips-cons x None ts in let z = at-none x in let b = known.bodies x in omega (arith, k, z, b));
          own = known.own;
          ends_are = known.ends_are;
          least = (let b = known.least in omega (arith, sum, zero, b));
          exactly = λ few. (let b = known.exactly few in omega (arith, sum, zero, b));
        });
    runs = λ r search e a here own of p is rs ts searches ends later others told c m z n rest quiet.
        (let known = rest (and_second (is_quiet a.outcome a.failures) (all_quiet later) quiet) in
        let one = quiet-search r search e a here own of p is (and_first (is_quiet a.outcome a.failures) (all_quiet later) quiet) in
        let sum = sum_by-cons (least_in settings index) r rs in let granted = sum_by-cons (least_of index size) search searches in
        record {
          bodies = λ x. (let k = trips-cons x None ts in let z = at-none x in let b = known.bodies x in omega (arith, k, z, b));
          own = λ x. (let k = ap (amount_at x) n ∙ at-sum x own told in let l = ap (amount_at x) one.none in let z = at-none x in let b = known.own x in omega (arith, k, l, z, b));
          ends_are = (λ i. one.quiet i && known.ends_are i);
          least = (let b = known.least in let f = one.least in omega (arith, sum, granted, b, f, z));
          exactly = λ few. (let b = known.exactly few in let f = one.exactly few in omega (arith, sum, granted, b, f, z));
        });
  }
