-- What one more body asks for.
use Rattle.std.specs.Prelude.{◌≡◌, refl, ℕ, ◌^◌, ◌≤◌, List, [], ◌∷◌, ◌++◌, map, sum, Bool, true, false, ◌&&◌, IsTrue, OnOk, Option, Some, None, is_none, Result, Ok, Err}
use Rattle.std.specs.List.{AllByRecursion, list_all}
use Rattle.std.proofs.Common.{◌∙◌, sym, ap, subst, arith, length-append}
use Rattle.std.proofs.lemmas.Grind.{flat_map-append}
use Rattle.std.proofs.lemmas.List.Sums.{sum_by-append}
use Rattle.list_laws.proofs.Lists.{append-nil}
use Rattle.agg_cost.proofs.EachRoom.{rooms-append}
use Rattle.agg_cost.specs.Searches.{AreRoomsFor, kinds_of, task_ceilings}
use Rattle.agg_evaluation.specs.Ceiling.{ceiling, search_ceiling}
use Rattle.agg_evaluation.specs.SearchFits.{search_fits}
use Rattle.agg_model.specs.declared.aggregation.Search.{Search}
use Rattle.agg_model.specs.declared.breaker.Tripped.{Tripped}
use Rattle.agg_model.specs.declared.outcome.Refused.{Refused}
use Rattle.agg_model.specs.declared.outcome.Refused.TheVariants as refused
use Rattle.agg_search.proofs.Outcomes.{not-run, not-wide, runs, too-wide}
use Rattle.agg_search.specs.Defined.{CanRun}
use Rattle.agg_spec.specs.Index.{Index, field_kinds}
use Rattle.agg_spec.specs.Outcome.{Request, outcome, request_outcome, running}
use Rattle.fitting_laws.specs.Indexes.{index_of}
use Rattle.shard_columns.specs.Index.{rows_by_shard}
use Rattle.shard_columns.specs.declared.index.Index.{Index as ShardIndex}
use Rattle.wave_bodies.specs.Asking.{AreAsked, IsRefusedAs, IsRunAs}
use Rattle.wave_bodies.specs.Read.{HasRead}
use Rattle.wave_bodies.specs.declared.asked.Asked.{Asked}
use Rattle.wave_bodies.specs.declared.asked.Asked.TheVariants as asks

module _ (index : Index) (request : Request) where
  pub is-refused : (r : Refused) → request.search ≡ Err r → IsRefusedAs index request r
  is-refused r is = record {
    outcome_is = λ max failures. ap (λ s. request_outcome index max s failures) is;
    none = λ max. ap (λ s. running s (outcome index max request [])) is;
  }

  module _ (search : Search) (is : request.search ≡ Ok search) where
    pub is-too-wide : search_ceiling (field_kinds index) search index.shards ≡ None → IsRefusedAs index request refused.TooWide
    is-too-wide none = record {
      outcome_is = λ max failures. too-wide index max search request failures is none;
      none = λ max. not-run index max search request is none;
    }

    pub is-run : (n : ℕ) → search_ceiling (field_kinds index) search index.shards ≡ Some n → IsRunAs index request search
    is-run n some = record {
      search_is = is;
      runs = λ max. runs index max search request n is some;
      outcome_is = λ max failures. not-wide index max search request failures n is some;
    }

-- what some bodies ask for, and what those behind them do
asked-append : (index : Index) (rs qs : List Request) (ts us : List (Option Tripped)) (ks ls : List Asked) (xs ys : List Search)
    → AreAsked index rs ts ks xs → AreAsked index qs us ls ys → AreAsked index (rs ++ qs) (ts ++ us) (ks ++ ls) (xs ++ ys)
asked-append index [] qs [] us [] ls [] ys first later = later
asked-append index (r ∷ rs) qs (Some t ∷ ts) us (asks.Tripped u ∷ ks) ls xs ys first later = (first.0, asked-append index rs qs ts us ks ls xs ys first.1 later)
asked-append index (r ∷ rs) qs (None ∷ ts) us (asks.Refused refused ∷ ks) ls xs ys first later = (first.0, asked-append index rs qs ts us ks ls xs ys first.1 later)
asked-append index (r ∷ rs) qs (None ∷ ts) us (asks.Runs ∷ ks) ls (x ∷ xs) ys first later = (first.0, asked-append index rs qs ts us ks ls xs ys first.1 later)
asked-append _ _ _ _ _ _ _ _ _ first later = absurd first

all-push : {A : Type 0} (P : A → Type 0) (xs : List A) (x : A) → AllByRecursion P xs → P x → AllByRecursion P (xs ++ x ∷ [])
all-push P [] x all one = (one, tt)
all-push P (y ∷ ys) x all one = (all.0, all-push P ys x all.1 one)

-- the searches that run are made for the index
pub all-made : (index : ShardIndex) (searches : List Search) → AllByRecursion (CanRun index) searches → IsTrue (list_all (search_fits index.mapping) searches)
all-made index [] run = refl
all-made index (x ∷ xs) run = and-true (search_fits index.mapping x) (list_all (search_fits index.mapping) xs) run.0.made (all-made index xs run.1)
  where
    and-true : (a b : Bool) → IsTrue a → IsTrue b → IsTrue (a && b)
    and-true true b first later = later
    and-true false b first later = absurd (let no : ⊥ = cc in no)

-- whether a search has a ceiling
module _ (o : Option ℕ) where
  pub has-none : true ≡ is_none o → o ≡ None
  has-none wide = by_case o refl
    where
      by_case : (r : Option ℕ) → o ≡ r → o ≡ None
      by_case None same = same
      by_case (Some n) same = absurd (let no : true ≡ false = wide ∙ ap is_none same in (let none : ⊥ = cc in none))

  pub has-some : false ≡ is_none o → (n : ℕ) × (o ≡ Some n)
  has-some narrow = by_case o refl
    where
      by_case : (r : Option ℕ) → o ≡ r → (n : ℕ) × (o ≡ Some n)
      by_case (Some n) same = (n, same)
      by_case None same = absurd (let no : false ≡ true = narrow ∙ ap is_none same in (let none : ⊥ = cc in none))

module _ (index : ShardIndex) (requests : List Request) (refusals : List (Option Tripped)) (asked : List Asked) (searches : List Search) (rooms : List ℕ)
    (read : HasRead index requests refusals asked searches rooms) (request : Request) where
  -- a body for which nothing runs
  quiet : (t : Option Tripped) (a : Asked) → AreAsked (index_of index) (request ∷ []) (t ∷ []) (a ∷ []) []
      → HasRead index (requests ++ request ∷ []) (refusals ++ t ∷ []) (asked ++ a ∷ []) searches rooms
  quiet t a one = record {
    asked_are = subst (λ xs. AreAsked (index_of index) (requests ++ request ∷ []) (refusals ++ t ∷ []) (asked ++ a ∷ []) xs) (append-nil searches)
        (asked-append (index_of index) requests (request ∷ []) refusals (t ∷ []) asked (a ∷ []) searches [] read.asked_are one);
    run = read.run;
    few = (let more = length-append requests (request ∷ []) in let few = read.few in omega arith);
    rooms_are = read.rooms_are;
    low = read.low;
  }

  pub tripped-more : (t : Tripped) → HasRead index (requests ++ request ∷ []) (refusals ++ Some t ∷ []) (asked ++ asks.Tripped t ∷ []) searches rooms
  tripped-more t = quiet (Some t) (asks.Tripped t) (refl, tt)

  pub refused-more : (r : Refused) → IsRefusedAs (index_of index) request r → HasRead index (requests ++ request ∷ []) (refusals ++ None ∷ []) (asked ++ asks.Refused r ∷ []) searches rooms
  refused-more r is = quiet None (asks.Refused r) (is, tt)

  module _ (search : Search) (made : IsTrue (search_fits index.mapping search)) (is : request.search ≡ Ok search) where
    pub wide-more : true ≡ is_none (search_ceiling (kinds_of index.mapping) search (rows_by_shard index.shards))
        → HasRead index (requests ++ request ∷ []) (refusals ++ None ∷ []) (asked ++ asks.Refused refused.TooWide ∷ []) searches rooms
    wide-more wide =
        refused-more refused.TooWide (is-too-wide (index_of index) request search is (has-none (search_ceiling (kinds_of index.mapping) search (rows_by_shard index.shards)) wide))

    pub running-more : (found : List ℕ) → AreRoomsFor found (map (ceiling (kinds_of index.mapping) search) (rows_by_shard index.shards)) → sum found ≤ 2 ^ 50
        → false ≡ is_none (search_ceiling (kinds_of index.mapping) search (rows_by_shard index.shards))
        → HasRead index (requests ++ request ∷ []) (refusals ++ None ∷ []) (asked ++ asks.Runs ∷ []) (searches ++ search ∷ []) (rooms ++ found)
    running-more found are few narrow =
        let shards = rows_by_shard index.shards in
        let kinds = kinds_of index.mapping in
        let of : Search → List (Option ℕ) = λ s. map (ceiling kinds s) shards in
        let some = has-some (search_ceiling kinds search shards) narrow in
        let tasks : of search ≡ task_ceilings kinds (search ∷ []) shards = sym (append-nil (of search)) in
        let both : task_ceilings kinds searches shards ++ of search ≡ task_ceilings kinds (searches ++ search ∷ []) shards =
        ap (λ xs. task_ceilings kinds searches shards ++ xs) tasks ∙ sym (flat_map-append of searches (search ∷ [])) in
        record {
          asked_are = asked-append (index_of index) requests (request ∷ []) refusals (None ∷ []) asked (asks.Runs ∷ []) searches (search ∷ []) read.asked_are
              (is-run (index_of index) request search is some.0 some.1, tt);
          run = all-push (CanRun index) searches search read.run (record { made = made; ceiling = some.0; is = some.1 });
          few = (let more = length-append requests (request ∷ []) in let longer = length-append searches (search ∷ []) in let few = read.few in omega arith);
          rooms_are = subst (AreRoomsFor (rooms ++ found)) both (rooms-append rooms found (task_ceilings kinds searches shards) (of search) read.rooms_are are);
          low = (let longer = length-append searches (search ∷ []) in let both = sum_by-append (λ (n : ℕ). n) rooms found in let before = read.low in omega arith);
        }

-- what was there before the first body
pub nothing-read : (index : ShardIndex) → HasRead index [] [] [] [] []
nothing-read index = record { asked_are = tt; run = tt; few = omega arith; rooms_are = tt; low = omega arith }

-- what follows where a call went well from what it then tells
pub on-ok : {T E : Type 0} (r : Result T E) (A B : Type 0) → OnOk r A → (A → B) → OnOk r B
on-ok (Ok x) A B a f = f a
on-ok (Err e) A B a f = tt

pub on-ok-three : {T E : Type 0} (r : Result T E) (A B C D : Type 0) → OnOk r A → OnOk r B → OnOk r C → (A → B → C → D) → OnOk r D
on-ok-three (Ok x) A B C D a b c f = f a b c
on-ok-three (Err e) A B C D a b c f = tt
