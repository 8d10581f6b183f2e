-- How far some bodies are answered, one after another.
use Rattle.std.specs.Prelude.{◌≡◌, ◌⊎◌, ◌≤◌, refl, ℕ, ◌+◌, List, [], ◌∷◌, ◌++◌, IfOk, Option, Some, None, Result, Ok, Err, length, map}
use Rattle.std.specs.List.{AllByRecursion}
use Rattle.std.proofs.Common.{◌∙◌, sym, ap, subst, arith, append_assoc, append-nil, ⊎_elim, inl, inr}
use Rattle.std.proofs.lemmas.List.{map-append}
use Rattle.std.proofs.lemmas.List.Sums.{sum_by-cons}
use Rattle.agg_model.specs.declared.aggregation.Search.{Search}
use Rattle.agg_model.specs.declared.breaker.Limits.{Limits}
use Rattle.agg_model.specs.declared.breaker.Tripped.{Tripped}
use Rattle.agg_model.specs.declared.breaker.Which.{Which}
use Rattle.agg_model.specs.declared.breaker.Which.TheVariants.{Request, Fielddata, Inflight, Parent}
use Rattle.agg_model.specs.declared.outcome.Answered.{Answered}
use Rattle.agg_model.specs.declared.outcome.Outcome.{Outcome}
use Rattle.agg_model.specs.declared.outcome.Outcome.TheVariants as ended
use Rattle.agg_model.specs.declared.outcome.Refused.{Refused}
use Rattle.agg_search.proofs.NextPages.{nothing-behind}
use Rattle.agg_search.specs.Defined.{CanRun}
use Rattle.agg_search.specs.Paging.{IsBehind}
use Rattle.agg_search.specs.declared.solo.Page.{Page}
use Rattle.agg_spec.specs.Charges.{Amounts, amounts_sum, no_amounts}
use Rattle.agg_spec.specs.Index.{Index}
use Rattle.agg_spec.specs.Outcome.{Request as AnyRequest}
use Rattle.batch_reduce.specs.Parts.{cost_of_parts}
use Rattle.breaker_words.specs.Soundness.{IsBounded}
use Rattle.breaker_words.specs.Views.{hold_of}
use Rattle.breaker_words.specs.declared.view.View.{View}
use Rattle.fitting_laws.specs.Indexes.{index_of}
use Rattle.shard_pool.specs.Ends.{cost_of_ends}
use Rattle.shard_pool.specs.declared.search_end.SearchEnd.{SearchEnd}
use Rattle.shard_columns.specs.declared.index.Index.{Index as ShardIndex}
use Rattle.wave_answers.specs.Ended.{AreAnswers, AreBehind, AreEndsOf, HasRoom, IsAnswer, IsReduced, IsRefused, IsStopped, runs_asked}
use Rattle.wave_answers.specs.Next.{IsAnsweredBy, IsNext, IsNextOf}
use Rattle.wave_answers.specs.Rising.{HasRisen}
use Rattle.wave_answers.proofs.Rises.{rises-join, unchanged}
use Rattle.wave_bodies.specs.Asking.{AreAsked}
use Rattle.wave_bodies.specs.declared.asked.Asked.{Asked}
use Rattle.wave_bodies.specs.declared.asked.Asked.TheVariants as asks

-- An answer of a pass that held less is one of a pass that held more.
module _ (limits : Limits) (index : Index) (max : ℕ) (v w : View) (search : Search) (e : SearchEnd)
    (fielddata : hold_of w Fielddata ≡ hold_of v Fielddata) (inflight : hold_of w Inflight ≡ hold_of v Inflight)
    (request : hold_of w Request ≤ hold_of v Request) (parent : hold_of w Parent ≤ hold_of v Parent) where
  weaker-room : (bytes : ℕ) → HasRoom limits index max w search e bytes → HasRoom limits index max v search e bytes
  weaker-room bytes r = record { at_request = r.at_request; at_parent = (let p = r.at_parent in omega (arith, p, fielddata, inflight)) }

  weaker-reduced : (o : Outcome) (charged : ℕ) (trips : Amounts) → IsReduced limits index max w search e o charged trips → IsReduced limits index max v search e o charged trips
  weaker-reduced o charged trips r = record {
    outcome_is = r.outcome_is;
    passed_over = r.passed_over;
    charged_is = r.charged_is;
    none = r.none;
    room = λ line is. weaker-room (length line) (r.room line is);
  }

  less-there : (x : Which) → (x ≡ Request) ⊎ (x ≡ Parent) → hold_of w x ≤ hold_of v x
  less-there x by = ⊎_elim
      (λ (e : x ≡ Request). subst (λ (y : Which). hold_of w y ≤ hold_of v y) (sym e) request)
      (λ (e : x ≡ Parent). subst (λ (y : Which). hold_of w y ≤ hold_of v y) (sym e) parent) by

  weaker-refused : (o : Outcome) (t : Tripped) (trips : Amounts) → IsRefused limits index max w search e o t trips → IsRefused limits index max v search e o t trips
  weaker-refused o t trips r = record {
    going = r.going;
    outcome_is = r.outcome_is;
    left = r.left;
    breaker = r.breaker;
    limit = r.limit;
    above = r.above;
    within = (let a = r.within in let b = less-there t.which r.breaker in omega (arith, a, b));
    one = r.one;
  }

  pub weaker-answer : (a : Answered) (charged : ℕ) (trips : Amounts) → IsAnswer limits index max w search e a charged trips → IsAnswer limits index max v search e a charged trips
  weaker-answer a charged trips h = record {
    failures_are = h.failures_are;
    memory = h.memory;
    is = ⊎_elim
        (λ (r : IsReduced limits index max w search e a.outcome charged trips). inl (weaker-reduced a.outcome charged trips r))
        (λ (others : ((t : Tripped) × IsStopped limits index max e a.outcome t trips) ⊎ ((t : Tripped) × IsRefused limits index max w search e a.outcome t trips)). inr (⊎_elim
        (λ (s : (t : Tripped) × IsStopped limits index max e a.outcome t trips). inl s)
        (λ (s : (t : Tripped) × IsRefused limits index max w search e a.outcome t trips). inr (s.0, weaker-refused a.outcome s.0 trips s.1))
        others))
        h.is;
  }

abbrev pub answers_in : List Page → List Answered
answers_in pages = map (λ (p : Page). p.answered) pages

one-more-answer : (pages : List Page) (page : Page) (rest : List Answered) → answers_in pages ++ page.answered ∷ rest ≡ answers_in (pages ++ page ∷ []) ++ rest
one-more-answer pages page rest =
    sym (ap (λ (xs : List Answered). xs ++ rest) (map-append (λ (p : Page). p.answered) pages (page ∷ [])) ∙ append_assoc (answers_in pages) (page.answered ∷ []) rest)

one-more-page : (pages : List Page) (page : Page) (rest : List Page) → pages ++ page ∷ rest ≡ (pages ++ page ∷ []) ++ rest
one-more-page pages page rest = sym (append_assoc pages (page ∷ []) rest)

module _ (limits : Limits) (index : ShardIndex) (max : ℕ) (v : View) (asked : List Asked) (searches : List Search) (ends : List SearchEnd) where
  -- Whatever answers what is left to be answered, answers all together with the pages that are there.
  abbrev pub CanAnswer : View → List Asked → List Search → List SearchEnd → List Page → Type 0
  CanAnswer now more later others pages =
      (rest : List Answered) (charged : ℕ) (trips : Amounts) (u : View) → AreAnswers limits (index_of index) max v more later others rest charged trips → HasRisen charged trips now u
      → (all : ℕ) × (told : Amounts) × AreAnswers limits (index_of index) max v asked searches ends (answers_in pages ++ rest) all told × HasRisen all told v u

  -- The same of the pages behind them.
  abbrev pub CanFollow : List Asked → List Search → List Page → Type 0
  CanFollow more later pages =
      (requests : List AnyRequest) (refusals : List (Option Tripped)) → AreAsked (index_of index) requests refusals asked searches
      → (behind : List AnyRequest) × (told : List (Option Tripped)) × AreAsked (index_of index) behind told more later
      × ((rest : List Page) → AreBehind index behind rest → AreBehind index requests (pages ++ rest))

  pub record IsGoing (now : View) (more : List Asked) (later : List Search) (others : List SearchEnd) (pages : List Page) : Type 0 where
    pub request : hold_of now Request ≤ hold_of v Request
    pub parent : hold_of now Parent ≤ hold_of v Parent
    pub fielddata : hold_of now Fielddata ≡ hold_of v Fielddata
    pub inflight : hold_of now Inflight ≡ hold_of v Inflight
    pub can : AllByRecursion (CanRun index) later
    pub are : AreEndsOf (index_of index) later others
    pub number : runs_asked more ≡ length later
    pub held : cost_of_ends others ≤ hold_of now Request
    pub answers : CanAnswer now more later others pages
    pub next : CanFollow more later pages

  pub going-first : AllByRecursion (CanRun index) searches → AreEndsOf (index_of index) searches ends → runs_asked asked ≡ length searches → cost_of_ends ends ≤ hold_of v Request
      → IsGoing v asked searches ends []
  going-first can are number held = record {
    request = omega arith;
    parent = omega arith;
    fielddata = refl;
    inflight = refl;
    can = can;
    are = are;
    number = number;
    held = held;
    answers = λ rest charged trips u answers risen. (charged, trips, answers, risen);
    next = λ requests refusals all. (requests, refusals, all, λ rest behind. behind);
  }

  -- a page that no search runs for
  module _ (now : View) (more : List Asked) (later : List Search) (others : List SearchEnd) (pages : List Page) (page : Page) where
    pub going-refused : (asks : Asked)
        → ((rest : List Answered) (charged : ℕ) (trips : Amounts) → AreAnswers limits (index_of index) max v more later others rest charged trips
        → AreAnswers limits (index_of index) max v (asks ∷ more) later others (page.answered ∷ rest) charged trips)
        → ((behind : List AnyRequest) (told : List (Option Tripped)) → AreAsked (index_of index) behind told (asks ∷ more) later
        → (rs : List AnyRequest) × (ts : List (Option Tripped)) × AreAsked (index_of index) rs ts more later
        × ((rest : List Page) → AreBehind index rs rest → AreBehind index behind (page ∷ rest)))
        → runs_asked (asks ∷ more) ≡ runs_asked more
        → IsGoing now (asks ∷ more) later others pages → IsGoing now more later others (pages ++ page ∷ [])
    going-refused asks answered followed same g = record {
      request = g.request;
      parent = g.parent;
      fielddata = g.fielddata;
      inflight = g.inflight;
      can = g.can;
      are = g.are;
      number = sym same ∙ g.number;
      held = g.held;
      answers = λ rest charged trips u answers risen.
          (let all = g.answers (page.answered ∷ rest) charged trips u (answered rest charged trips answers) risen in (
            all.0,
            all.1,
            subst (λ (xs : List Answered). AreAnswers limits (index_of index) max v asked searches ends xs all.0 all.1) (one-more-answer pages page rest) all.2,
            all.3,
          ));
      next = λ requests refusals all.
          (let f = g.next requests refusals all in
          let o = followed f.0 f.1 f.2 in
          (o.0, o.1, o.2, λ rest behind. subst (AreBehind index requests) (one-more-page pages page rest) (f.3 (page ∷ rest) (o.3 rest behind))));
    }

    -- a search that ran
    pub going-ran : (search : Search) (e : SearchEnd) (new : View) → hold_of new Fielddata ≡ hold_of now Fielddata → hold_of new Inflight ≡ hold_of now Inflight
        → IsAnsweredBy limits index max now search e page new → IsGoing now (asks.Runs ∷ more) (search ∷ later) (e ∷ others) pages → IsGoing new more later others (pages ++ page ∷ [])
    going-ran search e new fielddata inflight by g =
        let answer = weaker-answer limits (index_of index) max v now search e g.fielddata g.inflight g.request g.parent page.answered by.charged by.trips by.answer in
        record {
          request = (let a = by.request in let b = g.request in omega (arith, a, b));
          parent = (let a = by.parent in let b = g.parent in omega (arith, a, b));
          fielddata = fielddata ∙ g.fielddata;
          inflight = inflight ∙ g.inflight;
          can = g.can.1;
          are = g.are.1;
          number = (let a = g.number in omega (arith, a));
          held = (let a = by.request in let b = g.held in let c = sum_by-cons (λ (x : SearchEnd). cost_of_parts x.parts) e others in omega (arith, a, b, c));
          answers = λ rest charged trips u answers risen.
              (let all = g.answers (page.answered ∷ rest) (by.charged + charged) (amounts_sum by.trips trips) u
              (by.charged, charged, by.trips, trips, answer, answers, refl, refl)
              (rises-join by.charged charged by.trips trips now new u by.risen risen) in (
                all.0,
                all.1,
                subst (λ (xs : List Answered). AreAnswers limits (index_of index) max v asked searches ends xs all.0 all.1) (one-more-answer pages page rest) all.2,
                all.3,
              ));
          next = λ requests refusals all.
              (let f = g.next requests refusals all in
              let o = ran-next f.0 f.1 search by f.2 in
              (o.0, o.1, o.2, λ rest behind. subst (AreBehind index requests) (one-more-page pages page rest) (f.3 (page ∷ rest) (o.3 rest behind))));
        }
      where
        ran-next : (behind : List AnyRequest) (told : List (Option Tripped)) (search : Search) → IsAnsweredBy limits index max now search e page new
            → AreAsked (index_of index) behind told (asks.Runs ∷ more) (search ∷ later)
            → (rs : List AnyRequest) × (ts : List (Option Tripped)) × AreAsked (index_of index) rs ts more later × ((rest : List Page) → AreBehind index rs rest → AreBehind index behind (page ∷ rest))
        ran-next [] [] ran by all = absurd all
        ran-next [] (t ∷ ts) ran by all = absurd all
        ran-next (r ∷ rs) [] ran by all = absurd all
        ran-next (r ∷ rs) (Some t ∷ ts) ran by all = absurd all
        ran-next (r ∷ rs) (None ∷ ts) ran by (runs, all) = (rs, ts, all, λ rest behind. (by.next r runs.search_is, behind))

  refused-behind : (page : Page) (o : Outcome) (request : AnyRequest) → page ≡ record { answered = record { outcome = o; failures = [] }; next = None }
      → ((request : AnyRequest) → IsBehind index request o [] None) → IsBehind index request page.answered.outcome page.answered.failures page.next
  refused-behind page o request is behind = subst (λ (p : Page). IsBehind index request p.answered.outcome p.answered.failures p.next) (sym is) (behind request)

  tripped-next : (more : List Asked) (later : List Search) (page : Page) (t : Tripped) → page ≡ record { answered = record { outcome = ended.Tripped t; failures = [] }; next = None }
      → (behind : List AnyRequest) (told : List (Option Tripped)) → AreAsked (index_of index) behind told (asks.Tripped t ∷ more) later
      → (rs : List AnyRequest) × (ts : List (Option Tripped)) × AreAsked (index_of index) rs ts more later × ((rest : List Page) → AreBehind index rs rest → AreBehind index behind (page ∷ rest))
  tripped-next more later page t is [] [] all = absurd all
  tripped-next more later page t is [] (o ∷ os) all = absurd all
  tripped-next more later page t is (r ∷ rs) [] all = absurd all
  tripped-next more later page t is (r ∷ rs) (None ∷ ts) all = absurd all
  tripped-next more later page t is (r ∷ rs) (Some u ∷ ts) (same, all) =
      (rs, ts, all, λ rest behind. (refused-behind page (ended.Tripped t) r is (λ request. nothing-behind index request [] (ended.Tripped t) None refl refl), behind))

  refused-next : (more : List Asked) (later : List Search) (page : Page) (refused : Refused) → page ≡ record { answered = record { outcome = ended.Refused refused; failures = [] }; next = None }
      → (behind : List AnyRequest) (told : List (Option Tripped)) → AreAsked (index_of index) behind told (asks.Refused refused ∷ more) later
      → (rs : List AnyRequest) × (ts : List (Option Tripped)) × AreAsked (index_of index) rs ts more later × ((rest : List Page) → AreBehind index rs rest → AreBehind index behind (page ∷ rest))
  refused-next more later page refused is [] [] all = absurd all
  refused-next more later page refused is [] (o ∷ os) all = absurd all
  refused-next more later page refused is (r ∷ rs) [] all = absurd all
  refused-next more later page refused is (r ∷ rs) (Some u ∷ ts) all = absurd all
  refused-next more later page refused is (r ∷ rs) (None ∷ ts) (same, all) =
      (rs, ts, all, λ rest behind. (refused-behind page (ended.Refused refused) r is (λ request. nothing-behind index request [] (ended.Refused refused) None refl refl), behind))

  -- one body more
  pub going-next : (now new : View) (asks : Asked) (more : List Asked) (later next_later : List Search) (others next_others : List SearchEnd) (pages : List Page) (page : Page)
      → hold_of new Fielddata ≡ hold_of now Fielddata → hold_of new Inflight ≡ hold_of now Inflight
      → IsNext limits index max now asks later others page new next_later next_others
      → IsGoing now (asks ∷ more) later others pages → IsGoing new more next_later next_others (pages ++ page ∷ [])
  going-next now new (asks.Tripped t) more later next_later others next_others pages page fielddata inflight (is, same, searches_are, ends_are) g =
      subst (λ (u : View). IsGoing u more next_later next_others (pages ++ page ∷ [])) (sym same)
      (subst (λ (ss : List Search). IsGoing now more ss next_others (pages ++ page ∷ [])) (sym searches_are)
      (subst (λ (es : List SearchEnd). IsGoing now more later es (pages ++ page ∷ [])) (sym ends_are)
      (going-refused now more later others pages page (asks.Tripped t) (λ rest charged trips answers. (ap (λ (p : Page). p.answered) is, answers)) (tripped-next more later page t is) refl g)))
  going-next now new (asks.Refused r) more later next_later others next_others pages page fielddata inflight (is, same, searches_are, ends_are) g =
      subst (λ (u : View). IsGoing u more next_later next_others (pages ++ page ∷ [])) (sym same)
      (subst (λ (ss : List Search). IsGoing now more ss next_others (pages ++ page ∷ [])) (sym searches_are)
      (subst (λ (es : List SearchEnd). IsGoing now more later es (pages ++ page ∷ [])) (sym ends_are)
      (going-refused now more later others pages page (asks.Refused r) (λ rest charged trips answers. (ap (λ (p : Page). p.answered) is, answers)) (refused-next more later page r is) refl g)))
  going-next now new asks.Runs more later next_later others next_others pages page fielddata inflight (ran, e, searches_are, ends_are, by) g =
      going-ran now more next_later next_others pages page ran e new fielddata inflight by
      (subst (λ (ss : List Search). IsGoing now (asks.Runs ∷ more) ss (e ∷ next_others) pages) searches_are
      (subst (λ (es : List SearchEnd). IsGoing now (asks.Runs ∷ more) later es pages) ends_are g))

  no-more : (later : List Search) (others : List SearchEnd) → AreEndsOf (index_of index) later others → length later ≡ 0
      → AreAnswers limits (index_of index) max v [] later others [] 0 no_amounts
  no-more [] [] are none = (refl, refl)
  no-more [] (e ∷ es) are none = absurd are
  no-more (s ∷ ss) others are none = absurd (omega arith)

  -- all bodies are answered
  pub going-last : (now : View) (later : List Search) (others : List SearchEnd) (pages : List Page) → IsBounded limits now → IsGoing now [] later others pages
      → (charged : ℕ) × (trips : Amounts) × AreAnswers limits (index_of index) max v asked searches ends (answers_in pages) charged trips × HasRisen charged trips v now
  going-last now later others pages low g =
      let all = g.answers [] 0 no_amounts now (no-more later others g.are (sym g.number)) (unchanged limits now now low (λ x. refl) (λ x. refl)) in (
        all.0,
        all.1,
        subst (λ (xs : List Answered). AreAnswers limits (index_of index) max v asked searches ends xs all.0 all.1) (append-nil (answers_in pages)) all.2,
        all.3,
      )

  none-behind : (behind : List AnyRequest) (told : List (Option Tripped)) (later : List Search) → AreAsked (index_of index) behind told [] later → AreBehind index behind []
  none-behind [] told later all = tt
  none-behind (r ∷ rs) [] later all = absurd all
  none-behind (r ∷ rs) (Some t ∷ ts) later all = absurd all
  none-behind (r ∷ rs) (None ∷ ts) later all = absurd all

  pub following-last : (now : View) (later : List Search) (others : List SearchEnd) (pages : List Page) → IsGoing now [] later others pages
      → (requests : List AnyRequest) (refusals : List (Option Tripped)) → AreAsked (index_of index) requests refusals asked searches → AreBehind index requests pages
  following-last now later others pages g requests refusals all =
      let f = g.next requests refusals all in
      subst (AreBehind index requests) (append-nil pages) (f.3 [] (none-behind f.0 f.1 later f.2))

-- a search that runs was answered
pub next-ran : {E : Type 0} (limits : Limits) (index : ShardIndex) (max : ℕ) (v u : View) (what : Asked) (searches later : List Search) (ends others : List SearchEnd) (ran : Search) (e : SearchEnd)
    → what ≡ asks.Runs → searches ≡ ran ∷ later → ends ≡ e ∷ others → (r : Result Page E)
    → IfOk r (λ (page : Page). hold_of u Request + cost_of_parts e.parts ≡ hold_of v Request)
    → IfOk r (λ (page : Page). hold_of u Parent + cost_of_parts e.parts ≡ hold_of v Parent)
    → IfOk r (λ (page : Page). (charged : ℕ) × (trips : Amounts) × IsAnswer limits (index_of index) max v ran e page.answered charged trips × HasRisen charged trips v u)
    → IfOk r (λ (page : Page). IsNextOf index ran page)
    → IfOk r (λ (page : Page). IsNext limits index max v what searches ends page u later others)
next-ran limits index max v u what searches later ends others ran e is searches_are ends_are (Ok page) request parent answer next =
    subst (λ (a : Asked). IsNext limits index max v a searches ends page u later others) (sym is) (
      ran,
      e,
      searches_are,
      ends_are,
      record {
        charged = answer.0;
        trips = answer.1;
        answer = answer.2;
        risen = answer.3;
        request = request;
        parent = parent;
        next = next;
      },
    )
next-ran limits index max v u what searches later ends others ran e is searches_are ends_are (Err none) request parent answer next = tt
