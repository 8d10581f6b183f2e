-- A scan comes to an end: of searches that are made for the mapping there are whole lists of rounds that are answered by the whole
-- reduction.
use Rattle.std.specs.Prelude.{◌≡◌, refl, ◌≤◌, ◌<◌, ℕ, zero, suc, Bool, true, false, List, [], ◌∷◌, ◌++◌, length, option_map, option_to_list, sum_by, Option, Some, None, Result, Ok, Err, IfOk, IfSome}
use Rattle.std.specs.List.{AllByRecursion}
use Rattle.std.proofs.Common.{◌∙◌, ap, sym, subst, arith}
use Rattle.std.proofs.lemmas.List.Sums.{sum_by-cons}
use Rattle.agg_model.specs.declared.key.Key.{Key}
use Rattle.agg_model.specs.declared.aggregation.Agg.{Agg}
use Rattle.agg_model.specs.declared.aggregation.Search.{Search}
use Rattle.agg_model.specs.declared.outcome.Outcome.{Outcome}
use Rattle.agg_model.specs.declared.outcome.Outcome.TheVariants as ended
use Rattle.agg_model.specs.declared.outcome.Refused.{Refused}
use Rattle.agg_model.specs.declared.settings.Settings.{Settings}
use Rattle.agg_evaluation.specs.SearchFits.{search_fits}
use Rattle.agg_evaluation.specs.TrueCounts.{kind_of}
use Rattle.agg_spec.specs.Answers.{Change, Recent, ArePages, AreRounds, AreAnswered, page_after, after_line, with_rounds}
use Rattle.agg_spec.specs.Complete.{IsPlain}
use Rattle.agg_spec.specs.Failures.{unfailed}
use Rattle.agg_spec.specs.Index.{Index}
use Rattle.agg_spec.specs.Outcome.{Request, answer_of, outcome}
use Rattle.agg_spec.specs.Pages.{is_composite, is_paged, last_key, next_page, next_search, request_after, search_after}
use Rattle.agg_spec.specs.Reduction.{batches}
use Rattle.agg_spec.specs.Requests.{Segment}
use Rattle.agg_spec.specs.Rounds.{Round, plain_answer}
use Rattle.list_laws.proofs.Booleans.{holds}
use Rattle.count_laws.specs.CompositeGroups.{composite_groups}
use Rattle.count_laws.specs.Paths.{answer_of_shards}
use Rattle.count_laws.proofs.AllPages.{fewer-groups}
use Rattle.fitting_laws.proofs.NextPages.{next_fits}
use Rattle.answer_laws.proofs.AnswerCounts.{Formed}
use Rattle.answer_laws.proofs.InputsWithRoom.{plain_waves, waves-answer}
use Rattle.answer_laws.proofs.LoadedFits.{AllFit, Fits}
use Rattle.answer_laws.proofs.PlainRounds.{plain_round}
use Rattle.answer_laws.proofs.ScanLaws.{all-shards, composite-size, kind-same, paged-next}

module _ (index : Index) where
  abbrev groups_of : Search → ℕ
  groups_of s = length (composite_groups index.shards s)

  -- so many pages at most
  abbrev pages_of : Bool → Search → ℕ
  pages_of true s = suc (groups_of s)
  pages_of false s = 1

  abbrev most_pages : Result Search Refused → ℕ
  most_pages (Ok s) = pages_of (is_paged s.aggs) s
  most_pages (Err r) = 1

  one-page : (found : Result Search Refused) → 1 ≤ most_pages found
  one-page (Err r) = omega arith
  one-page (Ok s) = by (is_paged s.aggs)
    where
      by : (b : Bool) → 1 ≤ pages_of b s
      by true = omega arith
      by false = omega arith

  fewer-paged : (s : Search) (key : Key) (aggs : List Agg) → s.aggs ≡ aggs → is_paged aggs ≡ true → search_fits index.mapping s ≡ true
      → last_key (answer_of_shards s index.shards).nodes ≡ Some key → groups_of (search_after s key) < groups_of s
  fewer-paged s key [] e paged fit last = absurd (let no : ⊥ = cc in no)
  fewer-paged s key (a ∷ []) e paged fit last =
      let sized = composite-size (kind_of a) (sym (ap is_composite (kind-same a)) ∙ paged) in
      fewer-groups index.mapping s index.shards a sized.0 key (holds _ fit) e sized.1 last
  fewer-paged s key (a ∷ b ∷ rest) e paged fit last = absurd (let no : ⊥ = cc in no)

  -- the next page, where there is one, is made for the mapping, and fewer come after it
  abbrev GoesOn : Result Search Refused → Option Request → Type 0
  GoesOn before next = IfSome next (λ r. Fits index.mapping r × (most_pages r.search < most_pages before))

  abbrev asked_by : ℕ → Search → Request
  asked_by bytes s = record { bytes = bytes; search = Ok s }

  abbrev left : List ℕ
  left = unfailed index []

  search-goes_on : (bytes : ℕ) (s : Search) → search_fits index.mapping s ≡ true → (b : Bool) → is_paged s.aggs ≡ b → GoesOn (Ok s) (option_map (asked_by bytes) (next_search index left b s))
  search-goes_on bytes s fit false paged = tt
  search-goes_on bytes s fit true paged = by_key (last_key (answer_of index s left).nodes) refl
    where
      by_key : (k : Option Key) → last_key (answer_of index s left).nodes ≡ k → GoesOn (Ok s) (option_map (asked_by bytes) (option_map (search_after s) k))
      by_key None last = tt
      by_key (Some key) last =
          let next = search_after s key in
          let made = next_fits index left s fit in
          let here = subst (λ b. IfSome (next_search index left b s) (λ n. search_fits index.mapping n ≡ true)) paged made in
          let fits = subst (λ o. IfSome (option_map (search_after s) o) (λ n. search_fits index.mapping n ≡ true)) last here in
          let fewer = fewer-paged s key s.aggs refl paged fit (sym (ap (λ a. last_key a.nodes) (all-shards index s)) ∙ last) in
          let before : most_pages (Ok s) ≡ suc (groups_of s) = ap (λ b. pages_of b s) paged in
          let after : most_pages (Ok next) ≡ suc (groups_of next) = ap (λ b. pages_of b next) (paged-next key s.aggs ∙ paged) in
          (fits, omega (arith, before, after, fewer))

  body-goes_on : (bytes : ℕ) (found : Result Search Refused) → IfOk found (λ s. search_fits index.mapping s ≡ true) → GoesOn found (request_after index left bytes found)
  body-goes_on bytes (Err r) fit = tt
  body-goes_on bytes (Ok s) fit = search-goes_on bytes s fit (is_paged s.aggs) refl

  outcome-goes_on : (o : Outcome) (r : Request) → Fits index.mapping r → GoesOn r.search (next_page index r o [])
  outcome-goes_on (ended.Response line) r fit = body-goes_on r.bytes r.search fit
  outcome-goes_on (ended.Refused x) r fit = tt
  outcome-goes_on (ended.Tripped t) r fit = tt
  outcome-goes_on ended.Memory r fit = tt

  abbrev pages_in : List Request → ℕ
  pages_in = sum_by (λ r. most_pages r.search)

  next-fits : (r : Request) (rest : List Request) (o : Option Request) → GoesOn r.search o → AllByRecursion (Fits index.mapping) rest → AllByRecursion (Fits index.mapping) (option_to_list o ++ rest)
  next-fits r rest None goes fits = fits
  next-fits r rest (Some q) goes fits = (goes.0, fits)

  next-fewer : (r : Request) (rest : List Request) (o : Option Request) → GoesOn r.search o → pages_in (option_to_list o ++ rest) < pages_in (r ∷ rest)
  next-fewer r rest None goes = omega (arith, one-page r.search, sum_by-cons (λ (q : Request). most_pages q.search) r rest)
  next-fewer r rest (Some q) goes =
      omega (arith, goes.1, sum_by-cons (λ (q : Request). most_pages q.search) r rest, sum_by-cons (λ (q : Request). most_pages q.search) q rest)

  module _ (columns : ℕ) where
    -- whole lists of pages that are answered by the whole reduction
    record PlainPages (now : Settings) (requests : List Request) : Type 0 where
      rounds : List Round
      form : ArePages index columns requests rounds
      each : AllByRecursion (λ round. (round.settings ≡ now) × IsPlain index columns round) rounds

    plain-pages : (n : ℕ) (now : Settings) (requests : List Request) → AllByRecursion (Fits index.mapping) requests → pages_in requests ≤ n → PlainPages now requests
    plain-pages n now [] fits within = record { rounds = []; form = tt; each = tt }
    plain-pages zero now (r ∷ rest) fits within =
        let no : ⊥ = omega (arith, within, one-page r.search, sum_by-cons (λ (q : Request). most_pages q.search) r rest) in absurd no
    plain-pages (suc n) now (r ∷ rest) (fit, fits) within =
        let next = page_after index columns r (plain_answer index now r ∷ []) in
        let goes = outcome-goes_on (outcome index now.max_buckets r []) r fit in
        let more = plain-pages n now (option_to_list next ++ rest) (next-fits r rest next goes fits) (omega (arith, within, next-fewer r rest next goes)) in
        record { rounds = plain_round index columns now (r ∷ []) ∷ more.rounds; form = (refl, more.form); each = ((refl, refl), more.each) }

    -- the rounds of some searches
    pub plain-rounds : (now : Settings) (requests : List Request) → AllByRecursion (Fits index.mapping) requests → (rounds : List Round) × AreRounds index columns (IsPlain index columns) now requests rounds
    plain-rounds now requests fits = by_scan now.scan refl
      where
        by_scan : (b : Bool) → now.scan ≡ b → (rounds : List Round) × AreRounds index columns (IsPlain index columns) now requests rounds
        by_scan true scan =
            let pages = plain-pages (pages_in requests) now requests fits (omega arith) in
            (pages.rounds, record { form = subst (Formed index columns now requests pages.rounds) (sym scan) pages.form; each = pages.each })
        by_scan false waves = (plain_waves index columns now (batches now.width requests), waves-answer index columns now requests waves)

-- and those of a script
pub plain-answers : (change : Change) (words : Settings) (index : Index) (columns : ℕ) (recent : Recent) (segments : List Segment) → AllFit index.mapping segments
    → (rounds : List (List Round)) × AreAnswered change words index columns (IsPlain index columns) recent segments rounds
plain-answers change words index columns recent [] fits = ([], tt)
plain-answers change words index columns recent (s ∷ rest) fits =
    let here = plain-rounds index columns recent.settings s.requests fits.0 in
    let later = plain-answers change words index columns (after_line change words index columns s.change (with_rounds here.0 recent)) rest fits.1 in
    (here.0 ∷ later.0, (here.1, later.1))
