-- The rounds of a scan ask for all its pages.
use Rattle.std.specs.Prelude.{◌≡◌, refl, ℕ, true, List, [], ◌∷◌, ◌++◌, map, flat_map, filter, length, option_map, option_to_list, Option, Some, None, Ok, slice_index_or, T, IfSome}
use Rattle.std.specs.List.{AllByRecursion, range_with_len}
use Rattle.std.proofs.Common.{◌∙◌, ap, sym, subst, arith}
use Rattle.std.proofs.lemmas.List.{ext_get_or}
use Rattle.std.proofs.lemmas.List.FromFn.{length-map-range_with_len, get_or-map-range_with_len}
use Rattle.list_laws.proofs.Lists.{map-map}
use Rattle.agg_model.specs.declared.key.Key.{Key}
use Rattle.agg_model.specs.declared.aggregation.Kind.{Kind}
use Rattle.agg_model.specs.declared.aggregation.Kind.TheVariants as kind
use Rattle.agg_model.specs.declared.aggregation.Agg.{Agg, Agg', out-Agg, out-roll-Agg}
use Rattle.agg_model.specs.declared.aggregation.Agg.TheOpen.{Agg-F}
use Rattle.agg_model.specs.declared.aggregation.Search.{Search}
use Rattle.agg_evaluation.specs.Rows.{PlacedRow}
use Rattle.agg_evaluation.specs.Shard.{shard_answer}
use Rattle.agg_evaluation.specs.Whole.{whole}
use Rattle.agg_spec.specs.Answers.{ArePages}
use Rattle.agg_spec.specs.Answers.{page_after as requested_after}
use Rattle.agg_spec.specs.Failures.{unfailed}
use Rattle.agg_spec.specs.Final.{final}
use Rattle.agg_spec.specs.Index.{Index, rows_in, shard_numbers}
use Rattle.agg_spec.specs.Outcome.{Request, answer_of}
use Rattle.agg_spec.specs.Pages.{is_composite, is_paged, kind_after, agg_after, search_after, last_key, next_search}
use Rattle.agg_spec.specs.Rounds.{Round}
use Rattle.count_laws.specs.CompositeGroups.{composite_groups, page_size}
use Rattle.count_laws.specs.Paths.{answer_of_shards}
use Rattle.count_laws.specs.Scans.{IsScan, page_after, page_groups}
use Rattle.count_laws.proofs.AllPages.{all-pages}
use Rattle.agg_evaluation.specs.SearchFits.{search_fits}
use Rattle.agg_evaluation.specs.TrueCounts.{kind_of}
use Rattle.agg_model.specs.declared.mapping.Mapping.{Mapping}
use Rattle.list_laws.proofs.Booleans.{holds}
use Rattle.fitting_laws.proofs.NextPages.{next_fits}
use Rattle.agg_spec.proofs.Computing.{computing}
use Rattle.answer_laws.specs.Scans.{asked, searches_of, IsAnsweredByAll}

-- the items at all places of a list
all-places : {A : Type 0} (d : A) (xs : List A) → map (λ i. slice_index_or xs i d) (range_with_len 0 (length xs)) ≡ xs
all-places d xs =
    let n = length-map-range_with_len (λ i. slice_index_or xs i d) 0 (length xs) in
    ext_get_or d (map (λ i. slice_index_or xs i d) (range_with_len 0 (length xs))) xs n
    (λ i below. get_or-map-range_with_len (λ i. slice_index_or xs i d) 0 (length xs) i i d (omega (arith, n)) (omega arith))

filter-all : {A : Type 0} (xs : List A) → filter (λ x. true) xs ≡ xs
filter-all [] = refl
filter-all (x ∷ xs) = ap (λ ys. x ∷ ys) (filter-all xs)

-- the answer of all shards
pub all-shards : (index : Index) (request : Search) → answer_of index request (unfailed index []) ≡ answer_of_shards request index.shards
all-shards index request =
    ap (answer_of index request) (filter-all (shard_numbers index))
    ∙ ap (λ parts. final request (whole request parts)) (sym (map-map (shard_answer request) (rows_in index) (shard_numbers index)) ∙ ap (map (shard_answer request)) (all-places [] index.shards))

same-composite : (key : Key) (k : Kind) → is_composite (kind_after key k) ≡ is_composite k
same-composite key (kind.Composite sources size after) = refl
same-composite key (kind.Terms a b c d n f g h i) = refl
same-composite key (kind.Histogram a b c d n f g h i) = refl
same-composite key (kind.DateHistogram a b c d n f g h i) = refl
same-composite key (kind.Filters a b c) = refl
same-composite key (kind.Filter a) = refl
same-composite key (kind.Missing a) = refl
same-composite key kind.Global = refl
same-composite key (kind.Nested a) = refl
same-composite key (kind.ReverseNested a) = refl
same-composite key (kind.Sum a b) = refl
same-composite key (kind.Min a b) = refl
same-composite key (kind.Max a b) = refl
same-composite key (kind.Avg a b) = refl
same-composite key (kind.ValueCount a b) = refl

pub paged-next : (key : Key) (aggs : List Agg) → is_paged (map (agg_after key) aggs) ≡ is_paged aggs
paged-next key [] = refl
paged-next key (a ∷ []) = ap (λ (x : Agg-F Agg). is_composite x.kind) (out-roll-Agg _) ∙ same-composite key (out-Agg a).kind
paged-next key (a ∷ b ∷ rest) = refl

-- the size of a composite's pages
pub composite-size : (k : Kind) → is_composite k ≡ true → (size : ℕ) × (page_size k ≡ Some size)
composite-size (kind.Composite sources size after) e = (size, refl)
composite-size (kind.Terms a b c d n f g h i) e = absurd (let no : ⊥ = cc in no)
composite-size (kind.Histogram a b c d n f g h i) e = absurd (let no : ⊥ = cc in no)
composite-size (kind.DateHistogram a b c d n f g h i) e = absurd (let no : ⊥ = cc in no)
composite-size (kind.Filters a b c) e = absurd (let no : ⊥ = cc in no)
composite-size (kind.Filter a) e = absurd (let no : ⊥ = cc in no)
composite-size (kind.Missing a) e = absurd (let no : ⊥ = cc in no)
composite-size kind.Global e = absurd (let no : ⊥ = cc in no)
composite-size (kind.Nested a) e = absurd (let no : ⊥ = cc in no)
composite-size (kind.ReverseNested a) e = absurd (let no : ⊥ = cc in no)
composite-size (kind.Sum a b) e = absurd (let no : ⊥ = cc in no)
composite-size (kind.Min a b) e = absurd (let no : ⊥ = cc in no)
composite-size (kind.Max a b) e = absurd (let no : ⊥ = cc in no)
composite-size (kind.Avg a b) e = absurd (let no : ⊥ = cc in no)
composite-size (kind.ValueCount a b) e = absurd (let no : ⊥ = cc in no)

module _ (index : Index) (columns : ℕ) where
  abbrev Asks : ℕ → Search → List Round → Type 0
  Asks bytes request rounds = ArePages index columns (record { bytes = bytes; search = Ok request } ∷ []) rounds

  abbrev AsksNext : ℕ → List Round → Option Search → Type 0
  AsksNext bytes rounds next = ArePages index columns (option_to_list (option_map (λ s. record { bytes = bytes; search = Ok s }) next) ++ []) rounds

  abbrev AsksAfter : List Round → Option Request → Type 0
  AsksAfter rounds next = ArePages index columns (option_to_list next ++ []) rounds

  -- the next page of a round that all shards answered
  next-page : (bytes : ℕ) (request : Search) (round : Round) → is_paged request.aggs ≡ true → IsAnsweredByAll round
      → requested_after index columns (record { bytes = bytes; search = Ok request }) round.answers ≡ option_map (λ s. record { bytes = bytes; search = Ok s }) (page_after index.shards request)
  next-page bytes request round paged full =
      ap (requested_after index columns (record { bytes = bytes; search = Ok request })) full.answers
      ∙ ap (option_map (λ s. record { bytes = bytes; search = Ok s }))
      (ap (λ b. next_search index (unfailed index []) b request) paged ∙ ap (λ answer. option_map (search_after request) (last_key answer.nodes)) (all-shards index request))

  no-more-rounds : (rounds : List Round) → ArePages index columns [] rounds → IsScan index.shards None (searches_of rounds)
  no-more-rounds [] are = tt
  no-more-rounds (round ∷ rounds) are = absurd are

  go-on : (bytes : ℕ) (request : Search) (rounds : List Round) → is_paged request.aggs ≡ true → (k : Option Key)
      → ((s : Search) → is_paged s.aggs ≡ true → Asks bytes s rounds → IsScan index.shards (Some s) (searches_of rounds))
      → AsksNext bytes rounds (option_map (search_after request) k) → IsScan index.shards (option_map (search_after request) k) (searches_of rounds)
  go-on bytes request rounds paged None later are = no-more-rounds rounds are
  go-on bytes request rounds paged (Some key) later are = later (search_after request key) (paged-next key request.aggs ∙ paged) are

  abbrev ScanOf : Search → List Search → Type 0
  ScanOf request pages = IsScan index.shards (Some request) pages

  pub rounds-scan : (rounds : List Round) (bytes : ℕ) (request : Search) → is_paged request.aggs ≡ true → Asks bytes request rounds → AllByRecursion IsAnsweredByAll rounds
      → IsScan index.shards (Some request) (searches_of rounds)
  rounds-scan [] bytes request paged are all = absurd are
  rounds-scan (round ∷ rounds) bytes request paged (first, rest) (full, later) =
      subst (λ requests. ScanOf request (flat_map asked requests ++ searches_of rounds)) (sym first) (
        refl,
        go-on bytes request rounds paged (last_key (answer_of_shards request index.shards).nodes)
            (λ s next_paged asks. rounds-scan rounds bytes s next_paged asks later)
            (subst (AsksAfter rounds) (next-page bytes request round paged full) rest),
      )

pub kind-same : (a : Agg) → (out-Agg a).kind ≡ kind_of a
unfolding computing
kind-same (Agg' name kind n children) = refl

-- each page is made for the mapping, where the first is
page-fits : (index : Index) (request : Search) → is_paged request.aggs ≡ true → search_fits index.mapping request ≡ true
    → IfSome (page_after index.shards request) (λ next. search_fits index.mapping next ≡ true)
page-fits index request paged fit =
    subst (λ o. IfSome o (λ next. search_fits index.mapping next ≡ true))
    (ap (λ b. next_search index (unfailed index []) b request) paged ∙ ap (λ answer. option_map (search_after request) (last_key answer.nodes)) (all-shards index request))
    (next_fits index (unfailed index []) request fit)

next-paged : (index : Index) (request : Search) → is_paged request.aggs ≡ true → IfSome (page_after index.shards request) (λ next. is_paged next.aggs ≡ true)
next-paged index request paged = by_key (last_key (answer_of_shards request index.shards).nodes)
  where
    by_key : (k : Option Key) → IfSome (option_map (search_after request) k) (λ next. is_paged next.aggs ≡ true)
    by_key None = tt
    by_key (Some key) = paged-next key request.aggs ∙ paged

pages-fit : (index : Index) (first : Option Search) (pages : List Search) → IfSome first (λ s. is_paged s.aggs ≡ true) → IfSome first (λ s. search_fits index.mapping s ≡ true)
    → IsScan index.shards first pages → AllByRecursion (λ page. T (search_fits index.mapping page)) pages
pages-fit index None [] paged fit scan = tt
pages-fit index None (page ∷ pages) paged fit scan = absurd scan
pages-fit index (Some first) [] paged fit scan = absurd scan
pages-fit index (Some first) (page ∷ pages) paged fit (same, scan) =
    (holds _ (ap (search_fits index.mapping) same ∙ fit), pages-fit index (page_after index.shards first) pages (next-paged index first paged) (page-fits index first paged fit) scan)

-- the groups of all these pages
pages-groups : (m : Mapping) (shards : List (List PlacedRow)) (pages : List Search) (request : Search) (aggs : List Agg) → request.aggs ≡ aggs → is_paged aggs ≡ true
    → AllByRecursion (λ page. T (search_fits m page)) pages → IsScan shards (Some request) pages → flat_map (page_groups shards) pages ≡ composite_groups shards request
pages-groups m shards pages request [] e paged fit scan = absurd (let no : ⊥ = cc in no)
pages-groups m shards pages request (a ∷ []) e paged fit scan =
    let sized = composite-size (kind_of a) (sym (ap is_composite (kind-same a)) ∙ paged) in
    all-pages m shards sized.0 pages request a fit scan e sized.1
pages-groups m shards pages request (a ∷ b ∷ rest) e paged fit scan = absurd (let no : ⊥ = cc in no)

pub rounds-groups : (index : Index) (columns : ℕ) (rounds : List Round) (bytes : ℕ) (request : Search) → search_fits index.mapping request ≡ true
    → is_paged request.aggs ≡ true → ArePages index columns (record { bytes = bytes; search = Ok request } ∷ []) rounds → AllByRecursion IsAnsweredByAll rounds
    → flat_map (page_groups index.shards) (searches_of rounds) ≡ composite_groups index.shards request
rounds-groups index columns rounds bytes request fit paged asks all =
    let scan = rounds-scan index columns rounds bytes request paged asks all in
    pages-groups index.mapping index.shards (searches_of rounds) request request.aggs refl paged (pages-fit index (Some request) (searches_of rounds) paged fit scan) scan
