-- The pages of a scan, one after another, have all groups.
use Rattle.std.specs.Prelude.{◌≡◌, refl, ◌≤◌, ◌<◌, ℕ, zero, suc, nat_le, T, List, [], ◌∷◌, ◌++◌, map, flat_map, take, drop, length, Option, Some, None, option_map, slice_get}
use Rattle.std.specs.List.{AllByRecursion, last_or}
use Rattle.std.specs.Option.{option_map_or}
use Rattle.std.proofs.Common.{sym, ◌∙◌, ap, subst, arith}
use Rattle.agg_model.specs.declared.mapping.Mapping.{Mapping}
use Rattle.agg_model.specs.declared.key.Key.{Key}
use Rattle.agg_model.specs.declared.answer.BucketAnswer.{BucketAnswer, out-BucketAnswer}
use Rattle.agg_model.specs.declared.answer.NodeAnswer.{NodeAnswer, out-NodeAnswer}
use Rattle.agg_model.specs.declared.aggregation.Agg.{Agg, Agg'}
use Rattle.agg_model.specs.declared.aggregation.Search.{Search}
use Rattle.agg_model.specs.declared.aggregation.Kind.TheVariants as kind
use Rattle.agg_evaluation.specs.Matching.{matched_roots}
use Rattle.agg_evaluation.specs.Rows.{PlacedRow}
use Rattle.agg_evaluation.specs.SearchFits.{search_fits}
use Rattle.agg_evaluation.specs.TrueCounts.{kind_of}
use Rattle.agg_evaluation.proofs.Computing.{computing}
use Rattle.list_laws.proofs.Options.{none_some}
use Rattle.agg_spec.specs.Final.{finisher}
use Rattle.agg_spec.specs.Pages.{agg_after, last_key, search_after}
use Rattle.count_laws.specs.CompositeGroups.{answered_groups, composite_groups, group_answer, page_size}
use Rattle.count_laws.specs.Paths.{answer_of_shards}
use Rattle.count_laws.specs.Scans.{IsScan, page_groups}
use Rattle.count_laws.specs.TermsSums.{whole_of_rows}
use Rattle.count_laws.proofs.ScanLaws.{answer-first, last_key-at, next-groups, page-first, positive-size}

first-and-rest : {A : Type 0} (n : ℕ) (xs : List A) → take n xs ++ drop n xs ≡ xs
first-and-rest zero xs = refl
first-and-rest (suc n) [] = refl
first-and-rest (suc n) (x ∷ xs) = ap (λ ys. x ∷ ys) (first-and-rest n xs)

-- where the first are none, there is none
none-first : {A : Type 0} (n : ℕ) (xs : List A) → T (nat_le 1 n) → take n xs ≡ [] → xs ≡ []
none-first zero xs h e = absurd h
none-first (suc n) [] h e = refl
none-first (suc n) (x ∷ xs) h e = let no : ⊥ = cc in absurd no

-- a list without a last item is empty
no-last : {A B : Type 0} (f : A → B) (xs : List A) → option_map f (last_or None xs) ≡ None → xs ≡ []
no-last f [] e = refl
no-last f (x ∷ xs) e = absurd (there f x xs e)
  where
    there : {A B : Type 0} (f : A → B) (x : A) (xs : List A) → option_map f (last_or (Some x) xs) ≡ None → ⊥
    there f x [] e = none_some (f x) (sym e)
    there f x (y ∷ ys) e = there f y ys e

size-after : (l : Key) (a : Agg) → page_size (kind_of (agg_after l a)) ≡ page_size (kind_of a)
unfolding computing
size-after l (Agg' name (kind.Composite sources page after) n children) = refl
size-after l (Agg' name (kind.Terms field size shard_size min_doc_count order include exclude missing show_error) n children) = refl
size-after l (Agg' name (kind.Histogram field interval offset min_doc_count extended hard keyed orders missing) n children) = refl
size-after l (Agg' name (kind.DateHistogram field period zone min_doc_count extended hard keyed orders missing) n children) = refl
size-after l (Agg' name (kind.Filters names filters other) n children) = refl
size-after l (Agg' name (kind.Filter query) n children) = refl
size-after l (Agg' name (kind.Missing field) n children) = refl
size-after l (Agg' name kind.Global n children) = refl
size-after l (Agg' name (kind.Nested context) n children) = refl
size-after l (Agg' name (kind.ReverseNested context) n children) = refl
size-after l (Agg' name (kind.Sum field missing) n children) = refl
size-after l (Agg' name (kind.Min field missing) n children) = refl
size-after l (Agg' name (kind.Max field missing) n children) = refl
size-after l (Agg' name (kind.Avg field missing) n children) = refl
size-after l (Agg' name (kind.ValueCount field missing) n children) = refl

module _ (m : Mapping) (shards : List (List PlacedRow)) (size : ℕ) where
  abbrev Fits : Search → Type 0
  Fits page = T (search_fits m page)

  pub all-pages : (pages : List Search) (first : Search) (a : Agg) → AllByRecursion Fits pages → IsScan shards (Some first) pages → first.aggs ≡ a ∷ [] → page_size (kind_of a) ≡ Some size → flat_map (page_groups shards) pages ≡ composite_groups shards first
  all-pages [] first a fits scan alone sized = absurd scan
  all-pages (page ∷ pages) first a fits scan alone sized =
      let fit : Fits first = subst Fits scan.0 fits.0 in
      let at : slice_get first.aggs 0 ≡ Some a = ap (λ aggs. slice_get aggs 0) alone in
      let node = (finisher a).finish (whole_of_rows a (map (λ all. (all, matched_roots all first.query)) shards)) in
      let answered = answer-first first shards 0 a at in
      let groups = composite_groups shards first in
      let here : page_groups shards first ≡ take size groups = ap (λ o. option_map_or answered_groups o []) answered ∙ page-first m first shards a size node fit at sized answered in
      let keyed = last_key-at (answer_of_shards first shards).nodes node answered in
      ap (λ gs. gs ++ flat_map (page_groups shards) pages) (ap (page_groups shards) scan.0 ∙ here)
      ∙ by node (λ l next. all-pages pages (search_after first l) (agg_after l a) fits.1 next (ap (map (agg_after l)) alone) (size-after l a ∙ sized))
      (page-first m first shards a size node fit at sized answered) (positive-size m first a size fit at sized) (λ l e. next-groups m first shards a size l fit alone sized e) keyed (last_key (answer_of_shards first shards).nodes) refl scan.1
    where
      by : (node : NodeAnswer) → ((l : Key) → IsScan shards (Some (search_after first l)) pages → flat_map (page_groups shards) pages ≡ composite_groups shards (search_after first l))
          → answered_groups node ≡ take size (composite_groups shards first) → T (nat_le 1 size)
          → ((l : Key) → last_key (answer_of_shards first shards).nodes ≡ Some l → composite_groups shards (search_after first l) ≡ drop size (composite_groups shards first))
          → last_key (answer_of_shards first shards).nodes ≡ option_map (λ b. (out-BucketAnswer b).key) (last_or None (out-NodeAnswer node).buckets)
          → (o : Option Key) → last_key (answer_of_shards first shards).nodes ≡ o → IsScan shards (option_map (search_after first) o) pages
          → take size (composite_groups shards first) ++ flat_map (page_groups shards) pages ≡ composite_groups shards first
      by node later now least goes keyed (Some l) e scan = ap (λ gs. take size (composite_groups shards first) ++ gs) (later l scan ∙ goes l e) ∙ first-and-rest size (composite_groups shards first)
      by node later now least goes keyed None e scan =
          let empty : (out-NodeAnswer node).buckets ≡ [] = no-last (λ b. (out-BucketAnswer b).key) (out-NodeAnswer node).buckets (sym keyed ∙ e) in
          let first_none : take size (composite_groups shards first) ≡ [] = sym now ∙ ap (map group_answer) empty in
          let none : composite_groups shards first ≡ [] = none-first size (composite_groups shards first) least first_none in
          ap (λ gs. gs ++ flat_map (page_groups shards) pages) first_none ∙ no-pages pages scan ∙ sym none
        where
          no-pages : (pages : List Search) → IsScan shards None pages → flat_map (page_groups shards) pages ≡ []
          no-pages [] h = refl
          no-pages (page ∷ pages) h = absurd h

drop-at_most : {A : Type 0} (n : ℕ) (xs : List A) → length (drop n xs) ≤ length xs
drop-at_most zero xs = omega arith
drop-at_most (suc n) [] = omega arith
drop-at_most (suc n) (x ∷ xs) = omega (arith, drop-at_most n xs)

drop-fewer : {A : Type 0} (n : ℕ) (xs : List A) → T (nat_le 1 n) → (xs ≡ [] → ⊥) → length (drop n xs) < length xs
drop-fewer zero xs least some = absurd least
drop-fewer (suc n) [] least some = absurd (some refl)
drop-fewer (suc n) (x ∷ xs) least some = omega (arith, drop-at_most n xs)

none-taken : {A : Type 0} (n : ℕ) (xs : List A) → xs ≡ [] → take n xs ≡ []
none-taken zero xs e = refl
none-taken (suc n) [] e = refl
none-taken (suc n) (x ∷ xs) e = let no : ⊥ = cc in absurd no

-- each page leaves fewer groups
pub fewer-groups : (m : Mapping) (request : Search) (shards : List (List PlacedRow)) (a : Agg) (size : ℕ) (l : Key) → T (search_fits m request) → request.aggs ≡ a ∷ [] → page_size (kind_of a) ≡ Some size
    → last_key (answer_of_shards request shards).nodes ≡ Some l → length (composite_groups shards (search_after request l)) < length (composite_groups shards request)
fewer-groups m request shards a size l fit alone sized last =
    let at : slice_get request.aggs 0 ≡ Some a = ap (λ aggs. slice_get aggs 0) alone in
    let node = (finisher a).finish (whole_of_rows a (map (λ all. (all, matched_roots all request.query)) shards)) in
    let answered = answer-first request shards 0 a at in
    let groups = composite_groups shards request in
    let here : answered_groups node ≡ take size groups = page-first m request shards a size node fit at sized answered in
    let keyed = last_key-at (answer_of_shards request shards).nodes node answered in
    let some : groups ≡ [] → ⊥ = (λ none. by node (here ∙ none-taken size groups none) (sym keyed ∙ last)) in
    subst (λ gs. length gs < length groups) (sym (next-groups m request shards a size l fit alone sized last)) (drop-fewer size groups (positive-size m request a size fit at sized) some)
  where
    by : (node : NodeAnswer) → answered_groups node ≡ [] → option_map (λ b. (out-BucketAnswer b).key) (last_or None (out-NodeAnswer node).buckets) ≡ Some l → ⊥
    by node none = among (out-NodeAnswer node).buckets none
      where
        among : (bs : List BucketAnswer) → map group_answer bs ≡ [] → option_map (λ b. (out-BucketAnswer b).key) (last_or None bs) ≡ Some l → ⊥
        among [] e there = none_some l there
        among (b ∷ bs) e there = let no : ⊥ = cc in no
