-- What is sorted without some items, and names without remarks.
use Rattle.std.specs.Prelude.{◌≡◌, refl, ℕ, Bool, true, false, not, cond, List, [], ◌∷◌, ◌++◌, map, filter, filter_map, flat_map, Option, Some, None, option_map}
use Rattle.std.specs.List.{cons_option}
use Rattle.std.specs.declared.cmp.Ordering.{Ordering}
use Rattle.std.specs.Cmp.{IsTotalOrder}
use Rattle.std.proofs.Common.{◌∙◌, sym, ap, subst}
use Rattle.std.proofs.lemmas.Cmp.{nat_list_cmp_total, on_total}
use Rattle.agg_model.specs.declared.pipeline.Pipe.{Pipe}
use Rattle.agg_spec.specs.Notes.{Named, named_cmp, pipes_within, places_behind}
use Rattle.agg_spec.specs.Remarks.{Remark, are_no_places, is_bucket_sort, pipes_here}
use Rattle.list_laws.proofs.Lists.{filter-append}
use Rattle.list_laws.proofs.Options.{none_some, some_same}
use Rattle.list_laws.proofs.StableSort.{Ascends, AtLeast, ascends_sorted, below, one_order, stable_sorted, weak}
use Rattle.list_laws.specs.Sorting.{sorted}
use Rattle.std.specs.List.Sorted.{ties}
use Rattle.pipeline_agg.specs.Told.{unsorted}

module _ {A : Type 0} where
  -- two tests may take turns
  pub filter-swap : (p q : A → Bool) (xs : List A) → filter p (filter q xs) ≡ filter q (filter p xs)
  filter-swap p q [] = refl
  filter-swap p q (x ∷ xs) =
      elim (p x) as (λ b. p x ≡ b → filter p (cond (q x) (x ∷ filter q xs) (filter q xs)) ≡ filter q (cond b (x ∷ filter p xs) (filter p xs))) [
        | true ↦ λ e. elim (q x) as (λ c. filter p (cond c (x ∷ filter q xs) (filter q xs)) ≡ cond c (x ∷ filter q (filter p xs)) (filter q (filter p xs))) [
          | true ↦ ap (λ b. cond b (x ∷ filter p (filter q xs)) (filter p (filter q xs))) e ∙ ap (λ zs. x ∷ zs) (filter-swap p q xs)
          | false ↦ filter-swap p q xs
        ]
        | false ↦ λ e. elim (q x) as (λ c. filter p (cond c (x ∷ filter q xs) (filter q xs)) ≡ filter q (filter p xs)) [
          | true ↦ ap (λ b. cond b (x ∷ filter p (filter q xs)) (filter p (filter q xs))) e ∙ filter-swap p q xs
          | false ↦ filter-swap p q xs
        ]
      ] refl

  least-filter : (lt : A → A → Bool) (p : A → Bool) (x : A) (ys : List A) → AtLeast lt x ys → AtLeast lt x (filter p ys)
  least-filter lt p x [] all = tt
  least-filter lt p x (y ∷ ys) all = elim (p y) as (λ b. AtLeast lt x (cond b (y ∷ filter p ys) (filter p ys))) [
    | true ↦ (all.0, least-filter lt p x ys all.1)
    | false ↦ least-filter lt p x ys all.1
  ]

  ascends-filter : (lt : A → A → Bool) (p : A → Bool) (xs : List A) → Ascends lt xs → Ascends lt (filter p xs)
  ascends-filter lt p [] up = tt
  ascends-filter lt p (x ∷ xs) up = elim (p x) as (λ b. Ascends lt (cond b (x ∷ filter p xs) (filter p xs))) [
    | true ↦ (least-filter lt p x xs up.0, ascends-filter lt p xs up.1)
    | false ↦ ascends-filter lt p xs up.1
  ]

-- those that pass of a sorted list are those that pass, sorted
pub filter-sorted : {A : Type 0} (cmp : A → A → Ordering) → IsTotalOrder cmp → (p : A → Bool) (xs : List A) → filter p (sorted cmp xs) ≡ sorted cmp (filter p xs)
filter-sorted cmp total p xs =
    let lt = below cmp total in
    one_order lt (weak cmp total) (filter p (sorted cmp xs)) (sorted cmp (filter p xs)) (ascends-filter lt p (sorted cmp xs) (ascends_sorted cmp total xs)) (ascends_sorted cmp total (filter p xs))
    (λ x. filter-swap (ties lt x) p (sorted cmp xs) ∙ ap (filter p) (stable_sorted cmp total x xs) ∙ filter-swap p (ties lt x) xs ∙ sym (stable_sorted cmp total x (filter p xs)))

pub named-total : IsTotalOrder named_cmp
named-total = on_total (λ (e : Named). e.0) nat_list_cmp_total

-- whether something stands under a name
abbrev pub is_loud : Named → Bool
is_loud (name, []) = false
is_loud (name, r ∷ rs) = true

abbrev pub remarks_of_all : List Named → List Remark
remarks_of_all es = flat_map (λ e. e.1) es

loud-remarks : (es : List Named) → remarks_of_all (filter is_loud es) ≡ remarks_of_all es
loud-remarks [] = refl
loud-remarks ((name, []) ∷ es) = loud-remarks es
loud-remarks ((name, r ∷ rs) ∷ es) = ap (λ more. (r ∷ rs) ++ more) (loud-remarks es)

-- names without remarks may be left out before the others are sorted
pub loud-alike : (xs ys : List Named) → filter is_loud xs ≡ filter is_loud ys → remarks_of_all (sorted named_cmp xs) ≡ remarks_of_all (sorted named_cmp ys)
loud-alike xs ys same =
    sym (loud-remarks (sorted named_cmp xs)) ∙ ap remarks_of_all (filter-sorted named_cmp named-total is_loud xs ∙ ap (sorted named_cmp) same ∙ sym (filter-sorted named_cmp named-total is_loud ys))
    ∙ loud-remarks (sorted named_cmp ys)

silent : (name : List ℕ) (rs : List Remark) → rs ≡ [] → is_loud (name, rs) ≡ false
silent name rs e = ap (λ (them : List Remark). is_loud (name, them)) e

module _ (says : Pipe → List Remark) (quiet : (p : Pipe) → is_bucket_sort p.kind ≡ true → says p ≡ []) where
  abbrev said_by : Pipe → Named
  said_by p = (p.name, says p)

  loud-own : (ps : List Pipe) → filter is_loud (map said_by (unsorted ps)) ≡ filter is_loud (map said_by ps)
  loud-own [] = refl
  loud-own (p ∷ ps) =
      elim (is_bucket_sort p.kind) as (λ b. is_bucket_sort p.kind ≡ b → filter is_loud (map said_by (cond (not b) (p ∷ unsorted ps) (unsorted ps))) ≡ cond (is_loud (said_by p)) (said_by p ∷ filter is_loud (map said_by ps)) (filter is_loud (map said_by ps))) [
        | true ↦ λ e. loud-own ps ∙ sym (ap (λ c. cond c (said_by p ∷ filter is_loud (map said_by ps)) (filter is_loud (map said_by ps))) (silent p.name (says p) (quiet p e)))
        | false ↦ λ e. ap (λ rest. cond (is_loud (said_by p)) (said_by p ∷ rest) rest) (loud-own ps)
      ] refl

  -- pipelines that sort and cut say nothing
  pub without-sorts : (xs : List Named) (ps : List Pipe) → remarks_of_all (sorted named_cmp (xs ++ map said_by (unsorted ps))) ≡ remarks_of_all (sorted named_cmp (xs ++ map said_by ps))
  without-sorts xs ps =
      loud-alike (xs ++ map said_by (unsorted ps)) (xs ++ map said_by ps)
      (filter-append is_loud xs (map said_by (unsorted ps)) ∙ ap (λ rest. filter is_loud xs ++ rest) (loud-own ps) ∙ sym (filter-append is_loud xs (map said_by ps)))

pub here-unsorted : (ps : List Pipe) → pipes_here (unsorted ps) ≡ unsorted (pipes_here ps)
here-unsorted ps = filter-swap (λ p. are_no_places p.at) (λ p. not (is_bucket_sort p.kind)) ps

keep-one : (f : Pipe → Option Pipe) (keep : Pipe → Bool) → ((p q : Pipe) → f p ≡ Some q → keep q ≡ keep p) → (ps : List Pipe) → filter_map f (filter keep ps) ≡ filter keep (filter_map f ps)
keep-one f keep same [] = refl
keep-one f keep same (p ∷ ps) =
    elim (keep p) as (λ b. keep p ≡ b → filter_map f (cond b (p ∷ filter keep ps) (filter keep ps)) ≡ filter keep (cons_option (f p) (filter_map f ps))) [
      | true ↦ λ e. elim (f p) as (λ o. f p ≡ o → cons_option o (filter_map f (filter keep ps)) ≡ filter keep (cons_option o (filter_map f ps))) [
        | None ↦ λ g. keep-one f keep same ps
        | Some q ↦ λ g. ap (λ zs. q ∷ zs) (keep-one f keep same ps) ∙ sym (ap (λ c. cond c (q ∷ filter keep (filter_map f ps)) (filter keep (filter_map f ps))) (same p q g ∙ e))
      ] refl
      | false ↦ λ e. elim (f p) as (λ o. f p ≡ o → filter_map f (filter keep ps) ≡ filter keep (cons_option o (filter_map f ps))) [
        | None ↦ λ g. keep-one f keep same ps
        | Some q ↦ λ g. keep-one f keep same ps ∙ sym (ap (λ c. cond c (q ∷ filter keep (filter_map f ps)) (filter keep (filter_map f ps))) (same p q g ∙ e))
      ] refl
    ] refl

same-kind : (p q : Pipe) (o : Option (List ℕ)) → option_map (λ rest. record p { at = rest }) o ≡ Some q → not (is_bucket_sort q.kind) ≡ not (is_bucket_sort p.kind)
same-kind p q None e = none_some q e
same-kind p q (Some rest) e = ap (λ (r : Pipe). not (is_bucket_sort r.kind)) (sym (some_same (record p { at = rest }) q e))

pub within-unsorted : (i : ℕ) (ps : List Pipe) → pipes_within i (unsorted ps) ≡ unsorted (pipes_within i ps)
within-unsorted i ps = keep-one (λ p. option_map (λ rest. record p { at = rest }) (places_behind i p.at)) (λ p. not (is_bucket_sort p.kind)) (λ p q e. same-kind p q (places_behind i p.at) e) ps
