-- Each term of the whole counts a document at least, so that with a minimum of 1 none is below it.
use Rattle.std.specs.Prelude.{◌≡◌, ◌≤◌, refl, ℕ, ◌||◌, Bool, true, false, cond, not, nat_le, T, List, [], ◌∷◌, ◌++◌, map, filter, sum_by, Option, Some}
use Rattle.std.specs.List.{AllByRecursion}
use Rattle.std.proofs.Common.{sym, ◌∙◌, ap, subst, arith}
use Rattle.std.proofs.lemmas.Bool.Decides.{nat_tests}
use Rattle.std.proofs.lemmas.List.Sums.{sum_by-cons}
use Rattle.agg_model.specs.declared.key.Key.{Key}
use Rattle.agg_model.specs.declared.partial.Bucket.{Bucket}
use Rattle.agg_model.specs.declared.partial.Node.{Node}
use Rattle.agg_model.specs.declared.aggregation.Agg.{Agg, Agg', Row_of-Agg, out-Agg}
use Rattle.agg_model.specs.declared.aggregation.Kind.{Kind}
use Rattle.agg_model.specs.declared.aggregation.Kind.TheVariants as kind
use Rattle.agg_model.specs.declared.aggregation.Order.{Order}
use Rattle.agg_model.specs.declared.query.Probe.{Probe}
use Rattle.agg_model.specs.declared.row.Scalar.{Scalar}
use Rattle.agg_evaluation.specs.Folds.{fold_aggs}
use Rattle.agg_evaluation.specs.Groups.{under}
use Rattle.agg_evaluation.specs.KeyOrder.{key_eq, has_key}
use Rattle.agg_evaluation.specs.Keys.{distinct_keys}
use Rattle.agg_evaluation.specs.Orders.{bucket_count, bucket_key}
use Rattle.agg_evaluation.specs.Rows.{roots}
use Rattle.agg_evaluation.specs.Shard.{Collector, collector_of, node_of}
use Rattle.agg_evaluation.specs.Whole.{by_key, parts, shape_of, whole_bucket, whole_by}
use Rattle.agg_evaluation.proofs.Computing.{computing}
use Rattle.agg_evaluation.proofs.KeyLists.{has_key-distinct_keys}
use Rattle.agg_evaluation.proofs.WholeLaws.{Union, tree_buckets, with_key}
use Rattle.list_laws.proofs.Each.{each-mapped}
use Rattle.list_laws.proofs.Options.{none_some}
use Rattle.count_laws.specs.TermsSums.{below_minimum_count, minimum_of_terms, whole_of_rows}
use Rattle.count_laws.proofs.Chosen.{each-there}
use Rattle.count_laws.proofs.Descent.{whole-are}
use Rattle.count_laws.proofs.Steps.{Handed}
use Rattle.count_laws.proofs.WholeGroups.{each-counted}

abbrev IsCounted : Bucket → Type 0
IsCounted b = 1 ≤ bucket_count b

each-append : {A : Type 0} (P : A → Type 0) (xs ys : List A) → AllByRecursion P xs → AllByRecursion P ys → AllByRecursion P (xs ++ ys)
each-append P [] ys h g = g
each-append P (x ∷ xs) ys h g = (h.0, each-append P xs ys h.1 g)

-- some buckets of a key count what each of them does at least
same-counted : (q : Key) (bs : List Bucket) → AllByRecursion IsCounted bs → has_key q (map bucket_key bs) ≡ true → 1 ≤ sum_by bucket_count (with_key q bs)
same-counted q [] h e = absurd (subst T (sym e) tt)
same-counted q (b ∷ bs) h e =
    elim (key_eq q (bucket_key b)) as (λ c. (c || has_key q (map bucket_key bs)) ≡ true → 1 ≤ sum_by bucket_count (cond c (b ∷ with_key q bs) (with_key q bs))) [
      | true ↦ λ f. omega (arith, h.0, sum_by-cons bucket_count b (with_key q bs))
      | false ↦ λ f. same-counted q bs h.1 f
    ] e

whole-counted : (ws : List Union) (k : Kind) (ts : List Node) → AllByRecursion IsCounted (tree_buckets ts) → AllByRecursion IsCounted (parts (whole_by ws k by_key ts)).buckets
whole-counted ws k ts each =
    let bs = tree_buckets ts in
    let ks = distinct_keys (map bucket_key bs) in
    subst (AllByRecursion IsCounted) (sym (whole-are ws k by_key ts))
    (each-mapped (λ j. has_key j ks ≡ true) IsCounted (whole_bucket ws bs) (λ j there. same-counted j bs each (sym (has_key-distinct_keys j (map bucket_key bs)) ∙ there)) ks (each-there ks))

none-below : (bs : List Bucket) → AllByRecursion IsCounted bs → below_minimum_count 1 bs ≡ 0
none-below bs each = ap (sum_by bucket_count) (by bs each)
  where
    by : (bs : List Bucket) → AllByRecursion IsCounted bs → filter (λ b. not (nat_le 1 (bucket_count b))) bs ≡ []
    by [] h = refl
    by (b ∷ bs) h =
        let least : 1 ≤ bucket_count b = h.0 in
        let enough : nat_le 1 (bucket_count b) ≡ true = grind (arith, nat_tests, least) in
        ap (λ c. cond (not c) (b ∷ filter (λ b. not (nat_le 1 (bucket_count b))) bs) (filter (λ b. not (nat_le 1 (bucket_count b))) bs)) enough ∙ by bs h.1

module _ {n : _} (children : Row_of-Agg n) (field size shard_size min_doc_count : ℕ) (order : List Order) (include : Option (List Probe)) (exclude : List Probe) (missing : Option Scalar) (show_error : Bool) where
  abbrev k : Kind
  k = kind.Terms field size shard_size min_doc_count order include exclude missing show_error

  abbrev cs : Handed → List Collector
  cs s = fold_aggs (collector_of true s.0 (roots s.0)) children

  abbrev tree : Handed → Node
  tree s = node_of true s.0 (roots s.0) (cs s) k (under s.0 (roots s.0) k s.1)

  trees-counted : (ss : List Handed) → AllByRecursion IsCounted (tree_buckets (map tree ss))
  trees-counted [] = tt
  trees-counted (s ∷ ss) =
      each-append IsCounted (parts (tree s)).buckets (tree_buckets (map tree ss)) (each-counted s.0 k (cs s) s.1 (map (λ c. c.kind) (cs s)) shard_size order) (trees-counted ss)

  terms-counted : (ss : List Handed) → below_minimum_count 1 (parts (whole_by (fold_aggs (λ a. whole_by a.children a.kind (shape_of a.kind)) children) k by_key (map tree ss))).buckets ≡ 0
  terms-counted ss = none-below _ (whole-counted (fold_aggs (λ a. whole_by a.children a.kind (shape_of a.kind)) children) k (map tree ss) (trees-counted ss))

-- terms of documents, none of which is below a minimum of 1
pub all-counted : (a : Agg) (min : ℕ) (ss : List Handed) → minimum_of_terms (out-Agg a).kind ≡ Some min → below_minimum_count 1 (parts (whole_of_rows a ss)).buckets ≡ 0
unfolding computing
all-counted (Agg' name (kind.Terms field size shard_size min_doc_count order include exclude missing show_error) n children) min ss e =
    terms-counted children field size shard_size min_doc_count order include exclude missing show_error ss
all-counted (Agg' name (kind.Histogram field interval offset min_doc_count extended hard keyed orders missing) n children) min ss e = none_some min e
all-counted (Agg' name (kind.DateHistogram field period zone min_doc_count extended hard keyed orders missing) n children) min ss e = none_some min e
all-counted (Agg' name (kind.Filters names filters other) n children) min ss e = none_some min e
all-counted (Agg' name (kind.Filter query) n children) min ss e = none_some min e
all-counted (Agg' name (kind.Missing field) n children) min ss e = none_some min e
all-counted (Agg' name kind.Global n children) min ss e = none_some min e
all-counted (Agg' name (kind.Nested context) n children) min ss e = none_some min e
all-counted (Agg' name (kind.ReverseNested context) n children) min ss e = none_some min e
all-counted (Agg' name (kind.Composite sources size after) n children) min ss e = none_some min e
all-counted (Agg' name (kind.Sum field missing) n children) min ss e = none_some min e
all-counted (Agg' name (kind.Min field missing) n children) min ss e = none_some min e
all-counted (Agg' name (kind.Max field missing) n children) min ss e = none_some min e
all-counted (Agg' name (kind.Avg field missing) n children) min ss e = none_some min e
all-counted (Agg' name (kind.ValueCount field missing) n children) min ss e = none_some min e
