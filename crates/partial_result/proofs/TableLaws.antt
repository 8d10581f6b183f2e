-- The buckets of a whole: of two lists, of two lists turned round, and of many.
use Rattle.std.specs.Prelude.{◌≡◌, refl, ℕ, ◌+◌, ◌-◌, ◌^◌, min, nat_lt, Bool, true, false, cond, ◌&&◌, ◌||◌, List, [], ◌∷◌, ◌++◌, map, Option, Some, None, is_some, option_to_list}
use Rattle.std.specs.List.{list_all}
use Rattle.std.proofs.Common.{sym, ◌∙◌, ap, arith}
use Rattle.std.proofs.lemmas.Bool.Decides.{nat_tests}
use Rattle.std.proofs.lemmas.List.Elements.{filter-append}
use Rattle.agg_model.specs.declared.key.Key.{Key}
use Rattle.agg_model.specs.declared.partial.Bucket.{Bucket}
use Rattle.agg_model.specs.declared.partial.Node.{Node}
use Rattle.agg_evaluation.specs.KeyOrder.{key_eq, has_key}
use Rattle.agg_evaluation.specs.Orders.{bucket_key}
use Rattle.agg_evaluation.specs.Whole.{whole_bucket}
use Rattle.agg_evaluation.specs.Trees.{is_ascending, pass_each, have_children, fits_u64, node_fits, node_fits_at, bucket_fits}
use Rattle.agg_evaluation.proofs.KeyExact.{exact_keys}
use Rattle.partial_result.specs.Merged.{united, merged_bucket}
use Rattle.agg_evaluation.proofs.NodeFolds.{fold_bucket}
use Rattle.partial_result.proofs.MergeLevels.{merged_bucket_level}
use Rattle.list_laws.proofs.Booleans.{and_first, and_second}
use Rattle.list_laws.proofs.Orders.{equal_of}
use Rattle.partial_result.proofs.Columns.{wholes, columns, wholes_are}
use Rattle.partial_result.proofs.ColumnLaws.{EachWhole, columns-two}
use Rattle.partial_result.proofs.Found.{found, both_found, IsRising, others, same_found, sorted-entries, same-found, is_some-found, found-key, found-pass, rising-united, found-united}
use Rattle.partial_result.proofs.Tables.{same, made, table, children_of, keys-table, made-one}
use Rattle.partial_result.proofs.MetricLaws.{two_sum}

-- a sum that fits is not capped
pub fitting : (m n : ℕ) → nat_lt (m + n) (2 ^ 64) ≡ true → min (m + n) (2 ^ 64 - 1) ≡ m + n
fitting m n h = grind (arith, nat_tests)

pub all-map : (ns : List Node) → list_all (λ fits. fits) (map node_fits ns) ≡ list_all node_fits ns
all-map [] = refl
all-map (n ∷ ns) = ap (λ b. node_fits n && b) (all-map ns)

-- whether each number of a bucket fits
abbrev pub bucket_passes : Bucket → Bool
bucket_passes = fold_bucket node_fits_at bucket_fits

module _ (ws : List (List Node → Node)) (tests : List (Node → Bool)) (each : EachWhole ws tests) where
  found-table : (q : Key) (ks : List Key) (bs : List Bucket) → found q (table ws tests each ks bs) ≡ cond (has_key q ks) (Some (whole_bucket ws bs q)) None
  found-table q [] bs = refl
  found-table q (k ∷ ks) bs =
      elim (key_eq q k) as (λ r. key_eq q k ≡ r → cond r (Some (whole_bucket ws bs k)) (found q (table ws tests each ks bs)) ≡ cond (r || has_key q ks) (Some (whole_bucket ws bs q)) None) [
        | true ↦ λ e. ap (λ j. Some (whole_bucket ws bs j)) (sym (exact_keys q k (equal_of _ e)))
        | false ↦ λ e. found-table q ks bs
      ] refl

  -- what two lists have of a key makes what they have together
  record Has (q : Key) (o : Option Bucket) : Type 0 where
    key : (b : Bucket) → o ≡ Some b → q ≡ b.key
    pass : (b : Bucket) → o ≡ Some b → pass_each tests b.children ≡ true

  made-at : (q : Key) (b : Bucket) → q ≡ b.key → pass_each tests b.children ≡ true → b ≡ made ws tests each q (b ∷ [])
  made-at q b is pass = sym (made-one ws tests each b pass) ∙ ap (λ j. made ws tests each j (b ∷ [])) (sym is)

  made-two : (q : Key) (b c : Bucket) → q ≡ b.key → pass_each tests b.children ≡ true → pass_each tests c.children ≡ true
      → bucket_passes (made ws tests each q (b ∷ c ∷ [])) ≡ true → merged_bucket c b ≡ made ws tests each q (b ∷ c ∷ [])
  made-two q b c is pass pass' fits =
      let kept = list_all (λ fits. fits) (map node_fits (wholes children_of ws (b ∷ c ∷ []))) in
      let count = fits_u64 (0 + b.count + c.count) in
      let covered = fits_u64 (0 + b.covered + c.covered) in
      let counts : (count && covered) ≡ true = and_first (count && covered) kept fits in
      let kids = wholes_are children_of ws (b ∷ c ∷ []) in
      let below : list_all node_fits (columns children_of ws (b ∷ c ∷ [])) ≡ true =
      ap (list_all node_fits) (sym kids) ∙ sym (all-map (wholes children_of ws (b ∷ c ∷ []))) ∙ and_second (count && covered) kept fits in
      merged_bucket_level c b ∙ (λ i. record {
        key = sym is i;
        count = (two_sum b.count c.count (and_first count covered counts)) i;
        covered = (two_sum b.covered c.covered (and_second count covered counts)) i;
        children = (columns-two children_of ws tests b c b.children c.children each refl refl pass pass' below ∙ sym kids) i;
      })

  together : (q : Key) (one other : Option Bucket) → Has q one → Has q other → ((is_some one || is_some other) ≡ true → bucket_passes (made ws tests each q (option_to_list one ++ option_to_list other)) ≡ true)
      → both_found other one ≡ cond (is_some one || is_some other) (Some (made ws tests each q (option_to_list one ++ option_to_list other))) None
  together q None None h g fits = refl
  together q (Some b) None h g fits = ap Some (made-at q b (h.key b refl) (h.pass b refl))
  together q None (Some c) h g fits = ap Some (made-at q c (g.key c refl) (g.pass c refl))
  together q (Some b) (Some c) h g fits = ap Some (made-two q b c (h.key b refl) (h.pass b refl) (g.pass c refl) (fits refl))

  -- two lists that ascend, as one
  pub table-two : (ks : List Key) (bs cs : List Bucket) → is_ascending ks ≡ true → ((q : Key) → has_key q ks ≡ (has_key q (map bucket_key bs) || has_key q (map bucket_key cs)))
      → IsRising bs → IsRising cs → have_children tests bs ≡ true → have_children tests cs ≡ true → list_all bucket_passes (table ws tests each ks (bs ++ cs)) ≡ true
      → united (others cs) bs ≡ table ws tests each ks (bs ++ cs)
  table-two ks bs cs rising keys up up' pass pass' fits =
      same_found _ _ (rising-united cs bs up' up) (sorted-entries (table ws tests each ks (bs ++ cs)) ∙ ap is_ascending (keys-table ws tests each ks (bs ++ cs)) ∙ rising) (λ q.
      let there : has_key q ks ≡ (is_some (found q bs) || is_some (found q cs)) = keys q ∙ (λ i. sym (is_some-found q bs) i || sym (is_some-found q cs) i) in
      let parts : same q (bs ++ cs) ≡ option_to_list (found q bs) ++ option_to_list (found q cs) =
      filter-append (λ (b : Bucket). key_eq q b.key) bs cs ∙ (λ i. same-found q bs up i ++ same-found q cs up' i) in
      let fit : (is_some (found q bs) || is_some (found q cs)) ≡ true → bucket_passes (made ws tests each q (option_to_list (found q bs) ++ option_to_list (found q cs))) ≡ true = λ has.
      ap (λ xs. bucket_passes (made ws tests each q xs)) (sym parts)
      ∙ found-pass bucket_passes q (table ws tests each ks (bs ++ cs)) (whole_bucket ws (bs ++ cs) q) fits
      (found-table q ks (bs ++ cs) ∙ ap (λ r. cond r (Some (whole_bucket ws (bs ++ cs) q)) None) (there ∙ has)) in
      found-united q cs bs up' up
      ∙ together q (found q bs) (found q cs)
      (record { key = found-key q bs; pass = λ b. found-pass (λ x. pass_each tests x.children) q bs b pass })
      (record { key = found-key q cs; pass = λ c. found-pass (λ x. pass_each tests x.children) q cs c pass' }) fit
      ∙ (λ i. cond (sym there i) (Some (made ws tests each q (sym parts i))) None)
      ∙ sym (found-table q ks (bs ++ cs)))
