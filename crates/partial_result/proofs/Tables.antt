-- The buckets of a whole: one for each key of a list of keys.
use Rattle.std.specs.Prelude.{◌≡◌, refl, ℕ, ◌+◌, ◌^◌, Bool, true, false, cond, ◌&&◌, ◌||◌, T, List, [], ◌∷◌, ◌++◌, map, filter, sum_by}
use Rattle.std.specs.Ordering.{is_eq}
use Rattle.std.specs.Cmp.{tied_itself}
use Rattle.std.proofs.Common.{sym, ◌∙◌, ap, subst, zero-add}
use Rattle.agg_model.specs.declared.key.Key.{Key}
use Rattle.agg_model.specs.declared.partial.Bucket.{Bucket}
use Rattle.agg_model.specs.declared.partial.Node.{Node}
use Rattle.agg_evaluation.specs.KeyOrder.{key_eq, has_key}
use Rattle.agg_evaluation.specs.Orders.{bucket_key, bucket_count}
use Rattle.agg_evaluation.specs.Whole.{whole_bucket}
use Rattle.agg_evaluation.specs.Trees.{is_ascending, pass_each, have_children}
use Rattle.agg_evaluation.proofs.KeyCompare.{key_cmp_total}
use Rattle.agg_evaluation.proofs.KeyExact.{exact_keys}
use Rattle.partial_result.proofs.KeyLists.{absent_below}
use Rattle.list_laws.proofs.Booleans.{and_first, and_second, and_both}
use Rattle.list_laws.proofs.Orders.{equal_of}
use Rattle.partial_result.proofs.Columns.{wholes, wholes_are}
use Rattle.partial_result.proofs.ColumnLaws.{EachWhole, columns-pass, columns-one}

-- the buckets of a key
abbrev pub same : Key → List Bucket → List Bucket
same q bs = filter (λ b. key_eq q b.key) bs

abbrev pub children_of : Bucket → List Node
children_of b = b.children

abbrev pub covered_of : Bucket → ℕ
covered_of b = b.covered

pub map_same : (f g : Key → Bucket) (ks : List Key) → ((q : Key) → has_key q ks ≡ true → f q ≡ g q) → map f ks ≡ map g ks
map_same f g [] h = refl
map_same f g (k ∷ ks) h = λ i.
    h k (ap (λ r. is_eq r || has_key k ks) (tied_itself key_cmp_total k)) i
    ∷ map_same f g ks (λ q there. h q (elim (key_eq q k) as (λ b. (b || has_key q ks) ≡ true) [ true ↦ refl | false ↦ there ])) i

map-keys : (f : Key → Bucket) → ((k : Key) → (f k).key ≡ k) → (ks : List Key) → map bucket_key (map f ks) ≡ ks
map-keys f keyed [] = refl
map-keys f keyed (k ∷ ks) = λ i. keyed k i ∷ map-keys f keyed ks i

module _ (ws : List (List Node → Node)) (tests : List (Node → Bool)) (each : EachWhole ws tests) where
  -- the bucket that some buckets of one key make
  abbrev pub made : Key → List Bucket → Bucket
  made q bs = record { key = q; count = sum_by bucket_count bs; covered = sum_by covered_of bs; children = wholes children_of ws bs }

  abbrev pub table : List Key → List Bucket → List Bucket
  table ks bs = map (whole_bucket ws bs) ks

  pub keys-table : (ks : List Key) (bs : List Bucket) → map bucket_key (table ks bs) ≡ ks
  keys-table ks bs = map-keys (whole_bucket ws bs) (λ k. refl) ks

  pub table-pass : (ks : List Key) (bs : List Bucket) → have_children tests (table ks bs) ≡ true
  table-pass [] bs = refl
  table-pass (k ∷ ks) bs = and_both _ _ (ap (pass_each tests) (wholes_are children_of ws (same k bs)) ∙ columns-pass children_of ws tests (same k bs) each) (table-pass ks bs)

  -- a bucket alone
  pub made-one : (b : Bucket) → pass_each tests b.children ≡ true → made b.key (b ∷ []) ≡ b
  made-one b pass = λ i. record {
    key = b.key;
    count = zero-add b.count i;
    covered = zero-add b.covered i;
    children = (wholes_are children_of ws (b ∷ []) ∙ columns-one children_of ws tests b b.children each refl pass) i;
  }

  -- the table of a list that ascends is the list
  pub table-one : (bs : List Bucket) → is_ascending (map bucket_key bs) ≡ true → have_children tests bs ≡ true → table (map bucket_key bs) bs ≡ bs
  table-one [] rising pass = refl
  table-one (b ∷ bs) rising pass =
      let below = and_first _ _ rising in
      let none : same b.key bs ≡ [] = absent_same b.key bs (absent_below b.key (map bucket_key bs) below) in
      let first : same b.key (b ∷ bs) ≡ b ∷ [] = ap (λ r. cond (is_eq r) (b ∷ same b.key bs) (same b.key bs)) (tied_itself key_cmp_total b.key) ∙ ap (λ xs. b ∷ xs) none in
      λ i. (ap (made b.key) first ∙ made-one b (and_first _ _ pass)) i
      ∷ (map_same (whole_bucket ws (b ∷ bs)) (whole_bucket ws bs) (map bucket_key bs) (λ q there.
      ap (made q) (ap (λ r. cond r (b ∷ same q bs) (same q bs)) (other q there)))
      ∙ table-one bs (and_second _ _ rising) (and_second _ _ pass)) i
    where
      absent_same : (q : Key) (bs : List Bucket) → has_key q (map bucket_key bs) ≡ false → same q bs ≡ []
      absent_same q [] h = refl
      absent_same q (x ∷ xs) h =
          elim (key_eq q x.key) as (λ r. (r || has_key q (map bucket_key xs)) ≡ false → cond r (x ∷ same q xs) (same q xs) ≡ []) [
            | true ↦ λ g. absurd (subst T g tt)
            | false ↦ λ g. absent_same q xs g
          ] h

      -- a later key is another one
      other : (q : Key) → has_key q (map bucket_key bs) ≡ true → key_eq q b.key ≡ false
      other q there =
          elim (key_eq q b.key) as (λ r. key_eq q b.key ≡ r → r ≡ false) [
            | true ↦ λ e. absurd (subst T (sym there ∙ ap (λ k. has_key k (map bucket_key bs)) (exact_keys q b.key (equal_of _ e)) ∙ absent_below b.key (map bucket_key bs) (and_first _ _ rising)) tt)
            | false ↦ λ e. refl
          ] refl
