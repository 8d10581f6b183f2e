-- The buckets of a composite aggregation's page, with more rows group by group.
use Rattle.std.specs.Prelude.{◌≡◌, refl, ℕ, Bool, true, false, cond, ◌||◌, ◌++◌, T, List, [], ◌∷◌, filter, length, map, Option}
use Rattle.std.proofs.Common.{sym, ◌∙◌, ap, ⊎_elim}
use Rattle.std.proofs.lemmas.Bool.{cases_Bool, true≢false}
use Rattle.agg_model.specs.declared.aggregation.CompositeSource.{CompositeSource}
use Rattle.agg_model.specs.declared.aggregation.Kind.TheVariants as kind
use Rattle.agg_model.specs.declared.key.Key.{Key}
use Rattle.agg_model.specs.declared.partial.Bucket.{Bucket}
use Rattle.agg_evaluation.specs.KeyOrder.{has_key, key_cmp, key_eq}
use Rattle.agg_evaluation.specs.Orders.{bucket_key}
use Rattle.agg_evaluation.specs.Rows.{PlacedRow}
use Rattle.agg_evaluation.specs.Shard.{Collector, page}
use Rattle.agg_evaluation.proofs.KeyCompare.{key_cmp_total}
use Rattle.agg_evaluation.proofs.KeyExact.{exact_keys}
use Rattle.agg_evaluation.proofs.KeyLists.{ascending-filter, has_key-insert_once, key_eq-self, same_keys}
use Rattle.list_laws.specs.Sorting.{insert_once}
use Rattle.list_laws.proofs.Booleans.{and_left, and_right}
use Rattle.list_laws.proofs.Lists.{filter-map}
use Rattle.agg_evaluation.specs.CompositeKeys.{is_composite_of}
use Rattle.growth_laws.specs.Gathering.{Gatherer, kept_buckets, put_groups, put_rows}
use Rattle.growth_laws.proofs.Gathering.{Gathers, bucket_at, later-first, later-none, one_by_one, put-rows, with_all, with_one}
use Rattle.growth_laws.proofs.InsertedKeys.{insert_all}
use Rattle.growth_laws.proofs.Ordered.{filter-has, has-filter}
use Rattle.growth_laws.proofs.PageKeys.{AreKeys, found-has, has-found, insert-keys, page-among, page-fewer, page-insert, page-keys}
use Rattle.std.proofs.Math.Bool.{or-true}

-- two tests of which each implies the other
same_test : (a b : Bool) → (a ≡ true → b ≡ true) → (b ≡ true → a ≡ true) → a ≡ b
same_test true b f g = sym (f refl)
same_test false true f g = g refl
same_test false false f g = refl

module _ (First Then : List PlacedRow → Type 0) (none_first : First []) (gs : List Gatherer) (cs : List Collector) (gathers : Gathers First Then gs cs)
    (sources : List CompositeSource) (size : ℕ) (after : Option Key) where
  -- the bucket of a key with its rows
  abbrev at : (Key → List PlacedRow) → Key → Bucket
  at = bucket_at First Then gs cs gathers

  -- the page of keys
  abbrev paged : List Key → List Key
  paged = page sources size after

  -- the keys of the buckets
  keys-at : (h : Key → List PlacedRow) (ks : List Key) → map bucket_key (map (at h) ks) ≡ ks
  keys-at h [] = refl
  keys-at h (k ∷ ks) = ap (λ js. k ∷ js) (keys-at h ks)

  -- the keys that stand in their page are the page
  filter-page : (ks : List Key) → AreKeys sources size after ks → filter (λ q. has_key q (paged ks)) ks ≡ paged ks
  filter-page ks are = same_keys _ _ (ascending-filter (λ q. has_key q (paged ks)) ks are.up) (page-keys sources size after ks are).up (λ q. same_test _ _
      (λ e. (has-filter key_cmp key_cmp_total exact_keys (λ q. has_key q (paged ks)) q ks (found-has key_cmp key_cmp_total exact_keys q (filter (λ q. has_key q (paged ks)) ks) e)).1)
      (λ e. has-found key_cmp key_cmp_total exact_keys q (filter (λ q. has_key q (paged ks)) ks) (filter-has key_cmp key_cmp_total exact_keys (λ q. has_key q (paged ks)) q ks
      (found-has key_cmp key_cmp_total exact_keys q ks (page-among sources size after q ks are e)) e)))

  -- the buckets that are kept are those of the page
  kept-page : (h : Key → List PlacedRow) (ks : List Key) → AreKeys sources size after ks → kept_buckets (kind.Composite sources size after) (map (at h) ks) ≡ map (at h) (paged ks)
  kept-page h ks are =
      ap (λ js. filter (λ b. has_key (bucket_key b) (paged js)) (map (at h) ks)) (keys-at h ks)
      ∙ filter-map (λ b. has_key (bucket_key b) (paged ks)) (at h) ks ∙ ap (map (at h)) (filter-page ks are)

  -- buckets of keys that have the same rows
  same-at : (h h' : Key → List PlacedRow) (ks : List Key) → ((q : Key) → has_key q ks ≡ true → h q ≡ h' q) → map (at h) ks ≡ map (at h') ks
  same-at h h' [] same = refl
  same-at h h' (k ∷ ks) same = λ i.
      record { key = k; count = length (here i); covered = 0; children = map (λ c. c.collect (here i)) cs }
      ∷ same-at h h' ks (λ q e. same q (ap (λ b. key_eq q k || b) e ∙ or-true (key_eq q k))) i
    where
      here : h k ≡ h' k
      here = same k (ap (λ b. b || has_key k ks) (key_eq-self k))

  -- one key's rows put into the page
  put-page : (h : Key → List PlacedRow) (k : Key) (rows : List PlacedRow) (ks : List Key) → AreKeys sources size after ks → T (is_composite_of (length sources) k) → First (h k) → Then rows → ((q : Key) → has_key q ks ≡ false → h q ≡ [])
      → kept_buckets (kind.Composite sources size after) (put_rows gs rows k (map (at h) (paged ks))) ≡ map (at (with_one First Then gs cs gathers k rows h)) (paged (insert_once key_cmp k ks))
  put-page h k rows ks are composite f t none =
      ap (λ bs. kept_buckets (kind.Composite sources size after) (put_rows gs rows k bs)) (same-at h within (paged ks) (λ q e. sym (ap (λ b. cond b (h q) []) e)))
      ∙ ap (kept_buckets (kind.Composite sources size after)) (put-rows First Then gs cs gathers within k rows (paged ks) (page-keys sources size after ks are).up first_within t (λ e. ap (λ b. cond b (h k) []) e))
      ∙ kept-page (with_one First Then gs cs gathers k rows within) (insert_once key_cmp k (paged ks)) (insert-keys sources size after k (paged ks) (page-keys sources size after ks are) composite)
      ∙ ap (map (at (with_one First Then gs cs gathers k rows within))) (page-insert sources size after k ks are composite)
      ∙ same-at (with_one First Then gs cs gathers k rows within) (with_one First Then gs cs gathers k rows h) (paged (insert_once key_cmp k ks)) (λ q e. ap (λ rs. cond (key_eq q k) (rs ++ rows) rs) (sym (seen q e)))
    where
      within : Key → List PlacedRow
      within q = cond (has_key q (paged ks)) (h q) []

      first_within : First (cond (has_key k (paged ks)) (h k) [])
      first_within = elim (has_key k (paged ks)) as (λ b. First (cond b (h k) [])) [ true ↦ f | false ↦ none_first ]

      seen : (q : Key) → has_key q (paged (insert_once key_cmp k ks)) ≡ true → h q ≡ cond (has_key q (paged ks)) (h q) []
      seen q e =
          elim (has_key q (paged ks)) as (λ b. has_key q (paged ks) ≡ b → h q ≡ cond b (h q) []) [
            | true ↦ λ inside. refl
            | false ↦ λ outside. none q (⊎_elim (λ (there : has_key q ks ≡ true). absurd (true≢false (sym (page-fewer sources size after ks (insert_once key_cmp k ks) are (insert-keys sources size after k ks are composite)
                (λ j g. has_key-insert_once j k ks ∙ ap (λ b. key_eq j k || b) g ∙ or-true (key_eq j k)) q there e) ∙ outside)))
                (λ (absent : has_key q ks ≡ false). absent) (cases_Bool (has_key q ks)))
          ] refl

  -- the keys one after another
  pub put-page-groups : (g : Key → List PlacedRow) → ((q : Key) → Then (g q)) → (js : List Key) (h : Key → List PlacedRow) (ks : List Key) → AreKeys sources size after js → AreKeys sources size after ks
      → ((q : Key) → has_key q js ≡ true → First (h q)) → ((q : Key) → has_key q ks ≡ false → h q ≡ [])
      → put_groups g gs (kind.Composite sources size after) js (map (at h) (paged ks)) ≡ map (at (with_all First Then gs cs gathers js g h)) (paged (insert_all js ks))
  put-page-groups g t [] h ks rise are f none = refl
  put-page-groups g t (j ∷ js) h ks rise are f none =
      ap (put_groups g gs (kind.Composite sources size after) js) (put-page h j (g j) ks are (and_left _ _ rise.composite) (f j (ap (λ b. b || has_key j js) (key_eq-self j))) (t j) none)
      ∙ put-page-groups g t js (with_one First Then gs cs gathers j (g j) h) (insert_once key_cmp j ks) (record { up = and_right _ _ rise.up; composite = and_right _ _ rise.composite })
      (insert-keys sources size after j ks are (and_left _ _ rise.composite)) (later-first First Then gs cs gathers h j (g j) js (and_left _ _ rise.up) f) (later-none First Then gs cs gathers h j (g j) ks none)
      ∙ (λ i. map (at (λ q. one_by_one First Then gs cs gathers g h j js (and_left _ _ rise.up) q i)) (paged (insert_all (j ∷ js) ks)))
