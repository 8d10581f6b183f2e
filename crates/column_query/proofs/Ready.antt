-- Prepared queries that say what the queries match.
use Rattle.std.proofs.Common.{◌≡◌, refl, ℕ, ℤ, ◌+◌, ◌<◌, ◌≤◌, zero, suc, Bool, true, false, not, cond, List, [], ◌∷◌, ◌++◌, length, get_or, take, map, filter, Option, Some, None, inl, inr, sym, ◌∙◌, ap, subst, arith, Vec, Global}
use Rattle.std.specs.Prelude.{◌||◌, ◌&&◌, nat_le}
use Rattle.std.specs.List.{list_any, list_all, slice_get}
use Rattle.std.specs.declared.cmp.Ordering.{Ordering}
use Rattle.std.specs.Ordering.{nat_cmp, is_eq}
use Rattle.std.specs.Cmp.Lexicographic.{slice_cmp, texts_ties}
use Rattle.std.specs.Str.{bytes_eq}
use Rattle.std.specs.BTreeSet.{BTreeSet, insert_key}
use Rattle.std.proofs.lemmas.Bool.{ltb-true, and_parts}
use Rattle.std.proofs.lemmas.Cmp.{alike_right, nat_list_cmp_total}
use Rattle.std.proofs.lemmas.List.{map-append, take_more}
use Rattle.agg_model.specs.declared.row.Scalar.{Scalar}
use Rattle.agg_model.specs.declared.query.Query.{Query}
use Rattle.agg_model.specs.declared.query.Query.TheVariants as query
use Rattle.agg_model.specs.declared.query.Probe.{Probe}
use Rattle.agg_model.specs.declared.query.RangeTest.{RangeTest}
use Rattle.agg_evaluation.specs.KeyOrder.{key_eq}
use Rattle.agg_model.specs.ValueKeys.{scalar_key, probe_key}
use Rattle.agg_evaluation.specs.Matching.{matches, passes}
use Rattle.agg_evaluation.specs.Rows.{PlacedRow, values_of, beneath, roots, row_of}
use Rattle.shard_columns.specs.Columns.{Columns}
use Rattle.shard_columns.specs.Dictionary.{words_of}
use Rattle.column_query.specs.declared.bounds.Bound.{Bound}
use Rattle.column_query.specs.declared.prepared.NumberTest.{NumberTest}
use Rattle.column_query.specs.declared.prepared.NumberTest.TheVariants.{Is, OneOf, Within}
use Rattle.column_query.specs.declared.number_set.NumberSet.{NumberSet}
use Rattle.column_query.specs.declared.prepared.Prepared.{Prepared}
use Rattle.column_query.specs.declared.prepared.Prepared.TheVariants as prepared
use Rattle.column_query.specs.Numbers.{number_of, numbers_of, within, IsHeld, StandsFor, BoundsAs}
use Rattle.column_query.specs.NumberSets.{HasNumbers}
use Rattle.column_query.specs.Prepared.{within_all, passes_number, says, reads_below, reads_below_at, StandForAll, TestsFor, BoundAsAll, AddsNumber, HasIds, IsReady, AreReady}
use Rattle.agg_evaluation.specs.Conditions.{looks_below, looks_below_at}
use Rattle.column_query.proofs.Lists.{any_mapped, all_mapped, count_mapped}
use Rattle.column_query.proofs.Members.{In, place_of}
use Rattle.column_query.proofs.Holding.{held-at}
use Rattle.column_query.proofs.Inserting.{any-insert_key, any_step, all_step, all-push}
use Rattle.list_laws.proofs.Booleans.{or_comm}
use Rattle.agg_evaluation.proofs.QueryFolds.{fold_query-Bool, fold_query-Nested}
use Rattle.column_query.proofs.PreparedLevels.{fold_prepared-Nested}
use Rattle.column_query.proofs.Cases as by_query
use Rattle.column_query.proofs.PreparedCases as by_prepared

none_mapped : {A B : Type 0} (f : A → B) (xs : List A) → length xs ≡ 0 → [] ≡ map f xs
none_mapped f [] none = refl
none_mapped f (x ∷ xs) none = absurd (omega (arith, none))

any_same : {A : Type 0} (p q : A → Bool) (xs : List A) → ((x : A) → In x xs → p x ≡ q x) → list_any p xs ≡ list_any q xs
any_same p q [] same = refl
any_same p q (x ∷ xs) same = (λ i. same x (inl refl) i || list_any p xs) ∙ ap (λ (b : Bool). q x || b) (any_same p q xs (λ y is. same y (inr is)))

kept_or : {A : Type 0} (b : Bool) (x y : A) (rest all : List A) → (In x rest → In x all) → In x (cond b (y ∷ rest) rest) → In x (y ∷ all)
kept_or true x y rest all more is = elim is [
  | inl here ↦ inl here
  | inr there ↦ inr (more there)
]
kept_or false x y rest all more is = inr (more is)

In-filter : {A : Type 0} (p : A → Bool) (xs : List A) (x : A) → In x (filter p xs) → In x xs
In-filter p [] x is = absurd is
In-filter p (y ∷ ys) x is = kept_or (p y) x y (filter p ys) ys (λ rest. In-filter p ys x rest) is

row-at : (rows : List PlacedRow) (k : ℕ) (r : PlacedRow) → slice_get rows k ≡ Some r → row_of rows k ≡ r
row-at [] k r is = absurd (cc is)
row-at (x ∷ xs) zero r is = let same : x ≡ r = cc is in same
row-at (x ∷ xs) (suc k) r is = row-at xs k r is

-- ---- sets of ids

pub ids-none : HasIds [] []
ids-none = record { same = λ id. refl }

abbrev bytes_cmp : Vec ℕ Global → Vec ℕ Global → Ordering
bytes_cmp v w = slice_cmp nat_cmp v.items w.items

pub ids-more : (values : List (List ℕ)) (n : ℕ) (value : List ℕ) (old new : List (Vec ℕ Global)) (one : Vec ℕ Global) → n < length values → value ≡ get_or values n value →
    one.items ≡ value → new ≡ insert_key bytes_cmp old one → HasIds (take n values) old → HasIds (take (n + 1) values) new
ids-more values n value old new one below is one_is new_is before = record {
  same = λ id.
      ap (list_any (λ (k : Vec ℕ Global). is_eq (slice_cmp nat_cmp id k.items))) new_is
      ∙ (any-insert_key bytes_cmp (λ (k : Vec ℕ Global). is_eq (slice_cmp nat_cmp id k.items)) (λ v w e. ap is_eq (alike_right nat_list_cmp_total v.items w.items id e)) old one
      ∙ ((λ i. (ap (λ (v : List ℕ). is_eq (slice_cmp nat_cmp id v)) one_is ∙ sym (texts_ties id value)) i || before.same id i)
      ∙ (or_comm (bytes_eq id value) (list_any (bytes_eq id) (take n values)) ∙ sym (any_step (bytes_eq id) values n value below is))));
}

module _ (rows : List PlacedRow) (field : ℕ) where
  abbrev number : Scalar → ℤ
  number = number_of (words_of field rows)

  pub numbers-none : StandForAll rows field [] []
  numbers-none = record { same = λ v held. refl }

  pub numbers-more : (probes : List Probe) (n : ℕ) (probe : Probe) (found : Option ℤ) (old new : List ℤ) → n < length probes → probe ≡ get_or probes n probe →
      StandsFor rows field probe found → AddsNumber old found new → StandForAll rows field (take n probes) old → StandForAll rows field (take (n + 1) probes) new
  numbers-more probes n probe found old new below is stands adds before = record {
    same = λ v held.
        adds.same (number v) ∙ ((λ i. stands.same v held i || before.same v held i)
        ∙ (or_comm (key_eq (scalar_key v) (probe_key probe)) (list_any (λ p. key_eq (scalar_key v) (probe_key p)) (take n probes))
        ∙ sym (any_step (λ (p : Probe). key_eq (scalar_key v) (probe_key p)) probes n probe below is)));
  }

  -- ---- a test for a list of values
  pub tests-set : (probes : List Probe) (numbers : List ℤ) (set : NumberSet) → StandForAll rows field probes numbers → HasNumbers numbers set → TestsFor rows field probes (OneOf set)
  tests-set probes numbers set stand has = record { same = λ v held. has.same (number v) ∙ stand.same v held }

  -- where no row has a value, any test serves
  pub tests-none : (probes : List Probe) (most : ℕ) → ((n : ℕ) → length (values_of field (row_of rows n)) ≤ most) → most ≡ 0 → TestsFor rows field probes (Is None)
  tests-none probes most each none = record { same = λ v held. let low = held.1.1 in let few = each held.0 in absurd (omega (arith, low, few, none)) }

  pub bounds-none : BoundAsAll rows field [] []
  bounds-none = record { same = λ v held. refl }

  pub bounds-more : (tests : List RangeTest) (n : ℕ) (test : RangeTest) (old new : List Bound) (bound : Bound) → n < length tests → test ≡ get_or tests n test →
      BoundsAs rows field test bound → new ≡ old ++ bound ∷ [] → BoundAsAll rows field (take n tests) old → BoundAsAll rows field (take (n + 1) tests) new
  bounds-more tests n test old new bound below is bounds new_is before = record {
    same = λ v held.
        ap (λ (bs : List Bound). within_all bs (number v)) new_is
        ∙ (all-push (λ (b : Bound). within b (number v)) old bound
        ∙ ((λ i. before.same v held i && bounds.same v held i) ∙ sym (all_step (λ (t : RangeTest). passes t v) tests n test below is)));
  }

  -- ---- a test of numbers for a test of values
  pub same-values : (test : NumberTest) (wanted : Scalar → Bool) (n : ℕ) → ((v : Scalar) → IsHeld rows field v → passes_number test (number v) ≡ wanted v) →
      list_any (passes_number test) (numbers_of rows field (row_of rows n)) ≡ list_any wanted (values_of field (row_of rows n))
  same-values test wanted n same =
      any_mapped (passes_number test) number (values_of field (row_of rows n))
      ∙ any_same (λ (v : Scalar). passes_number test (number v)) wanted (values_of field (row_of rows n))
      (λ v is. let place = place_of (values_of field (row_of rows n)) v is in same v (held-at rows field n place.0 v place.1))

-- ---- queries

module _ (shard : Columns) where
  abbrev count : ℕ
  count = length shard.kinds

  abbrev rows : List PlacedRow
  rows = shard.rows

  pub ready-All : (q : Query) → q ≡ query.All → IsReady shard q prepared.All
  ready-All q is = subst (λ (x : Query). IsReady shard x prepared.All) (sym is) (record { fields = refl; same = λ n. refl })

  pub ready-Exists : (q : Query) (field : ℕ) → q ≡ query.Exists field → IsReady shard q (prepared.Exists field)
  ready-Exists q field is = subst (λ (x : Query). IsReady shard x (prepared.Exists field)) (sym is) (record { fields = refl; same = λ n. refl })

  pub ready-Term : (q : Query) (field : ℕ) (value : Probe) (found : Option ℤ) → q ≡ query.Term field value → looks_below count q ≡ true → StandsFor rows field value found →
      IsReady shard q (prepared.Values field (Is found))
  ready-Term q field value found is below stands = subst (λ (x : Query). IsReady shard x (prepared.Values field (Is found))) (sym is)
      (record { fields = sym (ap (looks_below count) is) ∙ below; same = λ n. same-values rows field (Is found) (λ v. key_eq (scalar_key v) (probe_key value)) n stands.same })

  pub ready-Terms : (q : Query) (field : ℕ) (values : List Probe) (test : NumberTest) → q ≡ query.Terms field values → looks_below count q ≡ true → TestsFor rows field values test →
      IsReady shard q (prepared.Values field test)
  ready-Terms q field values test is below stand = record {
    fields = sym (ap (looks_below count) is) ∙ below;
    same = λ n. same-values rows field test (λ v. list_any (λ probe. key_eq (scalar_key v) (probe_key probe)) values) n stand.same ∙ sym (by_query.by_terms rows (row_of rows n) q field values is);
  }

  pub ready-Range : (q : Query) (field : ℕ) (tests : List RangeTest) (bounds : Vec Bound Global) → q ≡ query.Range field tests → looks_below count q ≡ true → BoundAsAll rows field tests bounds.items →
      IsReady shard q (prepared.Values field (Within bounds))
  ready-Range q field tests bounds is below bound = subst (λ (x : Query). IsReady shard x (prepared.Values field (Within bounds))) (sym is)
      (record { fields = sym (ap (looks_below count) is) ∙ below; same = λ n. same-values rows field (Within bounds) (λ v. list_all (λ test. passes test v) tests) n bound.same })

  pub ready-Ids : (q : Query) (values : List (List ℕ)) (ids : BTreeSet (Vec ℕ Global)) → q ≡ query.Ids values → HasIds values ids.keys → IsReady shard q (prepared.Ids ids)
  ready-Ids q values ids is has = subst (λ (x : Query). IsReady shard x (prepared.Ids ids)) (sym is) (record { fields = refl; same = λ n. has.same (row_of rows n).id })

  abbrev said : ℕ → Prepared → Bool
  said n p = says rows p (row_of rows n)

  abbrev matched : ℕ → Query → Bool
  matched n q = matches rows q (row_of rows n)

  all-alike : (n : ℕ) (qs : List Query) (ps : List Prepared) → AreReady shard qs ps → list_all (said n) ps ≡ list_all (matched n) qs
  all-alike n qs ps are = sym (all_mapped (λ (b : Bool). b) (said n) ps) ∙ (ap (list_all (λ (b : Bool). b)) (are.same n) ∙ all_mapped (λ (b : Bool). b) (matched n) qs)

  any-alike : (n : ℕ) (qs : List Query) (ps : List Prepared) → AreReady shard qs ps → list_any (said n) ps ≡ list_any (matched n) qs
  any-alike n qs ps are = sym (any_mapped (λ (b : Bool). b) (said n) ps) ∙ (ap (list_any (λ (b : Bool). b)) (are.same n) ∙ any_mapped (λ (b : Bool). b) (matched n) qs)

  count-alike : (n : ℕ) (qs : List Query) (ps : List Prepared) → AreReady shard qs ps → length (filter (said n) ps) ≡ length (filter (matched n) qs)
  count-alike n qs ps are = sym (count_mapped (λ (b : Bool). b) (said n) ps) ∙ (ap (λ (bs : List Bool). length (filter (λ (b : Bool). b) bs)) (are.same n) ∙ count_mapped (λ (b : Bool). b) (matched n) qs)

  pub ready-Bool : (q : Query) (must must_not should : List Query) (minimum : ℕ) (musts must_nots shoulds : List Prepared) → q ≡ query.Bool must must_not should minimum →
      AreReady shard must musts → AreReady shard must_not must_nots → AreReady shard should shoulds → IsReady shard q (prepared.Bool musts must_nots shoulds minimum)
  ready-Bool q must must_not should minimum musts must_nots shoulds is first second third = record {
    fields = by_prepared.reads-Bool count musts must_nots shoulds minimum ∙ (λ i. first.fields i && second.fields i && third.fields i);
    same = λ n.
        by_prepared.says-Bool rows (row_of rows n) musts must_nots shoulds minimum
        ∙ ((λ i. all-alike n must musts first i && not (any-alike n must_not must_nots second i) && nat_le minimum (count-alike n should shoulds third i))
        ∙ sym (ap (matched n) is ∙ by_query.matches-Bool rows (row_of rows n) must must_not should minimum));
  }

  same-row : (q : Query) (p : Prepared) → IsReady shard q p → (r : PlacedRow) → In r rows → says rows p r ≡ matches rows q r
  same-row q p ready r is =
      let place = place_of rows r is in
      subst (λ (x : PlacedRow). says rows p x ≡ matches rows q x) (row-at rows place.0 r place.1) (ready.same place.0)

  pub ready-Nested : (q : Query) (path : ℕ) (inner : Query) (p : Prepared) → q ≡ query.Nested path inner → IsReady shard inner p → IsReady shard q (prepared.Nested path p)
  ready-Nested q path inner p is ready = record {
    fields = fold_prepared-Nested (reads_below_at count) path p ∙ ready.fields;
    same = λ n.
        by_prepared.says-Nested rows (row_of rows n) path p
        ∙ (any_same (says rows p) (matches rows inner) (beneath rows (path + 1) (row_of rows n)) (λ r r_in. same-row inner p ready r (In-filter _ rows r r_in))
        ∙ sym (by_query.by_beneath rows (row_of rows n) q path inner is));
  }

  map_same : {A B : Type 0} (f g : A → B) (xs : List A) → ((x : A) → In x xs → f x ≡ g x) → map f xs ≡ map g xs
  map_same f g [] same = refl
  map_same f g (x ∷ xs) same = λ i. same x (inl refl) i ∷ map_same f g xs (λ y is. same y (inr is)) i

  pub no-roots : (q : Query) → length (roots rows) ≡ 0 → [] ≡ map (matches rows q) (roots rows)
  no-roots q none = none_mapped (matches rows q) (roots rows) none

  pub said-roots : (q : Query) (p : Prepared) → IsReady shard q p → map (says rows p) (roots rows) ≡ map (matches rows q) (roots rows)
  said-roots q p ready = map_same (says rows p) (matches rows q) (roots rows) (λ r is. same-row q p ready r (In-filter _ rows r is))

  pub ready-none : AreReady shard [] []
  ready-none = record { fields = refl; same = λ n. refl }

  pub ready-more : (qs : List Query) (n : ℕ) (q : Query) (old new : List Prepared) (p : Prepared) → n < length qs → q ≡ get_or qs n q → IsReady shard q p → new ≡ old ++ p ∷ [] →
      AreReady shard (take n qs) old → AreReady shard (take (n + 1) qs) new
  ready-more qs n q old new p below is ready new_is before = record {
    fields = ap (list_all (reads_below count)) new_is ∙ (all-push (reads_below count) old p ∙ (λ i. before.fields i && ready.fields i));
    same = λ k.
        ap (map (said k)) new_is ∙ (map-append (said k) old (p ∷ [])
        ∙ ((λ i. before.same k i ++ ready.same k i ∷ [])
        ∙ sym (ap (map (matched k)) (take_more qs n q below ∙ ap (λ (x : Query). take n qs ++ x ∷ []) (sym is)) ∙ map-append (matched k) (take n qs) (q ∷ []))));
  }

-- ---- the fields that a query looks at
pub term-field : (n : ℕ) (q : Query) (field : ℕ) (value : Probe) → q ≡ query.Term field value → looks_below n q ≡ true → field < n
term-field n q field value is below = ltb-true field n (sym (ap (looks_below n) is) ∙ below)

pub terms-field : (n : ℕ) (q : Query) (field : ℕ) (values : List Probe) → q ≡ query.Terms field values → looks_below n q ≡ true → field < n
terms-field n q field values is below = ltb-true field n (sym (ap (looks_below n) is) ∙ below)

pub range-field : (n : ℕ) (q : Query) (field : ℕ) (tests : List RangeTest) → q ≡ query.Range field tests → looks_below n q ≡ true → field < n
range-field n q field tests is below = ltb-true field n (sym (ap (looks_below n) is) ∙ below)

pub parts-look : (n : ℕ) (q : Query) (must must_not should : List Query) (minimum : ℕ) → q ≡ query.Bool must must_not should minimum → looks_below n q ≡ true →
    (list_all (looks_below n) must ≡ true) × (list_all (looks_below n) must_not ≡ true) × (list_all (looks_below n) should ≡ true)
parts-look n q must must_not should minimum is looks =
    let whole = fold_query-Bool (looks_below_at n) must must_not should minimum
    ∙ (λ i. all_mapped (λ (b : Bool). b) (looks_below n) must i && all_mapped (λ (b : Bool). b) (looks_below n) must_not i && all_mapped (λ (b : Bool). b) (looks_below n) should i) in
    let parts = and_parts (list_all (looks_below n) must && list_all (looks_below n) must_not) (list_all (looks_below n) should) (sym whole ∙ (sym (ap (looks_below n) is) ∙ looks)) in
    let first = and_parts (list_all (looks_below n) must) (list_all (looks_below n) must_not) parts.0 in
    (first.0, first.1, parts.1)

pub inner-looks : (n : ℕ) (q : Query) (path : ℕ) (inner : Query) → q ≡ query.Nested path inner → looks_below n q ≡ true → looks_below n inner ≡ true
inner-looks n q path inner is looks = sym (fold_query-Nested (looks_below_at n) path inner) ∙ (sym (ap (looks_below n) is) ∙ looks)
