-- Composites that are read.
use Rattle.std.specs.Prelude.{◌≡◌, refl, ℕ, ◌+◌, ◌<◌, ◌≤◌, List, [], ◌∷◌, ◌++◌, map, length, Option, Some, None, Result, Ok, Err, Bool, true, false, ◌&&◌, cond, nat_le, IfOk, IfSome, option_map, codes, unwrap_or, is_some}
use Rattle.std.specs.List.{list_all}
use Rattle.std.specs.Option.{option_map_or}
use Rattle.std.proofs.Common.{◌∙◌, ap, subst, arith, length-append}
use Rattle.std.proofs.lemmas.Bool.{false≢true, and_parts, and_from, le-leb}
use Rattle.std.proofs.lemmas.Bool.Decides.{nat_tests}
use Rattle.std.proofs.lemmas.List.Folds.{list_all-append}
use Rattle.serde_json.specs.Data.{Data, Items, no_items, item, Members, no_members, member}
use Rattle.agg_model.specs.declared.mapping.Mapping.{Mapping}
use Rattle.agg_model.specs.declared.aggregation.Kind.{Kind}
use Rattle.agg_reading.specs.declared.names.KindName.TheVariants as name
use Rattle.agg_reading.specs.Reading.{Reading, ◌>>=◌, refuse, or_refuse}
use Rattle.agg_reading.specs.Pointer.{member_step, item_step}
use Rattle.agg_reading.specs.Json.{object_at, list_at, required, optional, known, sole_at}
use Rattle.agg_reading.specs.Numbers.{whole_at, truth_at}
use Rattle.agg_model.specs.FieldKinds.{is_whole_kind}
use Rattle.agg_reading.specs.Leaves.{field_in}
use Rattle.agg_reading.specs.Histogram.{whole_field_in}
use Rattle.agg_reading.specs.Orders.{direction_at, with_order}
use Rattle.agg_reading.specs.declared.names.SourceName.{SourceName}
use Rattle.agg_reading.specs.declared.names.SourceName.TheVariants as source_name
use Rattle.agg_reading.specs.Composite.{Source, source_named, terms_source_at, histogram_source_at, source_by, source_at, source_name_at, sole_of, named_source_at, sources_from, some_sources, sources_at}
use Rattle.agg_reading.specs.After.{part_at, source_of, part_of, parts_from, names_of, has_names, After, after_at, source_names, after_rule, distinct_from, after_key, composite_in, composite_at}
use Rattle.agg_model.specs.declared.key.Key.{Key}
use Rattle.agg_model.specs.declared.key.Key.TheVariants as key
use Rattle.agg_evaluation.proofs.FoldLaws.{out-Many}
use Rattle.std.specs.Prelude.{find, flat_map, option_to_list, ◌||◌, ◌⊎◌}
use Rattle.std.specs.List.{list_any}
use Rattle.std.specs.Str.{bytes_eq}
use Rattle.std.proofs.Common.{inl, inr}
use Rattle.std.proofs.lemmas.List.{length-map}
use Rattle.std.proofs.lemmas.Slice.Eq.{bytes_eq-Decides}
use Rattle.agg_reading.specs.Json.{is_among}
use Rattle.agg_reading.proofs.Steps.{then_ok, next_ok, if_ok}
use Rattle.agg_reading.proofs.IndexLineLaws.{optional_of-ok}
use Rattle.agg_evaluation.specs.SearchFits.{source_fits}
use Rattle.agg_evaluation.specs.CompositeKeys.{has_parts, is_composite_of}
use Rattle.fitting_laws.proofs.Queries.{IsFieldOf, field_in-is, of_field}
use Rattle.fitting_laws.proofs.KindReads.{weaken, Between, whole_at-ok, IsWholeField, whole_field_in-is, KindRead}

module _ (m : Mapping) where
  abbrev SourceFits : Source → Type 0
  SourceFits s = source_fits m s.0 ≡ true

  terms_source_ok : (name at : List ℕ) (d : Data) → IfOk (terms_source_at m name at d) SourceFits
  unfolding terms_source_at
  terms_source_ok name at d =
      then_ok SourceFits (object_at 103 at d) _ (λ ms.
      then_ok SourceFits (known 101 _ at ms) _ (λ _.
      next_ok (IsFieldOf m) SourceFits (field_in m at ms) _ (field_in-is m at ms) (λ f there.
      then_ok SourceFits (optional truth_at (codes "missing_bucket") at ms) _ (λ missing.
      then_ok SourceFits (optional direction_at (codes "order") at ms) _ (λ descending. of_field m (λ k. true) f there refl)))))

  given : (at : List ℕ) (o : Option ℕ) → IfSome o (Between 1 9223372036854775807) → IfOk (or_refuse 102 at o) (Between 1 9223372036854775807)
  given at None h = tt
  given at (Some n) h = h

  histogram_source_ok : (name at : List ℕ) (d : Data) → IfOk (histogram_source_at m name at d) SourceFits
  unfolding histogram_source_at
  histogram_source_ok name at d =
      then_ok SourceFits (object_at 103 at d) _ (λ ms.
      then_ok SourceFits (known 101 _ at ms) _ (λ _.
      next_ok (IsWholeField m) SourceFits (whole_field_in m at ms) _ (whole_field_in-is m at ms) (λ f there.
      next_ok (λ o. IfSome o (Between 1 9223372036854775807)) SourceFits (optional (whole_at 1 9223372036854775807) (codes "interval") at ms) _ (optional_of-ok (Between 1 9223372036854775807) (whole_at 1 9223372036854775807) _ _ (whole_at-ok 1 9223372036854775807)) (λ said i.
      then_ok SourceFits (optional truth_at (codes "missing_bucket") at ms) _ (λ missing.
      then_ok SourceFits (optional direction_at (codes "order") at ms) _ (λ descending.
      next_ok (Between 1 9223372036854775807) SourceFits (or_refuse 102 at said) _ (given at said i) (λ interval b. and_from _ _ (le-leb 1 interval b.0) (of_field m is_whole_kind f there.0 there.1))))))))

  source_by-ok : (n : Option SourceName) (name at : List ℕ) (d : Data) → IfOk (source_by n m name at d) SourceFits
  source_by-ok None name at d = tt
  source_by-ok (Some source_name.Terms) name at d = terms_source_ok name at d
  source_by-ok (Some source_name.Histogram) name at d = histogram_source_ok name at d

  named_source_ok : (at : List ℕ) (d : Data) → IfOk (named_source_at m at d) SourceFits
  unfolding named_source_at source_at
  named_source_ok at d =
      then_ok SourceFits (object_at 103 at d) _ (λ ms.
      then_ok SourceFits (sole_at 107 at ms) _ (λ said.
      then_ok SourceFits (object_at 103 (at ++ member_step said.0) said.1) _ (λ inner.
      then_ok SourceFits (sole_at 107 (at ++ member_step said.0) inner) _ (λ one. source_by-ok (source_named one.0) said.0 _ one.1))))

  abbrev some_items : Items → ℕ
  some_items no_items = 0
  some_items (item d ds) = 1

  abbrev SourcesFit : ℕ → List Source → Type 0
  SourcesFit least ss = (least ≤ length ss) × (length ss ≤ 16) × (list_all (λ (s : Source). source_fits m s.0) ss ≡ true)

  sources_ok : (at : List ℕ) (n : ℕ) (done : List Source) (ds : Items) → n ≡ length done → length done ≤ 16 → list_all (λ (s : Source). source_fits m s.0) done ≡ true → IfOk (sources_from m at n done ds) (SourcesFit (length done + some_items ds))
  unfolding sources_from
  sources_ok at n done no_items same few h = (omega arith, few, h)
  sources_ok at n done (item d ds) same few h =
      then_ok (SourcesFit (length done + 1)) (source_name_at (at ++ item_step n) (sole_of d)) _ (λ _.
      if_ok (SourcesFit (length done + 1)) (nat_le 16 n) (refuse 111 (at ++ item_step n)) _ (λ e. tt) (λ e.
      next_ok SourceFits (SourcesFit (length done + 1)) (named_source_at m (at ++ item_step n) d) _ (named_source_ok _ d) (λ s a.
      let more = length-append done (s ∷ []) in
      let below : n < 16 = grind (arith, nat_tests, e) in
      weaken (SourcesFit (length (done ++ s ∷ []) + some_items ds)) (SourcesFit (length done + 1)) (sources_from m at (n + 1) (done ++ s ∷ []) ds)
      (sources_ok at (n + 1) (done ++ s ∷ []) ds (omega (arith, same, more)) (omega (arith, same, more, below)) (list_all-append (λ (s : Source). source_fits m s.0) done (s ∷ []) ∙ and_from _ _ h (and_from _ _ a refl)))
      (λ r l. (omega (arith, more, l.0), l.1, l.2)))))

  some_sources_ok : (at : List ℕ) (ds : Items) → IfOk (some_sources m at ds) (SourcesFit 1)
  some_sources_ok at no_items = tt
  some_sources_ok at (item d ds) = sources_ok at 0 [] (item d ds) refl (omega arith) refl

  pub sources_at-ok : (at : List ℕ) (d : Data) → IfOk (sources_at m at d) (SourcesFit 1)
  unfolding sources_at
  sources_at-ok at d = then_ok (SourcesFit 1) (list_at 103 at d) _ (λ ds. some_sources_ok at ds)

  source_map : (ss : List Source) → list_all (source_fits m) (map (λ (s : Source). s.0) ss) ≡ list_all (λ (s : Source). source_fits m s.0) ss
  source_map [] = refl
  source_map (s ∷ ss) = ap (λ b. source_fits m s.0 && b) (source_map ss)

-- the parts of `after`

abbrev has_part : List ℕ → List (List ℕ × Key) → Bool
has_part name parts = is_some (find (λ p. bytes_eq p.0 name) parts)

part-more : (name : List ℕ) (parts more : List (List ℕ × Key)) → has_part name parts ≡ true → has_part name (parts ++ more) ≡ true
part-more name [] more h = absurd (false≢true h)
part-more name (p ∷ parts) more h =
    elim (bytes_eq p.0 name) as (λ b. is_some (cond b (Some p) (find (λ q. bytes_eq q.0 name) parts)) ≡ true → is_some (cond b (Some p) (find (λ q. bytes_eq q.0 name) (parts ++ more))) ≡ true) [
      | true ↦ λ e. refl
      | false ↦ λ e. part-more name parts more e
    ] h

part-last : (name : List ℕ) (parts : List (List ℕ × Key)) (k : Key) → has_part name (parts ++ (name, k) ∷ []) ≡ true
part-last name [] k = let one : List ℕ × Key = (name, k) in ap (λ b. is_some (cond b (Some one) None)) ((bytes_eq-Decides name name).1 refl)
part-last name (p ∷ parts) k =
    elim (bytes_eq p.0 name) as (λ b. is_some (cond b (Some p) (find (λ q. bytes_eq q.0 name) (parts ++ (name, k) ∷ []))) ≡ true) [ true ↦ refl | false ↦ part-last name parts k ]

keep_part : (name : List ℕ) (o : Option Source) (at k : List ℕ) (d : Data) (done : List (List ℕ × Key)) → has_part name done ≡ true → IfOk (part_of o at k d done) (λ next. has_part name next ≡ true)
keep_part name None at k d done h = h
keep_part name (Some s) at k d done h = then_ok (λ next. has_part name next ≡ true) (part_at s at d) _ (λ p. part-more name done ((k, p) ∷ []) h)

add_part : (name : List ℕ) (o : Option Source) (at : List ℕ) (d : Data) (done : List (List ℕ × Key)) → is_some o ≡ true → IfOk (part_of o at name d done) (λ next. has_part name next ≡ true)
add_part name None at d done h = absurd (false≢true h)
add_part name (Some s) at d done h = then_ok (λ next. has_part name next ≡ true) (part_at s at d) _ (λ p. part-last name done p)

abbrev Comes : List ℕ → List (List ℕ × Key) → Members → Type 0
Comes name done ms = (has_part name done ≡ true) ⊎ (is_among (names_of ms) name ≡ true)

module _ (sources : List Source) (name : List ℕ) (known : is_some (source_of name sources) ≡ true) where
  step : (at k : List ℕ) (d : Data) (done : List (List ℕ × Key)) (ms : Members) → Comes name done (member k d ms) → IfOk (part_of (source_of k sources) at k d done) (λ next. Comes name next ms)
  step at k d done ms (inl h) = weaken (λ next. has_part name next ≡ true) (λ next. Comes name next ms) (part_of (source_of k sources) at k d done) (keep_part name (source_of k sources) at k d done h) (λ next e. inl e)
  step at k d done ms (inr h) =
      elim (bytes_eq name k) as (λ b. bytes_eq name k ≡ b → (b || list_any (bytes_eq name) (names_of ms)) ≡ true → IfOk (part_of (source_of k sources) at k d done) (λ next. Comes name next ms)) [
        | true ↦ λ e g.
            let same : name ≡ k = (bytes_eq-Decides name k).0 e in
            subst (λ (w : List ℕ). IfOk (part_of (source_of w sources) at w d done) (λ next. Comes name next ms)) same
            (weaken (λ next. has_part name next ≡ true) (λ next. Comes name next ms) (part_of (source_of name sources) at name d done) (add_part name (source_of name sources) at d done known) (λ next t. inl t))
        | false ↦ λ e g. anything (part_of (source_of k sources) at k d done) (λ next. inr g)
      ] refl h
    where
      anything : (r : Reading (List (List ℕ × Key))) → ((next : List (List ℕ × Key)) → Comes name next ms) → IfOk r (λ next. Comes name next ms)
      anything (Ok x) f = f x
      anything (Err e) f = tt

  parts_ok : (at : List ℕ) (done : List (List ℕ × Key)) (ms : Members) → Comes name done ms → IfOk (parts_from sources at done ms) (λ ps. has_part name ps ≡ true)
  unfolding parts_from
  parts_ok at done no_members (inl h) = h
  parts_ok at done no_members (inr h) = absurd (false≢true h)
  parts_ok at done (member k d ms) c =
      next_ok (λ next. Comes name next ms) (λ ps. has_part name ps ≡ true) (part_of (source_of k sources) (at ++ member_step k) k d done) _ (step (at ++ member_step k) k d done ms c) (λ next e. parts_ok at next ms e)

  after_ok : (at : List ℕ) (d : Data) → IfOk (after_at sources at d) (λ a. is_among a.1 name ≡ true → has_part name a.0 ≡ true)
  unfolding after_at
  after_ok at d =
      let P : After → Type 0 = λ a. is_among a.1 name ≡ true → has_part name a.0 ≡ true in
      then_ok P (object_at 103 at d) _ (λ ms. by (names_of ms) (parts_from sources at [] ms) (λ t. parts_ok at [] ms (inr t)))
    where
      by : (names : List (List ℕ)) (r : Reading (List (List ℕ × Key))) → (is_among names name ≡ true → IfOk r (λ ps. has_part name ps ≡ true)) → IfOk (r >>= λ ps. Ok (ps, names)) (λ (a : After). is_among a.1 name ≡ true → has_part name a.0 ≡ true)
      by names (Ok x) f = f
      by names (Err e) f = tt

-- what holds of each thing
all_ok : {I A E : Type 0} (P : I → A → Type 0) (r : Result A E) → ((i : I) → IfOk r (P i)) → IfOk r (λ x. (i : I) → P i x)
all_ok P (Ok x) h = h
all_ok P (Err e) h = tt

abbrev AfterHas : List Source → After → Type 0
AfterHas sources a = (name : List ℕ) → is_some (source_of name sources) ≡ true → is_among a.1 name ≡ true → has_part name a.0 ≡ true

after_has : (sources : List Source) (at : List ℕ) (d : Data) → IfOk (after_at sources at d) (AfterHas sources)
after_has sources at d = all_ok (λ (name : List ℕ) (a : After). is_some (source_of name sources) ≡ true → is_among a.1 name ≡ true → has_part name a.0 ≡ true) (after_at sources at d) (λ name.
    all_ok (λ (known : is_some (source_of name sources) ≡ true) (a : After). is_among a.1 name ≡ true → has_part name a.0 ≡ true) (after_at sources at d) (λ known. after_ok sources name known at d))

abbrev is_known : List Source → List ℕ → Bool
is_known sources name = is_some (source_of name sources)

known-more : (s : Source) (ss : List Source) (names : List (List ℕ)) → list_all (is_known ss) names ≡ true → list_all (is_known (s ∷ ss)) names ≡ true
unfolding source_of
known-more s ss [] h = refl
known-more s ss (n ∷ ns) h =
    let parts = and_parts (is_known ss n) (list_all (is_known ss) ns) h in
    and_from _ _ (elim (bytes_eq s.0.name n) as (λ b. is_some (cond b (Some s) (find (λ t. bytes_eq t.0.name n) ss)) ≡ true) [ true ↦ refl | false ↦ parts.0 ]) (known-more s ss ns parts.1)

all_known : (ss : List Source) → list_all (is_known ss) (source_names ss) ≡ true
unfolding source_of
all_known [] = refl
all_known (s ∷ ss) =
    and_from _ _ (ap (λ b. is_some (cond b (Some s) (find (λ t. bytes_eq t.0.name s.0.name) ss))) ((bytes_eq-Decides s.0.name s.0.name).1 refl)) (known-more s ss (source_names ss) (all_known ss))

all_parts : (sources : List Source) (a : After) → AfterHas sources a → (names : List (List ℕ)) → list_all (is_known sources) names ≡ true → list_all (is_among a.1) names ≡ true → list_all (λ n. has_part n a.0) names ≡ true
all_parts sources a has [] k h = refl
all_parts sources a has (n ∷ ns) k h =
    let ks = and_parts (is_known sources n) (list_all (is_known sources) ns) k in
    let hs = and_parts (is_among a.1 n) (list_all (is_among a.1) ns) h in
    and_from _ _ (has n ks.0 hs.0) (all_parts sources a has ns ks.1 hs.1)

abbrev part_keys : List (List ℕ × Key) → List ℕ → List Key
part_keys parts name = option_to_list (option_map (λ p. p.1) (find (λ p. bytes_eq p.0 name) parts))

one_part : (o : Option (List ℕ × Key)) → is_some o ≡ true → length (option_to_list (option_map (λ p. p.1) o)) ≡ 1
one_part None h = absurd (false≢true h)
one_part (Some p) h = refl

parts_length : (parts : List (List ℕ × Key)) (names : List (List ℕ)) → list_all (λ n. has_part n parts) names ≡ true → length (flat_map (part_keys parts) names) ≡ length names
parts_length parts [] h = refl
parts_length parts (n ∷ ns) h =
    let hs = and_parts (has_part n parts) (list_all (λ n. has_part n parts) ns) h in
    let all = length-append (part_keys parts n) (flat_map (part_keys parts) ns) in
    let one = one_part (find (λ p. bytes_eq p.0 n) parts) hs.0 in
    let rest = parts_length parts ns hs.1 in
    omega (arith, all, one, rest)

key_has : (n : ℕ) (ks : List Key) → length ks ≡ n → is_composite_of n (key.Many ks) ≡ true
key_has n ks e = ap (has_parts n) (out-Many ks) ∙ grind (arith, nat_tests, e)

after_parts : (sources : List Source) (o : Option After) → IfSome o (AfterHas sources) → option_map_or (λ a. has_names (source_names sources) a.1) o true ≡ true → option_map_or (is_composite_of (length sources)) (option_map (after_key sources) o) true ≡ true
unfolding after_key has_names
after_parts sources None h e = refl
after_parts sources (Some a) h e =
    let named = and_parts (list_all (is_among a.1) (source_names sources)) (list_all (is_among (source_names sources)) a.1) e in
    let count = parts_length a.0 (source_names sources) (all_parts sources a h (source_names sources) (all_known sources) named.0) in
    let same = length-map sources (λ (s : Source). s.0.name) in
    key_has (length sources) (flat_map (part_keys a.0) (source_names sources)) (omega (arith, count, same))

rule_ok : (at : List ℕ) (sources : List Source) (o : Option After) → IfOk (after_rule at sources o) (λ _. option_map_or (λ a. has_names (source_names sources) a.1) o true ≡ true)
unfolding after_rule
rule_ok at sources None = refl
rule_ok at sources (Some a) = if_ok (λ _. has_names (source_names sources) a.1 ≡ true) (has_names (source_names sources) a.1) (Ok tt) (refuse 104 (at ++ member_step (codes "after"))) (λ e. e) (λ e. tt)

or_size : (o : Option ℕ) → IfSome o (Between 1 65536) → Between 1 65536 (unwrap_or o 10)
or_size None h = (omega arith, omega arith)
or_size (Some n) h = h

module _ (m : Mapping) (context : ℕ) where
  abbrev CompositeIs : Kind → Type 0
  CompositeIs k = KindRead m context name.Composite k 0 context

  composite_in-read : (sources : List Source) (at : List ℕ) (ms : Members) → SourcesFit m 1 sources → IfOk (composite_in sources at ms) CompositeIs
  unfolding composite_in with_order
  composite_in-read sources at ms fit =
      next_ok (λ o. IfSome o (AfterHas sources)) CompositeIs (optional (after_at sources) (codes "after") at ms) _ (optional_of-ok (AfterHas sources) (after_at sources) _ _ (after_has sources)) (λ after h.
      next_ok (λ o. IfSome o (Between 1 65536)) CompositeIs (optional (whole_at 1 65536) (codes "size") at ms) _ (optional_of-ok (Between 1 65536) (whole_at 1 65536) _ _ (whole_at-ok 1 65536)) (λ size z.
      next_ok (λ _. option_map_or (λ a. has_names (source_names sources) a.1) after true ≡ true) CompositeIs (after_rule at sources after) _ (rule_ok at sources after) (λ _ named.
      then_ok CompositeIs (distinct_from (at ++ member_step (codes "sources")) 0 [] (source_names sources)) _ (λ _.
      let number = length-map sources (λ (s : Source). s.0) in
      let some : 1 ≤ length (map (λ (s : Source). s.0) sources) = omega (arith, number, fit.0) in
      let few : length (map (λ (s : Source). s.0) sources) ≤ 16 = omega (arith, number, fit.1) in
      let page = or_size size z in
      record {
        ready = λ children os e g.
            and_from _ _ (le-leb 1 _ some) (and_from _ _ (le-leb _ 16 few) (and_from _ _ (source_map m sources ∙ fit.2) (and_from _ _ (le-leb 1 (unwrap_or size 10) page.0) (and_from _ _ (le-leb (unwrap_or size 10) 65536 page.1)
            (ap (λ (n : ℕ). option_map_or (is_composite_of n) (option_map (after_key sources) after) true) number ∙ after_parts sources after h named)))));
        metric = λ os. refl;
        top = λ os. refl;
        within_is = λ os. refl;
      }))))

  pub composite_read : (at : List ℕ) (d : Data) → IfOk (composite_at m at d) CompositeIs
  unfolding composite_at
  composite_read at d =
      then_ok CompositeIs (object_at 103 at d) _ (λ ms.
      then_ok CompositeIs (known 101 _ at ms) _ (λ _.
      then_ok CompositeIs (required (codes "sources") at ms) _ (λ said.
      next_ok (SourcesFit m 1) CompositeIs (sources_at m (at ++ member_step (codes "sources")) said) _ (sources_at-ok m _ said) (λ sources fit. composite_in-read sources at ms fit))))
