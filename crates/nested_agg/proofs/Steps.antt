-- The rows around those that were seen, as they are found one after another.
use Rattle.std.proofs.Common.{◌≡◌, refl, ℕ, zero, suc, ◌+◌, ◌<◌, ◌≤◌, Bool, true, false, List, [], ◌∷◌, ◌++◌, length, get_or, take, Option, Some, None, All, IfSome, sym, ◌∙◌, ap, subst, arith, inl, inr}
use Rattle.std.specs.Prelude.{◌&&◌, ◌||◌, ◌==◌, not, nat_eq, map, filter}
use Rattle.std.specs.List.{list_any}
use Rattle.std.specs.List.Sorted.{IsStrictlyIncreasing}
use Rattle.std.specs.Option.{option_map_or, option_eq}
use Rattle.std.proofs.lemmas.Bool.{and_parts, and_from, cases_lt, eqb-true, false≢true, or_right}
use Rattle.std.proofs.lemmas.Bool.Decides.{nat_tests}
use Rattle.std.proofs.lemmas.List.{get_or-take, length-take}
use Rattle.std.proofs.lemmas.List.Elements.{All-get_or}
use Rattle.std.proofs.lemmas.List.Folds.{list_any_more, Any-from_list_any}
use Rattle.list_laws.proofs.Booleans.{or_false}
use Rattle.list_laws.proofs.Options.{some_same}
use Rattle.agg_evaluation.specs.Counted.{IsApart, is_around_row}
use Rattle.agg_evaluation.specs.Rows.{PlacedRow, enclosing, is_within, row_of}
use Rattle.shard_columns.specs.Built.{IsShard}
use Rattle.shard_columns.specs.Columns.{Columns}
use Rattle.shard_columns.proofs.Searching.{rises-far}
use Rattle.nested_agg.proofs.Apart.{only_one}
use Rattle.nested_agg.proofs.Chosen.{chosen, rows_chosen, chosen_none, chosen_same, chosen_more}
use Rattle.nested_agg.proofs.Intervals.{before, between}

same-yes : (a : ℕ) → nat_eq a a ≡ true
same-yes a = grind (arith, nat_tests)

-- a row of the context is or lies around one of those with these numbers
abbrev pub passes : List PlacedRow → ℕ → List ℕ → PlacedRow → Bool
passes rows context ns r = (r.context == context) && list_any (λ n. is_within (row_of rows n) r) ns

-- the rows around those with these numbers are found, the last of them at the end
pub record AreFound (rows : List PlacedRow) (context : ℕ) (ns found : List ℕ) (last : Option ℕ) : Type 0 where
  pub numbers : found ≡ chosen (passes rows context ns) 0 rows
  pub there : (a : ℕ) → last ≡ Some a → (a < length rows) × (passes rows context ns (row_of rows a) ≡ true)
  pub at_most : (k : ℕ) → k < length rows → passes rows context ns (row_of rows k) ≡ true → (l : ℕ) × ((last ≡ Some l) × (k ≤ l))

pub are_these : (rows : List PlacedRow) (context : ℕ) (ns found same : List ℕ) (last now : Option ℕ) → found ≡ same → last ≡ now → AreFound rows context ns same now → AreFound rows context ns found last
are_these rows context ns found same last now found_is last_is are = subst (λ (o : Option ℕ). AreFound rows context ns found o) (sym last_is) (subst (λ (fs : List ℕ). AreFound rows context ns fs now) (sym found_is) are)

pub is_last : (o : Option ℕ) (a : ℕ) → false ≡ not (option_eq nat_eq o (Some a)) → o ≡ Some a
is_last None a e = absurd (false≢true e)
is_last (Some b) a e = elim (nat_eq b a) as (λ t. nat_eq b a ≡ t → false ≡ not t → Some b ≡ Some a) [
  | true ↦ λ same _. ap (λ (n : ℕ). Some n) (eqb-true b a same)
  | false ↦ λ _ no. absurd (false≢true no)
] refl e

pub is_other : (o : Option ℕ) (a : ℕ) → true ≡ not (option_eq nat_eq o (Some a)) → o ≡ Some a → ⊥
is_other o a e same = false≢true (sym (e ∙ (ap (λ (r : Option ℕ). not (option_eq nat_eq r (Some a))) same ∙ ap not (same-yes a))))

none_passes : (b : Bool) → (b && false) ≡ false
none_passes true = refl
none_passes false = refl

pub found_none : (rows : List PlacedRow) (context : ℕ) → AreFound rows context [] [] None
found_none rows context = record {
  numbers = sym (chosen_none (passes rows context []) 0 rows (λ k below. none_passes ((row_of rows k).context == context)));
  there = λ a e. absurd (cc e);
  at_most = λ k below h. absurd (false≢true (sym (none_passes ((row_of rows k).context == context)) ∙ h));
}

any_mapped : {A B : Type 0} (p : B → Bool) (f : A → B) (xs : List A) → list_any (λ x. p (f x)) xs ≡ list_any p (map f xs)
any_mapped p f [] = refl
any_mapped p f (x ∷ xs) = ap (λ (b : Bool). p (f x) || b) (any_mapped p f xs)

-- what is found is what the definition says
pub found_are : (rows : List PlacedRow) (context : ℕ) (ns found : List ℕ) (last : Option ℕ) → AreFound rows context ns found last → map (row_of rows) found ≡ enclosing rows context (map (row_of rows) ns)
found_are rows context ns found last are =
    ap (map (row_of rows)) are.numbers
    ∙ (rows_chosen rows (passes rows context ns)
    ∙ (λ i. filter (λ (r : PlacedRow). (r.context == context) && any_mapped (λ (n : PlacedRow). is_within n r) (row_of rows) ns i) rows))

split : (a b c : Bool) → (a && (b || c)) ≡ ((a && b) || (a && c))
split true b c = refl
split false b c = refl

module _ (s : Columns) (shard : IsShard s) (apart : IsApart s.rows) (context : ℕ) (items : List ℕ) (i : ℕ) (below : i < length items) (in_range : All (λ n. n < length s.rows) items) (rising : IsStrictlyIncreasing items) where
  abbrev old : ℕ → Bool
  old k = passes s.rows context (take i items) (row_of s.rows k)

  abbrev new : ℕ → Bool
  new k = passes s.rows context (take (i + 1) items) (row_of s.rows k)

  abbrev x : ℕ
  x = get_or items i 0

  abbrev is_around : ℕ → ℕ → Bool
  is_around inner outer = is_around_row context (row_of s.rows inner) (row_of s.rows outer)

  module _ (result : Option ℕ) (number : IfSome result (λ outer. outer < length s.rows)) (only : (k : ℕ) → k < length s.rows → is_around x k ≡ option_map_or (λ outer. k == outer) result false) where
    more : (k : ℕ) → k < length s.rows → new k ≡ (old k || option_map_or (λ outer. k == outer) result false)
    more k k_below =
        ap (λ (b : Bool). ((row_of s.rows k).context == context) && b) (list_any_more (λ n. is_within (row_of s.rows n) (row_of s.rows k)) items i 0 below)
        ∙ (split ((row_of s.rows k).context == context) _ _ ∙ ap (λ (b : Bool). old k || b) (only k k_below))

    as_before : (found : List ℕ) (last : Option ℕ) → AreFound s.rows context (take i items) found last → ((k : ℕ) → k < length s.rows → old k ≡ new k) → AreFound s.rows context (take (i + 1) items) found last
    as_before found last was same = record {
      numbers = was.numbers ∙ chosen_same (passes s.rows context (take i items)) (passes s.rows context (take (i + 1) items)) 0 s.rows same;
      there = λ a e. let t = was.there a e in (t.0, sym (same a t.0) ∙ t.1);
      at_most = λ k k_below h. was.at_most k k_below (same k k_below ∙ h);
    }

    -- no row of the context is around the next one
    pub found_no_more : (found : List ℕ) (last : Option ℕ) → AreFound s.rows context (take i items) found last → result ≡ None → AreFound s.rows context (take (i + 1) items) found last
    found_no_more found last was is = as_before found last was (λ k k_below. sym (more k k_below ∙ (ap (λ (r : Option ℕ). old k || option_map_or (λ (outer : ℕ). k == outer) r false) is ∙ or_false (old k))))

    module _ (a : ℕ) (is : result ≡ Some a) where
      more_is : (k : ℕ) → k < length s.rows → new k ≡ (old k || (k == a))
      more_is k k_below = more k k_below ∙ ap (λ (r : Option ℕ). old k || option_map_or (λ (outer : ℕ). k == outer) r false) is

      a_below : a < length s.rows
      a_below = subst (λ (r : Option ℕ). IfSome r (λ outer. outer < length s.rows)) is number

      around_a : is_around x a ≡ true
      around_a = only a a_below ∙ (ap (λ (r : Option ℕ). option_map_or (λ (outer : ℕ). a == outer) r false) is ∙ same-yes a)

      -- what is around an earlier row does not stand behind what is around the next one
      behind : (k : ℕ) → k < length s.rows → old k ≡ true → k ≤ a
      behind k k_below h =
          elim (cases_lt a k) [
            | inl over ↦
                let tests = and_parts ((row_of s.rows k).context == context) _ h in
                let seen = Any-from_list_any (λ n. is_within (row_of s.rows n) (row_of s.rows k)) (take i items) tests.1 in
                let y : ℕ = get_or items seen.0 0 in
                let j_below : seen.0 < i = omega (arith, seen.2, length-take i items) in
                absurd (omega (arith, over, apart_rows k over k_below seen.0 j_below (and_from _ _ tests.0 (within_y k seen.0 seen.1 j_below seen.3 seen.4))))
            | inr low ↦ low
          ]
        where
          within_y : (k j y : ℕ) → j < i → get_or (take i items) j y ≡ y → is_within (row_of s.rows y) (row_of s.rows k) ≡ true → is_within (row_of s.rows (get_or items j 0)) (row_of s.rows k) ≡ true
          within_y k j y j_below y_is h = ap (λ (n : ℕ). is_within (row_of s.rows n) (row_of s.rows k)) (get_any items j 0 y (omega (arith, j_below, below)) ∙ (sym (get_or-take i items j y j_below) ∙ y_is)) ∙ h
            where
              get_any : (xs : List ℕ) (j d e : ℕ) → j < length xs → get_or xs j d ≡ get_or xs j e
              get_any [] j d e j_in = absurd (omega arith)
              get_any (z ∷ zs) zero d e j_in = refl
              get_any (z ∷ zs) (suc j) d e j_in = get_any zs j d e (omega arith)

          apart_rows : (k : ℕ) → a < k → k < length s.rows → (j : ℕ) → j < i → is_around (get_or items j 0) k ≡ true → k ≡ a
          apart_rows k over k_below j j_below around_k =
              let y : ℕ = get_or items j 0 in
              let y_below : y < length s.rows = All-get_or (λ n. n < length s.rows) items j 0 (omega (arith, j_below, below)) in_range in
              let x_below : x < length s.rows = All-get_or (λ n. n < length s.rows) items i 0 below in_range in
              let y_first : y < x = rises-far items rising j i j_below below in
              let k_before : k ≤ y = before s shard k y k_below y_below (and_parts ((row_of s.rows k).context == context) _ around_k).1 in
              let tests = and_parts ((row_of s.rows a).context == context) _ around_a in
              let inside = between s shard a y x x_below (omega (arith, over, k_before)) (omega (arith, y_first)) tests.1 in
              only_one (is_around_row context (row_of s.rows y)) s.rows k a _ (apart (row_of s.rows y) context) k_below a_below around_k (and_from _ _ tests.0 inside)

      module _ (found : List ℕ) (last : Option ℕ) (was : AreFound s.rows context (take i items) found last) where
        -- the row around the next one is the last that was found
        pub found_again : last ≡ Some a → AreFound s.rows context (take (i + 1) items) found last
        found_again last_is =
            let old_a = (was.there a last_is).1 in
            as_before found last was (λ k k_below. sym (more_is k k_below ∙ (elim (k == a) as (λ b. (k == a) ≡ b → (old k || b) ≡ old k) [
              | true ↦ λ e. let yes : old k ≡ true = ap old (eqb-true k a e) ∙ old_a in ap (λ (b : Bool). b || true) yes ∙ sym yes
              | false ↦ λ e. or_false (old k)
            ] refl)))

        strictly : (last ≡ Some a → ⊥) → (k : ℕ) → k < length s.rows → old k ≡ true → k < a
        strictly other k k_below h =
            elim (cases_lt k a) [
              | inl less ↦ less
              | inr high ↦
                  let top = was.at_most k k_below h in
                  let t = was.there top.0 top.1.0 in
                  let low = behind top.0 t.0 t.1 in
                  let same : top.0 ≡ a = omega (arith, high, top.1.1, low) in
                  absurd (other (top.1.0 ∙ ap (λ (l : ℕ). Some l) same))
            ]

        -- it is another, which stands behind all that were found
        pub found_one_more : (last ≡ Some a → ⊥) → AreFound s.rows context (take (i + 1) items) (found ++ a ∷ []) (Some a)
        found_one_more other = record {
          numbers = ap (λ (ns : List ℕ). ns ++ a ∷ []) was.numbers
              ∙ (ap (λ (n : ℕ). chosen (passes s.rows context (take i items)) 0 s.rows ++ n ∷ []) (let e : a ≡ 0 + a = omega arith in e)
              ∙ sym (chosen_more (passes s.rows context (take i items)) (passes s.rows context (take (i + 1) items)) 0 s.rows a a_below more_is (strictly other)));
          there = λ b e. let same : a ≡ b = some_same a b e in subst (λ (n : ℕ). (n < length s.rows) × (new n ≡ true)) same (a_below, more_is a a_below ∙ or_right (old a) (a == a) (same-yes a));
          at_most = λ k k_below h. (
            a,
            (
              refl,
              elim (k == a) as (λ b. (k == a) ≡ b → (old k || b) ≡ true → k ≤ a) [
                | true ↦ λ e g. let same = eqb-true k a e in omega (arith, same)
                | false ↦ λ e g. behind k k_below (sym (or_false (old k)) ∙ g)
              ] refl (sym (more_is k k_below) ∙ h),
            ),
          );
        }
