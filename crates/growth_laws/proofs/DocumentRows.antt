-- Rows of different documents enclose nothing of each other.
use Rattle.std.specs.Prelude.{◌≡◌, refl, ℕ, Bool, true, false, cond, ◌&&◌, ◌||◌, ◌==◌, ◌++◌, T, List, [], ◌∷◌, filter, flat_map, nat_eq, nat_le, nat_lt}
use Rattle.std.specs.List.{list_all, list_any, starts_with}
use Rattle.std.proofs.Common.{sym, subst, arith, ⊎_elim}
use Rattle.std.proofs.lemmas.Bool.{cases_Bool}
use Rattle.agg_evaluation.specs.Rows.{PlacedRow, beneath, enclosing, is_within}
use Rattle.list_laws.proofs.Lists.{filter-append}
use Rattle.list_laws.proofs.Booleans.{and_left, and_right, both, holds, true_is}
use Rattle.growth_laws.specs.Apart.{EncloseNone}
use Rattle.growth_laws.specs.Documents.{IsCutAt, lie_before, lie_behind, lies_before, lies_behind, starts_below, starts_from}
use Rattle.growth_laws.proofs.Enclosing.{enclosing-append}

-- equal numbers
same_number : (d e : ℕ) → T (nat_eq d e) → d ≡ e
same_number d e h = grind arith

-- not both before a number and from it on
below_not_from : (n d : ℕ) → T (nat_lt d n) → T (nat_le n d) → ⊥
below_not_from n d h g = let less = true_is _ h in let more = true_is _ g in grind arith

-- a place that begins with another lies in the same document
place-below : (n : ℕ) (inner outer : List ℕ) → T (starts_with nat_eq inner outer) → T (starts_below n outer) → T (starts_below n inner)
place-below n inner [] h g = absurd g
place-below n [] (d ∷ outer) h g = absurd h
place-below n (e ∷ inner) (d ∷ outer) h g = subst (λ m. T (nat_lt m n)) (same_number d e (and_left _ _ h)) g

-- and so for a document behind a number
place-from : (n : ℕ) (inner outer : List ℕ) → T (starts_with nat_eq inner outer) → T (starts_from n outer) → T (starts_from n inner)
place-from n inner [] h g = absurd g
place-from n [] (d ∷ outer) h g = absurd h
place-from n (e ∷ inner) (d ∷ outer) h g = subst (λ m. T (nat_le n m)) (same_number d e (and_left _ _ h)) g

-- no place starts below a number and from it on
not_both : (n : ℕ) (place : List ℕ) → T (starts_below n place) → T (starts_from n place) → ⊥
not_both n [] h g = absurd h
not_both n (d ∷ place) h g = below_not_from n d h g

module _ (p : PlacedRow → Bool) where
  -- some of the rows
  pub all-filter : (q : PlacedRow → Bool) (rows : List PlacedRow) → T (list_all p rows) → T (list_all p (filter q rows))
  all-filter q [] h = tt
  all-filter q (r ∷ rows) h =
      elim (q r) as (λ b. T (list_all p (cond b (r ∷ filter q rows) (filter q rows)))) [
        | true ↦ both _ _ (and_left _ _ h) (all-filter q rows (and_right _ _ h))
        | false ↦ all-filter q rows (and_right _ _ h)
      ]

  -- what holds of two lists holds of both as one
  pub all-append : (xs ys : List PlacedRow) → T (list_all p xs) → T (list_all p ys) → T (list_all p (xs ++ ys))
  all-append [] ys h g = g
  all-append (x ∷ xs) ys h g = both _ _ (and_left _ _ h) (all-append xs ys (and_right _ _ h) g)

  -- the rows that pass a test which implies the other
  all-passing : (q : PlacedRow → Bool) (rows : List PlacedRow) → ((r : PlacedRow) → T (q r) → T (p r)) → T (list_all p (filter q rows))
  all-passing q [] f = tt
  all-passing q (r ∷ rows) f =
      elim (q r) as (λ b. q r ≡ b → T (list_all p (cond b (r ∷ filter q rows) (filter q rows)))) [
        | true ↦ λ e. both _ _ (f r (holds _ e)) (all-passing q rows f)
        | false ↦ λ e. all-passing q rows f
      ] refl

  -- the rows that lie beneath rows
  all-beneath : (all : List PlacedRow) (context : ℕ) (rows : List PlacedRow) → ((i o : PlacedRow) → T (is_within i o) → T (p o) → T (p i)) → T (list_all p rows) → T (list_all p (flat_map (beneath all context) rows))
  all-beneath all context [] f h = tt
  all-beneath all context (r ∷ rows) f h =
      all-append (beneath all context r) (flat_map (beneath all context) rows)
      (all-passing (λ z. (z.context == context) && is_within z r) all (λ z g. f z r (and_right _ _ g) (and_left _ _ h))) (all-beneath all context rows f (and_right _ _ h))

-- a row that some row of a list lies within
some-within : (rows : List PlacedRow) (o : PlacedRow) → T (list_any (λ i. is_within i o) rows) → (i : PlacedRow) × T (is_within i o) × ((p : PlacedRow → Bool) → T (list_all p rows) → T (p i))
some-within [] o h = absurd h
some-within (r ∷ rows) o h =
    elim (is_within r o) as (λ b. is_within r o ≡ b → T (b || list_any (λ i. is_within i o) rows) → (i : PlacedRow) × T (is_within i o) × ((p : PlacedRow → Bool) → T (list_all p (r ∷ rows)) → T (p i))) [
      | true ↦ λ e g. (r, holds _ e, λ p a. and_left _ _ a)
      | false ↦ λ e g. let rest = some-within rows o g in (rest.0, rest.1, λ p a. rest.2 p (and_right _ _ a))
    ] refl h

module _ (n : ℕ) (all : List PlacedRow) (cut : IsCutAt n all) where
  -- the rows of the first documents, and what is beneath them
  pub beneath-before : (context : ℕ) (rows : List PlacedRow) → T (lie_before n rows) → T (lie_before n (flat_map (beneath all context) rows))
  beneath-before context rows = all-beneath (lies_before n) all context rows (λ i o h g. place-below n i.place o.place h g)

  -- the rows of the other documents, and what is beneath them
  pub beneath-behind : (context : ℕ) (rows : List PlacedRow) → T (lie_behind n rows) → T (lie_behind n (flat_map (beneath all context) rows))
  beneath-behind context rows = all-beneath (lies_behind n) all context rows (λ i o h g. place-from n i.place o.place h g)

  -- rows of the first documents enclose none of the others, nor those any of the first
  none-behind : (outer inner : List PlacedRow) → T (lie_before n outer) → T (lie_behind n inner) → EncloseNone outer inner
  none-behind [] inner h g = tt
  none-behind (o ∷ outer) inner h g = (
    ⊎_elim (λ (e : list_any (λ i. is_within i o) inner ≡ true). let some = some-within inner o (holds _ e) in
        absurd (not_both n some.0.place (place-below n some.0.place o.place some.1 (and_left _ _ h)) (some.2 (lies_behind n) g)))
        (λ (e : list_any (λ i. is_within i o) inner ≡ false). e) (cases_Bool (list_any (λ i. is_within i o) inner)),
    none-behind outer inner (and_right _ _ h) g,
  )

  -- rows of the other documents enclose none of the first
  none-before : (outer inner : List PlacedRow) → T (lie_behind n outer) → T (lie_before n inner) → EncloseNone outer inner
  none-before [] inner h g = tt
  none-before (o ∷ outer) inner h g = (
    ⊎_elim (λ (e : list_any (λ i. is_within i o) inner ≡ true). let some = some-within inner o (holds _ e) in
        absurd (not_both n some.0.place (some.2 (lies_before n) g) (place-from n some.0.place o.place some.1 (and_left _ _ h))))
        (λ (e : list_any (λ i. is_within i o) inner ≡ false). e) (cases_Bool (list_any (λ i. is_within i o) inner)),
    none-before outer inner (and_right _ _ h) g,
  )

  -- what encloses rows of the first documents and of the others
  pub enclosing-apart : (context : ℕ) (rows more : List PlacedRow) → T (lie_before n rows) → T (lie_behind n more) → enclosing all context (rows ++ more) ≡ enclosing all context rows ++ enclosing all context more
  enclosing-apart context rows more f t =
      subst (λ a. enclosing a context (rows ++ more) ≡ enclosing a context rows ++ enclosing a context more) (sym cut.split)
      (enclosing-append context cut.before cut.behind rows more (none-behind cut.before more cut.before_lie t) (none-before cut.behind rows cut.behind_lie f))

  -- the rows of a part that enclose rows of the other part
  none-of : (context : ℕ) (part inner : List PlacedRow) → EncloseNone part inner → (p : PlacedRow → Bool) → T (list_all p (filter (λ r. (r.context == context) && list_any (λ i. is_within i r) inner) part))
  none-of context [] inner h p = tt
  none-of context (r ∷ part) inner h p =
      subst (λ b. T (list_all p (cond ((r.context == context) && b) (r ∷ filter (λ r. (r.context == context) && list_any (λ i. is_within i r) inner) part) (filter (λ r. (r.context == context) && list_any (λ i. is_within i r) inner) part)))) (sym h.0)
      (elim (r.context == context) as (λ b. T (list_all p (cond (b && false) (r ∷ filter (λ r. (r.context == context) && list_any (λ i. is_within i r) inner) part) (filter (λ r. (r.context == context) && list_any (λ i. is_within i r) inner) part)))) [
        | true ↦ none-of context part inner h.1 p
        | false ↦ none-of context part inner h.1 p
      ])

  -- what encloses rows of the first documents lies in these, and so for the others
  pub enclosing-before : (context : ℕ) (rows : List PlacedRow) → T (lie_before n rows) → T (lie_before n (enclosing all context rows))
  enclosing-before context rows f =
      subst (λ a. T (lie_before n (enclosing a context rows))) (sym cut.split)
      (subst (λ xs. T (lie_before n xs)) (sym (filter-append (λ r. (r.context == context) && list_any (λ i. is_within i r) rows) cut.before cut.behind))
      (all-append (lies_before n) _ _ (all-filter (lies_before n) _ cut.before cut.before_lie) (none-of context cut.behind rows (none-before cut.behind rows cut.behind_lie f) (lies_before n))))

  -- what encloses rows of the other documents lies in these
  pub enclosing-behind : (context : ℕ) (rows : List PlacedRow) → T (lie_behind n rows) → T (lie_behind n (enclosing all context rows))
  enclosing-behind context rows t =
      subst (λ a. T (lie_behind n (enclosing a context rows))) (sym cut.split)
      (subst (λ xs. T (lie_behind n xs)) (sym (filter-append (λ r. (r.context == context) && list_any (λ i. is_within i r) rows) cut.before cut.behind))
      (all-append (lies_behind n) _ _ (none-of context cut.before rows (none-behind cut.before rows cut.before_lie t) (lies_behind n)) (all-filter (lies_behind n) _ cut.behind cut.behind_lie)))
