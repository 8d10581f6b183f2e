-- The derived test of queries says that what passes is one and the same.
use Rattle.std.specs.Prelude.{◌≡◌, refl, Bool, true, List, [], ◌∷◌}
use Rattle.std.specs.Cmp.{first_so, second_so}
use Rattle.std.specs.Cmp.Lexicographic.{pointwise}
use Rattle.std.proofs.Common.{◌∙◌, sym, ap, rules}
use Rattle.agg_model.specs.contracts.query.QueryPartialEq.TheImpl as query_eq
use Rattle.agg_model.specs.contracts.query.QueryPartialEq.TheImpl.Laws as query_laws
use Rattle.agg_model.specs.contracts.query.RangeOp as op_type
use Rattle.agg_model.specs.contracts.query.RangeOpPartialEq.TheImpl as op_eq
use Rattle.agg_model.specs.contracts.query.RangeTestPartialEq.TheImpl as test_eq
use Rattle.agg_model.specs.declared.query.Query.{Query, Row_of-Query, end_of-Query, more_of-Query, items-the_row-Query, items_shown-the_row-Query-0, items_shown-the_row-Query-1, roll-Query, roll-out-Query}
use Rattle.agg_model.specs.declared.query.Query.TheBlock.{shown-the_row-Query-0, shown-the_row-Query-1}
use Rattle.agg_model.specs.declared.query.Query.TheOpen.{Query-F}
use Rattle.agg_model.specs.declared.query.Query.TheVariants as query
use Rattle.agg_evaluation.proofs.Computing.{computing}
use Rattle.search_equality.proofs.EqualKeys.{probe-one}
use Rattle.search_equality.proofs.EqualParts.{AreOne, apart, items-one, number-one, text-one}
use denote.Enum.Bare.{same_true}

abbrev pub equal_queries : Query → Query → Bool
equal_queries = (query_eq.ghosts).eq

op-one : AreOne (op_eq.ghosts).eq
op-one a b e = same_true op_type.the_type (search rules) a b e

test-one : AreOne (test_eq.ghosts).eq
test-one a b e =
    let op = op-one a.op b.op (first_so _ _ e) in
    let value = probe-one a.value b.value (second_so _ _ e) in
    λ i. record { op = op i; value = value i }

-- lists that are shown as these items
as-items : (items as' bs : List Query) → as' ≡ items → (pointwise equal_queries items bs ≡ true → items ≡ bs) → pointwise equal_queries as' bs ≡ true → as' ≡ bs
as-items items as' bs is one e = is ∙ one (sym (ap (λ xs. pointwise equal_queries xs bs) is) ∙ e)

mutual
  unfolding
      computing Rattle.agg_model.specs.declared.query.Query.TheViews.out-Query Rattle.agg_model.specs.declared.query.Query.TheViews.roll-Query
      Rattle.agg_model.specs.declared.query.Query.TheBlock.shown-the_row-Query-1

  -- one level of the test, and below it the test of the parts
  level-one : (a b : Query) → query_laws.unfolded a b ≡ true → a ≡ b
  level-one query.All query.All e = refl
  level-one (query.Term f v) (query.Term g w) e =
      let place = number-one f g (first_so _ _ e) in
      let value = probe-one v w (second_so _ _ e) in
      λ i. query.Term (place i) (value i)
  level-one (query.Terms f vs) (query.Terms g ws) e =
      let place = number-one f g (first_so _ _ e) in
      let values = items-one probe-one vs ws (second_so _ _ e) in
      λ i. query.Terms (place i) (values i)
  level-one (query.Range f ts) (query.Range g us) e =
      let place = number-one f g (first_so _ _ e) in
      let tests = items-one test-one ts us (second_so _ _ e) in
      λ i. query.Range (place i) (tests i)
  level-one (query.Exists f) (query.Exists g) e = ap query.Exists (number-one f g e)
  level-one (query.Ids vs) (query.Ids ws) e = ap query.Ids (items-one text-one vs ws e)
  level-one (query.Bool' l must m not n should least) (query.Bool' l' must' m' not' n' should' least') e =
      let all = as-items _ _ _ (items_shown-the_row-Query-0 l must) (parts-one must (shown-the_row-Query-0 l' must')) (first_so _ _ e) in
      let rest = second_so _ _ e in
      let none = as-items _ _ _ (items_shown-the_row-Query-0 m not) (parts-one not (shown-the_row-Query-0 m' not')) (first_so _ _ rest) in
      let rest = second_so _ _ rest in
      let some = as-items _ _ _ (items_shown-the_row-Query-0 n should) (parts-one should (shown-the_row-Query-0 n' should')) (first_so _ _ rest) in
      let fewest = number-one least least' (second_so _ _ rest) in
      sym (roll-out-Query (query.Bool' l must m not n should least))
      ∙ (λ i. roll-Query (Query-F.Bool (all i) (none i) (some i) (fewest i)))
      ∙ roll-out-Query (query.Bool' l' must' m' not' n' should' least')
  level-one (query.Nested' p one (more_of-Query q rest)) (query.Nested' p' one' (more_of-Query q' rest')) e =
      let path = number-one p p' (first_so _ _ e) in
      let below = level-one q q' (sym (query_laws.is q q') ∙ second_so _ _ e) in
      sym (roll-out-Query (query.Nested' p one (more_of-Query q rest)))
      ∙ (λ i. roll-Query (Query-F.Nested (path i) (below i)))
      ∙ roll-out-Query (query.Nested' p' one' (more_of-Query q' rest'))
  level-one a b e = apart e

  parts-one : {m : _} (qs : Row_of-Query m) (rs : List Query) → pointwise equal_queries (items-the_row-Query m qs) rs ≡ true → items-the_row-Query m qs ≡ rs
  parts-one end_of-Query [] e = refl
  parts-one end_of-Query (r ∷ rs) e = apart e
  parts-one (more_of-Query q qs) [] e = apart e
  parts-one (more_of-Query q qs) (r ∷ rs) e =
      let first = level-one q r (sym (query_laws.is q r) ∙ first_so _ _ e) in
      let rest = parts-one qs rs (second_so _ _ e) in
      λ i. first i ∷ rest i

pub query-one : AreOne equal_queries
query-one a b e = level-one a b (sym (query_laws.is a b) ∙ e)
