-- What is known of a search that is made for the mapping of a shard.
use Rattle.std.specs.Prelude.{◌≡◌, ℕ, zero, suc, ◌≤◌, Bool, true, List, [], ◌∷◌, length, map, filter, slice_get, Some}
use Rattle.std.specs.List.{list_all}
use Rattle.std.proofs.Common.{sym, ◌∙◌, ap, subst}
use Rattle.std.proofs.Math.Bool.{Bool-set}
use Rattle.std.proofs.Math.Logic.{∥∥₁_elim, ∥∥₁_map}
use Rattle.std.proofs.lemmas.Bool.{and_parts, le-leb, leb-true}
use Rattle.std.specs.Coded.{Coded-set}
use Rattle.agg_model.specs.declared.aggregation.Agg.{Agg}
use Rattle.agg_model.specs.declared.aggregation.Search.{Search}
use Rattle.agg_model.specs.declared.partial.Node.{Node}
use Rattle.agg_model.specs.contracts.partial.Node as node
use Rattle.agg_model.specs.declared.row.Document.{Document}
use Rattle.agg_model.specs.declared.row.Row.{Row}
use Rattle.agg_evaluation.proofs.MadeSearches.{made_globals}
use Rattle.agg_evaluation.specs.Counted.{IsApart, is_around_row}
use Rattle.agg_evaluation.specs.Placement.{is_placed}
use Rattle.agg_evaluation.specs.QueryFits.{query_fits}
use Rattle.agg_evaluation.specs.Rows.{rows_of_documents}
use Rattle.agg_evaluation.specs.SearchFits.{IsMade, agg_fits}
use Rattle.column_query.specs.Made.{IsMadeFor}
use Rattle.list_laws.proofs.Options.{none_some, some_same}
use Rattle.shard_columns.specs.Built.{IsShard}
use Rattle.shard_columns.specs.Columns.{Columns}
use Rattle.shard_columns.specs.Made.{IsAggFor, IsSearchFor}
use Rattle.fitting_laws.proofs.Aparts.{documents_apart}

-- what holds of all holds of the one at a place
pub at-place : {A : Type 0} (p : A → Bool) (xs : List A) (n : ℕ) (x : A) → list_all p xs ≡ true → slice_get xs n ≡ Some x → p x ≡ true
at-place p [] zero x all here = none_some x here
at-place p [] (suc n) x all here = none_some x here
at-place p (y ∷ xs) zero x all here = ap p (sym (some_same y x here)) ∙ (and_parts (p y) (list_all p xs) all).0
at-place p (y ∷ xs) (suc n) x all here = at-place p xs n x (and_parts (p y) (list_all p xs) all).1 here

-- trees that are one are so in one way
pub one-tree : (a b : Node) (p q : a ≡ b) → p ≡ q
one-tree a b = Coded-set node.the_row.coded a b

-- the documents of a shard, as ids and rows
abbrev pub given : List Document → List (List ℕ × Row)
given documents = map (λ d. (d.id, d.root)) documents

module _ (shard : Columns) (search : Search) (made : IsSearchFor shard search) where
  pub is-shard : IsShard shard
  is-shard = ∥∥₁_map made (λ m. (m.0, m.1.0))

  pub is-made : IsMade search
  is-made = ∥∥₁_map made (λ m. (m.0, m.1.1))

  pub query-made : IsMadeFor shard 0 search.query
  query-made = ∥∥₁_map made (λ m. (m.0, (m.1.0, (and_parts (query_fits m.0 0 search.query) (list_all (agg_fits m.0 true 0) search.aggs) m.1.1).0)))

  pub agg-made : (n : ℕ) (a : Agg) → slice_get search.aggs n ≡ Some a → IsAggFor shard a
  agg-made n a here = ∥∥₁_map made (λ m. (m.0, (true, (0, (m.1.0, at-place (agg_fits m.0 true 0) search.aggs n a (and_parts (query_fits m.0 0 search.query) (list_all (agg_fits m.0 true 0) search.aggs) m.1.1).1 here)))))

  pub agg-placed : (n : ℕ) (a : Agg) → slice_get search.aggs n ≡ Some a → is_placed a true ≡ true
  agg-placed n a here = at-place (λ a. is_placed a true) search.aggs n a (made_globals search is-made) here

  -- a fact of the shard's documents that has one proof at most
  pub by-documents : (P : Type 0) → ((p q : P) → p ≡ q) → ((documents : List Document) → shard.rows ≡ rows_of_documents documents → P) → P
  by-documents P one f = ∥∥₁_elim made one (λ m. ∥∥₁_elim m.1.0 one (λ d. f d.0 (ap (λ (s : Columns). s.rows) d.1.columns_are)))

  pub is-apart : IsApart shard.rows
  is-apart inner context =
      leb-true _ _ (∥∥₁_elim made (Bool-set _ _) (λ m. ∥∥₁_elim m.1.0 (Bool-set _ _) (λ d. le-leb _ _
      (subst (λ rows. length (filter (is_around_row context inner) rows) ≤ 1) (sym (ap (λ (s : Columns). s.rows) d.1.columns_are)) (documents_apart m.0 d.0 d.1.paths d.1.fit inner context)))))
