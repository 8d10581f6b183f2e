-- The whole of two as a sum.
use Rattle.std.specs.Prelude.{◌≡◌, refl, true, List, [], ◌∷◌, ◌++◌}
use Rattle.std.proofs.Common.{sym, ◌∙◌, ap, append-nil}
use Rattle.agg_model.specs.declared.aggregation.Search.{Search}
use Rattle.agg_model.specs.declared.partial.Partial.{Partial}
use Rattle.agg_evaluation.specs.Trees.{is_result_of}
use Rattle.agg_evaluation.specs.Whole.{whole}
use Rattle.agg_evaluation.proofs.SearchLaws.{whole-unites, whole-swaps, whole-alone}
use Rattle.list_laws.proofs.Booleans.{holds}

module _ (search : Search) where
  alone : (p : Partial) → is_result_of search p ≡ true → whole search (p ∷ []) ≡ p
  alone p h = whole-alone search p (holds _ h)

  pub two_lists : (ps qs : List Partial) → whole search (whole search ps ∷ whole search qs ∷ []) ≡ whole search (ps ++ qs)
  two_lists ps qs = whole-unites search (ps ∷ qs ∷ []) ∙ ap (λ xs. whole search (ps ++ xs)) (append-nil qs)

  pub one_more : (ps : List Partial) (p : Partial) → is_result_of search p ≡ true → whole search (whole search ps ∷ p ∷ []) ≡ whole search (ps ++ p ∷ [])
  one_more ps p h = ap (λ q. whole search (whole search ps ∷ q ∷ [])) (sym (alone p h)) ∙ two_lists ps (p ∷ [])

  pub commutative : (p q : Partial) → whole search (p ∷ q ∷ []) ≡ whole search (q ∷ p ∷ [])
  commutative p q = whole-swaps search (p ∷ []) (q ∷ [])

  pub associative : (p q r : Partial) → is_result_of search p ≡ true → is_result_of search r ≡ true
      → whole search (whole search (p ∷ q ∷ []) ∷ r ∷ []) ≡ whole search (p ∷ whole search (q ∷ r ∷ []) ∷ [])
  associative p q r h g =
      one_more (p ∷ q ∷ []) r g ∙ sym (two_lists (p ∷ []) (q ∷ r ∷ [])) ∙ ap (λ x. whole search (x ∷ whole search (q ∷ r ∷ []) ∷ [])) (alone p h)

  pub neutral : (p : Partial) → is_result_of search p ≡ true → whole search (whole search [] ∷ p ∷ []) ≡ p
  neutral p h = one_more [] p h ∙ alone p h
