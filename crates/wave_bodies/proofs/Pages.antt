-- The page that is read for the first body, and for no other.
use Rattle.std.specs.Prelude.{◌≡◌, refl, ℕ, suc, List, [], ◌∷◌, ◌++◌, length, IfSome, Option, None}
use Rattle.std.proofs.Common.{ap}
use Rattle.agg_model.specs.declared.aggregation.Search.{Search}
use Rattle.agg_search.specs.Paging.{request_at}
use Rattle.agg_spec.specs.Index.{Index}
use Rattle.wave_bodies.specs.Asking.{requests_from}

-- the page for what stands behind these bodies
abbrev pub page_behind : List (List ℕ) → Option Search → Option Search
page_behind [] page = page
page_behind (body ∷ bodies) page = None

pub behind-one : (bodies : List (List ℕ)) (body : List ℕ) (page : Option Search) → page_behind (bodies ++ body ∷ []) page ≡ None
behind-one [] body page = refl
behind-one (b ∷ bodies) body page = refl

pub one-more-request : (index : Index) (bodies : List (List ℕ)) (body : List ℕ) (page : Option Search)
    → requests_from index page (bodies ++ body ∷ []) ≡ requests_from index page bodies ++ request_at index body (page_behind bodies page) ∷ []
one-more-request index [] body page = refl
one-more-request index (b ∷ bodies) body page =
    ap (λ rs. request_at index b page ∷ rs) (later bodies)
  where
    later : (bs : List (List ℕ)) → requests_from index None (bs ++ body ∷ []) ≡ requests_from index None bs ++ request_at index body None ∷ []
    later [] = refl
    later (c ∷ bs) = ap (λ rs. request_at index c None ∷ rs) (later bs)

pub page-made : (P : Search → Type 0) (bodies : List (List ℕ)) (page : Option Search) → IfSome page P → IfSome (page_behind bodies page) P
page-made P [] page made = made
page-made P (b ∷ bodies) page made = tt

pub as-many-requests : (index : Index) (page : Option Search) (bodies : List (List ℕ)) → length (requests_from index page bodies) ≡ length bodies
as-many-requests index page [] = refl
as-many-requests index page (b ∷ bodies) = ap suc (as-many-requests index None bodies)
