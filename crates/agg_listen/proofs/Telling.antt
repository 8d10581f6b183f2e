-- What is left of listeners that are told one after another.
use Rattle.std.proofs.Common.{◌≡◌, refl, ap, ◌∙◌, subst, List, [], ◌∷◌, map, Bool, true, false, cond, IsTrue}
use Rattle.std.specs.List.Retain.{RetainsInTurn}
use Rattle.agg_listen.specs.Standing.{Standing, stays, having_heard, all_having_heard}
use Rattle.agg_listen.specs.declared.listener.Told.{Told}

-- one more, which may stay
one_more : (told : Told) (s t : Standing) (all left : List Standing) (b : Bool) → b ≡ stays s → (IsTrue b → t ≡ having_heard told s) → left ≡ all_having_heard told all → cond b (t ∷ left) left ≡ all_having_heard told (s ∷ all)
one_more told s t all left true kept heard is = rw (← kept, heard refl, is) refl
one_more told s t all left false kept heard is = rw (← kept, is) refl

module _ {S X : Type 0} (R : S → X → Bool → S → X → Type 0) (standing : X → Standing) (told : Told) (s : S) where
  -- one that is told says whether it stays, and where it stays has heard
  pub record Tells (x : X) (b : Bool) (t : S) (y : X) : Type 0 where
    pub kept : b ≡ stays (standing x)
    pub heard : IsTrue b → standing y ≡ having_heard told (standing x)
    pub same : t ≡ s

  standing_of_cond : (b : Bool) (y : X) (ys zs : List X) → ys ≡ cond b (y ∷ zs) zs → map standing ys ≡ cond b (standing y ∷ map standing zs) (map standing zs)
  standing_of_cond true y ys zs is = ap (map standing) is
  standing_of_cond false y ys zs is = ap (map standing) is

  -- the same, where the values before and after go by another name
  pub tells_at : (x y shown left : X) (b : Bool) (t : S) → shown ≡ x → left ≡ y → Tells shown b t left → Tells x b t y
  tells_at x y shown left b t shows leaves tells = subst (λ (z : X). Tells z b t y) shows (subst (λ (z : X). Tells shown b t z) leaves tells)

  pub all_heard : (xs ys : List X) → RetainsInTurn R s xs ys → ((x : X) (b : Bool) (t : S) (y : X) → R s x b t y → Tells x b t y) → map standing ys ≡ all_having_heard told (map standing xs)
  all_heard [] ys is tells = ap (map standing) is
  all_heard (x ∷ xs) ys (b, t, y, r, zs, rest, is) tells =
      let said = tells x b t y r in
      let later : map standing zs ≡ all_having_heard told (map standing xs) = all_heard xs zs (subst (λ (u : S). RetainsInTurn R u xs zs) said.same rest) tells in
      standing_of_cond b y ys zs is ∙ one_more told (standing x) (standing y) (map standing xs) (map standing zs) b said.kept said.heard later
