-- What is left of a list from a place on, where the item at that place is known.
use Rattle.std.specs.Prelude.{◌≡◌, refl, ℕ, ◌+◌, ◌<◌, ◌≤◌, length, List, [], ◌∷◌, Some, None, slice_get, Bool, true, map, zip}
use Rattle.std.specs.List.{list_all}
use Rattle.std.proofs.Common.{◌∙◌, ap, sym, drop, get_or, inl, inr}
use Rattle.std.proofs.lemmas.List.{drop_more, drop_all}
use Rattle.std.proofs.lemmas.Option.{slice_get_within, get_or_from_slice_get, slice_get_cases}
use Rattle.list_laws.proofs.Booleans.{and_first, and_second}
use Rattle.agg_spec.specs.Json.{Member, with_members}
use Rattle.serde_json.specs.Data.{Data, Members}
use Rattle.serde_json.specs.Data.{put as with_member}

module _ {X : Type 0} where
  -- the item that the loop has come to
  pub drop_here : (xs : List X) (i : ℕ) (x : X) → i < length xs → x ≡ get_or xs i x → drop i xs ≡ x ∷ drop (i + 1) xs
  drop_here xs i x h e = drop_more xs i x h ∙ ap (λ y. y ∷ drop (i + 1) xs) (sym e)

  -- an item that was looked up
  pub drop_found : (xs : List X) (i : ℕ) (x : X) → Some x ≡ slice_get xs i → drop i xs ≡ x ∷ drop (i + 1) xs
  drop_found xs i x h = drop_more xs i x (slice_get_within xs i x (sym h)) ∙ ap (λ y. y ∷ drop (i + 1) xs) (get_or_from_slice_get xs i x x (sym h))

  past : (xs : List X) (i : ℕ) → None ≡ slice_get xs i → length xs ≤ i
  past xs i h = elim (slice_get_cases xs i).1 [ inl w ↦ absurd (cc (h, w.2)) | inr w ↦ w.0 ]

  pub drop_missing : (xs : List X) (i : ℕ) → None ≡ slice_get xs i → drop i xs ≡ []
  drop_missing xs i h = drop_all i xs (past xs i h)

  pub holds_here : (p : X → Bool) (x : X) (left rest : List X) → left ≡ x ∷ rest → list_all p left ≡ true → p x ≡ true
  holds_here p x left rest e h = and_first (p x) (list_all p rest) (sym (ap (list_all p) e) ∙ h)

  pub holds_later : (p : X → Bool) (x : X) (left rest : List X) → left ≡ x ∷ rest → list_all p left ≡ true → list_all p rest ≡ true
  holds_later p x left rest e h = and_second (p x) (list_all p rest) (sym (ap (list_all p) e) ∙ h)

module _ {X Y : Type 0} (f : X × Y → Member) where
  abbrev pub pairs_put : List X → List Y → Members → Members
  pairs_put xs ys ms = with_members (map f (zip xs ys)) ms

  pub pairs_put-step : (x : X) (y : Y) (xs more_xs : List X) (ys more_ys : List Y) (ms : Members) → xs ≡ x ∷ more_xs → ys ≡ y ∷ more_ys
      → pairs_put xs ys ms ≡ pairs_put more_xs more_ys (with_member (f (x, y)).0 (f (x, y)).1 ms)
  pairs_put-step x y xs more_xs ys more_ys ms p q = ap (λ zs. pairs_put zs ys ms) p ∙ ap (λ zs. pairs_put (x ∷ more_xs) zs ms) q

  pub pairs_put-end : (x : X) (xs more_xs : List X) (ys : List Y) (ms : Members) → xs ≡ x ∷ more_xs → ys ≡ [] → pairs_put xs ys ms ≡ ms
  pairs_put-end x xs more_xs ys ms p q = ap (λ zs. pairs_put zs ys ms) p ∙ ap (λ zs. pairs_put (x ∷ more_xs) zs ms) q

  -- one more pair is put
  pub pairs_put-here : (xs : List X) (ys : List Y) (i : ℕ) (x : X) (y : Y) (name : List ℕ) (d : Data) (old new : Members)
      → drop i xs ≡ x ∷ drop (i + 1) xs → drop i ys ≡ y ∷ drop (i + 1) ys → name ≡ (f (x, y)).0 → d ≡ (f (x, y)).1 → new ≡ with_member name d old
      → pairs_put (drop (i + 1) xs) (drop (i + 1) ys) new ≡ pairs_put (drop i xs) (drop i ys) old
  pairs_put-here xs ys i x y name d old new p q n v put =
      ap (pairs_put (drop (i + 1) xs) (drop (i + 1) ys)) (put ∙ ap (λ m. with_member m d old) n ∙ ap (λ e. with_member (f (x, y)).0 e old) v)
      ∙ sym (pairs_put-step x y (drop i xs) (drop (i + 1) xs) (drop i ys) (drop (i + 1) ys) old p q)

  pub pairs_put-no_first : (xs : List X) (ys : List Y) (ms : Members) → xs ≡ [] → pairs_put xs ys ms ≡ ms
  pairs_put-no_first xs ys ms p = ap (λ zs. pairs_put zs ys ms) p

  none_zipped : (xs : List X) → map f (zip xs []) ≡ []
  none_zipped [] = refl
  none_zipped (x ∷ xs) = refl

  pub pairs_put-no_second : (xs : List X) (ys : List Y) (ms : Members) → ys ≡ [] → pairs_put xs ys ms ≡ ms
  pairs_put-no_second xs ys ms q = ap (λ zs. pairs_put xs zs ms) q ∙ ap (λ zs. with_members zs ms) (none_zipped xs)
