-- Whether a path leads deeper can be seen from the fronts of its parts.
use Rattle.std.specs.Prelude.{◌≡◌, refl, ℕ, zero, suc, ◌+◌, ◌<◌, ◌≤◌, Bool, true, false, ◌&&◌, ◌||◌, ◌==◌, List, [], ◌∷◌, ◌++◌, length, take, drop, slice_index, is_some, Some, nat_eq, cond}
use Rattle.std.specs.List.{list_any}
use Rattle.std.specs.Str.{bytes_eq}
use Rattle.std.specs.Cmp.Lexicographic.{same_text}
use Rattle.std.proofs.Common.{sym, ◌∙◌, ap, arith, ⊎_elim}
use Rattle.std.proofs.lemmas.Bool.{cases_Bool}
use Rattle.std.proofs.lemmas.Cmp.{nat_eq_equiv}
use Rattle.list_laws.proofs.Booleans.{and_false, and_true}
use Rattle.agg_model.specs.declared.mapping.NestedPath.{NestedPath}
use Rattle.agg_model.specs.declared.mapping.Mapping.{Mapping}
use Rattle.agg_reading.specs.Fields.{nested_from}
use Rattle.agg_model.specs.Contexts.{is_beneath, is_in_context}
use Rattle.agg_reading.specs.Document.{leads_deeper}
use Rattle.document_rows.specs.Roles.{is_deeper}

-- the path, or a front of it before a dot, passes
abbrev pub any_front : (List ℕ → Bool) → List ℕ → Bool
any_front test [] = test []
any_front test (b ∷ bs) = ((b == 46) && test []) || any_front (λ q. test (b ∷ q)) bs

no_front : (bs : List ℕ) → any_front (λ q. false) bs ≡ false
no_front [] = refl
no_front (b ∷ bs) = ap (λ a. a || any_front (λ q. false) bs) (and_false (b == 46)) ∙ no_front bs

or_both : (a b c d : Bool) → ((a || b) || (c || d)) ≡ ((a || c) || (b || d))
or_both true b c d = refl
or_both false true true d = refl
or_both false true false d = refl
or_both false false c d = refl

and-or : (a b c : Bool) → (a && (b || c)) ≡ ((a && b) || (a && c))
and-or true b c = refl
and-or false b c = refl

front-or : (f g : List ℕ → Bool) (bs : List ℕ) → any_front (λ q. f q || g q) bs ≡ (any_front f bs || any_front g bs)
front-or f g [] = refl
front-or f g (b ∷ bs) =
    ap (λ a. ((b == 46) && (f [] || g [])) || a) (front-or (λ q. f (b ∷ q)) (λ q. g (b ∷ q)) bs)
    ∙ ap (λ a. a || (any_front (λ q. f (b ∷ q)) bs || any_front (λ q. g (b ∷ q)) bs)) (and-or (b == 46) (f []) (g []))
    ∙ or_both ((b == 46) && f []) ((b == 46) && g []) (any_front (λ q. f (b ∷ q)) bs) (any_front (λ q. g (b ∷ q)) bs)

front-and : (f : List ℕ → Bool) (c : Bool) (bs : List ℕ) → any_front (λ q. f q && c) bs ≡ (any_front f bs && c)
front-and f true bs = ap (λ g. any_front g bs) (λ i q. and_true (f q) i) ∙ sym (and_true (any_front f bs))
front-and f false bs = ap (λ g. any_front g bs) (λ i q. and_false (f q) i) ∙ no_front bs ∙ sym (and_false (any_front f bs))

-- a path is another or lies beneath it where the other is one of its fronts
front_is : (outer path : List ℕ) → (bytes_eq outer path || is_beneath outer path) ≡ any_front (bytes_eq outer) path
front_is [] [] = refl
front_is [] (b ∷ bs) =
    elim (b == 46) as (λ e. (b == 46) ≡ e → (nat_eq 46 b && true) ≡ ((e && true) || any_front (λ q. false) bs)) [
      | true ↦ λ h. ap (λ e. e && true) (nat_eq_equiv.symm 46 b ∙ h)
      | false ↦ λ h. ap (λ e. e && true) (nat_eq_equiv.symm 46 b ∙ h) ∙ sym (no_front bs)
    ] refl
front_is (x ∷ outer) [] = refl
front_is (x ∷ outer) (b ∷ bs) =
    elim (nat_eq x b) as (λ e. ((e && bytes_eq outer bs) || (e && is_beneath outer bs)) ≡ (((b == 46) && false) || any_front (λ q. e && bytes_eq outer q) bs)) [
      | true ↦ front_is outer bs ∙ ap (λ a. a || any_front (bytes_eq outer) bs) (sym (and_false (b == 46)))
      | false ↦ sym (ap (λ a. a || any_front (λ q. false) bs) (and_false (b == 46)) ∙ no_front bs)
    ]

module _ (test : List ℕ → Bool) where
  -- some nested path is q, and passes
  abbrev named : List NestedPath → List ℕ → Bool
  named ps q = list_any (λ p. bytes_eq p.path q && test p.path) ps

  fronts_named : (ps : List NestedPath) (path : List ℕ) → list_any (λ p. (bytes_eq p.path path || is_beneath p.path path) && test p.path) ps ≡ any_front (named ps) path
  fronts_named [] path = sym (no_front path)
  fronts_named (p ∷ ps) path =
      ap (λ a. (a && test p.path) || list_any (λ p. (bytes_eq p.path path || is_beneath p.path path) && test p.path) ps) (front_is p.path path)
      ∙ ap (λ a. a || list_any (λ p. (bytes_eq p.path path || is_beneath p.path path) && test p.path) ps) (sym (front-and (bytes_eq p.path) (test p.path) path))
      ∙ ap (λ a. any_front (λ q. bytes_eq p.path q && test p.path) path || a) (fronts_named ps path)
      ∙ sym (front-or (λ q. bytes_eq p.path q && test p.path) (named ps) path)

  or_again : (s t : Bool) → (t || (s && t)) ≡ t
  or_again true true = refl
  or_again true false = refl
  or_again false true = refl
  or_again false false = refl

  named_found : (n : ℕ) (ps : List NestedPath) (q : List ℕ) → named ps q ≡ (is_some (nested_from n ps q) && test q)
  unfolding nested_from
  named_found n [] q = refl
  named_found n (p ∷ ps) q =
      ⊎_elim
      (λ e.
      let same : p.path ≡ q = same_text p.path q (sym e) in
      ap (λ b. (b && test p.path) || named ps q) e
      ∙ ap (λ r. test r || named ps q) same
      ∙ ap (λ a. test q || a) (named_found (n + 1) ps q)
      ∙ or_again (is_some (nested_from (n + 1) ps q)) (test q)
      ∙ ap (λ b. is_some (cond b (Some (n, p)) (nested_from (n + 1) ps q)) && test q) (sym e))
      (λ e.
      ap (λ b. (b && test p.path) || named ps q) e
      ∙ named_found (n + 1) ps q
      ∙ ap (λ b. is_some (cond b (Some (n, p)) (nested_from (n + 1) ps q)) && test q) (sym e))
      (cases_Bool (bytes_eq p.path q))

pub leads_by_fronts : (m : Mapping) (context : ℕ) (path : List ℕ) → leads_deeper m context path ≡ any_front (is_deeper m context) path
unfolding leads_deeper
leads_by_fronts m context path =
    fronts_named (is_in_context m.nested context) m.nested path
    ∙ ap (λ f. any_front f path) (λ i q. named_found (is_in_context m.nested context) 0 m.nested q i)

-- the fronts from a place on
module _ (i : ℕ) where
  abbrev pub fronts_from : (List ℕ → Bool) → List ℕ → Bool
  fronts_from test path = any_front (λ q. test (take i path ++ q)) (drop i path)

pub front_hit : (test : List ℕ → Bool) (path : List ℕ) (i : ℕ) → i < length path → slice_index path i ≡ 46 → test (take i path) ≡ true → fronts_from i test path ≡ true
front_hit test [] i h e t = absurd (omega (arith, h))
front_hit test (x ∷ xs) zero h e t = ap (λ y. ((y == 46) && test []) || any_front (λ q. test (x ∷ q)) xs) e ∙ ap (λ a. a || any_front (λ q. test (x ∷ q)) xs) t
front_hit test (x ∷ xs) (suc i) h e t = front_hit (λ q. test (x ∷ q)) xs i (omega arith) e t

pub front_end : (test : List ℕ → Bool) (path : List ℕ) (i : ℕ) → length path ≤ i → fronts_from i test path ≡ test path
front_end test [] zero h = refl
front_end test [] (suc i) h = refl
front_end test (x ∷ xs) zero h = absurd (omega (arith, h))
front_end test (x ∷ xs) (suc i) h = front_end (λ q. test (x ∷ q)) xs i (omega arith)
