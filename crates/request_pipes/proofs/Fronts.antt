-- Texts that begin with a name and `>`, and what stands behind.
use Rattle.std.proofs.Common.{◌≡◌, ◌≢◌, ◌+◌, ℕ, List, [], ◌∷◌, ◌++◌, length, take, drop, Bool, true, false, Option, Some, None, Bor, refl, sym, ap, ◌∙◌, append_assoc}
use Rattle.std.specs.Option.{MatchOption, is_some}
use Rattle.std.specs.Str.Pattern.{FindsTextPrefix, StripsPrefix}
use Rattle.std.proofs.Math.Seq.{take-append-add}
use Rattle.std.proofs.lemmas.List.{take-append-drop, append_cancel_left}
use Rattle.std.proofs.lemmas.Slice.Eq.{bytes_eq-Decides}
use Rattle.agg_reading.specs.PipePaths.{begins_with}

begun : (front path rest : List ℕ) → path ≡ front ++ 62 ∷ rest → begins_with front path ≡ true
unfolding begins_with
begun front path rest e = rw (e, take-append-add front (62 ∷ rest) 1) ((bytes_eq-Decides (front ++ 62 ∷ []) (front ++ 62 ∷ [])).1 refl)

otherwise : (b : Bool) → (b ≡ true → ⊥) → b ≡ false
otherwise true f = absurd (f refl)
otherwise false f = refl

not_begun : (front path : List ℕ) → ((rest : List ℕ) → path ≢ front ++ 62 ∷ rest) → begins_with front path ≡ false
unfolding begins_with
not_begun front path lacks =
    let rest = drop (length front + 1) path in
    let whole : take (length front + 1) path ++ rest ≡ path = take-append-drop (length front + 1) path in
    otherwise _ (λ e. lacks rest (sym whole ∙ ap (λ start. start ++ rest) ((bytes_eq-Decides (take (length front + 1) path) (front ++ 62 ∷ [])).0 e) ∙ append_assoc front (62 ∷ []) rest))

-- no name in front
pub no_front : (front path : List ℕ) → ((rest : List ℕ) → path ≢ front ++ rest) → begins_with front path ≡ false
no_front front path lacks = not_begun front path (λ rest. lacks (62 ∷ rest))

-- the name in front, and behind it `>` or not
pub behind_front : (front path back : List ℕ) (r : Option (Bor (List ℕ))) → path ≡ front ++ back
    → MatchOption r (FindsTextPrefix (62 ∷ []) back None) (λ x. StripsPrefix (FindsTextPrefix (62 ∷ [])) back x.now) → is_some r ≡ begins_with front path
behind_front front path back None e h = sym (not_begun front path (λ rest same. h rest (append_cancel_left front back (62 ∷ rest) (sym e ∙ same))))
behind_front front path back (Some x) e h = sym (begun front path (drop h.0 back) (e ∙ ap (λ t. front ++ t) h.1.1))
