-- The numbers of the filters that match, one filter after another.
use Rattle.std.proofs.Common.{◌≡◌, refl, ℕ, ◌+◌, ◌<◌, suc, Bool, true, false, not, List, [], ◌∷◌, ◌++◌, length, map, filter, get_or, take, cond, sym, ◌∙◌, ap, arith, append_assoc, length-append}
use mir.Val.{bool_byte}
use Rattle.std.specs.Prelude.{◌&&◌, ◌==◌, ◌||◌, Option, is_some}
use Rattle.std.specs.List.{list_any, enumerate_from}
use Rattle.std.proofs.lemmas.List.{length-map, length-take-le, map_more}
use Rattle.std.proofs.lemmas.Bool.Decides.{nat_tests}
use Rattle.list_laws.proofs.Booleans.{and_false}
use Rattle.list_laws.proofs.Lists.{append-nil, map-append}
use Rattle.agg_model.specs.declared.key.Key.{Key}
use Rattle.agg_model.specs.declared.key.Key.TheVariants.{Fixed}
use Rattle.agg_model.specs.declared.query.Query.{Query}
use Rattle.agg_model.specs.declared.row.Scalar.{Scalar}
use Rattle.agg_evaluation.specs.Keys.{filter_keys, single_key}
use Rattle.filters_agg.specs.Numbers.{true_places, numbers_where}

-- the places of the answers that are true, the first of which stands at n
abbrev pub places_from : ℕ → List Bool → List ℕ
places_from n answers = map (λ a. a.0) (filter (λ a. a.1) (enumerate_from n answers))

kept : (b : Bool) (n : ℕ) (rest : List (ℕ × Bool)) → map (λ (a : ℕ × Bool). a.0) (cond b ((n, b) ∷ rest) rest) ≡ cond b (n ∷ []) [] ++ map (λ (a : ℕ × Bool). a.0) rest
kept true n rest = refl
kept false n rest = refl

one : (b : Bool) (m n : ℕ) → m ≡ n → cond b (m ∷ []) [] ≡ cond b (n ∷ []) []
one b m n e = ap (λ (k : ℕ). cond b (k ∷ []) []) e

places-push : (n : ℕ) (bs : List Bool) (b : Bool) → places_from n (bs ++ b ∷ []) ≡ places_from n bs ++ cond b ((n + length bs) ∷ []) []
places-push n [] b = kept b n [] ∙ (append-nil (cond b (n ∷ []) []) ∙ one b n (n + 0) (omega arith))
places-push n (c ∷ bs) b =
    kept c n (filter (λ a. a.1) (enumerate_from (n + 1) (bs ++ b ∷ [])))
    ∙ (ap (λ (ns : List ℕ). cond c (n ∷ []) [] ++ ns) (places-push (n + 1) bs b ∙ ap (λ (ns : List ℕ). places_from (n + 1) bs ++ ns) (one b ((n + 1) + length bs) (n + length (c ∷ bs)) (omega arith)))
    ∙ (sym (append_assoc (cond c (n ∷ []) []) (places_from (n + 1) bs) (cond b ((n + length (c ∷ bs)) ∷ []) []))
    ∙ ap (λ (ns : List ℕ). ns ++ cond b ((n + length (c ∷ bs)) ∷ []) []) (sym (kept c n (filter (λ a. a.1) (enumerate_from (n + 1) bs))))))

module _ {A : Type 0} (holds : A → Bool) where
  -- one filter more
  pub places-more : (xs : List A) (i : ℕ) (x : A) → i < length xs → x ≡ get_or xs i x → true_places (map holds (take (i + 1) xs)) ≡ true_places (map holds (take i xs)) ++ cond (holds x) (i ∷ []) []
  places-more xs i x below is =
      ap true_places (map_more holds xs i x below)
      ∙ (places-push 0 (map holds (take i xs)) (holds (get_or xs i x))
      ∙ ((λ j. true_places (map holds (take i xs)) ++ cond (holds (sym is j)) ((0 + length (map holds (take i xs))) ∷ []) [])
      ∙ ap (λ (ns : List ℕ). true_places (map holds (take i xs)) ++ ns) (one (holds x) (0 + length (map holds (take i xs))) i (omega (arith, length-map (take i xs) holds, length-take-le i xs (omega arith))))))

  pub places-hit : (xs : List A) (i : ℕ) (x : A) → i < length xs → x ≡ get_or xs i x → holds x ≡ true → true_places (map holds (take (i + 1) xs)) ≡ true_places (map holds (take i xs)) ++ i ∷ []
  places-hit xs i x below is hit = places-more xs i x below is ∙ ap (λ (b : Bool). true_places (map holds (take i xs)) ++ cond b (i ∷ []) []) hit

  pub places-missed : (xs : List A) (i : ℕ) (x : A) → i < length xs → x ≡ get_or xs i x → holds x ≡ false → true_places (map holds (take (i + 1) xs)) ≡ true_places (map holds (take i xs))
  places-missed xs i x below is missed =
      places-more xs i x below is ∙ (ap (λ (b : Bool). true_places (map holds (take i xs)) ++ cond b (i ∷ []) []) missed ∙ append-nil (true_places (map holds (take i xs))))

not_none : (k : ℕ) → (suc k == 0) ≡ false
not_none k = grind (arith, nat_tests)

none-from : (n : ℕ) (bs : List Bool) → (length (places_from n bs) == 0) ≡ not (list_any (λ b. b) bs)
none-from n [] = refl
none-from n (true ∷ bs) = not_none (length (places_from (n + 1) bs))
none-from n (false ∷ bs) = none-from (n + 1) bs

-- where no number was put, no filter matches
pub none-there : (bs : List Bool) → (length (true_places bs) == 0) ≡ not (list_any (λ b. b) bs)
none-there bs = none-from 0 bs

-- ---- the keys that the definition gives

key_kept : {A : Type 0} (b : Bool) (n : ℕ) (x : A) (qs : List (ℕ × A)) (bs : List (ℕ × Bool)) → map (λ (q : ℕ × A). Fixed q.0) qs ≡ map Fixed (map (λ (q : ℕ × Bool). q.0) bs)
    → map (λ (q : ℕ × A). Fixed q.0) (cond b ((n, x) ∷ qs) qs) ≡ map Fixed (map (λ (q : ℕ × Bool). q.0) (cond b ((n, b) ∷ bs) bs))
key_kept true n x qs bs e = ap (λ (ks : List Key). Fixed n ∷ ks) e
key_kept false n x qs bs e = e

module _ {A : Type 0} (holds : A → Bool) where
  place_keys : (n : ℕ) (xs : List A) → map (λ (q : ℕ × A). Fixed q.0) (filter (λ (q : ℕ × A). holds q.1) (enumerate_from n xs)) ≡ map Fixed (places_from n (map holds xs))
  place_keys n [] = refl
  place_keys n (x ∷ xs) = key_kept (holds x) n x (filter (λ (q : ℕ × A). holds q.1) (enumerate_from (n + 1) xs)) (filter (λ (q : ℕ × Bool). q.1) (enumerate_from (n + 1) (map holds xs))) (place_keys (n + 1) xs)

  any_answer : (xs : List A) → list_any (λ b. b) (map holds xs) ≡ list_any holds xs
  any_answer [] = refl
  any_answer (x ∷ xs) = ap (λ (b : Bool). holds x || b) (any_answer xs)

other_key : (b : Bool) (m : ℕ) → cond b (Fixed m ∷ []) [] ≡ map Fixed (cond b (m ∷ []) [])
other_key true m = refl
other_key false m = refl

pub keys-are : (holds : Query → Bool) (filters : List Query) (other : Option (List ℕ)) → filter_keys holds filters other ≡ map Fixed (numbers_where (is_some other) (map holds filters))
keys-are holds filters other =
    let same : (is_some other && not (list_any (λ b. b) (map holds filters))) ≡ (is_some other && not (list_any holds filters)) = ap (λ (b : Bool). is_some other && not b) (any_answer holds filters) in
    (λ i. place_keys holds 0 filters i ++ cond (sym same i) (Fixed (sym (length-map filters holds) i) ∷ []) [])
    ∙ (ap (λ (ks : List Key). map Fixed (true_places (map holds filters)) ++ ks) (other_key (is_some other && not (list_any (λ b. b) (map holds filters))) (length (map holds filters)))
    ∙ sym (map-append Fixed (true_places (map holds filters)) (cond (is_some other && not (list_any (λ b. b) (map holds filters))) (length (map holds filters) ∷ []) [])))

-- ---- the other bucket

module _ (has_other : Bool) (bs : List Bool) where
  numbers-are : numbers_where has_other bs ≡ true_places bs ++ cond (has_other && (length (true_places bs) == 0)) (length bs ∷ []) []
  numbers-are = ap (λ (b : Bool). true_places bs ++ cond (has_other && b) (length bs ∷ []) []) (sym (none-there bs))

  -- where no filter matches, and there is one
  pub numbers-rest : has_other ≡ true → length (true_places bs) ≡ 0 → numbers_where has_other bs ≡ true_places bs ++ length bs ∷ []
  numbers-rest other none = numbers-are ∙ ((λ i. true_places bs ++ cond (other i && (length (true_places bs) == 0)) (length bs ∷ []) []) ∙ ap (λ (n : ℕ). true_places bs ++ cond (n == 0) (length bs ∷ []) []) none)

  -- where a filter matches
  pub numbers-some : (length (true_places bs) ≡ 0 → ⊥) → numbers_where has_other bs ≡ true_places bs
  numbers-some some =
      let is : (length (true_places bs) == 0) ≡ false = grind (arith, nat_tests, some) in
      numbers-are ∙ (ap (λ (b : Bool). true_places bs ++ cond (has_other && b) (length bs ∷ []) []) is ∙ (ap (λ (b : Bool). true_places bs ++ cond b (length bs ∷ []) []) (and_false has_other) ∙ append-nil (true_places bs)))

  -- where there is none
  pub numbers-alone : has_other ≡ false → numbers_where has_other bs ≡ true_places bs
  numbers-alone none = (λ i. true_places bs ++ cond (none i && not (list_any (λ b. b) bs)) (length bs ∷ []) []) ∙ append-nil (true_places bs)

  pub count-rest : has_other ≡ true → length (true_places bs) ≡ 0 → 1 ≡ length (numbers_where has_other bs)
  count-rest other none = let e = ap length (numbers-rest other none) in let sum = length-append (true_places bs) (length bs ∷ []) in omega arith

-- ---- the number of keys of one bucket

pub count-missing : (vs : List Scalar) (n : ℕ) → n ≡ bool_byte (length vs == 0) → n ≡ length (single_key (not (list_any (λ v. true) vs)))
count-missing [] n is = is
count-missing (v ∷ vs) n is = is ∙ ap bool_byte (not_none (length vs))

pub single-missing : (vs : List Scalar) → single_key (length vs == 0) ≡ single_key (not (list_any (λ v. true) vs))
single-missing [] = refl
single-missing (v ∷ vs) = ap single_key (not_none (length vs))
