-- Parts that stand side by side are parts again, and parts that are taken twice are taken once.
use Rattle.std.specs.Prelude.{◌≡◌, refl, ℕ, ◌-◌, ◌≤◌, true, List, [], ◌∷◌, ◌++◌, length, IsTrue}
use Rattle.std.proofs.Common.{sym, ◌∙◌, ap, subst, arith, append_assoc, append-nil}
use Rattle.std.proofs.lemmas.List.{length-append}
use Rattle.std.proofs.lemmas.List.Folds.{list_all-append}
use Rattle.agg_model.specs.declared.aggregation.Search.{Search}
use Rattle.agg_model.specs.declared.partial.Partial.{Partial}
use Rattle.agg_evaluation.proofs.SearchLaws.{whole-alone, whole-is_result}
use Rattle.agg_evaluation.specs.Cost.{cost}
use Rattle.agg_evaluation.specs.Trees.{is_result_of, numbers_fit}
use Rattle.agg_evaluation.specs.Whole.{whole}
use Rattle.batch_reduce.specs.Parts.{AreParts, cost_of_parts}
use Rattle.batch_reduce.specs.Taken.{IsTaken}
use Rattle.evaluation_laws.proofs.SearchCosts.{whole-saves}
use Rattle.list_laws.proofs.Booleans.{and_first, and_second, holds, true_is}
use Rattle.partial_result.proofs.SumLaws.{two_lists}

module _ (search : Search) where
  parts-front : (xs ys : List Partial) → AreParts search (xs ++ ys) → AreParts search xs
  parts-front xs ys h = record {
    results = and_first _ _ (sym (list_all-append (is_result_of search) xs ys) ∙ h.results);
    fit = λ before some after is. h.fit before some (after ++ ys) (ap (λ zs. zs ++ ys) is ∙ append_assoc (before ++ some) after ys);
  }

  parts-back : (xs ys : List Partial) → AreParts search (xs ++ ys) → AreParts search ys
  parts-back xs ys h = record {
    results = and_second _ _ (sym (list_all-append (is_result_of search) xs ys) ∙ h.results);
    fit = λ before some after is. h.fit (xs ++ before) some after
        (ap (λ zs. xs ++ zs) is ∙ sym (append_assoc xs (before ++ some) after) ∙ ap (λ zs. zs ++ after) (sym (append_assoc xs before some)));
  }

  parts-fit : (xs : List Partial) → AreParts search xs → numbers_fit (whole search xs) ≡ true
  parts-fit xs h = h.fit [] xs [] (sym (append-nil xs))

  whole-of-one : (p : Partial) → AreParts search (p ∷ []) → p ≡ whole search (p ∷ [])
  whole-of-one p h = sym (whole-alone search p (holds _ (and_first _ _ h.results)))

  is-whole : (p : Partial) (xs : List Partial) → p ≡ whole search xs → is_result_of search p ≡ true
  is-whole p xs e = ap (is_result_of search) e ∙ true_is _ (whole-is_result search xs)

  -- what the merged result costs
  pub merged-costs : (parts : List Partial) (m : Partial) → 1 ≤ length parts → AreParts search parts → m ≡ whole search parts → cost m ≤ cost_of_parts parts
  merged-costs [] m some h e = absurd (omega arith)
  merged-costs (p ∷ ps) m some h e = let save = whole-saves search p ps (holds _ h.results) in let same = ap cost e in omega arith

pub taken-one : (before after : List Partial) (p : Partial) (count : ℕ) → count ≡ 1 → before ≡ p ∷ after → IsTaken before count p after
taken-one before after p count one is = record {
  front = p ∷ [];
  is_front = is;
  many = (let e : length (p ∷ []) ≡ count = omega arith in e);
  alone = λ _. refl;
  merged = λ search h. whole-of-one search p h;
}

pub taken-two : (before between after : List Partial) (count half : ℕ) (p q r : Partial) → 2 ≤ count → half ≤ count
    → IsTaken before half p between → IsTaken between (count - half) q after
    → ((search : Search) → IsTrue (is_result_of search p) → IsTrue (is_result_of search q) → IsTrue (numbers_fit (whole search (p ∷ q ∷ []))) → r ≡ whole search (p ∷ q ∷ []))
    → IsTaken before count r after
taken-two before between after count half p q r several within t u merge = record {
  front = t.front ++ u.front;
  is_front = t.is_front ∙ ap (λ xs. t.front ++ xs) u.is_front ∙ sym (append_assoc t.front u.front after);
  many = (let all = length-append t.front u.front in let m = t.many in let n = u.many in omega arith);
  alone = λ one. absurd (omega arith);
  merged = λ search h.
      let a = t.merged search (parts-front search t.front u.front h) in
      let b = u.merged search (parts-back search t.front u.front h) in
      let both : whole search (p ∷ q ∷ []) ≡ whole search (t.front ++ u.front) = (λ i. whole search (a i ∷ b i ∷ [])) ∙ two_lists search t.front u.front in
      merge search (is-whole search p t.front a) (is-whole search q u.front b) (ap numbers_fit both ∙ parts-fit search (t.front ++ u.front) h) ∙ both;
}

front-is-all : (front after parts : List Partial) → parts ≡ front ++ after → length front ≡ length parts → front ≡ parts
front-is-all front [] parts is many = sym (append-nil front) ∙ sym is
front-is-all front (a ∷ after) parts is many =
    let all = ap length is in let two = length-append front (a ∷ after) in absurd (omega arith)

pub taken-all : (parts after : List Partial) (p : Partial) → IsTaken parts (length parts) p after → (search : Search) → AreParts search parts → p ≡ whole search parts
taken-all parts after p t search h =
    let same = front-is-all t.front after parts t.is_front t.many in
    t.merged search (subst (AreParts search) (sym same) h) ∙ ap (whole search) same
