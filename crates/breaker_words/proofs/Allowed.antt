-- Each step of a pass keeps the rule, since it is one move.
use Rattle.std.proofs.Common.{◌≡◌, ℕ, ◌+◌, ◌-◌, ◌≤◌, true, List, [], ◌∷◌, ◌++◌, sym, refl, ap, ◌∙◌, subst, get_or, ◌%◌, ◌^◌}
use mathlib.Core.Option.{none, some}
use lib.ListN.{get_elem?}
use Rattle.agg_model.specs.declared.breaker.Limits.{Limits}
use Rattle.agg_model.specs.declared.breaker.Child.{Child}
use Rattle.agg_model.specs.declared.breaker.Which.{Which}
use Rattle.agg_model.specs.declared.breaker.Which.TheVariants.{Request}
use Rattle.breaker_words.specs.declared.trial.Trial.TheVariants.{Rest, ChildGranted, ParentRefused, ParentGiven}
use Rattle.breaker_words.specs.declared.view.View.{View}
use Rattle.breaker_words.specs.Breakers.{place, words_of}
use Rattle.agg_model.specs.Breakers.{which_of}
use Rattle.breaker_words.specs.Views.{hold_of, most_of, spent_view}
use Rattle.breaker_words.specs.Trials.{is_returning}
use Rattle.breaker_words.specs.AfterStep.{after_try_child, after_take_back_child, after_try_parent, after_take_back_parent, after_give_parent, after_give_child, after_set_ceiling, after_split, split_off, after_join}
use Rattle.breaker_words.specs.Moves.{BreakerState, Move, look, set_ceiling, split, join, try_child, take_back_child, try_parent, take_back_parent, give_parent, give_child, move, run, opened}
use Rattle.breaker_words.specs.Soundness.{IsNear, IsBounded}
use Rattle.std.proofs.lemmas.List.Sums.{fold-append}
use Rattle.atomic_table.specs.Table.{Me, step, keeps, stepped, Allows, Splits, Joins}
use Rattle.breaker_words.specs.Steps.{IsReached, TriesChild, TakesBackChild, TriesParent, TakesBackParent, GivesParent, GivesChild, SetsCeiling, Looks}
use Rattle.breaker_words.proofs.Runs.{sound_run}
use Rattle.breaker_words.proofs.Bounds.{bounded_run}
use Rattle.breaker_words.specs.Atomic.{Running}
use Rattle.breaker_words.proofs.OneMove.{same_child, try_step, parent_step, take_step, take_parent_step, give_parent_step, give_child_step, ceil_step, split_step, join_step, look_step}

abbrev M : Type 0
M = Me (Unit {0}) View

-- after one move more the rule holds again
reached : (l : Limits) (s : Running) (r : IsReached l s) (m : Move) (ws : List ℕ) (vs : List View) → (ws ≡ words_of (move l (run l r.0) m).word_of (move l (run l r.0) m).ceiling) × (vs ≡ (move l (run l r.0) m).passes)
    → IsReached l (record { words = ws; homes = s.homes; views = vs })
reached l s r m ws vs at = let now : run l (r.0 ++ m ∷ []) ≡ move l (run l r.0) m = fold-append (move l) (opened l) r.0 (m ∷ []) in
    (r.0 ++ m ∷ [], (at.0 ∙ ap (λ (k : BreakerState). words_of k.word_of k.ceiling) (sym now), at.1 ∙ ap (λ (k : BreakerState). k.passes) (sym now)))

-- what holds of each pass that the moves made
bounded : (l : Limits) (s : Running) → IsReached l s → (id : ℕ) (v : View) → get_elem? s.views id ≡ some v → v.limits ≡ l → IsBounded v.limits v
bounded l s r id v at_home of = subst (λ y. IsBounded y v) (sym of) (bounded_run l r.0 id v (ap (λ vs. get_elem? vs id) (sym r.1.1) ∙ at_home))

along : (me : M) (v : View) → me ≡ (v, []) → (P : M → Type 0) → P (v, []) → P me
along me v e P h = subst P (sym e) h

along_at : (me : M) (v : View) (p q : ℕ) → me ≡ (v, []) → p ≡ q → (P : M → ℕ → Type 0) → P (v, []) q → P me p
along_at me v p q e d P h = let Q : M × ℕ → Type 0 = λ z. P z.0 z.1 in subst Q (λ i. (sym e i, sym d i)) h

pub allows_try : (l : Limits) (slots id : ℕ) (me : M) (p a : ℕ) (v : View) (c : Child) → me ≡ (v, []) → p ≡ place (which_of c) → v.trial ≡ Rest → 1 ≤ a → v.accounts.parent.hold + a ≤ v.cap → v.limits ≡ l
    → Allows (IsReached l) slots id me p (λ n. (n + a) % 2 ^ 64) (TriesChild (step slots p a 0 none) me)
allows_try l slots id me p a v c e q rest pos room of = along_at me v p (place (which_of c)) e q (λ m o. Allows (IsReached l) slots id m o (λ n. (n + a) % 18446744073709551616) (TriesChild (step slots o a 0 none) m))
    (λ s r _ at_home _. let g = try_step l (run l r.0) (sound_run l r.0) s r.1 id v at_home c a rest pos room in let n : ℕ = get_or s.words (place (which_of c)) 0 in (
      after_try_child v.limits v c a (n + a),
      keeps,
      tt,
      subst (λ y. IsReached l (stepped s (place (which_of c)) ((n + a) % 18446744073709551616) id [] (after_try_child y v c a (n + a)) keeps)) (sym of) (reached l s r (try_child id c a) _ _ g.0),
      λ d q. let is = same_child c d q in ((λ i. (after_try_child v.limits v (is i) a (n + a), [])), subst (λ z. IsNear v (which_of z) n) is g.1, bounded l s r id v at_home of),
    ))

pub allows_parent : (l : Limits) (slots id : ℕ) (me : M) (a : ℕ) (v : View) → me ≡ (v, []) → a ≡ v.amount → v.trial ≡ ChildGranted → v.limits ≡ l
    → Allows (IsReached l) slots id me 3 (λ n. (n + a) % 2 ^ 64) (TriesParent (step slots 3 a 0 none) me)
allows_parent l slots id me a v e q is of = along_at me v a v.amount e q (λ m o. Allows (IsReached l) slots id m 3 (λ n. (n + o) % 18446744073709551616) (TriesParent (step slots 3 o 0 none) m))
    (λ s r _ at_home _. let g = parent_step l (run l r.0) (sound_run l r.0) s r.1 id v at_home is in let n : ℕ = get_or s.words 3 0 in (after_try_parent v.limits v (n + v.amount), keeps, tt, subst (λ y. IsReached l (stepped s 3 ((n + v.amount) % 18446744073709551616) id [] (after_try_parent y v (n + v.amount)) keeps)) (sym of) (reached l s r (try_parent id) _ _ g.0), (refl, g.1)))

pub allows_take : (l : Limits) (slots id : ℕ) (me : M) (p a : ℕ) (v : View) → me ≡ (v, []) → p ≡ place (which_of v.child) → a ≡ v.amount → is_returning v.trial ≡ true
    → Allows (IsReached l) slots id me p (λ n. (n + (2 ^ 64 - a)) % 2 ^ 64) (TakesBackChild (step slots p a 0 none) me)
allows_take l slots id me p a v e q d is = along_at me v p (place (which_of v.child)) e q (λ m o. Allows (IsReached l) slots id m o (λ n. (n + (18446744073709551616 - a)) % 18446744073709551616) (TakesBackChild (step slots o a 0 none) m))
    (subst (λ z. Allows (IsReached l) slots id (v, []) (place (which_of v.child)) (λ n. (n + (18446744073709551616 - z)) % 18446744073709551616) (TakesBackChild (step slots (place (which_of v.child)) z 0 none) (v, []))) (sym d)
    (λ s r _ at_home fits. (after_take_back_child v, keeps, tt, reached l s r (take_back_child id) _ _ (take_step l (run l r.0) (sound_run l r.0) s r.1 id v at_home is fits), refl)))

pub allows_take_parent : (l : Limits) (slots id : ℕ) (me : M) (a : ℕ) (v : View) → me ≡ (v, []) → a ≡ v.amount → v.trial ≡ ParentRefused
    → Allows (IsReached l) slots id me 3 (λ n. (n + (2 ^ 64 - a)) % 2 ^ 64) (TakesBackParent (step slots 3 a 0 none) me)
allows_take_parent l slots id me a v e q is = along_at me v a v.amount e q (λ m o. Allows (IsReached l) slots id m 3 (λ n. (n + (18446744073709551616 - o)) % 18446744073709551616) (TakesBackParent (step slots 3 o 0 none) m))
    (λ s r _ at_home fits. (after_take_back_parent v, keeps, tt, reached l s r (take_back_parent id) _ _ (take_parent_step l (run l r.0) (sound_run l r.0) s r.1 id v at_home is fits), refl))

pub allows_give_parent : (l : Limits) (slots id : ℕ) (me : M) (a : ℕ) (v : View) (c d : Child) → me ≡ (v, []) → d ≡ c → v.trial ≡ Rest → 1 ≤ a → a ≤ hold_of v (which_of c)
    → Allows (IsReached l) slots id me 3 (λ n. (n + (2 ^ 64 - a)) % 2 ^ 64) (GivesParent d (step slots 3 a 0 none) me)
allows_give_parent l slots id me a v c d e q rest pos has = along me v e (λ m. Allows (IsReached l) slots id m 3 (λ n. (n + (18446744073709551616 - a)) % 18446744073709551616) (GivesParent d (step slots 3 a 0 none) m))
    (λ s r _ at_home fits. (after_give_parent v c a, keeps, tt, reached l s r (give_parent id c a) _ _ (give_parent_step l (run l r.0) (sound_run l r.0) s r.1 id v at_home c a rest pos has fits), λ i. (after_give_parent v (sym q i) a, [])))

pub allows_give_child : (l : Limits) (slots id : ℕ) (me : M) (p a : ℕ) (v : View) → me ≡ (v, []) → p ≡ place (which_of v.child) → a ≡ v.amount → v.trial ≡ ParentGiven
    → Allows (IsReached l) slots id me p (λ n. (n + (2 ^ 64 - a)) % 2 ^ 64) (GivesChild (step slots p a 0 none) me)
allows_give_child l slots id me p a v e q d is = along_at me v p (place (which_of v.child)) e q (λ m o. Allows (IsReached l) slots id m o (λ n. (n + (18446744073709551616 - a)) % 18446744073709551616) (GivesChild (step slots o a 0 none) m))
    (subst (λ z. Allows (IsReached l) slots id (v, []) (place (which_of v.child)) (λ n. (n + (18446744073709551616 - z)) % 18446744073709551616) (GivesChild (step slots (place (which_of v.child)) z 0 none) (v, []))) (sym d)
    (λ s r _ at_home fits. (after_give_child v, keeps, tt, reached l s r (give_child id) _ _ (give_child_step l (run l r.0) (sound_run l r.0) s r.1 id v at_home is fits), refl)))

pub allows_ceil : (l : Limits) (slots id : ℕ) (me : M) (t : ℕ) (v : View) → me ≡ (v, []) → v.trial ≡ Rest → 1 ≤ v.total → v.cap ≡ v.total → 1 ≤ t → v.accounts.parent.hold ≤ t → t ≤ 2 ^ 63
    → Allows (IsReached l) slots id me 4 (λ _. t) (SetsCeiling (step slots 4 t 0 none) me)
allows_ceil l slots id me t v e rest living whole pos room top = along me v e (λ z. Allows (IsReached l) slots id z 4 (λ _. t) (SetsCeiling (step slots 4 t 0 none) z))
    (λ s r _ at_home fits. (after_set_ceiling v t, keeps, tt, reached l s r (set_ceiling id t) _ _ (ceil_step l (run l r.0) (sound_run l r.0) s r.1 id v at_home t rest living whole pos room top), refl))

pub allows_look : (l : Limits) (slots id : ℕ) (me : M) (p : ℕ) (v : View) → me ≡ (v, []) → v.limits ≡ l
    → Allows (IsReached l) slots id me p (λ n. n) (Looks (step slots p 0 0 none) me)
allows_look l slots id me p v e of = along me v e (λ z. Allows (IsReached l) slots id z p (λ n. n) (Looks (step slots p 0 0 none) z))
    (λ s r _ at_home fits. let g = look_step l (run l r.0) (sound_run l r.0) s r.1 id v at_home p in (v, keeps, tt, reached l s r (look id Request) _ _ g.0, (refl, g.1, g.2, g.3, bounded l s r id v at_home of)))

pub splits : (l : Limits) (id : ℕ) (x v : View) (z : ℕ) → x ≡ v → v.trial ≡ Rest → 1 ≤ v.total → ((y : Which) → most_of v y + z ≤ v.cap) → Splits {S = Unit {0}} (IsReached l) id x (after_split x z) (split_off x z)
splits l id x v z e rest living room = subst (λ y. Splits {S = Unit {0}} (IsReached l) id y (after_split y z) (split_off y z)) (sym e) (λ s r at_home. reached l s r (split id z) _ _ (split_step l (run l r.0) (sound_run l r.0) s r.1 id v at_home z rest living room))

pub joins : (l : Limits) (id : ℕ) (x v : View) (j : ℕ) (y w : View) → x ≡ v → y ≡ w → v.trial ≡ Rest → w.trial ≡ Rest → 1 ≤ v.total → 1 ≤ w.total → Joins {S = Unit {0}} (IsReached l) id x j y (after_join x y) spent_view
joins l id x v j y w e d rest rest' living living' = subst (λ (z : View × View). Joins {S = Unit {0}} (IsReached l) id z.0 j z.1 (after_join z.0 z.1) spent_view) (λ i. (sym e i, sym d i)) (λ s r at_home apart there. reached l s r (join id j) _ _ (join_step l (run l r.0) (sound_run l r.0) s r.1 id v at_home j w apart there rest rest' living living'))
