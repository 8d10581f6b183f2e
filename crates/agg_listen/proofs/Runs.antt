-- Listeners that are told of several answers.
use Rattle.std.proofs.Common.{◌≡◌, refl, ap, sym, ◌∙◌, ℕ, suc, ◌-◌, List, [], ◌∷◌, ◌++◌, append_assoc, map, length, Bool, ◌&&◌, ◌||◌, true, false, Option, Some, None, nat_le, cond, arith}
use Rattle.std.proofs.lemmas.Bool.Decides.{nat_tests}
use Rattle.std.specs.List.{filter}
use Rattle.agg_listen.specs.Standing.{Standing, stays, stays_for, having_heard, having_heard_all, all_having_heard, all_having_heard_each}
use Rattle.agg_listen.specs.declared.listener.Told.{Told}

append-nil : (xs : List Told) → xs ++ [] ≡ xs
append-nil [] = refl
append-nil (x ∷ xs) = ap (λ (ys : List Told). x ∷ ys) (append-nil xs)

-- a listener, from its parts
abbrev of : Option (List Told) → Bool → ℕ → Standing
of heard steady room = record { heard = heard; steady = steady; room = room }

heard_nothing : (heard : Option (List Told)) (steady : Bool) (room : ℕ) → having_heard_all [] (of heard steady room) ≡ of heard steady room
heard_nothing (Some heard) true room = ap (λ (h : List Told). of (Some h) true room) (append-nil heard)
heard_nothing (Some heard) false room =
    let same : room - 0 ≡ room = omega arith in
    ap (λ (h : List Told). of (Some h) false (room - 0)) (append-nil heard) ∙ ap (λ (r : ℕ). of (Some heard) false r) same
heard_nothing None true room = refl
heard_nothing None false room = let same : room - 0 ≡ room = omega arith in ap (λ (r : ℕ). of None false r) same

stays_for_none : (steady : Bool) (room : ℕ) → (steady || nat_le 0 room) ≡ true
stays_for_none true room = refl
stays_for_none false room = grind (arith, nat_tests)

none_told : (all : List Standing) → all ≡ map (having_heard_all []) (filter (stays_for 0) all)
none_told [] = refl
none_told (s ∷ all) =
    let rest = filter (stays_for 0) all in
    ap (λ (x : Standing). x ∷ all) (sym (heard_nothing s.heard s.steady s.room))
    ∙ (ap (λ (xs : List Standing). having_heard_all [] s ∷ xs) (none_told all)
    ∙ ap (λ (b : Bool). map (having_heard_all []) (cond b (s ∷ rest) rest)) (sym (stays_for_none s.steady s.room)))

stays_longer : (told : Told) (n : ℕ) (heard : Option (List Told)) (steady : Bool) (room : ℕ) → (stays (of heard steady room) && stays_for n (having_heard told (of heard steady room))) ≡ stays_for (suc n) (of heard steady room)
stays_longer told n heard true room = refl
stays_longer told n heard false room = grind (arith, nat_tests)

heard_later : (told : Told) (later : List Told) (heard : Option (List Told)) (steady : Bool) (room : ℕ) → having_heard_all later (having_heard told (of heard steady room)) ≡ having_heard_all (told ∷ later) (of heard steady room)
heard_later told later (Some heard) true room = ap (λ (h : List Told). of (Some h) true room) (append_assoc heard (told ∷ []) later)
heard_later told later (Some heard) false room =
    let less : (room - 1) - length later ≡ room - suc (length later) = omega arith in
    ap (λ (h : List Told). of (Some h) false ((room - 1) - length later)) (append_assoc heard (told ∷ []) later) ∙ ap (λ (r : ℕ). of (Some (heard ++ told ∷ later)) false r) less
heard_later told later None true room = refl
heard_later told later None false room =
    let less : (room - 1) - length later ≡ room - suc (length later) = omega arith in
    ap (λ (r : ℕ). of None false r) less

module _ (f g h : Standing → Standing) (p : Standing → Bool) (s : Standing) (kept left : List Standing) (same : f (g s) ≡ h s) (rest : map f (filter p (map g kept)) ≡ map h left) where
  chosen : (b : Bool) → map f (cond b (g s ∷ filter p (map g kept)) (filter p (map g kept))) ≡ map h (cond b (s ∷ left) left)
  chosen true = ap (λ (x : Standing). x ∷ map f (filter p (map g kept))) same ∙ ap (λ (xs : List Standing). h s ∷ xs) rest
  chosen false = rest

  one_more : (a c : Bool) → (a && p (g s)) ≡ c → map f (filter p (map g (cond a (s ∷ kept) kept))) ≡ map h (cond c (s ∷ left) left)
  one_more true c e = chosen (p (g s)) ∙ ap (λ (b : Bool). map h (cond b (s ∷ left) left)) e
  one_more false c e = rest ∙ ap (λ (b : Bool). map h (cond b (s ∷ left) left)) e

one_more_told : (told : Told) (later : List Told) (all : List Standing) →
    map (having_heard_all later) (filter (stays_for (length later)) (all_having_heard told all)) ≡ map (having_heard_all (told ∷ later)) (filter (stays_for (suc (length later))) all)
one_more_told told later [] = refl
one_more_told told later (s ∷ all) =
    one_more (having_heard_all later) (having_heard told) (having_heard_all (told ∷ later)) (stays_for (length later)) s (filter stays all) (filter (stays_for (suc (length later))) all)
    (heard_later told later s.heard s.steady s.room) (one_more_told told later all) (stays s) (stays_for (suc (length later)) s) (stays_longer told (length later) s.heard s.steady s.room)

pub heard_each : (told : List Told) (all : List Standing) → all_having_heard_each told all ≡ map (having_heard_all told) (filter (stays_for (length told)) all)
heard_each [] all = none_told all
heard_each (told ∷ later) all = heard_each later (all_having_heard told all) ∙ one_more_told told later all
