-- One amount after another at a breaker.
use Rattle.std.specs.Prelude.{◌≡◌, refl, ◌⊎◌, ℕ, zero, suc, ℤ, pos, negsuc, ◌+ℤ◌, ◌-ℤ◌, ◌≤ℤ◌, ◌+◌, ◌-◌, ◌<◌, ◌≤◌, max, min, List, [], ◌∷◌, ◌++◌, length, take}
use Rattle.std.proofs.Common.{sym, ◌∙◌, ap, subst, arith, inl, inr, ⊎_elim}
use Rattle.std.proofs.lemmas.Bool.{cases_lt}
use Rattle.std.proofs.lemmas.Int.{ints}
use Rattle.std.proofs.lemmas.List.{take_all}
use Rattle.agg_model.specs.declared.aggregation.Search.{Search}
use Rattle.agg_evaluation.specs.Rows.{PlacedRow}
use Rattle.agg_evaluation.specs.Shard.{int_sum}
use Rattle.agg_evaluation.specs.Trace.{peak, sum_before, trace}
use Rattle.agg_evaluation.proofs.MetricLaws.{int_sum-append}
use Rattle.evaluation_laws.proofs.TraceLaws.{sum-none}
use Rattle.growth_laws.specs.Amounts.{charged, place_without_zeros, without_zeros}
use Rattle.growth_laws.specs.Paid.{IsPaid, Standing, granted_total}
use Rattle.growth_laws.specs.Refused.{StaysWithin}
use Rattle.growth_laws.proofs.Places.{sum-place, take-some}
use Rattle.growth_laws.proofs.Sums.{charged-without_zeros, sum-peak, sum-without_zeros}

-- a charge is added, and what is given back is not
charged-pos : (ns : List ℤ) (a : ℕ) → charged (ns ++ pos a ∷ []) ≡ charged ns + a
charged-pos [] a = omega arith
charged-pos (pos n ∷ ns) a = let rest = charged-pos ns a in omega arith
charged-pos (negsuc n ∷ ns) a = charged-pos ns a

-- what is given back adds no charge
charged-neg : (ns : List ℤ) (m : ℕ) → charged (ns ++ negsuc m ∷ []) ≡ charged ns
charged-neg [] m = refl
charged-neg (pos n ∷ ns) m = ap (λ k. n + k) (charged-neg ns m)
charged-neg (negsuc n ∷ ns) m = charged-neg ns m

-- all holds on the way are within the limit with one more amount
within-more : (hold limit : ℤ) (ns : List ℤ) (x : ℤ) → ((n : ℕ) → (hold +ℤ int_sum (take n ns)) ≤ℤ limit) → ((hold +ℤ int_sum ns) +ℤ x) ≤ℤ limit
    → (n : ℕ) → (hold +ℤ int_sum (take n (ns ++ x ∷ []))) ≤ℤ limit
within-more hold limit ns x before last zero = before 0
within-more hold limit [] x before last (suc n) = let none = sum-none n in omega (arith, ints)
within-more hold limit (a ∷ ns) x before last (suc n) =
    let rest = within-more (hold +ℤ a) limit ns x (λ m. let h = before (suc m) in omega (arith, ints)) (omega (arith, ints)) n in
    omega (arith, ints)

-- the first amounts are the first of one more
sum-front : (ns : List ℤ) (x : ℤ) (n : ℕ) → (m : ℕ) × (int_sum (take m (ns ++ x ∷ [])) ≡ int_sum (take n ns))
sum-front ns x zero = (0, refl)
sum-front [] x (suc n) = (0, refl)
sum-front (a ∷ ns) x (suc n) = let f = sum-front ns x n in (suc f.0, ap (λ s. a +ℤ s) f.1)

-- and with that one more
sum-whole : (ns : List ℤ) (x : ℤ) → (m : ℕ) × (int_sum (take m (ns ++ x ∷ [])) ≡ int_sum ns +ℤ x)
sum-whole [] x = (1, omega (arith, ints))
sum-whole (a ∷ ns) x = let f = sum-whole ns x in (suc f.0, (let e = f.1 in omega (arith, ints)))

-- a total that stops, added to twice
total-twice : (g a b : ℕ) → granted_total (granted_total (g + a) + b) ≡ granted_total (g + (a + b))
total-twice g a b = grind arith

-- no amount at all
pub paid-none : (limit : ℕ) (s : Standing) → s.hold ≤ limit → s.granted ≤ 18446744073709551615 → IsPaid limit s s []
paid-none limit s h g = record {
  held = omega (arith, ints);
  granted_is = (let e : min (s.granted + 0) 18446744073709551615 ≡ s.granted = omega arith in sym e);
  within = λ n. (let none = sum-none n in omega (arith, ints));
  most_is = inl (omega arith);
}

module _ (limit : ℕ) (s t u : Standing) (ns : List ℤ) (paid : IsPaid limit s t ns) where
  -- one more charge
  paid-charge : (a : ℕ) → u.hold ≡ t.hold + a → u.granted ≡ granted_total (t.granted + a) → u.most ≤ max t.most (t.hold + a) → t.hold + a ≤ limit → IsPaid limit s u (ns ++ pos a ∷ [])
  paid-charge a h g m l =
      let added = int_sum-append ns (pos a ∷ []) in
      let before = paid.held in
      (record {
        held = omega (arith, ints);
        granted_is = g ∙ ap (λ n. granted_total (n + a)) paid.granted_is ∙ total-twice s.granted (charged ns) a ∙ ap (λ n. granted_total (s.granted + n)) (sym (charged-pos ns a));
        within = within-more (pos s.hold) (pos limit) ns (pos a) paid.within (omega (arith, ints));
        most_is = ⊎_elim (λ (e : u.most ≤ t.most). ⊎_elim (λ (f : t.most ≤ s.most). inl (omega arith))
            (λ f. let w = sum-front ns (pos a) f.0 in inr (w.0, (let x = f.1 in let v = w.1 in omega (arith, ints)))) paid.most_is)
            (λ (e : u.most ≤ t.hold + a). let w = sum-whole ns (pos a) in inr (w.0, (let v = w.1 in omega (arith, ints)))) (either u.most t.most (t.hold + a) m);
      })
    where
      either : (k m n : ℕ) → k ≤ max m n → (k ≤ m) ⊎ (k ≤ n)
      either k m n h = ⊎_elim (λ (l : m < n). inr (omega arith)) (λ (l : n ≤ m). inl (omega arith)) (cases_lt m n)

  -- one more return
  paid-back : (a : ℕ) → u.hold + suc a ≡ t.hold → u.granted ≡ t.granted → u.most ≡ t.most → IsPaid limit s u (ns ++ negsuc a ∷ [])
  paid-back a h g m =
      let added = int_sum-append ns (negsuc a ∷ []) in
      let before = paid.held in
      (record {
        held = omega (arith, ints);
        granted_is = g ∙ paid.granted_is ∙ ap (λ n. granted_total (s.granted + n)) (sym (charged-neg ns a));
        within = within-more (pos s.hold) (pos limit) ns (negsuc a) paid.within
            (let all = paid.within (length ns) in let same = ap int_sum (take_all (length ns) ns (omega arith)) in omega (arith, ints));
        most_is = ⊎_elim (λ (f : t.most ≤ s.most). inl (omega arith)) (λ f. let w = sum-front ns (negsuc a) f.0 in inr (w.0, (let x = f.1 in let v = w.1 in omega (arith, ints)))) paid.most_is;
      })

  -- from one hold of the task to a greater one
  pub paid-more : (held wanted : ℕ) → held ≤ wanted → u.hold + held ≡ t.hold + wanted → u.granted ≡ granted_total (t.granted + (wanted - held)) → u.most ≤ max t.most (t.hold + (wanted - held))
      → t.hold + (wanted - held) ≤ limit → IsPaid limit s u (ns ++ (pos wanted -ℤ pos held) ∷ [])
  paid-more held wanted le h g m l =
      let d : (pos wanted -ℤ pos held) ≡ pos (wanted - held) = omega (arith, ints) in
      subst (λ x. IsPaid limit s u (ns ++ x ∷ [])) (sym d) (paid-charge (wanted - held) (omega arith) g m l)

  -- and to a smaller one
  pub paid-less : (held wanted : ℕ) → wanted < held → u.hold + held ≡ t.hold + wanted → u.granted ≡ t.granted → u.most ≡ t.most → IsPaid limit s u (ns ++ (pos wanted -ℤ pos held) ∷ [])
  paid-less held wanted less h g m =
      let d : (pos wanted -ℤ pos held) ≡ negsuc (held - wanted - 1) = omega (arith, ints) in
      let gone : suc (held - wanted - 1) ≡ held - wanted = omega arith in
      subst (λ x. IsPaid limit s u (ns ++ x ∷ [])) (sym d) (paid-back (held - wanted - 1) (omega arith) g m)

-- the first ones, and the first of these
take-fewer : (ns : List ℤ) (m n : ℕ) → m ≤ n → take m (take n ns) ≡ take m ns
take-fewer ns zero n l = refl
take-fewer ns (suc m) zero l = absurd (omega arith)
take-fewer [] (suc m) (suc n) l = refl
take-fewer (x ∷ ns) (suc m) (suc n) l = ap (λ xs. x ∷ xs) (take-fewer ns m n (omega arith))

-- up to a place the breaker stays within its limit
pub paid-within : (limit : ℕ) (s t : Standing) (ns : List ℤ) (place : ℕ) → IsPaid limit s t (take place ns) → StaysWithin ns place s.hold limit
paid-within limit s t ns place paid n l =
    let same = ap int_sum (take-fewer ns n place l) in
    let before = paid.within n in
    omega (arith, ints)

-- the zeros do not matter
pub paid-trace : (limit : ℕ) (s t : Standing) (ns : List ℤ) → IsPaid limit s t ns → IsPaid limit s t (without_zeros ns)
paid-trace limit s t ns paid = record {
  held = (let same = sum-without_zeros ns in let h = paid.held in omega (arith, ints));
  granted_is = paid.granted_is ∙ ap (λ n. granted_total (s.granted + n)) (sym (charged-without_zeros ns));
  within = λ n. (let some = first n in let same = some.1 in let before = paid.within some.0 in omega (arith, ints));
  most_is = ⊎_elim (λ (f : t.most ≤ s.most). inl f) (λ f. inr (place_without_zeros ns f.0, (let same = sum-place ns f.0 in let x = f.1 in omega (arith, ints)))) paid.most_is;
}
  where
    all_of : place_without_zeros ns (length ns) ≡ length (without_zeros ns)
    all_of = ap (λ xs. length (without_zeros xs)) (take_all (length ns) ns (omega arith))

    first : (n : ℕ) → (k : ℕ) × (sum_before (without_zeros ns) n ≡ sum_before ns k)
    first n = ⊎_elim
        (λ (l : n < length (without_zeros ns)). let some = take-some ns (length ns) n (let e = all_of in omega arith) in (some.0, ap int_sum some.2 ∙ sum-without_zeros (take some.0 ns)))
        (λ (l : length (without_zeros ns) ≤ n). (length ns, ap int_sum (take_all n (without_zeros ns) l) ∙ sum-without_zeros ns ∙ sym (ap int_sum (take_all (length ns) ns (omega arith)))))
        (cases_lt n (length (without_zeros ns)))

-- the most that a task held is no more than it was, or than the hold before with the peak
pub paid-peak : (search : Search) (all : List PlacedRow) (limit : ℕ) (s t : Standing) → IsPaid limit s t (trace search all) → (t.most ≤ s.most) ⊎ (pos t.most ≤ℤ (pos s.hold +ℤ peak search all))
paid-peak search all limit s t paid =
    ⊎_elim (λ (f : t.most ≤ s.most). inl f) (λ f. inr (let top = sum-peak search all f.0 in let x = f.1 in omega (arith, ints))) paid.most_is
