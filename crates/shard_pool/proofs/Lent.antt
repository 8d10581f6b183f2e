-- A pass from which others are split, and to which those that did nothing are joined back.
use Rattle.std.proofs.Common.{◌≡◌, refl, ◌≤◌, ◌<◌, ℕ, ◌+◌, ◌-◌, Bool, true, false, max, List, length, get_or, take, sum, sym, ap, ◌∙◌, arith}
use Rattle.std.specs.Prelude.{if◌then◌else◌, nat_le}
use Rattle.std.proofs.Math.Nat.{max-zero, min-eq_left}
use Rattle.std.proofs.lemmas.Bool.Decides.{nat_tests}
use Rattle.std.proofs.lemmas.List.Sums.{sum_by_more, sum_by_more_le}
use Rattle.agg_model.specs.declared.breaker.Limits.{Limits}
use Rattle.agg_model.specs.declared.breaker.Which.{Which}
use Rattle.agg_model.specs.declared.breaker.Which.TheVariants.{Fielddata, Inflight, Parent, Request}
use Rattle.breaker_words.specs.Accounts.{empty_account, joined_account}
use Rattle.breaker_words.specs.AfterStep.{after_join, after_split, split_off}
use Rattle.breaker_words.specs.Breakers.{counter_value}
use Rattle.breaker_words.specs.Passes.{IsOf, PassModel, WordsModel, with_view}
use Rattle.breaker_words.specs.Views.{granted_of, most_of, seen_of, trips_of, view_of}
use Rattle.breaker_words.specs.declared.trial.Trial.TheVariants.{Rest}
use Rattle.breaker_words.specs.declared.view.Account.{Account}
use Rattle.breaker_words.specs.declared.view.View.{View}
use Rattle.pool_results.specs.Passes.{IsFresh}
use Rattle.pool_results.specs.Pools.{Pool, ceiling_at}

counted : (n : ℕ) → n ≤ 18446744073709551615 → counter_value (n + 0) ≡ n
counted n h = ap counter_value (let z : n + 0 ≡ n = omega arith in z) ∙ min-eq_left h

seen-same : (p q : Bool) (n : ℕ) → (p ≡ false → n ≡ 0) → max (if p then n else 0) (if q then 0 else 0) ≡ n
seen-same true true n s = max-zero n
seen-same true false n s = max-zero n
seen-same false true n s = max-zero 0 ∙ sym (s refl)
seen-same false false n s = max-zero 0 ∙ sym (s refl)

total-same : (p q : Bool) (n : ℕ) → (if p then n else (if q then n else n)) ≡ n
total-same true q n = refl
total-same false true n = refl
total-same false false n = refl

-- an account to which nothing is added
account-same : (p q : Bool) (b : Account) → b.granted ≤ 18446744073709551615 → b.trips ≤ 18446744073709551615 → (p ≡ false → b.seen ≡ 0) → joined_account p q b empty_account ≡ b
account-same p q b g t s =
    let h : b.hold + 0 ≡ b.hold = omega arith in let m : b.most + 0 ≡ b.most = omega arith in
    λ i. record { hold = h i; granted = counted b.granted g i; trips = counted b.trips t i; most = m i; seen = seen-same p q b.seen s i }

none-left : (n : ℕ) → nat_le 1 n ≡ false → n ≡ 0
none-left n e = grind (arith, nat_tests)

-- only the cap comes back
joined-back : (v : View) (l : Limits) (k : ℕ) → v.trial ≡ Rest → ((x : Which) → granted_of v x ≤ 18446744073709551615) → ((x : Which) → trips_of v x ≤ 18446744073709551615)
    → (v.cap ≡ 0 → (x : Which) → seen_of v x ≡ 0) → after_join v (view_of l k v.total) ≡ record v { cap = v.cap + k }
joined-back v l k rest g t s =
    let p : Bool = nat_le 1 v.cap in let q : Bool = nat_le 1 k in
    λ i. record {
      limits = v.limits;
      cap = v.cap + k;
      total = total-same p q v.total i;
      accounts = record {
        request = account-same p q v.accounts.request (g Request) (t Request) (λ e. s (none-left v.cap e) Request) i;
        fielddata = account-same p q v.accounts.fielddata (g Fielddata) (t Fielddata) (λ e. s (none-left v.cap e) Fielddata) i;
        inflight = account-same p q v.accounts.inflight (g Inflight) (t Inflight) (λ e. s (none-left v.cap e) Inflight) i;
        parent = account-same p q v.accounts.parent (g Parent) (t Parent) (λ e. s (none-left v.cap e) Parent) i;
      };
      trial = sym rest i;
      child = v.child;
      amount = v.amount;
    }

-- the pass with n more of the cap
abbrev pub with_more : PassModel → ℕ → PassModel
with_more a n = with_view a (record a.view { cap = a.view.cap + n })

pub joined-more : (old now new part : PassModel) (l : Limits) (n k : ℕ) → now ≡ with_more old n → new ≡ with_view now (after_join now.view part.view)
    → part.view ≡ view_of l k part.view.total → part.view.total ≡ old.view.total → old.view.trial ≡ Rest
    → ((x : Which) → granted_of old.view x ≤ 18446744073709551615) → ((x : Which) → trips_of old.view x ≤ 18446744073709551615) → (old.view.cap ≡ 0 → (x : Which) → seen_of old.view x ≡ 0)
    → new ≡ with_more old (n + part.view.cap)
joined-more old now new part l n k before step fresh total rest g t s =
    let back : part.view ≡ view_of l k old.view.total = fresh ∙ ap (view_of l k) total in
    let cap : part.view.cap ≡ k = ap (λ (v : View). v.cap) fresh in
    step ∙ (λ i. with_view (before i) (after_join (before i).view (back i)))
    ∙ ap (with_view old) (joined-back (with_more old n).view l k rest g t (λ e x. s (omega (arith, e)) x))
    ∙ ap (λ c. with_view old (record old.view { cap = c })) (let z : old.view.cap + n + k ≡ old.view.cap + (n + part.view.cap) = omega (arith, cap) in z)

-- the pass with n less of it
abbrev pub with_less : PassModel → ℕ → PassModel
with_less a n = with_view a (after_split a.view n)

module _ (old now : PassModel) (n : ℕ) (before : now ≡ with_less old n) where
  pub less-of : (words : WordsModel) → IsOf words old → IsOf words now
  less-of words of = (ap (λ (a : PassModel). a.table) before ∙ of.0, ap (λ (a : PassModel). a.view.limits) before ∙ of.1)

  pub less-rest : old.view.trial ≡ Rest → now.view.trial ≡ Rest
  less-rest rest = ap (λ (a : PassModel). a.view.trial) before ∙ rest

  pub less-room : (k all : ℕ) → n + k ≤ all → ((x : Which) → most_of old.view x + all ≤ old.view.cap) → (x : Which) → most_of now.view x + k ≤ now.view.cap
  less-room k all low room x =
      let top = room x in let same : most_of now.view x ≡ most_of old.view x = ap (λ (a : PassModel). most_of a.view x) before in
      let cap : now.view.cap ≡ old.view.cap - n = ap (λ (a : PassModel). a.view.cap) before in omega (arith, top, same, cap, low)

  pub less-more : (new : PassModel) (k : ℕ) → new ≡ with_view now (after_split now.view k) → new ≡ with_less old (n + k)
  less-more new k step = step ∙ (λ i. with_view (before i) (after_split (before i).view k))
      ∙ ap (λ c. with_view old (record old.view { cap = c })) (let z : old.view.cap - n - k ≡ old.view.cap - (n + k) = omega arith in z)

  pub part-total : (part : PassModel) (k : ℕ) → part ≡ with_view now (split_off now.view k) → part.view.total ≡ old.view.total
  part-total part k is = ap (λ (a : PassModel). a.view.total) is ∙ ap (λ (a : PassModel). a.view.total) before

  pub part-fresh : (p : Pool) (q s : ℕ) (part : PassModel) (k : ℕ) → IsOf p.words old → k ≡ ceiling_at p q s → part ≡ with_view now (split_off now.view k) → IsFresh p q s part
  part-fresh p q s part k of ceiling is =
      let mine = less-of p.words of in let total : part.view.total ≡ now.view.total = ap (λ (a : PassModel). a.view.total) is in
      record {
        of = (ap (λ (a : PassModel). a.table) is ∙ mine.0, ap (λ (a : PassModel). a.view.limits) is ∙ mine.1);
        is = ap (λ (a : PassModel). a.view) is ∙ (λ i. view_of (mine.1 i) (ceiling i) (sym total i));
      }

-- the ceilings so far, and one more
pub sum-more : (cs : List ℕ) (k : ℕ) → k < length cs → sum (take (k + 1) cs) ≡ sum (take k cs) + get_or cs k 0
sum-more cs k h = sum_by_more (λ x. x) cs k 0 h

pub sum-within : (cs : List ℕ) (k : ℕ) → k < length cs → sum (take k cs) + get_or cs k 0 ≤ sum cs
sum-within cs k h = sum_by_more_le (λ x. x) cs k 0 h
