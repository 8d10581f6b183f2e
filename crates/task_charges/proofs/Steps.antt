-- A charge, a return, and no step, as one more amount of a task.
use Rattle.std.specs.Prelude.{◌≡◌, refl, ◌≢◌, ℕ, ℤ, pos, ◌-ℤ◌, ◌+◌, ◌-◌, ◌≤◌, ◌<◌, List, [], ◌∷◌, ◌++◌, length}
use Rattle.std.proofs.Common.{◌∙◌, ap, arith}
use Rattle.std.proofs.lemmas.Int.{ints}
use Rattle.std.proofs.lemmas.List.{take_all}
use Rattle.agg_evaluation.specs.Shard.{int_sum}
use Rattle.agg_model.specs.declared.breaker.Child.TheVariants as child
use Rattle.agg_model.specs.declared.breaker.Limits.{Limits}
use Rattle.agg_model.specs.declared.breaker.Which.{Which}
use Rattle.agg_model.specs.declared.breaker.Which.TheVariants.{Request, Fielddata, Inflight, Parent}
use Rattle.breaker_tree.specs.Charge.{IsAtRestAgain, IsCharged, IsGivenBack}
use Rattle.breaker_words.specs.Accounts.{account}
use Rattle.breaker_words.specs.Soundness.{IsBounded}
use Rattle.breaker_words.specs.Views.{hold_of}
use Rattle.breaker_words.specs.declared.trial.Trial.TheVariants.{Rest}
use Rattle.breaker_words.specs.declared.view.View.{View}
use Rattle.growth_laws.proofs.Paying.{paid-less, paid-more, paid-none}
use Rattle.growth_laws.specs.Paid.{IsPaid, Standing, granted_total}
use Rattle.task_charges.specs.Charged.{HasPaid, standing_at}

pub again : (v u w : View) → IsAtRestAgain v u → IsAtRestAgain u w → IsAtRestAgain v w
again v u w a b = record { limits = b.limits ∙ a.limits; cap = b.cap ∙ a.cap; total = b.total ∙ a.total; rest = b.rest }

-- what a return leaves alone
pub untouched-back : (u w : View) (n : ℕ) → IsGivenBack u child.Request n w → (x : Which) → x ≢ Request → x ≢ Parent → account w.accounts x ≡ account u.accounts x
untouched-back u w n h x r p = λ i. record { hold = held x r p i; granted = h.granted x i; trips = h.trips x i; most = h.most x i; seen = h.seen x i }
  where
    held : (x : Which) → x ≢ Request → x ≢ Parent → hold_of w x ≡ hold_of u x
    held Request r p = absurd (r refl)
    held Fielddata r p = let e = h.holds Fielddata in omega arith
    held Inflight r p = let e = h.holds Inflight in omega arith
    held Parent r p = absurd (p refl)

pub paid-nothing : (l : Limits) (v : View) → v.trial ≡ Rest → IsBounded l v → HasPaid l v v []
paid-nothing l v rest b = record {
  same = record { limits = refl; cap = refl; total = refl; rest = rest };
  request = paid-none l.request (standing_at v Request) (b.holds Request) (b.granted Request);
  parent = paid-none l.parent (standing_at v Parent) (b.holds Parent) (b.granted Parent);
  trips = λ x. refl;
  seen = λ x. omega arith;
  untouched = λ x r p. refl;
}

-- what is held now is within the limit
now-within : (limit : ℕ) (s t : Standing) (ns : List ℤ) → IsPaid limit s t ns → t.hold ≤ limit
now-within limit s t ns p = let all = p.within (length ns) in let same = ap int_sum (take_all (length ns) ns (omega arith)) in let held = p.held in omega (arith, ints)

module _ (l : Limits) (v u w : View) (ns : List ℤ) (paid : HasPaid l v u ns) (held wanted : ℕ) where
  pub paid-charge : held < wanted → IsCharged l u child.Request (wanted - held) w → HasPaid l v w (ns ++ (pos wanted -ℤ pos held) ∷ [])
  paid-charge more c = record {
    same = again v u w paid.same c.same;
    request = paid-more l.request (standing_at v Request) (standing_at u Request) (standing_at w Request) ns paid.request held wanted (omega arith)
        (let h = c.holds Request in omega arith) c.granted_child (c.most Request) c.within_child;
    parent = paid-more l.parent (standing_at v Parent) (standing_at u Parent) (standing_at w Parent) ns paid.parent held wanted (omega arith)
        (let h = c.holds Parent in omega arith) c.granted_parent (c.most Parent) c.within_parent;
    trips = λ x. c.trips x ∙ paid.trips x;
    seen = λ x. (let a = c.seen x in let b = paid.seen x in omega arith);
    untouched = λ x r p. c.untouched x r p ∙ paid.untouched x r p;
  }

  pub paid-back : wanted < held → IsGivenBack u child.Request (held - wanted) w → HasPaid l v w (ns ++ (pos wanted -ℤ pos held) ∷ [])
  paid-back less c = record {
    same = again v u w paid.same c.same;
    request = paid-less l.request (standing_at v Request) (standing_at u Request) (standing_at w Request) ns paid.request held wanted less
        (let h = c.holds Request in omega arith) (c.granted Request) (c.most Request);
    parent = paid-less l.parent (standing_at v Parent) (standing_at u Parent) (standing_at w Parent) ns paid.parent held wanted less
        (let h = c.holds Parent in omega arith) (c.granted Parent) (c.most Parent);
    trips = λ x. c.trips x ∙ paid.trips x;
    seen = λ x. (let a = c.seen x in let b = paid.seen x in omega arith);
    untouched = λ x r p. untouched-back u w (held - wanted) c x r p ∙ paid.untouched x r p;
  }

  still : (limit : ℕ) (s t : Standing) → IsPaid limit s t ns → wanted ≡ held → IsPaid limit s t (ns ++ (pos wanted -ℤ pos held) ∷ [])
  still limit s t p e =
      let within = now-within limit s t ns p in
      let stops = p.granted_is in
      paid-more limit s t t ns p held wanted (omega arith) (omega arith) (let g : t.granted ≡ granted_total (t.granted + (wanted - held)) = omega arith in g) (omega arith) (omega arith)

  pub paid-still : wanted ≡ held → HasPaid l v u (ns ++ (pos wanted -ℤ pos held) ∷ [])
  paid-still e = record {
    same = paid.same;
    request = still l.request (standing_at v Request) (standing_at u Request) paid.request e;
    parent = still l.parent (standing_at v Parent) (standing_at u Parent) paid.parent e;
    trips = paid.trips;
    seen = paid.seen;
    untouched = paid.untouched;
  }
