-- A pass after each step that changes it.
-- Elasticsearch Reference 8, 'Circuit breaker settings', 'Parent circuit breaker', step by step.
use Rattle.std.specs.Prelude.{ℕ, ◌+◌, ◌-◌, nat_le, if◌then◌else◌}
use Rattle.agg_model.specs.declared.breaker.Limits.{Limits}
use Rattle.agg_model.specs.declared.breaker.Child.{Child}
use Rattle.agg_model.specs.declared.breaker.Which.TheVariants.{Parent}
use Rattle.breaker_words.specs.declared.trial.Trial.TheVariants.{Rest, ChildRefused, ChildGranted, ParentRefused, ChildReturning, ParentGiven}
use Rattle.breaker_words.specs.declared.view.Accounts.{Accounts}
use Rattle.breaker_words.specs.declared.view.View.{View}
use Rattle.agg_model.specs.Breakers.{which_of, limit_of}
use Rattle.breaker_words.specs.Accounts.{account, put, raised_account, lowered_account, tripped_account, noted_account, marked_account, joined_account}
use Rattle.breaker_words.specs.Trials.{is_child_refused}
use Rattle.breaker_words.specs.Views.{view_of}

abbrev pub after_set_ceiling : View → ℕ → View
after_set_ceiling v t = record v {
  cap = t;
  total = t;
  accounts = record {
    request = marked_account v.accounts.request;
    fielddata = marked_account v.accounts.fielddata;
    inflight = marked_account v.accounts.inflight;
    parent = marked_account v.accounts.parent;
  };
}

-- the pass that keeps the rest of the cap
abbrev pub after_split : View → ℕ → View
after_split v k = record v { cap = v.cap - k }

-- the new pass, which has the cap k
abbrev pub split_off : View → ℕ → View
split_off v k = view_of v.limits k v.total

-- the ceiling is that of the one whose cap is above 0, and the first's where both or neither are
abbrev pub after_join : View → View → View
after_join v w = let p = nat_le 1 v.cap in let q = nat_le 1 w.cap in record {
  limits = v.limits;
  cap = v.cap + w.cap;
  total = if p then v.total else (if q then w.total else v.total);
  accounts = record {
    request = joined_account p q v.accounts.request w.accounts.request;
    fielddata = joined_account p q v.accounts.fielddata w.accounts.fielddata;
    inflight = joined_account p q v.accounts.inflight w.accounts.inflight;
    parent = joined_account p q v.accounts.parent w.accounts.parent;
  };
  trial = Rest;
  child = v.child;
  amount = v.amount;
}

-- the child's word has become n: granted exactly where n is at most the limit
abbrev pub after_try_child : Limits → View → Child → ℕ → ℕ → View
after_try_child l v c a n = record v {
  accounts = put v.accounts (which_of c) (noted_account (account v.accounts (which_of c)) a n);
  trial = if nat_le n (limit_of l (which_of c)) then ChildGranted else ChildRefused;
  child = c;
  amount = a;
}

-- a trip of the child where the child was the one that refused
abbrev pub after_take_back_child : View → View
after_take_back_child v = record v {
  accounts = if is_child_refused v.trial then put v.accounts (which_of v.child) (tripped_account (account v.accounts (which_of v.child))) else v.accounts;
  trial = Rest;
}

abbrev pub noted_parent : View → ℕ → Accounts
noted_parent v n = record v.accounts { parent = noted_account v.accounts.parent v.amount n }

-- a charge of a at the child c is granted by both
abbrev pub raised_both : Accounts → Child → ℕ → Accounts
raised_both k c a = put (put k Parent (raised_account k.parent a)) (which_of c) (raised_account (account k (which_of c)) a)

-- the parent's word has become n: granted exactly where n is at most the limit
abbrev pub after_try_parent : Limits → View → ℕ → View
after_try_parent l v n =
    if nat_le n l.parent
    then record v { accounts = raised_both (noted_parent v n) v.child v.amount; trial = Rest }
    else record v { accounts = noted_parent v n; trial = ParentRefused }

-- a trip of the parent; the child's charge is still to be taken back
abbrev pub after_take_back_parent : View → View
after_take_back_parent v = record v { accounts = put v.accounts Parent (tripped_account v.accounts.parent); trial = ChildReturning }

abbrev pub after_give_parent : View → Child → ℕ → View
after_give_parent v c a = record v { accounts = put v.accounts Parent (lowered_account v.accounts.parent a); trial = ParentGiven; child = c; amount = a }

abbrev pub after_give_child : View → View
after_give_child v = record v { accounts = put v.accounts (which_of v.child) (lowered_account (account v.accounts (which_of v.child)) v.amount); trial = Rest }
