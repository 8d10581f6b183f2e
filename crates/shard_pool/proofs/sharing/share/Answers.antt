use Rattle.std.proofs.Common.{◌≡◌, ◌+◌, ◌-◌, ◌++◌, ◌∷◌, [], ℕ, List, length, ◌∙◌, ap, sum_by, arith}
use Rattle.std.proofs.lemmas.List.{length-append}
use Rattle.std.proofs.lemmas.List.Elements.{All-push, All-same}
use Rattle.std.proofs.lemmas.List.Sums.{sum_by_push}
use Rattle.arrival_table.specs.Models.{DeskModel}
use Rattle.pool_worker.specs.Workers.{IsReady}
use Rattle.shard_pool.proofs.sharing.share.Goals as goal

abbrev claims_of : DeskModel → ℕ
claims_of d = d.view.left + d.view.drawn

pub loop-preserved : goal.loop-preserved
loop-preserved g c =
    let i = c.loop.invariant in let d = c.loop.first in let desks = c.loop.desks.items in let other = c.split-other.result in
    let mine = c.split-other.ensures.desk in let its = c.split-other.ensures.result in
    let pushed : c.push_reserved.new.self.items ≡ desks ++ other ∷ [] = c.push_reserved.ensures.items in
    let left : c.split-other.new.desk.view.left ≡ d.view.left - (c.args.tasks + 1) = ap (λ (a : DeskModel). a.view.left) mine in
    let given : other.view.left ≡ c.args.tasks + 1 = ap (λ (a : DeskModel). a.view.left) its in
    let none : other.view.drawn ≡ 0 = ap (λ (a : DeskModel). a.view.drawn) its in
    let long : length c.push_reserved.new.self.items ≡ length desks + 1 = ap length pushed ∙ length-append desks (other ∷ []) in
    let sum : sum_by claims_of c.push_reserved.new.self.items ≡ sum_by claims_of desks + claims_of other = ap (sum_by claims_of) pushed ∙ sum_by_push claims_of desks other in
    let enough = i.enough in let number = i.number in let claims = i.claims in let few = c.requires.few in let at_once = c.requires.at_once in
    record {
      of = ap (λ (a : DeskModel). a.table) mine ∙ i.of;
      drawn = ap (λ (a : DeskModel). a.view.drawn) mine ∙ i.drawn;
      empty = ap (λ (a : DeskModel). a.view.hand) mine ∙ i.empty;
      enough = omega (arith, left, enough, few);
      number = omega (arith, long, number);
      room = let cap = c.push_reserved.ensures.capacity in let room = i.room in omega (arith, cap, room);
      ready = All-same (IsReady c.args.table.now) c.push_reserved.new.self.items (desks ++ other ∷ []) pushed (All-push (IsReady c.args.table.now) desks other i.ready (record {
        of = ap (λ (a : DeskModel). a.table) its ∙ i.of;
        drawn = omega (arith, none);
        claims = let count = c.requires.tasks in omega (arith, given, none, count);
        empty = ap (λ (a : DeskModel). a.view.hand) its;
      }));
      claims = omega (arith, sum, left, given, none, claims, enough, few, at_once);
    }

pub returns-clause-number : goal.returns-clause-number
returns-clause-number g c =
    let long = ap length c.push_reserved-2.ensures.items ∙ length-append c.loop.desks.items (c.loop.first ∷ []) in let number = c.loop.invariant.number in omega (arith, long, number)

pub returns-clause-ready : goal.returns-clause-ready
returns-clause-ready g c =
    let i = c.loop.invariant in let d = c.loop.first in let enough = i.enough in let none = i.drawn in let few = c.requires.few in let at_once = c.requires.at_once in let count = c.requires.tasks in
    All-same (IsReady c.args.table.now) c.push_reserved-2.new.self.items (c.loop.desks.items ++ d ∷ []) c.push_reserved-2.ensures.items (All-push (IsReady c.args.table.now) c.loop.desks.items d i.ready (record {
      of = i.of;
      drawn = omega (arith, none);
      claims = omega (arith, enough, none, few, at_once, count);
      empty = i.empty;
    }))

pub returns-clause-claims : goal.returns-clause-claims
returns-clause-claims g c =
    let i = c.loop.invariant in let d = c.loop.first in
    let sum : sum_by claims_of c.push_reserved-2.new.self.items ≡ sum_by claims_of c.loop.desks.items + claims_of d = ap (sum_by claims_of) c.push_reserved-2.ensures.items ∙ sum_by_push claims_of c.loop.desks.items d in
    let claims = i.claims in let none = i.drawn in omega (arith, sum, claims, none)
