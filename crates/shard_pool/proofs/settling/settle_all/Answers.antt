use Rattle.std.proofs.Common.{rules, ◌≡◌, List, [], ◌∷◌, ◌++◌, length, sym, ap, subst, ◌∙◌, append_assoc, arith, length-append}
use Rattle.std.specs.Vec.Iter.{into_iter_items}
use Rattle.shard_pool.specs.declared.gathered.Gathered.{Gathered}
use Rattle.shard_pool.proofs.Returns.{AreSettled, lost-next, settled-more}
use Rattle.shard_pool.proofs.settling.settle_all.Goals as goal

pub settle-requires-clause-held : goal.settle-requires-clause-held
settle-requires-clause-held c =
    let split : into_iter_items c.loop-one.one-iterator ≡ c.in-Some.one ∷ into_iter_items c.next.new.self = search rules in
    lost-next c.args.pass.now.view c.loop-one.pass.view c.args.gathered.items c.loop-one.yielded (into_iter_items c.next.new.self) c.in-Some.one
    (ap (λ (gs : List Gathered). c.loop-one.yielded ++ gs) (sym split) ∙ c.loop-one.invariant.rest) c.requires.held c.loop-one.invariant.settled.given

pub loop-one-preserved : goal.loop-one-preserved
loop-one-preserved c =
    let split : into_iter_items c.loop-one.one-iterator ≡ c.in-Some.one ∷ into_iter_items c.next.new.self = search rules in
    record {
      next = tt;
      finite = tt;
      settled = subst (AreSettled c.args.words.now c.args.pass.now.view c.settle.new.pass (c.loop-one.yielded ++ c.in-Some.one ∷ [])) (sym c.push_reserved.ensures.items)
          (settled-more c.args.words.now c.args.pass.now.view c.loop-one.pass c.settle.new.pass c.loop-one.yielded c.loop-one.ends.items c.in-Some.one c.settle.result c.loop-one.invariant.settled c.settle.ensures.of c.settle.ensures.given c.settle.ensures.end);
      rest = append_assoc c.loop-one.yielded (c.in-Some.one ∷ []) (into_iter_items c.next.new.self) ∙ ap (λ (gs : List Gathered). c.loop-one.yielded ++ gs) (sym split) ∙ c.loop-one.invariant.rest;
      room = (let a = ap length c.push_reserved.ensures.items in let b = length-append c.loop-one.ends.items (c.settle.result ∷ []) in let s = ap length split in let k = c.push_reserved.ensures.capacity in let r = c.loop-one.invariant.room in omega (arith, a, b, s, k, r));
    }
