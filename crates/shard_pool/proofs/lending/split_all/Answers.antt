use Rattle.std.proofs.Common.{◌≡◌, ◌+◌, ◌*◌, ◌<◌, ◌++◌, ◌∷◌, [], ℕ, List, All, length, get_or, map, take, sum, ◌∙◌, ap, sym, refl, subst, append_assoc, arith}
use Rattle.std.specs.Vec.Iter.{into_iter_items}
use Rattle.std.proofs.lemmas.List.{append-nil, length-append, map-append, take_all, take_more}
use Rattle.std.proofs.lemmas.List.Elements.{All-push, All-same}
use Rattle.arrival_table.specs.declared.opening.Task.{Task}
use Rattle.breaker_words.specs.Passes.{IsOf, PassModel}
use Rattle.shard_pool.proofs.Lent.{less-more, less-of, less-rest, less-room, part-fresh, part-total, sum-more, sum-within, with_less}
use Rattle.shard_pool.proofs.Rows.{next-place, waiting-number}
use Rattle.shard_pool.proofs.lending.split_all.Goals as goal
use Rattle.shard_pool.specs.Tasks.{place_of, task_places}
use Rattle.shard_pool.specs.declared.waiting.Waiting.{Waiting}
use Rattle.pool_results.specs.declared.load.Load.{Load}
use Rattle.pool_results.specs.Pools.{IsTask, Pool, ceiling_at, shard_count}

-- the task that comes next, and its ceiling
next-task : (p : Pool) (cs : List ℕ) (all yielded : List Waiting) (x : Waiting) (rest : List Waiting) (k : ℕ) → yielded ++ x ∷ rest ≡ all → map place_of all ≡ task_places (length p.searches) (shard_count p)
    → cs ≡ p.ceilings → length cs ≡ length p.searches * shard_count p → k ≡ length yielded → IsTask p x.search x.shard × (get_or cs k 0 ≡ ceiling_at p x.search x.shard) × (length yielded < length cs)
next-task p cs all yielded x rest k left places ceilings count same =
    let r = next-place (length p.searches) (shard_count p) all yielded x rest left places in let low = r.3 in
    (record { search = r.1; shard = r.2 }, (λ i. get_or (ceilings i) ((same ∙ sym r.0) i) 0), omega (arith, low, count))

no-items : (xs : List Waiting) (n : ℕ) → n ≡ length xs → n ≡ 0 → xs ≡ []
no-items [] n e h = refl
no-items (x ∷ xs) n e h = absurd (omega (arith, e, h))

-- a list with one element more
map-pushed : {X Y : Type 0} (f : X → Y) (old new : List X) (t : X) (ys : List Y) → new ≡ old ++ t ∷ [] → map f old ≡ ys → map f new ≡ ys ++ f t ∷ []
map-pushed f old new t ys is before = ap (map f) is ∙ map-append f old (t ∷ []) ∙ ap (λ zs. zs ++ f t ∷ []) before

all-pushed : {X : Type 0} (P : X → Type 0) (old new : List X) (t : X) → new ≡ old ++ t ∷ [] → All P old → P t → All P new
all-pushed P old new t is before mine = All-same P new (old ++ t ∷ []) is (All-push P old t before mine)

pub split-part-requires-clause-of : goal.split-part-requires-clause-of
split-part-requires-clause-of g c = less-of c.args.pass.now c.loop-one.pass (sum (take (length c.loop-one.yielded) c.args.ceilings.now)) c.loop-one.invariant.lent c.args.words.now c.requires.of

pub split-part-requires-clause-rest : goal.split-part-requires-clause-rest
split-part-requires-clause-rest g c = less-rest c.args.pass.now c.loop-one.pass (sum (take (length c.loop-one.yielded) c.args.ceilings.now)) c.loop-one.invariant.lent c.requires.rest

pub bounds-ceilings-len : goal.bounds-ceilings-len
bounds-ceilings-len g c =
    let p = g.J.PoolCall.pool in let cs = c.args.ceilings.now in let yielded = c.loop-one.yielded in let x = c.in-Some.one in let rest : List Waiting = into_iter_items c.next.new.self in
    let steps : into_iter_items c.loop-one.one-iterator ≡ x ∷ rest = c.in-Some.ensures.steps.0 in
    let left : yielded ++ x ∷ rest ≡ c.args.waiting.items = ap (λ (xs : List Waiting). yielded ++ xs) (sym steps) ∙ c.loop-one.invariant.left in
    let same : c.len.result ≡ length yielded = c.len.ensures ∙ c.loop-one.invariant.number in
    let facts = next-task p cs c.args.waiting.items yielded x rest c.len.result left c.requires.waiting c.requires.ceilings c.requires.number same in
    let low = facts.2 in omega (arith, low, same)

pub split-part-requires-clause-room : goal.split-part-requires-clause-room
split-part-requires-clause-room g c =
    let p = g.J.PoolCall.pool in let cs = c.args.ceilings.now in let yielded = c.loop-one.yielded in let x = c.in-Some.one in let rest : List Waiting = into_iter_items c.next.new.self in
    let steps : into_iter_items c.loop-one.one-iterator ≡ x ∷ rest = c.in-Some.ensures.steps.0 in
    let left : yielded ++ x ∷ rest ≡ c.args.waiting.items = ap (λ (xs : List Waiting). yielded ++ xs) (sym steps) ∙ c.loop-one.invariant.left in
    let same : c.len.result ≡ length yielded = c.len.ensures ∙ c.loop-one.invariant.number in
    let facts = next-task p cs c.args.waiting.items yielded x rest c.len.result left c.requires.waiting c.requires.ceilings c.requires.number same in
    let within = sum-within cs (length yielded) facts.2 in let at : get_or cs c.len.result 0 ≡ get_or cs (length yielded) 0 = ap (λ j. get_or cs j 0) same in
    less-room c.args.pass.now c.loop-one.pass (sum (take (length yielded) cs)) c.loop-one.invariant.lent (get_or cs c.len.result 0) (sum cs) (omega (arith, within, at)) c.requires.room

pub invariant_of-load : goal.invariant_of-load
invariant_of-load g c =
    let p = g.J.PoolCall.pool in let cs = c.args.ceilings.now in let yielded = c.loop-one.yielded in let x = c.in-Some.one in let rest : List Waiting = into_iter_items c.next.new.self in
    let steps : into_iter_items c.loop-one.one-iterator ≡ x ∷ rest = c.in-Some.ensures.steps.0 in
    let left : yielded ++ x ∷ rest ≡ c.args.waiting.items = ap (λ (xs : List Waiting). yielded ++ xs) (sym steps) ∙ c.loop-one.invariant.left in
    let same : c.len.result ≡ length yielded = c.len.ensures ∙ c.loop-one.invariant.number in
    let facts = next-task p cs c.args.waiting.items yielded x rest c.len.result left c.requires.waiting c.requires.ceilings c.requires.number same in
    record {
      task = facts.0;
      room = x.room;
      fresh = part-fresh c.args.pass.now c.loop-one.pass (sum (take (length yielded) cs)) c.loop-one.invariant.lent p x.search x.shard c.split-part.result (get_or cs c.len.result 0)
          (subst (λ w. IsOf w c.args.pass.now) c.requires.words c.requires.of) facts.1 c.split-part.ensures.result;
    }

pub loop-one-preserved : goal.loop-one-preserved
loop-one-preserved g c =
    let p = g.J.PoolCall.pool in let cs = c.args.ceilings.now in let yielded = c.loop-one.yielded in let x = c.in-Some.one in let rest : List Waiting = into_iter_items c.next.new.self in
    let steps : into_iter_items c.loop-one.one-iterator ≡ x ∷ rest = c.in-Some.ensures.steps.0 in
    let left : yielded ++ x ∷ rest ≡ c.args.waiting.items = ap (λ (xs : List Waiting). yielded ++ xs) (sym steps) ∙ c.loop-one.invariant.left in
    let same : c.len.result ≡ length yielded = c.len.ensures ∙ c.loop-one.invariant.number in
    let facts = next-task p cs c.args.waiting.items yielded x rest c.len.result left c.requires.waiting c.requires.ceilings c.requires.number same in
    let T : Type 0 = Task (Load g.row.J.Denot g.J.PoolCall) in let i = c.loop-one.invariant in let old = c.args.pass.now in
    let n : ℕ = sum (take (length yielded) cs) in let k : ℕ = get_or cs c.len.result 0 in
    let long : length (yielded ++ x ∷ []) ≡ length yielded + 1 = length-append yielded (x ∷ []) in
    let at : k ≡ get_or cs (length yielded) 0 = ap (λ j. get_or cs j 0) same in
    let more = sum-more cs (length yielded) facts.2 in
    let after : n + k ≡ sum (take (length (yielded ++ x ∷ [])) cs) = ap (λ j. n + j) at ∙ sym more ∙ ap (λ j. sum (take j cs)) (sym long) in
    let pushed = c.push_reserved.ensures.items in
    record {
      left = append_assoc yielded (x ∷ []) rest ∙ left;
      lent = less-more old c.loop-one.pass n i.lent c.split-part.new.pass k c.split-part.ensures.pass ∙ ap (with_less old) after;
      number = let len = c.push_reserved.ensures.len in let number = i.number in omega (arith, len, number, long);
      room = let cap = c.push_reserved.ensures.capacity in let room = i.room in omega (arith, cap, room);
      places = map-pushed (λ (t : T). (t.load.search, t.load.shard)) c.loop-one.tasks.items c.push_reserved.new.self.items _ (map place_of yielded) pushed i.places ∙ sym (map-append place_of yielded (x ∷ []));
      searches = all-pushed (λ (t : T). t.search ≡ t.load.search) c.loop-one.tasks.items c.push_reserved.new.self.items _ pushed i.searches refl;
      caps = map-pushed (λ (t : T). t.load.pass.view.cap) c.loop-one.tasks.items c.push_reserved.new.self.items _ (take (length yielded) cs) pushed i.caps
          ∙ ap (λ j. take (length yielded) cs ++ j ∷ []) (ap (λ (a : PassModel). a.view.cap) c.split-part.ensures.result ∙ at) ∙ sym (take_more cs (length yielded) 0 facts.2) ∙ ap (λ j. take j cs) (sym long);
      totals = all-pushed (λ (t : T). t.load.pass.view.total ≡ old.view.total) c.loop-one.tasks.items c.push_reserved.new.self.items _ pushed i.totals
          (part-total old c.loop-one.pass n i.lent c.split-part.result k c.split-part.ensures.result);
    }

pub returns-clause-lent : goal.returns-clause-lent
returns-clause-lent g c =
    let p = g.J.PoolCall.pool in let cs = c.args.ceilings.now in let yielded = c.loop-one.yielded in
    let steps : into_iter_items c.loop-one.one-iterator ≡ [] = no-items c.loop-one.one-iterator.rest.items c.loop-one.one-iterator.rest.len c.loop-one.one-iterator.rest.ok.0 c.in-None.ensures.steps.0 in
    let all : yielded ≡ c.args.waiting.items = sym (append-nil yielded) ∙ ap (λ (xs : List Waiting). yielded ++ xs) (sym steps) ∙ c.loop-one.invariant.left in
    let count = waiting-number (length p.searches) (shard_count p) c.args.waiting.items c.requires.waiting in let long : length yielded ≡ length c.args.waiting.items = ap length all in let number = c.requires.number in
    let whole : take (length yielded) cs ≡ cs = take_all (length yielded) cs (omega (arith, count, long, number)) in
    c.loop-one.invariant.lent ∙ ap (λ xs. with_less c.args.pass.now (sum xs)) whole

pub returns-clause-places : goal.returns-clause-places
returns-clause-places g c =
    let yielded = c.loop-one.yielded in let steps : into_iter_items c.loop-one.one-iterator ≡ [] = no-items c.loop-one.one-iterator.rest.items c.loop-one.one-iterator.rest.len c.loop-one.one-iterator.rest.ok.0 c.in-None.ensures.steps.0 in
    let all : yielded ≡ c.args.waiting.items = sym (append-nil yielded) ∙ ap (λ (xs : List Waiting). yielded ++ xs) (sym steps) ∙ c.loop-one.invariant.left in
    c.loop-one.invariant.places ∙ ap (map place_of) all ∙ c.requires.waiting

pub returns-clause-caps : goal.returns-clause-caps
returns-clause-caps g c =
    let p = g.J.PoolCall.pool in let cs = c.args.ceilings.now in let yielded = c.loop-one.yielded in
    let steps : into_iter_items c.loop-one.one-iterator ≡ [] = no-items c.loop-one.one-iterator.rest.items c.loop-one.one-iterator.rest.len c.loop-one.one-iterator.rest.ok.0 c.in-None.ensures.steps.0 in
    let all : yielded ≡ c.args.waiting.items = sym (append-nil yielded) ∙ ap (λ (xs : List Waiting). yielded ++ xs) (sym steps) ∙ c.loop-one.invariant.left in
    let count = waiting-number (length p.searches) (shard_count p) c.args.waiting.items c.requires.waiting in let long : length yielded ≡ length c.args.waiting.items = ap length all in let number = c.requires.number in
    let whole : take (length yielded) cs ≡ cs = take_all (length yielded) cs (omega (arith, count, long, number)) in
    c.loop-one.invariant.caps ∙ whole
