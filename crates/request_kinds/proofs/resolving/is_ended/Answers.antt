use Rattle.std.proofs.Common.{sym, ◌∙◌}
use Rattle.request_kinds.proofs.NameLemmas.{split, too_short}
use Rattle.request_kinds.proofs.resolving.is_ended.Goals as goal

pub returns-then-name-front : goal.returns-then-name-front
returns-then-name-front c = sym (too_short c.args.name.now c.args.front.now c.args.ending.now c.if-name-front.true)

pub returns-then-eq : goal.returns-then-eq
returns-then-eq c =
    let parts = split c.args.name.now c.args.front.now c.args.ending.now c.if-name-front.false in
    let first = rw c.split_at.ensures.front at c.eq.ensures in
    let last = rw c.split_at.ensures.back at c.eq-then-eq.ensures in
    rw (parts, sym first ∙ c.if-eq.true) last

pub returns-else-eq : goal.returns-else-eq
returns-else-eq c =
    let parts = split c.args.name.now c.args.front.now c.args.ending.now c.if-name-front.false in
    let first = rw c.split_at.ensures.front at c.eq.ensures in
    rw (parts, sym first ∙ c.if-eq.false) c.if-eq.false
