use Rattle.std.proofs.Common.{◌≡◌, ℕ, ◌+◌, ◌*◌, ◌/◌, ◌%◌, ◌∷◌, [], false, sym, ap, ◌∙◌, div-add-mod', arith}
use Rattle.std.proofs.lemmas.Option.{IfSome_then}
use Rattle.arrival_moves.specs.declared.plan.Plan.{Plan}
use Rattle.arrival_moves.specs.declared.item.Item.TheVariants.{Arrived, Put}
use Rattle.arrival_moves.specs.Plans.{search_of, tasks_of}
use Rattle.arrival_table.specs.Models.{DeskModel}
use Rattle.arrival_table.proofs.OneItem.{claimed_has, loaded_has, arrived_hand, arrived_has, put_hand, put_has}
use Rattle.shard_tests.proofs.desks.run_task.Goals as goal

pub take_task-load-requires-clause-claimed : goal.take_task-load-requires-clause-claimed
take_task-load-requires-clause-claimed c = claimed_has c.args.task c.args.desk.now.view c.requires.claimed

pub arrive-ticket-requires-clause-loaded : goal.arrive-ticket-requires-clause-loaded
arrive-ticket-requires-clause-loaded c = loaded_has c.args.task c.args.fails c.end_task.new.desk.view c.end_task.ensures.loaded

pub put-requires-clause-ticket : goal.put-requires-clause-ticket
put-requires-clause-ticket c = let k = c.args.task in let t = c.arrive-ticket.result in let v = c.end_task.new.desk.view in
    let a : c.arrive-ticket.new.desk.view.hand ≡ Arrived (record { task = k; failed = c.args.fails; search = c.args.search; ticket = t; at_slot = false }) ∷ [] = ap (λ (d : DeskModel). d.view.hand) c.arrive-ticket.ensures.desk ∙ (arrived_hand k (search_of c.args.table.now.plan k) t c.args.fails v c.end_task.ensures.loaded
    ∙ (λ i. Arrived (record { task = k; failed = c.args.fails; search = sym c.requires.search i; ticket = t; at_slot = false }) ∷ [])) in
    arrived_has k c.args.search t c.args.fails c.arrive-ticket.new.desk.view a

pub count-requires-clause-put : goal.count-requires-clause-put
count-requires-clause-put c = let k = c.args.task in let t = c.arrive-ticket.result in let v = c.end_task.new.desk.view in
    let a : c.arrive-ticket.new.desk.view.hand ≡ Arrived (record { task = k; failed = c.args.fails; search = c.args.search; ticket = t; at_slot = false }) ∷ [] = ap (λ (d : DeskModel). d.view.hand) c.arrive-ticket.ensures.desk ∙ (arrived_hand k (search_of c.args.table.now.plan k) t c.args.fails v c.end_task.ensures.loaded
    ∙ (λ i. Arrived (record { task = k; failed = c.args.fails; search = sym c.requires.search i; ticket = t; at_slot = false }) ∷ [])) in
    let p : c.put.new.desk.view.hand ≡ Put (record { search = c.args.search; ticket = t }) ∷ [] = ap (λ (d : DeskModel). d.view.hand) c.put.ensures ∙ put_hand k c.args.search t c.args.fails c.arrive-ticket.new.desk.view a in
    put_has c.args.table.now.plan c.args.search t c.put.new.desk.view p

pub returns-clause-batch : goal.returns-clause-batch
returns-clause-batch c = IfSome_then c.count.result c.count.ensures.last (λ b h. let p : Plan = c.args.table.now.plan in let t = c.arrive-ticket.result in let n : ℕ = p.batch in let dn : ℕ = t / n * n in let whole : dn + t % n ≡ t = div-add-mod' t n in
    let is : b * n ≡ dn = ap (λ k. k * n) h.0 in let low = c.arrive-ticket.ensures.ticket in let same : tasks_of p c.args.search ≡ tasks_of p (search_of p c.args.task) = ap (tasks_of p) c.requires.search in omega arith)
