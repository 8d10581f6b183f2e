use Rattle.std.proofs.Common.{◌≡◌, ℕ, ◌*◌, ◌/◌, ◌∷◌, [], false, List, sym, ap, subst, refl, ◌∙◌}
use Rattle.arrival_moves.specs.declared.item.Item.TheVariants.{Claimed, Loaded, Arrived, Put, Batch}
use Rattle.arrival_moves.specs.declared.label.Label.{Label}
use Rattle.arrival_moves.specs.declared.plan.Plan.{Plan}
use Rattle.arrival_moves.specs.declared.view.View.{View}
use Rattle.arrival_moves.specs.AfterMove.{after_take_task, after_arrive, after_put, after_count}
use Rattle.arrival_moves.specs.Items.{is_loaded}
use Rattle.arrival_moves.specs.Labels.{task_label, no_label, joined_label}
use Rattle.arrival_moves.specs.Lists.{numbers_from, without}
use Rattle.arrival_moves.specs.Plans.{search_of, batch_size}
use Rattle.arrival_table.specs.Holding.{HasBatch, found_item}
use Rattle.arrival_table.specs.Models.{DeskModel, with_view}
use Rattle.arrival_table.proofs.OneItem.{claimed_has, loaded_hand, loaded_has, arrived_hand, arrived_has, put_hand, put_has, counted_last, batch_has, taken_hand}
use Rattle.shard_tests.proofs.carried_passes.run_task.Goals as goal

-- the hand after each call, from the desk that the call before it left
module _ (p : Plan) (one : p ≡ record { tasks = 0 ∷ []; searches = 1; batch = 2 }) (t : ℕ) (a b c d e : DeskModel) (claimed : a.view.hand ≡ Claimed 0 ∷ []) (took : b ≡ with_view a (after_take_task a.view 0)) where
  loaded : b.view.hand ≡ Loaded (record { task = 0; failed = false }) ∷ []
  loaded = ap (λ (x : DeskModel). x.view.hand) took ∙ loaded_hand 0 a.view claimed

  module _ (drew : c ≡ with_view b (after_arrive b.view 0 (found_item (is_loaded 0) b.view) (search_of p 0) t)) where
    arrived : c.view.hand ≡ Arrived (record { task = 0; failed = false; search = 0; ticket = t; at_slot = false }) ∷ []
    arrived = let first : search_of p 0 ≡ 0 = ap (λ (z : Plan). search_of z 0) one in
        ap (λ (x : DeskModel). x.view.hand) drew ∙ (arrived_hand 0 (search_of p 0) t false b.view loaded ∙ (λ i. Arrived (record { task = 0; failed = false; search = first i; ticket = t; at_slot = false }) ∷ []))

    module _ (puts : d ≡ with_view c (after_put c.view 0 t)) where
      was_put : d.view.hand ≡ Put (record { search = 0; ticket = t }) ∷ []
      was_put = ap (λ (x : DeskModel). x.view.hand) puts ∙ put_hand 0 0 t false c.view arrived

      counted : (n : ℕ) → n ≡ t / p.batch → e ≡ with_view d (after_count p d.view 0 t (batch_size p 0 n))
          → e.view.hand ≡ Batch (record { search = 0; batch = t / p.batch; due = numbers_from (t / p.batch * p.batch) (batch_size p 0 (t / p.batch)); taken = no_label; at_slot = false }) ∷ []
      counted n is last = ap (λ (x : DeskModel). x.view.hand) last ∙ (ap (λ m. (after_count p d.view 0 t (batch_size p 0 m)).hand) is ∙ counted_last p 0 t d.view was_put)

pub take_task-task-requires-clause-claimed : goal.take_task-task-requires-clause-claimed
take_task-task-requires-clause-claimed g c = claimed_has 0 c.args.desk.now.view c.requires.claimed

pub arrive-ticket-requires-clause-loaded : goal.arrive-ticket-requires-clause-loaded
arrive-ticket-requires-clause-loaded g c = let a = c.args.desk.now in let b = c.take_task-task.new.desk in loaded_has 0 false b.view (loaded c.args.table.now.plan c.requires.plan 0 a b a a a c.requires.claimed c.take_task-task.ensures.desk)

pub put-requires-clause-ticket : goal.put-requires-clause-ticket
put-requires-clause-ticket g c = let t = c.arrive-ticket.result in let a = c.args.desk.now in let b = c.take_task-task.new.desk in let d = c.arrive-ticket.new.desk in
    arrived_has 0 0 t false d.view (arrived c.args.table.now.plan c.requires.plan t a b d a a c.requires.claimed c.take_task-task.ensures.desk c.arrive-ticket.ensures.desk)

pub count-requires-clause-put : goal.count-requires-clause-put
count-requires-clause-put g c = let p : Plan = c.args.table.now.plan in let t = c.arrive-ticket.result in let a = c.args.desk.now in let b = c.take_task-task.new.desk in let d = c.arrive-ticket.new.desk in let e = c.put.new.desk in
    put_has p 0 t e.view (was_put p c.requires.plan t a b d e a c.requires.claimed c.take_task-task.ensures.desk c.arrive-ticket.ensures.desk c.put.ensures)

pub take_result-merged-requires-clause-batch : goal.take_result-merged-requires-clause-batch
take_result-merged-requires-clause-batch g c = let p : Plan = c.args.table.now.plan in let t = c.arrive-ticket.result in let a = c.args.desk.now in let b = c.take_task-task.new.desk in let d = c.arrive-ticket.new.desk in let e = c.put.new.desk in let f = c.count.new.desk in let n = t / p.batch in
    batch_has 0 n (numbers_from (n * p.batch) (batch_size p 0 n)) no_label f.view
    (counted p c.requires.plan t a b d e f c.requires.claimed c.take_task-task.ensures.desk c.arrive-ticket.ensures.desk c.put.ensures c.in-Some.batch c.in-Some.ensures.last.0 c.in-Some.ensures.last.1)

pub put_merged-requires-clause-batch : goal.put_merged-requires-clause-batch
put_merged-requires-clause-batch g c = let p : Plan = c.args.table.now.plan in let t = c.arrive-ticket.result in let a = c.args.desk.now in let b = c.take_task-task.new.desk in let d = c.arrive-ticket.new.desk in let e = c.put.new.desk in let f = c.count.new.desk in let n = t / p.batch in
    let due : List ℕ = numbers_from (n * p.batch) (batch_size p 0 n) in let l : Label = task_label c.take_result-merged.result.task in let now : View = c.take_result-merged.new.desk.view in
    let h = counted p c.requires.plan t a b d e f c.requires.claimed c.take_task-task.ensures.desk c.arrive-ticket.ensures.desk c.put.ensures c.in-Some.batch c.in-Some.ensures.last.0 c.in-Some.ensures.last.1 in
    let k : now.hand ≡ Batch (record { search = 0; batch = n; due = without t due; taken = joined_label no_label l; at_slot = false }) ∷ [] =
    ap (λ (x : DeskModel). x.view.hand) c.take_result-merged.ensures.desk ∙ taken_hand 0 n due no_label f.view h p t l refl in
    subst (λ m. HasBatch 0 m now) (sym c.in-Some.ensures.last.0) (batch_has 0 n (without t due) (joined_label no_label l) now k)
