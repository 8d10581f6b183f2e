use Rattle.std.proofs.Common.{◌≡◌, ℕ, ◌+◌, ◌*◌, ◌/◌, ◌%◌, ◌∷◌, [], Bool, false, sym, ap, ◌∙◌, subst, div-add-mod', arith}
use Rattle.std.specs.Prelude.{IsTrue}
use Rattle.std.proofs.lemmas.Option.{IfSome_then}
use Rattle.arrival_moves.specs.declared.item.Item.TheVariants.{Arrived, Loaded, Put}
use Rattle.arrival_moves.specs.declared.plan.Plan.{Plan}
use Rattle.arrival_moves.specs.AfterMove.{after_arrive, after_put}
use Rattle.arrival_moves.specs.Items.{is_loaded}
use Rattle.arrival_moves.specs.Lists.{contains}
use Rattle.arrival_moves.specs.Plans.{search_of, tasks_of}
use Rattle.arrival_table.specs.Holding.{found_item}
use Rattle.arrival_table.specs.Models.{DeskModel, with_view}
use Rattle.arrival_table.proofs.OneItem.{arrived_hand, arrived_has, arrived_mark_is, arrived_task_is, loaded_has, put_hand, put_has}
use Rattle.pool_results.specs.Carried.{has_failed}
use Rattle.pool_worker.proofs.delivering.deliver.Goals as goal

-- the hand after the ticket was drawn, and after the result was put
module _ (p : Plan) (k q t : ℕ) (failed : Bool) (a b : DeskModel) (loaded : a.view.hand ≡ Loaded (record { task = k; failed = failed }) ∷ []) (is : q ≡ search_of p k)
    (drew : b ≡ with_view a (after_arrive a.view k (found_item (is_loaded k) a.view) (search_of p k) t)) where
  arrived : b.view.hand ≡ Arrived (record { task = k; failed = failed; search = q; ticket = t; at_slot = false }) ∷ []
  arrived = ap (λ (d : DeskModel). d.view.hand) drew ∙ (arrived_hand k (search_of p k) t failed a.view loaded
      ∙ (λ i. Arrived (record { task = k; failed = failed; search = sym is i; ticket = t; at_slot = false }) ∷ []))

  was_put : (c : DeskModel) → c ≡ with_view b (after_put b.view q t) → c.view.hand ≡ Put (record { search = q; ticket = t }) ∷ []
  was_put c puts = ap (λ (d : DeskModel). d.view.hand) puts ∙ put_hand k q t failed b.view arrived

pub arrive-ticket-requires-clause-loaded : goal.arrive-ticket-requires-clause-loaded
arrive-ticket-requires-clause-loaded g c = loaded_has c.args.task (has_failed c.args.outcome.work) c.args.desk.now.view c.requires.loaded

pub put-requires-clause-ticket : goal.put-requires-clause-ticket
put-requires-clause-ticket g c =
    let k = c.args.task in let q = c.args.search in let t = c.arrive-ticket.result in let f = has_failed c.args.outcome.work in
    arrived_has k q t f c.arrive-ticket.new.desk.view (arrived c.args.table.now.plan k q t f c.args.desk.now c.arrive-ticket.new.desk c.requires.loaded c.requires.search c.arrive-ticket.ensures.desk)

pub put-requires-clause-label : goal.put-requires-clause-label
put-requires-clause-label g c =
    let k = c.args.task in let q = c.args.search in let t = c.arrive-ticket.result in let f = has_failed c.args.outcome.work in
    let hand = arrived c.args.table.now.plan k q t f c.args.desk.now c.arrive-ticket.new.desk c.requires.loaded c.requires.search c.arrive-ticket.ensures.desk in
    let v = c.arrive-ticket.new.desk.view in (
      c.requires.tasks ∙ (λ i. sym (arrived_task_is k q t f v hand) i ∷ []),
      λ h. subst (λ b. IsTrue b) (arrived_mark_is k q t f v hand) h,
      λ h. subst (λ (d : DeskModel). IsTrue (contains q d.view.stopped)) (sym c.arrive-ticket.ensures.desk) (c.requires.noted h),
    )

pub count-requires-clause-put : goal.count-requires-clause-put
count-requires-clause-put g c =
    let k = c.args.task in let q = c.args.search in let t = c.arrive-ticket.result in let f = has_failed c.args.outcome.work in
    put_has c.args.table.now.plan q t c.put.new.desk.view (was_put c.args.table.now.plan k q t f c.args.desk.now c.arrive-ticket.new.desk c.requires.loaded c.requires.search c.arrive-ticket.ensures.desk c.put.new.desk c.put.ensures)

pub returns-clause-batch : goal.returns-clause-batch
returns-clause-batch g c = IfSome_then c.count.result c.count.ensures.last (λ b h. let p : Plan = c.args.table.now.plan in let t = c.arrive-ticket.result in let n : ℕ = p.batch in let dn : ℕ = t / n * n in let whole : dn + t % n ≡ t = div-add-mod' t n in
    let is : b * n ≡ dn = ap (λ k. k * n) h.0 in let low = c.arrive-ticket.ensures.ticket in let same : tasks_of p c.args.search ≡ tasks_of p (search_of p c.args.task) = ap (tasks_of p) c.requires.search in omega arith)
