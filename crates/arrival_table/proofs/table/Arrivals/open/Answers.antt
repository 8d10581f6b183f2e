use Rattle.std.proofs.Common.{rules, ◌≡◌, ◌+◌, ℕ, List, replicate, length, sym, ap, ◌∙◌, subst}
use Rattle.arrival_moves.specs.declared.plan.Plan.{Plan}
use Rattle.arrival_moves.specs.Plans.{IsPlan, task_count}
use Rattle.arrival_table.specs.declared.opening.Task.{Task}
use Rattle.arrival_table.specs.declared.cell.Cell.{Cell}
use Rattle.arrival_table.specs.Opening.{plan_of, IsFilled}
use Rattle.arrival_table.proofs.Filled.{mapped_length}
use Rattle.arrival_table.proofs.Opened.{good_plan, opened_state_at}
use Rattle.arrival_table.proofs.table.Arrivals.open.Goals as goal

pub of-requires : goal.of-requires
of-requires g c = let is : c.in-Ok.plan ≡ plan_of c.args.tasks c.args.searches c.args.batch = search rules in
    record { plan = subst IsPlan (sym is) (good_plan c.args.tasks c.args.searches c.args.batch c.requires.batch c.requires.few c.requires.searches) }

pub new-requires : goal.new-requires
new-requires g c = let ts = c.args.tasks in let s = c.args.searches in let is : c.plan.result.now ≡ plan_of ts s c.args.batch = search rules in let of : c.in-Ok-of.places ≡ plan_of ts s c.args.batch = search rules in
    let n : c.task_count-count.result ≡ length ts = c.task_count-count.ensures.value ∙ (ap task_count of ∙ mapped_length (λ (t : Task g.row.A.Denot). t.search) ts) in
    let w : c.in-Ok-zero_words.words.items ≡ replicate (1 + s + c.task_count-count.result + s) 0 = search rules in
    opened_state_at g.A.Labelled.label g.R.Labelled.label ts s c.args.batch c.plan.result.now c.as_slice-2.result.now c.fill.new.slots.items is
    (c.as_slice-2.ensures.value ∙ (w ∙ ap (λ (k : ℕ). let z : ℕ = 0 in replicate (1 + s + k + s) z) n))
    (subst (λ xs. IsFilled 0 xs c.fill.new.slots.items) c.into_vec-rest.ensures c.fill.ensures.slots) c.requires.labels

pub returns-in-Err-clause-err : goal.returns-in-Err-clause-err
returns-in-Err-clause-err g c = let ts = c.args.tasks in let is : c.plan-in-Err.result.now ≡ plan_of ts c.args.searches c.args.batch = search rules in let e : c.in-Err.field-0.slots.items ≡ c.fill.new.slots.items = search rules in
    let filled : IsFilled 0 ts c.in-Err.field-0.slots.items = subst (λ (xs : List (Cell g.row.A.Denot g.row.R.Denot)). IsFilled 0 ts xs) (sym e) (subst (λ xs. IsFilled 0 xs c.fill.new.slots.items) c.into_vec-rest.ensures c.fill.ensures.slots) in
    c.from_vec.ensures ∙ c.take_back.ensures ts filled (ap (λ (p : Plan). p.tasks) is)
