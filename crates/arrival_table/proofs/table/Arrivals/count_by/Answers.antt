use Rattle.std.proofs.Common.{rules, arith, suc, ◌+◌, ◌/◌, ◌<◌, ℕ, sym, ap, subst, ◌∙◌, ◌≡◌}
use Rattle.arrival_moves.specs.declared.plan.Plan.{Plan}
use Rattle.arrival_moves.specs.Plans.{place_of, task_count, tasks_of, batch_size}
use Rattle.arrival_table.proofs.AllowedCount.{allows_count_at}
use Rattle.arrival_moves.proofs.Starts.{batch_within, search_valid}
use Rattle.arrival_table.proofs.table.Arrivals.count_by.Goals.{then-found-batch_size, else-found-batch_size}
use Rattle.arrival_table.proofs.table.Arrivals.count_by.Goals as goal

pub place_of-place-requires : goal.place_of-place-requires
place_of-place-requires g c = let p : Plan = c.self.inside.places in let r : c.args.ticket < tasks_of p c.args.search = search rules in
    record { range = subst (λ (n : ℕ). c.args.ticket / n < tasks_of p c.args.search) (sym c.batch.ensures.value) (batch_within p c.self.invariant.1 c.args.search c.args.ticket r) }

pub fetch_add-found-requires : goal.fetch_add-found-requires
fetch_add-found-requires g c = let p : Plan = c.self.inside.places in let b : c.batch.result ≡ p.batch = c.batch.ensures.value in let at : c.place_of-place.result ≡ place_of p c.args.search (c.args.ticket / p.batch) = c.place_of-place.ensures.value ∙ ap (λ (n : ℕ). place_of p c.args.search (c.args.ticket / n)) b in
    let s : c.searches.result ≡ p.searches = search rules in
    let w : 1 + c.searches.result + c.place_of-place.result ≡ suc (p.searches + place_of p c.args.search (c.args.ticket / p.batch)) = omega arith in (
      search rules,
      (let r : c.place_of-place.result < task_count p = c.place_of-place.ensures.range in omega (arith, c.self.invariant.2)),
      allows_count_at _ _ p c.self.invariant.1 _ g.Z.Given.plan _ _ c.args.search c.args.ticket _ _ _ c.desk.inside.seat.me c.requires.put.0 c.self.invariant.0 (search rules) c.requires.search c.requires.number w (search rules),
    )

pub batch_size-requires : goal.batch_size-requires
batch_size-requires g c = record { range = search_valid c.self.inside.places c.self.invariant.1 c.args.search c.args.ticket (search rules) }

pub returns-clause-early : goal.returns-clause-early
returns-clause-early g c = let p : Plan = c.args.self.now.plan in let b : c.batch.result ≡ c.self.inside.places.batch = c.batch.ensures.value in let is : c.self.inside.places ≡ p = search rules in
    let size : c.batch_size.result ≡ batch_size p c.args.search (c.args.ticket / p.batch) = c.batch_size.ensures ∙ (λ i. batch_size (is i) c.args.search (c.args.ticket / (b ∙ (λ j. (is j).batch)) i)) in
    elim c.if-found-batch_size.branch [
      | then-found-batch_size w ↦ search rules
      | else-found-batch_size w ↦ let no : (c.fetch_add-found.result + 1 ≡ batch_size p c.args.search (c.args.ticket / p.batch)) → ⊥ = λ e. w.if-found-batch_size.false (e ∙ sym size) in
          rw w.result-is (c.fetch_add-found.result + 1, no, search rules)
    ]
