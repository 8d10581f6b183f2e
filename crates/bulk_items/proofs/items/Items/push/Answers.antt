use Rattle.std.proofs.Common.{◌≡◌, ◌++◌, ◌∷◌, [], ℕ, Some, Bool, true, List, if◌then◌else◌, length, refl, sym, ◌∙◌, ap, arith, rules}
use Rattle.std.specs.Result.{is_ok}
use Rattle.agg_model.specs.declared.bulk.Item.{Item}
use Rattle.bulk_items.specs.Items.{AreKept, end_in, item_of, items_of, refusal_in}
use Rattle.bulk_items.specs.declared.items.Mark.{Mark}
use Rattle.bulk_items.proofs.Keeping.{AreAsBefore, items-more, items-same}
use Rattle.bulk_items.proofs.items.Items.push.Goals as goal
use Rattle.bulk_items.proofs.items.Items.push.Goals.{After-settle, After-push-2}

-- the place behind the marks
place : (c : After-settle) → c.len.result ≡ length c.self.inside.marks.items
place c = c.len.ensures ∙ (c.reserve.new.self.ok.0 ∙ ap (λ (ms : List Mark). length ms) c.reserve.ensures.items)

as-before : (c : After-settle) → AreAsBefore (refusal_in c.self.inside.refusals) (refusal_in c.settle.new.refusals) c.self.inside.marks.items
as-before c other low = c.settle.ensures.others other (λ same. absurd (omega (arith, same, low, place c)))

-- with other refusals alone they are as they were
module _ (c : After-settle) (ids : List (List ℕ)) (is : ids ≡ c.self.inside.ids) where
  same : (items_of (refusal_in c.settle.new.refusals) ids c.reserve.new.self.items ≡ items_of (refusal_in c.self.inside.refusals) c.self.inside.ids c.self.inside.marks.items)
      × AreKept (refusal_in c.settle.new.refusals) ids c.reserve.new.self.items
  same = items-same (refusal_in c.self.inside.refusals) (refusal_in c.settle.new.refusals) c.self.inside.ids ids c.self.inside.marks.items c.reserve.new.self.items c.self.invariant is c.reserve.ensures.items (as-before c)

pub invariant_of-self-in_err-applied : goal.invariant_of-self-in_err-applied
invariant_of-self-in_err-applied c = (same (goal.at.invariant_of-self-in_err-applied c).After-settle c.self.inside.ids refl).1

pub returns-in_err-applied-clause-memory : goal.returns-in_err-applied-clause-memory
returns-in_err-applied-clause-memory c =
    let same_items = (same (goal.at.returns-in_err-applied-clause-memory c).After-settle c.self.inside.ids refl).0 ∙ c.self.view_is in
    search (rules, same_items)

pub invariant_of-self-in_err-push : goal.invariant_of-self-in_err-push
invariant_of-self-in_err-push c = (same (goal.at.invariant_of-self-in_err-push c).After-settle c.push.new.self c.in_err-push.ensures.memory).1

pub returns-in_err-push-clause-memory : goal.returns-in_err-push-clause-memory
returns-in_err-push-clause-memory c =
    let same_items = (same (goal.at.returns-in_err-push-clause-memory c).After-settle c.push.new.self c.in_err-push.ensures.memory).0 ∙ c.self.view_is in
    search (rules, same_items)

-- what is made where there is room
made : {X : Type 0} (b : Bool) (new more less : X) → new ≡ (if b then more else less) → b ≡ true → new ≡ more
made b new more less is fits = is ∙ ap (λ (fit : Bool). if fit then more else less) fits

-- the items with one more
module _ (c : After-push-2) (is : c.len.result ≡ length c.self.inside.marks.items) (same : AreAsBefore (refusal_in c.self.inside.refusals) (refusal_in c.settle.new.refusals) c.self.inside.marks.items) where
  abbrev mark : Mark
  mark = record { kind = c.args.kind; applied = c.in_ok-applied.applied }

  mark-put : c.push-2.new.self.items ≡ c.self.inside.marks.items ++ mark ∷ []
  mark-put = made (is_ok c.push-2.result) _ _ _ c.push-2.ensures.items (c.push-2.ensures.succeeds (let room = c.in_ok-reserve.ensures.ok in omega (arith, room))) ∙ ap (λ (ms : List Mark). ms ++ mark ∷ []) c.reserve.ensures.items

  ended : end_in mark.applied (refusal_in c.settle.new.refusals (length c.self.inside.marks.items)) ≡ Some c.args.end
  ended = ap (λ (k : ℕ). end_in mark.applied (refusal_in c.settle.new.refusals k)) (sym is) ∙ c.in_ok-applied.ensures.end

  more : (items_of (refusal_in c.settle.new.refusals) c.push.new.self c.push-2.new.self.items ≡ items_of (refusal_in c.self.inside.refusals) c.self.inside.ids c.self.inside.marks.items ++ item_of c.args.kind c.args.id.now c.args.end ∷ [])
      × AreKept (refusal_in c.settle.new.refusals) c.push.new.self c.push-2.new.self.items
  more =
      items-more (refusal_in c.self.inside.refusals) (refusal_in c.settle.new.refusals) c.self.inside.ids c.push.new.self c.self.inside.marks.items c.push-2.new.self.items c.args.id.now mark c.args.end c.self.invariant c.in_ok-push.ensures.added mark-put same ended

pub invariant_of-self-2 : goal.invariant_of-self-2
invariant_of-self-2 c =
    let at = (goal.at.invariant_of-self-2 c).After-settle in
    (more (goal.at.invariant_of-self-2 c).After-push-2 (place at) (as-before at)).1

pub returns-clause-items : goal.returns-clause-items
returns-clause-items c =
    let at = (goal.at.returns-clause-items c).After-settle in
    (more (goal.at.returns-clause-items c).After-push-2 (place at) (as-before at)).0 ∙ ap (λ (ts : List Item). ts ++ item_of c.args.kind c.args.id.now c.args.end ∷ []) c.self.view_is
