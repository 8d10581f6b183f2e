use Rattle.std.proofs.Common.{◌≡◌, ◌+◌, ◌*◌, ◌/◌, ℕ, ◌∷◌, [], false, List, sym, ap, subst, ◌∙◌, arith}
use Rattle.std.specs.List.{cons_option}
use Rattle.std.proofs.lemmas.Nat.{div-mul-add}
use Rattle.arrival_moves.specs.declared.item.Item.TheVariants.{Batch}
use Rattle.arrival_moves.specs.declared.label.Label.{Label}
use Rattle.arrival_moves.specs.Labels.{no_label, joined_label}
use Rattle.arrival_moves.specs.Lists.{numbers_from, without}
use Rattle.shard_tests.specs.declared.desks.Done.{Done}
use Rattle.arrival_table.specs.Holding.{HasBatch}
use Rattle.arrival_table.specs.Models.{DeskModel}
use Rattle.arrival_table.proofs.OneItem.{batch_has, taken_hand}
use Rattle.shard_tests.proofs.desks.merge.Goals as goal

-- the batch of its two tickets
first_half : (b n : ℕ) → n ≡ 2 → b * 2 / n ≡ b
first_half b n two = ap (λ k. b * 2 / k) two ∙ (ap (λ z. z / 2) (let s : b * 2 ≡ b * 2 + 0 = omega arith in s) ∙ div-mul-add b 2 0 (omega arith))

second_half : (b n : ℕ) → n ≡ 2 → (b * 2 + 1) / n ≡ b
second_half b n two = ap (λ k. (b * 2 + 1) / k) two ∙ div-mul-add b 2 1 (omega arith)

abbrev label_of : Done → Label
label_of d = record { tasks = d.task ∷ cons_option d.other []; failed = d.failed; skipped = d.skipped }

pub take_result-first-requires-clause-batch : goal.take_result-first-requires-clause-batch
take_result-first-requires-clause-batch c = let b = c.args.batch in let v = c.args.desk.now.view in subst (λ n. HasBatch c.args.search n v) (sym (first_half b c.args.table.now.plan.batch c.requires.two)) (batch_has c.args.search b (numbers_from (b * 2) c.args.size) no_label v c.requires.batch)

pub put_merged-requires-clause-batch : goal.put_merged-requires-clause-batch
put_merged-requires-clause-batch c = let b = c.args.batch in let v = c.args.desk.now.view in let q = c.args.search in let due : List ℕ = numbers_from (b * 2) c.args.size in let l : Label = label_of c.take_result-first.result in
    let h : c.take_result-first.new.desk.view.hand ≡ Batch (record { search = q; batch = b; due = without (b * 2) due; taken = joined_label no_label l; at_slot = false }) ∷ [] =
    ap (λ (d : DeskModel). d.view.hand) c.take_result-first.ensures.desk ∙ taken_hand q b due no_label v c.requires.batch c.args.table.now.plan (b * 2) l (first_half b c.args.table.now.plan.batch c.requires.two) in
    batch_has q b (without (b * 2) due) (joined_label no_label l) c.take_result-first.new.desk.view h

pub take_result-second-requires-clause-batch : goal.take_result-second-requires-clause-batch
take_result-second-requires-clause-batch c = let b = c.args.batch in let v = c.args.desk.now.view in let q = c.args.search in let due : List ℕ = numbers_from (b * 2) c.args.size in let l : Label = label_of c.take_result-first.result in
    let h : c.take_result-first.new.desk.view.hand ≡ Batch (record { search = q; batch = b; due = without (b * 2) due; taken = joined_label no_label l; at_slot = false }) ∷ [] =
    ap (λ (d : DeskModel). d.view.hand) c.take_result-first.ensures.desk ∙ taken_hand q b due no_label v c.requires.batch c.args.table.now.plan (b * 2) l (first_half b c.args.table.now.plan.batch c.requires.two) in
    subst (λ n. HasBatch q n c.take_result-first.new.desk.view) (sym (second_half b c.args.table.now.plan.batch c.requires.two)) (batch_has q b (without (b * 2) due) (joined_label no_label l) c.take_result-first.new.desk.view h)

pub put_merged-requires-2-clause-batch : goal.put_merged-requires-2-clause-batch
put_merged-requires-2-clause-batch c = let b = c.args.batch in let v = c.args.desk.now.view in let q = c.args.search in let due : List ℕ = numbers_from (b * 2) c.args.size in let l : Label = label_of c.take_result-first.result in let m : Label = label_of c.take_result-second.result in
    let h : c.take_result-first.new.desk.view.hand ≡ Batch (record { search = q; batch = b; due = without (b * 2) due; taken = joined_label no_label l; at_slot = false }) ∷ [] =
    ap (λ (d : DeskModel). d.view.hand) c.take_result-first.ensures.desk ∙ taken_hand q b due no_label v c.requires.batch c.args.table.now.plan (b * 2) l (first_half b c.args.table.now.plan.batch c.requires.two) in
    let k : c.take_result-second.new.desk.view.hand ≡ Batch (record { search = q; batch = b; due = without (b * 2 + 1) (without (b * 2) due); taken = joined_label (joined_label no_label l) m; at_slot = false }) ∷ [] =
    ap (λ (d : DeskModel). d.view.hand) c.take_result-second.ensures.desk ∙ taken_hand q b (without (b * 2) due) (joined_label no_label l) c.take_result-first.new.desk.view h c.args.table.now.plan (b * 2 + 1) m (second_half b c.args.table.now.plan.batch c.requires.two) in
    batch_has q b (without (b * 2 + 1) (without (b * 2) due)) (joined_label (joined_label no_label l) m) c.take_result-second.new.desk.view k
