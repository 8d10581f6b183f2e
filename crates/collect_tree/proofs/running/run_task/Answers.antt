use Rattle.std.proofs.Common.{ℕ, ◌+◌, pos, List, sym, ◌∙◌, ap, subst, arith}
use Rattle.std.specs.Prelude.{ℤ, Some}
use Rattle.growth_laws.specs.Amounts.{amounts}
use Rattle.task_charges.proofs.Ending.{done, refused-trace}
use Rattle.task_charges.specs.Charged.{HasPaid}
use Rattle.task_charges.specs.Ended.{IsRefused}
use Rattle.collect_tree.specs.Stops.{IsStopped}
use Rattle.collect_tree.specs.declared.ending.Stop.{Stop}
use Rattle.collect_tree.proofs.Amounting.{first-amount}
use Rattle.collect_tree.proofs.Counting.{take-drop, take-next}
use Rattle.collect_tree.proofs.Rooms.{empty-exact, low, tree-room}
use Rattle.collect_tree.proofs.running.run_task.Goals as goal

pub overflow_add-held : goal.overflow_add-held
overflow_add-held c =
    let shard = c.args.shard.now in
    let search = c.args.search.now in
    let is = empty-exact shard search c.requires.made c.requires.room.ceiling c.requires.room.is c.empty_bytes-bytes.result c.empty_bytes-bytes.ensures in
    let tree = tree-room shard search c.requires.made c.requires.room.ceiling c.requires.room.is 0 in
    let top = low shard search c.requires.made c.requires.room.ceiling c.requires.room.is in
    omega (arith, is, tree, top)

pub begin-requires-clause-room : goal.begin-requires-clause-room
begin-requires-clause-room c =
    let shard = c.args.shard.now in
    let search = c.args.search.now in
    let is = empty-exact shard search c.requires.made c.requires.room.ceiling c.requires.room.is c.empty_bytes-bytes.result c.empty_bytes-bytes.ensures in
    let tree = tree-room shard search c.requires.made c.requires.room.ceiling c.requires.room.is 0 in
    omega (arith, is, tree, c.requires.room.fits)

pub run_begun-requires-clause-bytes : goal.run_begun-requires-clause-bytes
run_begun-requires-clause-bytes c =
    empty-exact c.args.shard.now c.args.search.now c.requires.made c.requires.room.ceiling c.requires.room.is c.empty_bytes-bytes.result c.empty_bytes-bytes.ensures

pub returns-in-Err-clause-refused : goal.returns-in-Err-clause-refused
returns-in-Err-clause-refused c =
    let shard = c.args.shard.now in
    let search = c.args.search.now in
    let l = c.args.words.now.limits in
    let v = c.args.pass.now.view in
    let bytes = c.empty_bytes-bytes.result in
    let is = empty-exact shard search c.requires.made c.requires.room.ceiling c.requires.room.is bytes c.empty_bytes-bytes.ensures in
    let first = first-amount search shard.rows ∙ ap (λ (b : ℕ). Some (pos (4096 + b))) (sym is) in
    let split = take-drop (amounts search shard.rows) 0 (pos (4096 + bytes)) first in
    refused-trace search shard.rows l v c.begin.new.pass.view c.in-Err.tripped
    (subst (λ (ns : List ℤ). IsRefused l v c.begin.new.pass.view ns c.in-Err.tripped) (sym split.1) (c.in-Err.ensures.err split.0))

pub returns-in-Ok-clause-done : goal.returns-in-Ok-clause-done
returns-in-Ok-clause-done c =
    let shard = c.args.shard.now in
    let search = c.args.search.now in
    let l = c.args.words.now.limits in
    let v = c.args.pass.now.view in
    let bytes = c.empty_bytes-bytes.result in
    let is = empty-exact shard search c.requires.made c.requires.room.ceiling c.requires.room.is bytes c.empty_bytes-bytes.ensures in
    let first = first-amount search shard.rows ∙ ap (λ (b : ℕ). Some (pos (4096 + b))) (sym is) in
    let begun = subst (λ (ns : List ℤ). HasPaid l v c.begin.new.pass.view ns) (sym (take-next (amounts search shard.rows) 0 (pos (4096 + bytes)) first)) c.in_default.ensures.ok in
    done search shard.rows l v c.run_begun.new.pass.view (c.in-Ok.ensures.paid v begun)

pub returns-in-Err-Refused-clause-refused : goal.returns-in-Err-Refused-clause-refused
returns-in-Err-Refused-clause-refused c =
    let shard = c.args.shard.now in
    let search = c.args.search.now in
    let l = c.args.words.now.limits in
    let v = c.args.pass.now.view in
    let bytes = c.empty_bytes-bytes.result in
    let is = empty-exact shard search c.requires.made c.requires.room.ceiling c.requires.room.is bytes c.empty_bytes-bytes.ensures in
    let first = first-amount search shard.rows ∙ ap (λ (b : ℕ). Some (pos (4096 + b))) (sym is) in
    let begun = subst (λ (ns : List ℤ). HasPaid l v c.begin.new.pass.view ns) (sym (take-next (amounts search shard.rows) 0 (pos (4096 + bytes)) first)) c.in_default.ensures.ok in
    refused-trace search shard.rows l v c.run_begun.new.pass.view c.in-Err-Refused.tripped
    (subst (λ (s : Stop). IsStopped l v c.run_begun.new.pass.view (amounts search shard.rows) s) c.in-Err-Refused.field-0-is (c.in-Err-Refused.ensures.stopped v begun))

pub returns-in-Err-Memory-clause-memory : goal.returns-in-Err-Memory-clause-memory
returns-in-Err-Memory-clause-memory c =
    let shard = c.args.shard.now in
    let search = c.args.search.now in
    let l = c.args.words.now.limits in
    let v = c.args.pass.now.view in
    let bytes = c.empty_bytes-bytes.result in
    let is = empty-exact shard search c.requires.made c.requires.room.ceiling c.requires.room.is bytes c.empty_bytes-bytes.ensures in
    let first = first-amount search shard.rows ∙ ap (λ (b : ℕ). Some (pos (4096 + b))) (sym is) in
    let begun = subst (λ (ns : List ℤ). HasPaid l v c.begin.new.pass.view ns) (sym (take-next (amounts search shard.rows) 0 (pos (4096 + bytes)) first)) c.in_default.ensures.ok in
    subst (λ (s : Stop). IsStopped l v c.run_begun.new.pass.view (amounts search shard.rows) s) c.in-Err-Memory.field-0-is (c.in-Err-Memory.ensures.stopped v begun)
