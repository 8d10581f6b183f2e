use Rattle.std.proofs.Common.{ℕ, ◌*◌, ◌/◌, ◌%◌, ◌^◌, ◌<◌, bit_or, length, set, sym, subst, arith}
use Rattle.std.proofs.lemmas.List.{get_or_read}
use Rattle.column_query.specs.NumberSets.{SetsBit}
use Rattle.column_query.proofs.Marking.{sets-bit}
use Rattle.column_query.proofs.marks.set_bit.Goals as goal

pub returns-clause-set : goal.returns-clause-set
returns-clause-set c =
    let bits = c.args.bits.now.items in
    let o = c.args.place in
    let low : o / 64 < length bits = omega (arith, c.requires) in
    subst (λ (word : ℕ). SetsBit bits o (set bits (o / 64) (bit_or word (1 * 2 ^ (o % 64) % 2 ^ 64)))) (sym (get_or_read bits (o / 64) c.index_mut.result.now low c.index_mut.ensures.value 0)) (sets-bit bits o low)
