use Rattle.std.proofs.Common.{◌++◌, subst}
use Rattle.shard_columns.specs.Numbered.{Entries, firsts_in, first_entries, other_entries, IsOneEach}
use Rattle.shard_columns.proofs.Arranging.{distinct-view, number-there}
use Rattle.shard_columns.proofs.mapped_words.MappedWords.len.Goals as goal

pub returns-clause-distinct : goal.returns-clause-distinct
returns-clause-distinct c =
    let firsts = firsts_in c.self.inside.texts c.self.inside.firsts.entries in
    let others = c.self.inside.others.entries in
    let all : Entries = first_entries firsts ++ other_entries others in
    let one : IsOneEach all = λ w n has. number-there all w n (distinct-view firsts others c.self.invariant.indexed c.len-2.ensures.ordered) has in
    subst IsOneEach c.self.view_is one
