use Rattle.std.proofs.Common.{⊎_elim}
use Rattle.agg_mapping.proofs.properties.check_leaf_names.Goals as goal

pub returns-in-Keyword : goal.returns-in-Keyword
returns-in-Keyword c = rw c.in-Keyword.is c.check_names.ensures

pub returns-in-Long : goal.returns-in-Long
returns-in-Long c =
    ⊎_elim (λ e. rw e c.check_names-in-Long.ensures)
    (λ h. ⊎_elim (λ e. rw e c.check_names-in-Long.ensures)
    (λ h. ⊎_elim (λ e. rw e c.check_names-in-Long.ensures)
    (λ h. ⊎_elim (λ e. rw e c.check_names-in-Long.ensures)
    (λ e. rw e c.check_names-in-Long.ensures) h) h) h) c.in-Long.is

pub returns-in-Date : goal.returns-in-Date
returns-in-Date c = rw c.in-Date.is c.check_names-in-Date.ensures
