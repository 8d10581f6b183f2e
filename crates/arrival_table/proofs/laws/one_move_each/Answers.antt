use Rattle.arrival_table.proofs.OneMove.{claim_step, take_task_step, stop_step, stopped_step, arrive_step, reach_result_step, put_step, count_step, take_result_step, reach_batch_step, put_merged_step, split_step, join_step, give_back_step, look_step}
use Rattle.arrival_table.proofs.laws.one_move_each.Goals as goal

pub returns-clause-claim : goal.returns-clause-claim
returns-clause-claim g c = λ p ms s i d at left. claim_step g.A.Labelled.label g.R.Labelled.label p ms s i d at left

pub returns-clause-take_task : goal.returns-clause-take_task
returns-clause-take_task g c = λ p ms s i d k x at found. take_task_step g.A.Labelled.label g.R.Labelled.label p ms s i d at k x found

pub returns-clause-stop : goal.returns-clause-stop
returns-clause-stop g c = λ p ms s i d k x at found. stop_step g.A.Labelled.label g.R.Labelled.label p ms s i d at k x found

pub returns-clause-stopped : goal.returns-clause-stopped
returns-clause-stopped g c = λ p ms s i d q at. stopped_step g.A.Labelled.label g.R.Labelled.label p ms s i d at q

pub returns-clause-arrive : goal.returns-clause-arrive
returns-clause-arrive g c = λ p ms s i d k x at found. arrive_step g.A.Labelled.label g.R.Labelled.label p ms s i d at k x found

pub returns-clause-put_first : goal.returns-clause-put_first
returns-clause-put_first g c = λ p ms s i d q t x l at found shut. reach_result_step g.A.Labelled.label g.R.Labelled.label p ms s i d at q t x l found shut

pub returns-clause-put_then : goal.returns-clause-put_then
returns-clause-put_then g c = λ p ms s i v q t x y at found there may. put_step g.A.Labelled.label g.R.Labelled.label p ms s i v q t x y at found there may

pub returns-clause-count : goal.returns-clause-count
returns-clause-count g c = λ p ms s i d q t x at found. count_step g.A.Labelled.label g.R.Labelled.label p ms s i d at q t x found

pub returns-clause-take_result : goal.returns-clause-take_result
returns-clause-take_result g c = λ p ms s i d q t x at found due. take_result_step g.A.Labelled.label g.R.Labelled.label p ms s i d at q t x found due

pub returns-clause-put_merged_first : goal.returns-clause-put_merged_first
returns-clause-put_merged_first g c = λ p ms s i d q b x l at found shut may. reach_batch_step g.A.Labelled.label g.R.Labelled.label p ms s i d at q b x l found shut may

pub returns-clause-put_merged_then : goal.returns-clause-put_merged_then
returns-clause-put_merged_then g c = λ p ms s i v q b x y at found there may. put_merged_step g.A.Labelled.label g.R.Labelled.label p ms s i v q b x y at found there may

pub returns-clause-split : goal.returns-clause-split
returns-clause-split g c = λ p ms s i d k at less. split_step g.A.Labelled.label g.R.Labelled.label p ms s i d at k less

pub returns-clause-join : goal.returns-clause-join
returns-clause-join g c = λ p ms s i j d w at other there empty. join_step g.A.Labelled.label g.R.Labelled.label p ms s i d at j w other there empty

pub returns-clause-give_back : goal.returns-clause-give_back
returns-clause-give_back g c = λ p ms s i v j y at. give_back_step g.A.Labelled.label g.R.Labelled.label p ms s i v j y at

pub returns-clause-look : goal.returns-clause-look
returns-clause-look g c = λ p ms s i d at. look_step g.A.Labelled.label g.R.Labelled.label p ms s i d at
