use Rattle.check_table.proofs.MainEvents.{write_is, post_is, take_is, no_take_is, look_is, cancel_is, stop_is, stop_again_is}
use Rattle.check_table.proofs.laws.main_steps_are_events.Goals as goal

pub returns-clause-write : goal.returns-clause-write
returns-clause-write c p size s r m x has small few = write_is p size s r m has x small few

pub returns-clause-post : goal.returns-clause-post
returns-clause-post c p size s r m key has over whole few = post_is p size s r m has key over whole few

pub returns-clause-take : goal.returns-clause-take
returns-clause-take c p size s r m t place has wanted = (λ one verdict are. take_is p size s r m has t place wanted one, λ miss. no_take_is p size s r m has t place miss)

pub returns-clause-look : goal.returns-clause-look
returns-clause-look c p size s r m i t place n has = look_is p size s r m has i t place n

pub returns-clause-cancel : goal.returns-clause-cancel
returns-clause-cancel c p size s r m t place has wanted verdict are = cancel_is p size s r m has t place wanted

pub returns-clause-stop : goal.returns-clause-stop
returns-clause-stop c p size s r m has = (λ running verdict are. stop_is p size s r m has running, stop_again_is p size s r m has)
