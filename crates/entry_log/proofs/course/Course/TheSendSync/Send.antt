-- It owns nothing, so it may go to another thread.
use denote.RattleType.{RattleType}
use denote.Param.Send.{IsSend, owning_send, sendable}
use Rattle.entry_log.specs.contracts.course.Course.{the_row, the_type}

pub send : (K : RattleType) → IsSend K → IsSend (the_row K)
send K k = owning_send (the_type K) (search sendable, tt) (λ d. tt) (λ k x w. tt)
