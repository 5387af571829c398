use Rattle.message_plays.proofs.Playing.Wishes.{member_known}
use Rattle.message_plays.proofs.texts.member_name.Goals as goal

pub participant_name-requires : goal.participant_name-requires
participant_name-requires c =
    member_known c.args.plan.now c.is_closed.ensures c.roles_of.result.now c.args.member c.roles_of.ensures c.requires
