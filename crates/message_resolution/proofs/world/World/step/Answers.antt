use Rattle.std.proofs.Common.{subst, sym, ap}
use Rattle.cover_table.specs.Cover.{IsSound}
use Rattle.message_resolution.specs.Histories.Agreement.{DecidersAgree}
use Rattle.message_resolution.specs.Histories.Worlds.{WorldView}
use Rattle.message_resolution.specs.inner.Runs.{RunView}
use Rattle.message_resolution.proofs.Coming.LegalPasts.{deciders_agree}
use Rattle.message_resolution.proofs.world.World.step.Goals as goal

pub returns-then-not-is_legal-clause-agreed : goal.returns-then-not-is_legal-clause-agreed
returns-then-not-is_legal-clause-agreed c =
    let run = c.self.inside.run in
    subst (λ (v : WorldView). DecidersAgree v.order v.count v.past) c.self.view_is
    (deciders_agree run.order run.count run.past c.is_sound.ensures.sound)

pub returns-clause-agreed : goal.returns-clause-agreed
returns-clause-agreed c =
    let run = c.advance.new.self in
    let sound = subst IsSound (sym (ap (λ (r : RunView). r.order) c.advance.ensures)) c.is_sound.ensures.sound in
    deciders_agree run.order run.count run.past sound
