use Rattle.std.proofs.Common.{◌≡◌, true, [], sym, subst, subst₂, inl}
use Rattle.caa_commands.specs.OutsideUse.{plant_use, left_of}
use Rattle.caa_commands.specs.Calls.{EndsAs, IsSimulated}
use Rattle.journal_text.specs.Texts.Naming.{is_well_named}
use Rattle.caa_commands.proofs.playing.simulate.Goals as goal

pub returns-in-Ok : goal.returns-in-Ok
returns-in-Ok g c =
    let played = c.in-Ok.ensures in
    let told = c.ended-in-Ok.ensures in
    let plan = c.args.plan in
    let finding = c.ended-in-Ok.result.finding in
    let seen = subst₂ (λ p s. EndsAs p c.in-Ok.journal.entries s finding) played.plan c.empty.ensures.seens told.ends in
    inl (
      subst₂ (λ q j. IsSimulated plan c.args.seed (left_of (plant_use g.P.Plant c.args.plant q) j)) (sym told.plant) (sym told.journal)
          played.played,
      subst (λ j. EndsAs plan j [] finding) (sym told.journal) seen,
    )

pub ended-requires-clause-named : goal.ended-requires-clause-named
ended-requires-clause-named g c = subst (λ p. is_well_named p ≡ true) (sym c.in-Ok.ensures.plan) c.requires.named
