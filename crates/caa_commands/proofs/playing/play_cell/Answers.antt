use Rattle.std.proofs.Common.{sym, subst, subst₂, inl}
use Rattle.cell_workload.specs.Summary.{summary_text}
use Rattle.caa_commands.specs.OutsideUse.{plant_use, left_of}
use Rattle.caa_commands.specs.Calls.{EndsWith, IsSimulated}
use Rattle.caa_commands.proofs.playing.play_cell.Goals as goal

pub returns-in-Ok : goal.returns-in-Ok
returns-in-Ok g c =
    let played = c.in-Ok.ensures in
    let told = c.summed_up.ensures in
    let plan = c.args.plan in
    let cycles = c.args.cycles in
    let finding = c.summed_up.result.finding in
    let journal = c.in-Ok.journal.entries in
    let seen = subst (λ p. EndsWith p journal (summary_text p journal cycles) finding) played.plan
    (told.ends (summary_text c.in-Ok.plan journal cycles) c.summary-text.ensures) in
    inl (
      subst₂ (λ q j. IsSimulated plan cycles (left_of (plant_use g.P.Plant c.args.plant q) j)) (sym told.plant) (sym told.journal)
          played.played,
      subst (λ j. EndsWith plan j (summary_text plan j cycles) finding) (sym told.journal) seen,
    )
