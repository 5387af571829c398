use Rattle.std.proofs.Common.{◌∙◌, List, [], ap}
use Rattle.caa_base.specs.declared.written.entry.Entry.{Entry}
use Rattle.journal_replay.specs.Device.{history_before}
use Rattle.journal_replay.proofs.Histories.{found_again}
use Rattle.journal_replay.proofs.hall.Played.open.Goals as goal

-- the plant was laid out and asked for nothing else
pub returns-in-Ok-lay_out-clause-history : goal.returns-in-Ok-lay_out-clause-history
returns-in-Ok-lay_out-clause-history g c =
    ap (λ (l : List Entry). history_before l (g.P.Plant.history c.lay_out.new.plant)) c.in-Ok.ensures.entries
    ∙ ap (history_before []) c.in-Ok-lay_out.ensures.history ∙ found_again c.args.plan [] (g.P.Plant.history c.args.plant)
