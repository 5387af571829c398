use Rattle.std.proofs.Common.{Bor, List, Option, ℕ, IfSome, sym, subst}
use Rattle.std.specs.List.{All}
use Rattle.std.proofs.lemmas.List.Elements.{All-push}
use Rattle.caa_base.specs.declared.written.entry.Entry.{Entry}
use Rattle.place_plan.specs.RulesOfJournals.WellFormed.{IsWellFormed}
use Rattle.journal_states.proofs.fronts.entries_of.Goals as goal

pub loop-preserved : goal.loop-preserved
loop-preserved c =
    let plan = c.args.plan.now in
    let found =
    subst (λ (o : Option (Entry × Bor (List ℕ))). IfSome o (λ e. IsWellFormed plan e.0)) c.in-Some.is c.in_ok-entry.ensures in
    subst (All (IsWellFormed plan)) (sym c.in_ok-push-in-Some.ensures.items)
    (All-push (IsWellFormed plan) c.loop.entries.items c.in-Some.entry c.loop.invariant found)
