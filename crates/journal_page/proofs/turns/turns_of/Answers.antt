use Rattle.std.proofs.Common.{◌≡◌, ◌∙◌, ◌++◌, suc, [], ◌∷◌, Some, ap, sym, subst, arith}
use Rattle.std.specs.List.{All}
use Rattle.std.proofs.lemmas.List.Elements.{All-push}
use Rattle.std.proofs.lemmas.Option.{slice_get-get_or, slice_get_within}
use Rattle.place_plan.specs.Plans.PlanValue.{Plan}
use Rattle.place_plan.specs.RulesOfJournals.WellFormed.{IsWellFormed}
use Rattle.journal_states.specs.Past.{taken_in}
use Rattle.journal_page.specs.Stances.{ShowsWellFormed, TurnsWellFormed, AreTurns}
use Rattle.journal_page.proofs.TurnLemmas.{at_start, turn_is, one_more}
use Rattle.journal_page.proofs.turns.turns_of.Goals as goal

pub returns-then-not-step-clause-first : goal.returns-then-not-step-clause-first
returns-then-not-step-clause-first g c =
    at_start (g.L.Lines.line_at c.args.lines.now) c.in_ok-states.states c.args.plan.now c.in_ok-first.first.items c.in_ok-states.ensures.plan c.in_ok-states.ensures.taken
    c.in_ok-first.ensures.right

pub loop-entry-preserved : goal.loop-entry-preserved
loop-entry-preserved g c =
    let lines = g.L.Lines.line_at c.args.lines.now in
    let plan = c.args.plan.now in
    let entries = c.args.entries.now in
    let states = c.step.new.self in
    let turns = c.loop-entry.turns.items in
    let turn = c.in_ok-turn.turn in
    let k = c.loop-entry.entry-index in
    let so_far = c.loop-entry.invariant in
    let of = c.step.ensures.plan ∙ so_far.plan in
    let over = c.step.ensures.journal ∙ so_far.journal in
    let taken : taken_in states ≡ suc k = c.if-not-step.ensures.stepped ∙ ap (λ n. suc n) so_far.taken in
    let found = slice_get-get_or entries k _ c.loop-entry-test.true ∙ ap (λ e. Some e) (sym c.in_ok-turn.ensures.entry) in
    let items : c.push.new.self.items ≡ turns ++ turn ∷ [] = c.in_ok-push.ensures.items in
    let well = subst (IsWellFormed plan) (sym c.in_ok-turn.ensures.entry) (c.requires k _ c.loop-entry-test.true) in
    let shown = subst (λ (p : Plan). All (ShowsWellFormed p) turn.stances.items) of c.in_ok-turn.ensures.well_formed in
    record {
      plan = of;
      journal = over;
      taken = omega (arith, taken);
      counted = omega (arith, c.in_ok-push.ensures.len, so_far.counted);
      turns =
          subst (AreTurns lines plan entries) (sym items)
          (one_more lines plan entries turns turn so_far.turns
          (rw so_far.counted (turn_is lines states plan entries k turn of over taken found c.in_ok-turn.ensures.right)));
      formed =
          subst (All (TurnsWellFormed plan)) (sym items)
          (All-push (TurnsWellFormed plan) turns turn so_far.formed (record { entry = well; stances = shown }));
    }

pub returns-clause-first : goal.returns-clause-first
returns-clause-first g c =
    at_start (g.L.Lines.line_at c.args.lines.now) c.in_ok-states.states c.args.plan.now c.in_ok-first.first.items c.in_ok-states.ensures.plan c.in_ok-states.ensures.taken
    c.in_ok-first.ensures.right

pub returns-clause-stops : goal.returns-clause-stops
returns-clause-stops g c = λ e is may.
    let within = slice_get_within c.args.entries.now _ e is in
    omega (arith, within, c.loop-entry.invariant.counted, c.loop-entry-test.false)
