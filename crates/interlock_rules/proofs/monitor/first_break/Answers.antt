use Rattle.std.proofs.Common.{◌≤◌, List, reverse, take, sym, ◌∙◌, subst, arith}
use Rattle.std.proofs.lemmas.Bool.{false≢true}
use Rattle.caa_base.specs.declared.written.entry.Entry.{Entry}
use Rattle.place_plan.proofs.OnJournals.LatestValues.{reverse_more}
use Rattle.interlock_rules.specs.Interlocks.{Breaks}
use Rattle.interlock_rules.specs.inner.Watched.{object_of, Watches}
use Rattle.interlock_rules.proofs.Moments.{keeps_all, none_at_first, none_so_far}
use Rattle.interlock_rules.proofs.Watching.{first_breaks}
use Rattle.interlock_rules.proofs.monitor.first_break.Goals as goal

pub returns-then-is_broken_at_first : goal.returns-then-is_broken_at_first
returns-then-is_broken_at_first c =
    (first_breaks c.args.rule.now.when c.args.rule.now.parts c.args.plan.now _ _ c.in_ok-watch.ensures).0
    (sym c.is_broken_at_first.ensures ∙ c.if-is_broken_at_first.true)

pub loop-index-init : goal.loop-index-init
loop-index-init c = record {
  stands = c.in_ok-watch.ensures;
  kept = none_at_first c.args.rule.now c.args.plan.now c.args.entries.now
      (λ b. false≢true (sym c.if-is_broken_at_first.false ∙ c.is_broken_at_first.ensures
      ∙ (first_breaks c.args.rule.now.when c.args.rule.now.parts c.args.plan.now _ _ c.in_ok-watch.ensures).1 b));
}

pub loop-index-preserved : goal.loop-index-preserved
loop-index-preserved c =
    let i = c.loop-index.index in
    let es = c.args.entries.now in
    let more = reverse_more es i _ c.loop-index-test.true in
    record {
      stands =
          subst (λ (past : List Entry). Watches c.args.rule.now.parts (object_of c.args.rule.now.when) c.args.plan.now past
          c.take_in.new.self.fits.items c.take_in.new.self.sure) (sym more)
          (c.take_in.ensures.stands c.args.plan.now (reverse (take i es)) c.loop-index.invariant.stands);
      kept = none_so_far c.args.rule.now c.args.plan.now es i c.loop-index.invariant.kept
          (λ b. false≢true (sym c.if-take_in.false
          ∙ (c.take_in.ensures.broken c.args.plan.now (reverse (take i es)) c.loop-index.invariant.stands).1
          (subst (Breaks c.args.rule.now c.args.plan.now) more b)));
    }

pub returns-then-take_in : goal.returns-then-take_in
returns-then-take_in c =
    let i = c.loop-index.index in
    let es = c.args.entries.now in
    let more = reverse_more es i _ c.loop-index-test.true in
    record {
      some = omega arith;
      within = omega arith;
      broken = subst (Breaks c.args.rule.now c.args.plan.now) (sym more)
          ((c.take_in.ensures.broken c.args.plan.now (reverse (take i es)) c.loop-index.invariant.stands).0 c.if-take_in.true);
      before = λ m l. c.loop-index.invariant.kept m (omega arith);
    }

pub returns : goal.returns
returns c =
    keeps_all c.args.rule.now c.args.plan.now c.args.entries.now
    (λ m l. let within : m ≤ c.loop-index.index = omega arith in c.loop-index.invariant.kept m within)
