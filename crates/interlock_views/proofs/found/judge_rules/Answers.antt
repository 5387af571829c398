use Rattle.std.proofs.Common.{◌++◌, ◌∷◌, []}
use Rattle.std.proofs.lemmas.List.Elements.{All-push, All-same}
use Rattle.interlock_views.specs.Broken.{IsJudgedRule}
use Rattle.interlock_views.specs.declared.found.JudgedRule.{JudgedRule}
use Rattle.interlock_views.proofs.Judged.{judged_on}
use Rattle.interlock_views.proofs.found.judge_rules.Goals as goal

pub loop-line-preserved : goal.loop-line-preserved
loop-line-preserved c =
    let inv = c.loop-line.invariant in let pushed = c.in_ok-push.ensures.items in let old = c.loop-line.judged.items in
    let one : JudgedRule = record { line = c.in-Some.line; broken = c.in_ok-broken.broken } in
    let P = IsJudgedRule c.args.plan.now c.args.entries.now in
    record {
      rules_are = judged_on c.args.rules.items c.loop-line.line-iterator.rest.items c.next.new.self.rest.items old _ one pushed
          c.in-Some.ensures.steps.0 inv.rules_are;
      each = All-same P _ (old ++ one ∷ []) pushed (All-push P old one inv.each c.in_ok-broken.ensures);
    }
