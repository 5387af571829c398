use Rattle.std.proofs.Common.{◌∙◌, ap, pos}
use Rattle.std.specs.Prelude.{slice_index_or}
use Rattle.rehearsals.specs.declared.facts.Fact.TheVariants as fact
use Rattle.rehearsals.proofs.JournalsCounted.{last_more}
use Rattle.rehearsals.proofs.facts.facts_of.Goals as goal

pub loop-object-preserved : goal.loop-object-preserved
loop-object-preserved c =
    c.in_ok-push.ensures.items
    ∙ last_more c.loop-object.facts.items _ c.in_ok-values.values.items c.loop-object.object _ c.loop-object.invariant
    (c.last_fact.ensures ∙ ap (λ values. fact.Last c.loop-object.object (slice_index_or values c.loop-object.object (pos 0))) c.deref.ensures.value)
