use Rattle.std.proofs.Common.{slice_index_or, ◌∙◌, subst, arith, below_more}
use Rattle.std.proofs.lemmas.List.{get_or_default}
use Rattle.cover_table.specs.Cover.{IsSound, SetsHaveLeastCovers}
use Rattle.place_plan.specs.declared.drafts.draft_rows.GraphRow.{GraphRow}
use Rattle.place_plan.specs.Plans.Places.{no_graph}
use Rattle.place_plan.proofs.plans.plan.are_sound.Goals as goal

abbrev SoundRow : GraphRow → Type 0
SoundRow row = IsSound row.graph × SetsHaveLeastCovers row.graph

pub loop-row-preserved : goal.loop-row-preserved
loop-row-preserved c = λ g below.
    let here =
    subst SoundRow (c.row-item.is
    ∙ get_or_default c.args.rows.now c.loop-row.row-index c.row-item.result no_graph c.loop-row-test.true)
    (c.is_sound.ensures.sound, c.is_sound.ensures.sets) in
    below_more (λ i. SoundRow (slice_index_or c.args.rows.now i no_graph)) c.loop-row.row-index c.loop-row.invariant
    here g (omega (arith, below))

pub returns : goal.returns
returns c = λ g below. c.loop-row.invariant g (omega (arith, below, c.loop-row-test.false))
