use Rattle.page_text.specs.declared.fixed.TheConstants.{FRONT, BACK}
use Rattle.page_text.specs.Parts.{parts_text}
use Rattle.journal_page.specs.Pages.{middle_text}
use Rattle.journal_page.proofs.TextLemmas.{framed}
use Rattle.journal_page.proofs.page.page.Goals as goal

pub returns : goal.returns
returns g c =
    let plan = c.args.plan.now in
    let turns = c.in_ok-turns.turns in
    record {
      first = turns.first.items;
      turns = turns.turns.items;
      at_first = c.in_ok-turns.ensures.first;
      are_turns = c.in_ok-turns.ensures.turns;
      stops = c.in_ok-turns.ensures.stops;
      same =
          framed FRONT.now c.in_ok-text.text.items c.push_middle.new.text.items c.in_ok-whole.whole.items
          (parts_text c.args.head.now) (middle_text plan turns.first.items turns.turns.items) (parts_text c.args.tail.now) BACK.now
          c.in_ok-text.ensures c.in_ok-push_middle.ensures c.in_ok-whole.ensures;
    }
