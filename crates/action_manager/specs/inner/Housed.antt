-- When what lies in the slot is right.
use Rattle.std.specs.Prelude.{◌≡◌, List, length, reverse, vec_capacity}
use Rattle.caa_base.specs.declared.written.entry.Entry.{Entry}
use Rattle.place_plan.specs.declared.rules.machine.Base.{Base}
use Rattle.place_plan.specs.Plans.PlanValue.{Plan}
use Rattle.shared_views.specs.Telling.{cells_of, KeepsUp}
use Rattle.action_manager.specs.declared.lock_view.Terms.{Terms}
use Rattle.action_manager.specs.declared.housed.Housed.{Housed}
use Rattle.action_manager.specs.Publishing.{Publishes, HasRoom, book_of}

-- the bulletin keeps up with the machine's journal, by one cell for each place; what its ended plays publish was published, as
-- far as memory was found, and there is room for the changes of any play
pub record IsKept {M : Type 0} (plan_of : M → Plan) (journal_of : M → List Entry) (h : Housed M) : Type 0 where
  pub keeps_up : KeepsUp (reverse (journal_of h.machine)) h.bulletin
  pub wide : length (cells_of h.bulletin) ≡ length (plan_of h.machine).places
  pub publishes : Publishes (plan_of h.machine) (reverse (journal_of h.machine)) h.publishing.writer
  pub room : HasRoom (plan_of h.machine) (vec_capacity h.publishing.changes)

-- plan and base of the machine are those of the terms, and what lies beside it keeps up with its journal, by the cells of the
-- terms and in their list of publications
pub record IsRight {M : Type 0} (plan_of : M → Plan) (base_of : M → Base) (journal_of : M → List Entry)
    (terms : Terms) (h : Housed M) : Type 0 where
  pub plan : plan_of h.machine ≡ terms.plan
  pub base : base_of h.machine ≡ terms.base
  pub cells : cells_of h.bulletin ≡ terms.cells
  pub book : book_of h.publishing ≡ terms.book
  pub kept : IsKept plan_of journal_of h
