-- Entries by which something is raised.
use Rattle.std.specs.Prelude.{◌≡◌, ℕ, true, false, List, [], ◌∷◌}
use Rattle.caa_base.specs.declared.written.entry.Entry.{Entry}
use Rattle.place_plan.specs.Plans.PlanValue.{Plan}
use Rattle.resolution_core.specs.inner.Standing.{Acts}
use Rattle.action_endings.specs.inner.ChangedEndings.{is_apart}

-- the entry raises one exception in p for its maker, which is halted there, and says, undoes and restores nothing
pub record RaisesIn (plan : Plan) (past : List Entry) (e : Entry) (p : ℕ) : Type 0 where
  pub exception : ℕ
  pub acts : Acts plan past e p e.by (exception ∷ []) true false
  pub apart : is_apart e ≡ true
