-- What is made ready for the watchers before anything is played.
use Rattle.std.specs.Prelude.{◌≡◌, ◌*◌, ℕ, [], length, map, suc}
use Rattle.place_plan.specs.Plans.PlanValue.{Plan}
use Rattle.shared_views.specs.Committing.{Watching}
use Rattle.action_manager.specs.declared.manager.Manager.{Manager}
use Rattle.action_manager.specs.Managers.{plan_in, book_in}
use Rattle.action_manager.specs.Publishing.{new_observer}
use Rattle.role_driver.specs.VectorRoom.{HasRoomFor}
use Rattle.role_driver.specs.inner.Watchers.{Task}
use Rattle.role_driver.specs.declared.watch_room.WatchRoom.{WatchRoom}

-- to watch an object by what this observer sees
abbrev pub task_with : Watching → ℕ → Task
task_with w o = record { object = o; initials = w.initials; book = w.known.book }

-- the observers of a manager, when they are new
abbrev pub observer_of : {M : Type 0} → Manager M → Watching
observer_of manager = new_observer (plan_in manager) (book_in manager)

-- there is a blank for each watch of the plan, and room for the watchers, their threads, their return and their looks
pub record IsRoomFor (plan : Plan) (r : WatchRoom) : Type 0 where
  pub blanks : map (λ b. b.object) r.blanks.items ≡ plan.watches
  pub watchers : HasRoomFor (length plan.watches) r.watchers
  pub posts : HasRoomFor (length plan.watches) r.posts
  pub back : HasRoomFor (length plan.watches) r.back
  pub over : length r.over.items ≡ length plan.watches
  pub seens : (r.seens.seens ≡ []) × (r.seens.room ≡ length plan.watches * suc (length plan.plays))
