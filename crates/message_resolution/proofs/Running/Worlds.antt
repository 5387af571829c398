-- What a world's run gives its readers, and keeps of its room.
use Rattle.std.proofs.Common.{◌≡◌, ℕ, ◌+◌, ◌*◌, ◌≤◌, List, length, Option, Some, None, sym, subst, arith}
use Rattle.std.specs.Prelude.{IfSome}
use Rattle.cover_table.specs.Cover.{CoverOrder, IsSound}
use Rattle.message_resolution.specs.declared.world.event.Event.{Event}
use Rattle.message_resolution.specs.Members.Answers.{decisions}
use Rattle.message_resolution.specs.Members.Nodes.{Known, IsOneOf}
use Rattle.message_resolution.specs.Histories.Agreement.{IsAgreedForGood}
use Rattle.message_resolution.specs.Histories.Courses.{course_of}
use Rattle.message_resolution.specs.Histories.Settling.{IsSettled, Settles}
use Rattle.message_resolution.specs.Histories.Worlds.{IsNodeAt}
use Rattle.message_resolution.specs.inner.Runs.{RunView}
use Rattle.message_resolution.specs.inner.HeldWorlds.{HoldsWorld}
use Rattle.message_resolution.proofs.Coming.LegalPasts.{deciders_agree}
use Rattle.message_resolution.proofs.Coming.Settled.{settles_settled}

module _ (order : CoverOrder) (count : ℕ) (past : List Event) (t : ℕ) where
  -- what a node has decided, its member has
  pub node_decided : (node : Known) → IsNodeAt order count past t node
      → IsOneOf (decisions order count t ((course_of order count past).local t)) node.decided
  node_decided node at =
      let stands = at.stands in
      subst (λ m. IsOneOf (decisions order count m ((course_of order count past).local t)) node.decided) at.me
      (subst (λ n. IsOneOf (decisions order n node.me ((course_of order count past).local t)) node.decided) at.members stands.decided)

  -- and all agree on it
  pub one_agreed : (found : Option ℕ) → IsSound order → IsOneOf (decisions order count t ((course_of order count past).local t)) found
      → IfSome found (IsAgreedForGood order count past)
  one_agreed None sound is = tt
  one_agreed (Some e) sound is = deciders_agree order count past sound t e is

-- a world within its room has settled
pub settled_world : (run new : RunView) (room : ℕ) → HoldsWorld run room → length run.past ≤ room → new.order ≡ run.order
    → new.count ≡ run.count → new.event_room ≡ run.event_room → length new.past ≤ length run.past + 2 * run.count * run.count
    → Settles run.order run.count run.past new.past → HoldsWorld new room
settled_world run new room held within order count same long settles =
    let few = held.few in
    let spare = held.spare in
    record {
      few = omega arith;
      fits = held.fits;
      spare = subst (λ n. room + 2 * n * n ≤ new.event_room) (sym count) (omega arith);
      long = subst (λ n. length new.past ≤ room + 2 * n * n) (sym count) (omega arith);
      beyond =
          λ over. subst (λ n. IsSettled new.order n new.past) (sym count)
          (subst (λ o. IsSettled o run.count new.past) (sym order) (settles_settled run.order run.count settles));
    }
