-- The nodes of a run follow its history.
use Rattle.std.proofs.Common.{◌≡◌, ◌≢◌, ℕ, ◌+◌, ◌*◌, ◌<◌, ◌≤◌, true, false, List, [], ◌∷◌, ◌++◌, length, length-append, slice_get, slice_index_or, reverse, Option, Some, None, inl, inr, refl, sym, ◌∙◌, ap, subst, arith}
use Rattle.std.proofs.lemmas.Option.{slice_get_read}
use Rattle.std.proofs.lemmas.Bool.{not-true, eqb-false}
use Rattle.std.proofs.lemmas.List.{length-set}
use Rattle.std.proofs.lemmas.List.Elements.{All-contains}
use Rattle.cover_table.specs.Cover.{CoverOrder, IsSound}
use Rattle.message_resolution.specs.declared.node.message.Message.{Message}
use Rattle.message_resolution.specs.declared.node.sent.Sent.{Sent}
use Rattle.message_resolution.specs.declared.node.state.State.{State}
use Rattle.message_resolution.specs.declared.node.state.State.TheVariants.{Normal, Raised, Suspended}
use Rattle.message_resolution.specs.declared.world.event.Event.{Event}
use Rattle.message_resolution.specs.declared.world.event.Event.TheVariants.{Raise, Deliver}
use Rattle.message_resolution.specs.Members.LocalEvents.{LocalEvent, has_spoken}
use Rattle.message_resolution.specs.Members.Answers.{answers}
use Rattle.message_resolution.specs.Members.Nodes.{Known, IsMessage, IsNodeOf, most_members, StandsFor, messages_of, sender_of, state_with}
use Rattle.message_resolution.specs.Histories.Courses.{Course, course_of, member_of, met_at}
use Rattle.message_resolution.specs.Histories.Legal.{MayCome, is_from_other}
use Rattle.message_resolution.specs.Histories.Worlds.{IsNodeAt}
use Rattle.message_resolution.specs.inner.Runs.{AreFreshNodes, HoldsRun, MayMeetNode, NodesMeet, OneMeets}
use Rattle.message_resolution.proofs.Knowing.States.{normal, raised, suspended, own_raised, raised_spoken}
use Rattle.message_resolution.proofs.Coming.Kept.{silent_own}
use Rattle.message_resolution.proofs.Coming.Advance.{local_same, local_other}
use Rattle.message_resolution.proofs.Coming.LegalPasts.{step_of, course_step, keeps, contains_got}
use Rattle.message_resolution.proofs.Coming.FewMessages.{few_messages}
use Rattle.message_resolution.proofs.Running.Places.{got_push, got_set}

-- one more node that has met nothing
pub fresh_more : (count : ℕ) (nodes : List Known) (node : Known) → AreFreshNodes count nodes → node.me ≡ length nodes → node.count ≡ count
    → ((order : CoverOrder) → StandsFor order [] node) → AreFreshNodes count (nodes ++ node ∷ [])
fresh_more count nodes node fresh me members stands order t found is = elim (got_push nodes node found t is) [
  | inl before ↦ fresh order t found before
  | inr last ↦ subst (IsNodeAt order count [] t) last.1 (record { me = me ∙ sym last.0; members = members; stands = stands order })
]

-- whether a member may still raise stands in its node's state
module _ (order : CoverOrder) (count : ℕ) (past : List Event) (by : ℕ) (node : Known) (at : IsNodeAt order count past by node) where
  pub normal_silent : node.state ≡ Normal → has_spoken ((course_of order count past).local by) ≡ false
  normal_silent is = let stands = at.stands in (normal ((course_of order count past).local by) (sym stands.state ∙ is)).1

  spoken_by : (state : State) → node.state ≡ state → (state ≡ Normal → ⊥) → has_spoken ((course_of order count past).local by) ≡ true
  spoken_by Normal is other = absurd (other refl)
  spoken_by (Raised e) is other =
      let stands = at.stands in
      let mine = raised ((course_of order count past).local by) e (sym stands.state ∙ is) in
      raised_spoken ((course_of order count past).local by) (own_raised ((course_of order count past).local by) e mine.0 mine.1)
  spoken_by Suspended is other = let stands = at.stands in (suspended ((course_of order count past).local by) (sym stands.state ∙ is)).1

  pub other_spoken : (node.state ≡ Normal → ⊥) → has_spoken ((course_of order count past).local by) ≡ true
  other_spoken other = spoken_by node.state refl other

  pub silent_normal : has_spoken ((course_of order count past).local by) ≡ false → node.state ≡ Normal
  silent_normal silent =
      let stands = at.stands in
      let mine = (course_of order count past).local by in
      stands.state ∙ ap (λ es. state_with es (has_spoken mine)) (silent_own mine silent) ∙ ap (λ b. state_with [] b) silent

other_got : (t : ℕ) (o : Option Message) → is_from_other t o ≡ true → (m : Message) × (o ≡ Some m) × (sender_of m ≢ t)
other_got t None other = absurd cc
other_got t (Some m) other = (m, refl, eqb-false (sender_of m) t (not-true _ other))

module _ (order : CoverOrder) (sound : IsSound order) (count : ℕ) (past : List Event) (messages : List Message)
    (nodes : List Known) (room : ℕ) (holds : HoldsRun order count past messages nodes room) where
  may_meet : (e : Event) → MayCome order count past e → (node : Known) → IsNodeAt order count past (member_of e) node
      → MayMeetNode order messages node e
  may_meet (Raise by f) may node at = (silent_normal order count past by node at (not-true _ may.legal), may.in_range.1)
  may_meet (Deliver to number) may node at =
      let course = course_of order count past in
      let found = other_got to (slice_get course.messages number) may.legal in
      let known =
      All-contains (IsMessage order count) course.messages found.0 (keeps order count past sound holds.legal).0.known
      (contains_got course.messages number found.0 found.1) in (
        found.0,
        ap (λ ms. slice_get ms number) holds.sent ∙ found.1,
        λ same. found.2 (same ∙ at.me),
        subst (λ n. IsMessage order n found.0) (sym at.members) known,
      )

  pub may_meet_at : (e : Event) → MayCome order count past e → (node : Known) → slice_get nodes (member_of e) ≡ Some node
      → IsNodeOf order node × MayMeetNode order messages node e
  may_meet_at e may node is =
      let at = holds.each (member_of e) node is in
      (((course_of order count past).local (member_of e), at.stands), may_meet e may node at)

  module _ (e : Event) (may : MayCome order count past e) (new : List Known) (sent : Sent)
      (nodes_meet : NodesMeet order messages nodes new e sent) where
    abbrev course : Course
    course = course_of order count past

    abbrev t : ℕ
    t = member_of e

    met : (x : LocalEvent) → met_at course.messages e ≡ Some x → OneMeets order nodes new t x sent
    met x is = nodes_meet x (ap (λ ms. met_at ms e) holds.sent ∙ is)

    now_sends : (x : LocalEvent) (one : OneMeets order nodes new t x sent) → messages_of sent ≡ answers order count t (course.local t) x
    now_sends x one =
        let at = holds.each t one.node one.was in
        let meets = one.meets in
        meets.sends (course.local t) at.stands
        ∙ ap (λ n. answers order n one.node.me (course.local t) x) at.members
        ∙ ap (λ m. answers order count m (course.local t) x) at.me

    pub next_sent : messages ++ messages_of sent ≡ (course_of order count (e ∷ past)).messages
    next_sent =
        let step = step_of order count past e may in
        ap (λ ms. ms ++ messages_of sent) holds.sent
        ∙ ap (λ ms. course.messages ++ ms) (now_sends step.x (met step.x step.met))
        ∙ sym (ap (λ (c : Course). c.messages) (course_step order count past e step))

    next_each : (u : ℕ) (node : Known) → slice_get new u ≡ Some node → IsNodeAt order count (e ∷ past) u node
    next_each u node is =
        let step = step_of order count past e may in
        let one = met step.x step.met in
        let changed = one.is in
        let same_course = course_step order count past e step in
        elim (got_set nodes t one.next node u (ap (λ ns. slice_get ns u) (sym changed) ∙ is)) [
          | inl here ↦
              let at = holds.each t one.node one.was in
              let meets = one.meets in
              let stands : StandsFor order ((course_of order count (e ∷ past)).local t) one.next =
              subst (λ (c : Course). StandsFor order (c.local t) one.next) (sym same_course)
              (subst (λ local. StandsFor order local one.next) (sym (local_same order count course t step.x))
              (meets.stands (course.local t) at.stands)) in
              let at_t : IsNodeAt order count (e ∷ past) t one.next =
              record { me = meets.me ∙ at.me; members = meets.count ∙ at.members; stands = stands } in
              subst (IsNodeAt order count (e ∷ past) u) here.1 (subst (λ v. IsNodeAt order count (e ∷ past) v one.next) (sym here.0) at_t)
          | inr other ↦
              let at = holds.each u node other.1 in
              record {
                me = at.me;
                members = at.members;
                stands =
                    subst (λ (c : Course). StandsFor order (c.local u) node) (sym same_course)
                    (subst (λ local. StandsFor order local node) (sym (local_other order count course t step.x u other.0)) at.stands);
              }
        ]

    next_many : length new ≡ count
    next_many =
        let step = step_of order count past e may in
        let one = met step.x step.met in
        ap length one.is ∙ length-set nodes t one.next ∙ holds.many

    pub next_room : length messages + length (messages_of sent) ≤ room
    next_room =
        let few = few_messages order count (e ∷ past) (holds.legal, may) in
        let same = ap length next_sent in
        let both = length-append messages (messages_of sent) in
        let fits = holds.room in
        omega arith

    pub next_holds : HoldsRun order count (e ∷ past) (messages ++ messages_of sent) new room
    next_holds = record {
      few = holds.few;
      legal = (holds.legal, may);
      sent = next_sent;
      many = next_many;
      each = next_each;
      room = holds.room;
    }

-- the node at a place is its member's
pub node_at : (order : CoverOrder) (count : ℕ) (past : List Event) (messages : List Message) (nodes : List Known) (room : ℕ)
    → HoldsRun order count past messages nodes room → (t : ℕ) (node : Known) → t < count → node ≡ slice_index_or nodes t node
    → IsNodeAt order count past t node
node_at order count past messages nodes room holds t node t_in is =
    let many = holds.many in
    holds.each t node (slice_get_read nodes count t node (sym many) t_in is)

-- a run starts with nodes that have met nothing
pub starts : (order : CoverOrder) (count : ℕ) (events : List Event) (messages : List Message) (nodes : List Known) (room : ℕ)
    → count ≤ most_members → events ≡ [] → messages ≡ [] → length nodes ≡ count → AreFreshNodes count nodes → 2 * count ≤ room
    → HoldsRun order count (reverse events) messages nodes room
starts order count events messages nodes room few none_events none_messages many fresh fits =
    subst (λ es. HoldsRun order count (reverse es) messages nodes room) (sym none_events) (record {
      few = few;
      legal = tt;
      sent = none_messages;
      many = many;
      each = fresh order;
      room = fits;
    })
