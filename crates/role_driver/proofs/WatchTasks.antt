-- The tasks of the watchers of a plan.
use Rattle.std.proofs.Common.{◌≡◌, ℕ, ◌<◌, nat_lt, true, List, [], ◌∷◌, length, map, All, refl, sym, ap, ◌∙◌, subst}
use Rattle.std.specs.List.{list_all}
use Rattle.std.proofs.lemmas.Bool.{and_parts, ltb-true}
use Rattle.std.proofs.lemmas.List.{length-map}
use Rattle.std.proofs.lemmas.List.Elements.{All-nil, All-cons}
use Rattle.place_plan.specs.declared.drafts.draft.Draft.{Draft}
use Rattle.place_plan.specs.Plans.PlanValue.{Plan}
use Rattle.place_plan.specs.Plans.Closed.{IsClosed}
use Rattle.place_plan.specs.Drafts.DraftRules.{all_below, action_in_range, play_in_range, drill_in_range, range_rule}
use Rattle.place_plan.proofs.OnDrafts.DraftKeeps.{keeps_rules}
use Rattle.caa_base.specs.Written.Limits.{is_value}
use Rattle.shared_views.specs.Committing.{Committed, Watching}
use Rattle.role_driver.specs.declared.watch_room.Blank.{Blank}
use Rattle.role_driver.specs.inner.WatchRooms.{task_with}
use Rattle.role_driver.specs.inner.Gathering.{task_by}

-- each watch of a closed plan is of one of its objects
watches_below : (draft : Draft) → range_rule draft ≡ true → all_below (length draft.objects) draft.watches ≡ true
watches_below draft h =
    let a = and_parts (list_all (λ o. is_value o.initial) draft.objects) _ h in
    let b = and_parts (list_all (action_in_range draft) draft.actions) _ a.1 in
    let c = and_parts (list_all (play_in_range draft) draft.plays) _ b.1 in
    (and_parts (list_all (drill_in_range draft) draft.drills) _ c.1).1

watches_known : (plan : Plan) → IsClosed plan → all_below (length plan.objects) plan.watches ≡ true
watches_known plan closed = subst (λ (p : Plan). all_below (length p.objects) p.watches ≡ true) (sym closed.same)
    (watches_below closed.draft (keeps_rules closed.draft closed.whole).0.ranges)

objects_low : (n : ℕ) (bs : List Blank) → all_below n (map (λ b. b.object) bs) ≡ true → All (λ b. b.object < n) bs
objects_low n [] h = All-nil (λ (b : Blank). b.object < n)
objects_low n (b ∷ bs) h =
    let parts = and_parts (nat_lt b.object n) _ h in
    All-cons (λ (b : Blank). b.object < n) b bs (ltb-true b.object n parts.0) (objects_low n bs parts.1)

pub blanks_known : (plan : Plan) → IsClosed plan → (n : ℕ) → n ≡ length plan.objects → (bs : List Blank)
    → map (λ b. b.object) bs ≡ plan.watches → All (λ b. b.object < n) bs
blanks_known plan closed n same bs is =
    objects_low n bs
    (subst (λ m. all_below m (map (λ b. b.object) bs) ≡ true) (sym same)
    (subst (λ os. all_below (length plan.objects) os ≡ true) (sym is) (watches_known plan closed)))

-- lists that are mapped to one are of one length
pub same_length : {X Y Z : Type 0} (f : X → Z) (g : Y → Z) (xs : List X) (ys : List Y) → map f xs ≡ map g ys → length xs ≡ length ys
same_length f g xs ys same = sym (length-map xs f) ∙ ap length same ∙ length-map ys g

tasks_one_by_one : (w : Committed) (seer : Watching) → w.initials ≡ seer.initials → w.publications.book ≡ seer.known.book
    → (bs : List Blank) → map (λ b. task_with seer b.object) bs ≡ map (task_by w) (map (λ b. b.object) bs)
tasks_one_by_one w seer e f [] = refl
tasks_one_by_one w seer e f (b ∷ bs) =
    let one : task_with seer b.object ≡ task_by w b.object = λ i. record { object = b.object; initials = sym e i; book = sym f i } in
    let rest = tasks_one_by_one w seer e f bs in
    λ i. one i ∷ rest i

-- what observers of a writer's list are to watch
pub tasks_are : (w : Committed) (seer : Watching) → w.initials ≡ seer.initials → w.publications.book ≡ seer.known.book
    → (bs : List Blank) (os : List ℕ) → map (λ b. b.object) bs ≡ os → map (λ b. task_with seer b.object) bs ≡ map (task_by w) os
tasks_are w seer e f bs os is = tasks_one_by_one w seer e f bs ∙ ap (map (task_by w)) is
