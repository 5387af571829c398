-- When a node that has taken an event in resolves, and what it stands for then.
use Rattle.std.proofs.Common.{◌≡◌, ℕ, ◌&&◌, ◌||◌, ◌==◌, not, true, false, List, [], ◌∷◌, ◌++◌, Option, Some, None, inl, inr, refl, sym, ◌∙◌, ap, subst, map, arith, zero-add, Contains}
use Rattle.std.specs.List.{list_all, range_with_len}
use Rattle.std.specs.Prelude.{IfNone}
use Rattle.std.proofs.lemmas.Bool.{and_parts, and_from, and_left, and_right, cases_Bool, cond-true, cond-false, not_from_true, not_from_false, not-true, or_left, or_right, or_from}
use Rattle.cover_table.specs.Cover.{CoverOrder, IsOrder}
use Rattle.message_resolution.specs.declared.node.message.Message.{Message}
use Rattle.message_resolution.specs.declared.node.message.Message.TheVariants as message
use Rattle.message_resolution.specs.declared.node.sent.Sent.{Sent}
use Rattle.message_resolution.specs.declared.node.state.State.TheVariants.{Raised}
use Rattle.message_resolution.specs.Members.LeastCover.{least_cover}
use Rattle.message_resolution.specs.Members.LocalEvents.{LocalEvent, resolved_at, told, has_raised, has_heard}
use Rattle.message_resolution.specs.Members.Answers.{has_heard_all, may_resolve, has_resolved, resolution, word, decisions}
use Rattle.message_resolution.specs.Members.Nodes.{Known, IsCoverOf, Meets, messages_of, listed}
use Rattle.message_resolution.specs.inner.TakingIn.{HasTakenIn, IsResolutionOf, Resolves, TakesIn, as_list}
use Rattle.message_resolution.proofs.Containing.{first_in}
use Rattle.message_resolution.proofs.Ranges.{all_of_answers}
use Rattle.message_resolution.proofs.LeastCovers.{least_cover-is}
use Rattle.message_resolution.proofs.Knowing.States.{own_raised, raised, not_raised, raised_told}

module _ (order : CoverOrder) (count me : ℕ) (past : List LocalEvent) (x : LocalEvent) where
  pub does_not_resolve : (may_resolve count me (x ∷ past) && not (has_resolved count me past)) ≡ false
      → resolution order count me past x ≡ []
  does_not_resolve fails = cond-false _ _ _ fails

  pub does_resolve : may_resolve count me (x ∷ past) ≡ true → has_resolved count me past ≡ false
      → resolution order count me past x ≡ least_cover order (told (x ∷ past)) ∷ []
  does_resolve may before = cond-true _ _ _ (and_from _ _ may (not_from_false _ before))

  -- who resolves may, and had not
  pub resolves_rightly : (e : ℕ) (es : List ℕ) → resolution order count me past x ≡ e ∷ es
      → (may_resolve count me (x ∷ past) ≡ true) × (has_resolved count me past ≡ false)
  resolves_rightly e es is = elim (cases_Bool (may_resolve count me (x ∷ past) && not (has_resolved count me past))) [
    | inl holds ↦ let parts = and_parts (may_resolve count me (x ∷ past)) (not (has_resolved count me past)) holds in (
      parts.0,
      not-true _ parts.1,
    )
    | inr fails ↦ let none = does_not_resolve fails in absurd cc
  ]

  -- who doesn't resolve might not, or had
  pub unresolved : resolution order count me past x ≡ [] → has_resolved count me (x ∷ past) ≡ has_resolved count me past
  unresolved is = elim (cases_Bool (has_resolved count me past)) [
    | inl had ↦ or_right (may_resolve count me (x ∷ past)) (has_resolved count me past) had ∙ sym had
    | inr fresh ↦ elim (cases_Bool (may_resolve count me (x ∷ past))) [
      | inl may ↦ let some = does_resolve may fresh in absurd cc
      | inr may_not ↦ or_from (may_resolve count me (x ∷ past)) (has_resolved count me past) may_not fresh ∙ sym fresh
    ]
  ]

-- the flags that a node keeps of whom it has heard say whether it has heard all
heard_all : (order : CoverOrder) (past : List LocalEvent) (x : LocalEvent) (node : Known) → HasTakenIn order past x node
    → list_all (λ b. b) node.heard ≡ has_heard_all node.count node.me (x ∷ past)
heard_all order past x node taken =
    let many = taken.members in
    all_of_answers (λ u. u == node.me || has_heard (x ∷ past) u) node.heard 0
    (λ u u_in. taken.heard u (omega arith) ∙ ap (λ k. k == node.me || has_heard (x ∷ past) k) (sym (zero-add u)))
    ∙ ap (λ n. list_all (λ u. u == node.me || has_heard (x ∷ past) u) (range_with_len 0 n)) many

module _ (node : Known) where
  pub none_not_raised : ((e : ℕ) → node.state ≡ Raised e → ⊥) → IsResolutionOf node None
  none_not_raised other order past x ordered taken =
      sym
      (does_not_resolve order node.count node.me past x
      (and_left _ _ (and_left _ _ (not_raised (x ∷ past) (λ e is. other e (taken.state ∙ is))))))

  pub none_greater : node.has_greater ≡ true → IsResolutionOf node None
  none_greater greater order past x ordered taken =
      sym
      (does_not_resolve order node.count node.me past x
      (and_left _ _ (and_right _ _ (and_right _ _ (not_from_true _ (sym taken.greater ∙ greater))))))

  pub none_again : node.has_resolved ≡ true → IsResolutionOf node None
  none_again had order past x ordered taken =
      sym (does_not_resolve order node.count node.me past x (and_right _ _ (not_from_true _ (sym taken.resolved ∙ had))))

  pub none_unheard : list_all (λ b. b) node.heard ≡ false → IsResolutionOf node None
  none_unheard fails order past x ordered taken =
      sym
      (does_not_resolve order node.count node.me past x
      (and_left _ _ (and_right _ _ (and_left _ _ (sym (heard_all order past x node taken) ∙ fails)))))

  -- what it has covered is the least cover
  cover_is : (order : CoverOrder) (xs : List ℕ) (cover : Option ℕ) → IsOrder order → (xs ≡ [] → ⊥) → IsCoverOf order xs cover
      → as_list cover ≡ least_cover order xs ∷ []
  cover_is order xs None ordered some is = absurd (some is)
  cover_is order xs (Some c) ordered some is = ap (λ y. y ∷ []) (sym (least_cover-is order xs c ordered is))

  pub some_cover : (e : ℕ) → node.state ≡ Raised e → node.has_greater ≡ false → node.has_resolved ≡ false
      → list_all (λ b. b) node.heard ≡ true → IsResolutionOf node node.cover
  some_cover e state not_greater fresh all order past x ordered taken =
      let mine = raised (x ∷ past) e (sym taken.state ∙ state) in
      let has : has_raised (x ∷ past) ≡ true = own_raised (x ∷ past) e mine.0 mine.1 in
      let may : may_resolve node.count node.me (x ∷ past) ≡ true =
      and_from _ _ has
      (and_from _ _ (sym (heard_all order past x node taken) ∙ all) (not_from_false _ (sym taken.greater ∙ not_greater))) in
      cover_is order (told (x ∷ past)) node.cover ordered (raised_told (x ∷ past) has) taken.cover
      ∙ sym (does_resolve order node.count node.me past x may (sym taken.resolved ∙ fresh))

  pub resolves_some : (e : ℕ) → IsResolutionOf node (Some e)
      → Resolves node (record node { has_resolved = true; decided = Some e }) (Some (message.Resolved node.me e))
  resolves_some e found = record {
    me = refl;
    count = refl;
    stands = λ order past x ordered taken.
        let some : resolution order node.count node.me past x ≡ e ∷ [] = sym (found order past x ordered taken) in
        record {
          member = taken.member;
          met = taken.met;
          state = taken.state;
          members = taken.members;
          heard = taken.heard;
          cover = taken.cover;
          greater = taken.greater;
          resolved = sym (or_left _ _ (resolves_rightly order node.count node.me past x e [] some).0);
          decided =
              subst (λ (es : List ℕ). Contains ((es ++ resolved_at x) ++ decisions order node.count node.me past) e) (sym some)
              (first_in e (resolved_at x ++ decisions order node.count node.me past));
        };
    sends = λ order past x ordered taken. ap (λ es. map (λ f. message.Resolved node.me f) es) (found order past x ordered taken);
  }

-- an event is met by taking it in and resolving
pub meets : (order : CoverOrder) (x : LocalEvent) (old mid new : Known) (said resolved : Option Message) (sent : Sent) → IsOrder order
    → TakesIn order x old mid said → Resolves mid new resolved → messages_of sent ≡ listed said ++ listed resolved
    → IfNone sent.first (sent.second ≡ None) → Meets order x old new sent
meets order x old mid new said resolved sent ordered takes resolves messages lone = record {
  me = resolves.me ∙ takes.me;
  count = resolves.count ∙ takes.count;
  lone = lone;
  stands = λ past stands. resolves.stands order past x ordered (takes.taken past stands);
  sends = λ past stands.
      let said_is = takes.says past stands in
      let first : List Message = word old.me past x in
      let then_is = resolves.sends order past x ordered (takes.taken past stands) in
      messages
      ∙ ap (λ ms. ms ++ listed resolved) said_is
      ∙ ap (λ ms. first ++ ms) then_is
      ∙ ap (λ m. first ++ map (λ e. message.Resolved m e) (resolution order mid.count m past x)) takes.me
      ∙ ap (λ n. first ++ map (λ e. message.Resolved old.me e) (resolution order n old.me past x)) takes.count;
}
