-- How a node takes an event in.
use Rattle.std.proofs.Common.{◌≡◌, ◌≢◌, ℕ, ◌<◌, ◌||◌, nat_lt, true, false, List, [], ◌∷◌, slice_set, Option, Some, None, refl, sym, ◌∙◌, ap, subst, All, arith}
use Rattle.std.specs.Prelude.{if◌then◌else◌}
use Rattle.std.proofs.lemmas.List.{length-set}
use Rattle.std.proofs.lemmas.List.Elements.{All-cons}
use Rattle.cover_table.specs.Cover.{CoverOrder, IsLeastCover}
use Rattle.message_resolution.specs.declared.node.message.Message.{Message}
use Rattle.message_resolution.specs.declared.node.message.Message.TheVariants as message
use Rattle.message_resolution.specs.declared.node.state.State.{State}
use Rattle.message_resolution.specs.declared.node.state.State.TheVariants.{Normal, Raised, Suspended}
use Rattle.message_resolution.specs.Members.LocalEvents.{LocalEvent, raises, receives, told, has_spoken, has_heard}
use Rattle.message_resolution.specs.Members.Nodes.{Known, MayMeet, IsCoverOf, StandsFor, state_with, state_of, listed}
use Rattle.message_resolution.specs.inner.TakingIn.{HasTakenIn, TakesIn, Suspends, SuspendsFrom}
use Rattle.message_resolution.proofs.Containing.{first_in}
use Rattle.message_resolution.proofs.Knowing.States.{normal, raised, suspended, own_raised, raised_spoken, heard_more, told_in}

-- joins one more exception, whatever the cover was of
abbrev pub Joins : CoverOrder → Option ℕ → ℕ → ℕ → Type 0
Joins order cover e joined = (xs : List ℕ) → All (λ x. x < order.count) xs → IsCoverOf order xs cover → IsLeastCover order (e ∷ xs) joined

module _ (order : CoverOrder) (base : Known) where
  pub takes_raise : (e joined : ℕ) → e < order.count → Joins order base.cover e joined
      → TakesIn order (raises e) base (record base { state = Raised e; cover = Some joined }) (Some (message.Raised base.me e))
  takes_raise e joined e_in joins = record {
    me = refl;
    count = refl;
    taken = λ past stands. record {
      member = stands.member;
      met = All-cons (MayMeet order base.count base.me) (raises e) past e_in stands.met;
      state = refl;
      members = stands.members;
      heard = stands.heard;
      cover = joins (told past) (told_in order base.count base.me past stands.met) stands.cover;
      greater = stands.greater;
      resolved = stands.resolved;
      decided = stands.decided;
    };
    says = λ past stands. refl;
  }

  pub takes_suspended : (from : ℕ) → from < base.count → from ≢ base.me
      → TakesIn order (receives (message.Suspended from)) base (record base { heard = slice_set base.heard from true }) None
  takes_suspended from from_in other = record {
    me = refl;
    count = refl;
    taken = λ past stands.
        let many = stands.members in
        record {
          member = stands.member;
          met = All-cons (MayMeet order base.count base.me) (receives (message.Suspended from)) past (from_in, other) stands.met;
          state = stands.state;
          members = length-set base.heard from true ∙ stands.members;
          heard = λ u u_in. heard_more base.heard from base.me u (has_heard past u) (omega arith) (stands.heard u u_in);
          cover = stands.cover;
          greater = stands.greater;
          resolved = stands.resolved;
          decided = stands.decided;
        };
    says = λ past stands. refl;
  }

  pub takes_resolved : (from e : ℕ) → from < base.count → e < order.count → from ≢ base.me
      → TakesIn order (receives (message.Resolved from e)) base (record base { decided = Some e }) None
  takes_resolved from e from_in e_in other = record {
    me = refl;
    count = refl;
    taken = λ past stands. record {
      member = stands.member;
      met = All-cons (MayMeet order base.count base.me) (receives (message.Resolved from e)) past ((from_in, e_in), other) stands.met;
      state = stands.state;
      members = stands.members;
      heard = stands.heard;
      cover = stands.cover;
      greater = stands.greater;
      resolved = stands.resolved;
      decided = first_in e _;
    };
    says = λ past stands. refl;
  }

  module _ (from e joined : ℕ) (from_in : from < base.count) (e_in : e < order.count) (other : from ≢ base.me)
      (joins : Joins order base.cover e joined) where
    -- the node once it has noted who raised and what
    abbrev noted : State → Known
    noted state =
        record base {
          state = state;
          heard = slice_set base.heard from true;
          cover = Some joined;
          has_greater =
              nat_lt base.me from || base.has_greater;
        }

    taken_raised : (state : State) (past : List LocalEvent) → StandsFor order past base
        → state ≡ state_of (receives (message.Raised from e) ∷ past)
        → HasTakenIn order past (receives (message.Raised from e)) (noted state)
    taken_raised state past stands is =
        let many = stands.members in
        record {
          member = stands.member;
          met = All-cons (MayMeet order base.count base.me) (receives (message.Raised from e)) past ((from_in, e_in), other) stands.met;
          state = is;
          members = length-set base.heard from true ∙ stands.members;
          heard = λ u u_in. heard_more base.heard from base.me u (has_heard past u) (omega arith) (stands.heard u u_in);
          cover = joins (told past) (told_in order base.count base.me past stands.met) stands.cover;
          greater = ap (λ b. nat_lt base.me from || b) stands.greater;
          resolved = stands.resolved;
          decided = stands.decided;
        }

    -- and once it has answered
    answered : (state : State) → base.state ≡ state → (new : Known) (said : Option Message) → SuspendsFrom (noted state) state new said
        → TakesIn order (receives (message.Raised from e)) base new said
    answered Normal is new said does = subst (λ (n : Known). TakesIn order (receives (message.Raised from e)) base n said)
        (sym does.0) (record {
          me = refl;
          count = refl;
          taken =
              λ past stands. taken_raised Suspended past stands (ap (λ xs. state_with xs true) (sym (normal past (sym stands.state ∙ is)).0));
          says = λ past stands.
              let silent : has_spoken past ≡ false = (normal past (sym stands.state ∙ is)).1 in
              ap listed does.1 ∙ ap (λ b. if b then [] else message.Suspended base.me ∷ []) (sym silent);
        })
    answered (Raised own_one) is new said does =
        subst (λ (n : Known). TakesIn order (receives (message.Raised from e)) base n said) (sym does.0) (record {
          me = refl;
          count = refl;
          taken = λ past stands.
              let mine = raised past own_one (sym stands.state ∙ is) in
              taken_raised (Raised own_one) past stands (ap (λ xs. state_with xs true) (sym mine.1));
          says = λ past stands.
              let mine = raised past own_one (sym stands.state ∙ is) in
              let spoken : has_spoken past ≡ true = raised_spoken past (own_raised past own_one mine.0 mine.1) in
              ap listed does.1 ∙ ap (λ b. if b then [] else message.Suspended base.me ∷ []) (sym spoken);
        })
    answered Suspended is new said does =
        subst (λ (n : Known). TakesIn order (receives (message.Raised from e)) base n said) (sym does.0) (record {
          me = refl;
          count = refl;
          taken =
              λ past stands. taken_raised Suspended past stands
              (ap (λ xs. state_with xs true) (sym (suspended past (sym stands.state ∙ is)).0));
          says = λ past stands.
              let spoken : has_spoken past ≡ true = (suspended past (sym stands.state ∙ is)).1 in
              ap listed does.1 ∙ ap (λ b. if b then [] else message.Suspended base.me ∷ []) (sym spoken);
        })

    pub takes_raised : (new : Known) (said : Option Message) → Suspends (noted base.state) new said
        → TakesIn order (receives (message.Raised from e)) base new said
    takes_raised new said does = answered base.state refl new said does
