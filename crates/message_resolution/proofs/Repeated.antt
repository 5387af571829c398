-- What was met once more tells a member nothing new.
use Rattle.std.proofs.Common.{◌≡◌, ◌∙◌, ℕ, ◌==◌, Bool, true, false, not, cond, ◌&&◌, ◌||◌, List, [], ◌∷◌, ◌++◌, map, inl, inr, refl, sym, ap, subst, Contains}
use Rattle.std.specs.List.{list_any, list_all, flat_map, range_with_len}
use Rattle.std.proofs.lemmas.Bool.{or_left, false≢true}
use Rattle.std.proofs.lemmas.List.Elements.{Contains-append_left, Contains-append_right, Contains-append_cases}
use Rattle.cover_table.specs.Cover.{CoverOrder, covers, covers_each}
use Rattle.message_resolution.specs.declared.node.message.Message.{Message}
use Rattle.message_resolution.specs.declared.node.message.Message.TheVariants.{Raised, Suspended, Resolved}
use Rattle.message_resolution.specs.Members.LeastCover.{first_such, least_cover}
use Rattle.message_resolution.specs.Members.LocalEvents.{LocalEvent, raises, receives, is_raise, is_call, is_word_of, is_greater, told_at, told, resolved_at, has_heard}
use Rattle.message_resolution.specs.Members.Answers.{may_resolve, has_resolved, resolution, word, answers, decisions}
use Rattle.message_resolution.specs.Members.Repeated.{ChangesNothing}
use Rattle.message_resolution.proofs.Containing.{nothing_in, cases_in, any_from, flat_map_from, list_all_in, list_all_from}

-- a test that holds of one of a list finds no more with it twice
any_again : {A : Type 0} (test : A → Bool) (later past : List A) (x : A) → Contains past x
    → list_any test (later ++ x ∷ past) ≡ list_any test (later ++ past)
any_again test [] past x at = by_test (test x) refl
  where
    by_test : (b : Bool) → test x ≡ b → b || list_any test past ≡ list_any test past
    by_test true h = sym (any_from test past x at h)
    by_test false h = refl
any_again test (y ∷ later) past x at = ap (λ b. test y || b) (any_again test later past x at)

-- what the elements have is the same with one of them twice
has_again : {A B : Type 0} (f : A → List B) (later past : List A) (x : A) (b : B) → Contains past x
    → Contains (flat_map f (later ++ x ∷ past)) b → Contains (flat_map f (later ++ past)) b
has_again f [] past x b at h = elim (Contains-append_cases (f x) (flat_map f past) b h) [
  | inl here ↦ flat_map_from f past x b at here
  | inr there ↦ there
]
has_again f (y ∷ later) past x b at h = elim (Contains-append_cases (f y) (flat_map f (later ++ x ∷ past)) b h) [
  | inl here ↦ Contains-append_left (f y) (flat_map f (later ++ past)) b here
  | inr there ↦ Contains-append_right (f y) (flat_map f (later ++ past)) b (has_again f later past x b at there)
]

has_still : {A B : Type 0} (f : A → List B) (later past : List A) (x : A) (b : B)
    → Contains (flat_map f (later ++ past)) b → Contains (flat_map f (later ++ x ∷ past)) b
has_still f [] past x b h = Contains-append_right (f x) (flat_map f past) b h
has_still f (y ∷ later) past x b h = elim (Contains-append_cases (f y) (flat_map f (later ++ past)) b h) [
  | inl here ↦ Contains-append_left (f y) (flat_map f (later ++ x ∷ past)) b here
  | inr there ↦ Contains-append_right (f y) (flat_map f (later ++ x ∷ past)) b (has_still f later past x b there)
]

same_from : (a b : Bool) → (a ≡ true → b ≡ true) → (b ≡ true → a ≡ true) → a ≡ b
same_from true b to from = sym (to refl)
same_from false true to from = from refl
same_from false false to from = refl

-- two tests of lists with the same elements come to the same
all_same : {A : Type 0} (p : A → Bool) (xs ys : List A) → ((x : A) → Contains xs x → Contains ys x)
    → ((x : A) → Contains ys x → Contains xs x) → list_all p xs ≡ list_all p ys
all_same p xs ys to from =
    same_from (list_all p xs) (list_all p ys)
    (λ h. list_all_from p ys (λ x at. list_all_in p xs x h (from x at)))
    (λ h. list_all_from p xs (λ x at. list_all_in p ys x h (to x at)))

-- the least cover hangs on what covers each alone
least_same : (order : CoverOrder) (xs ys : List ℕ) → ((x : ℕ) → covers_each order x xs ≡ covers_each order x ys)
    → least_cover order xs ≡ least_cover order ys
least_same order xs ys same =
    ap (λ (f : ℕ → Bool). first_such (λ x. f x && list_all (λ y. not (f y) || covers order y x) (range_with_len 0 order.count)) (range_with_len 0 order.count))
    (λ i x. same x i)

module _ (order : CoverOrder) (count me : ℕ) (m : Message) (past : List LocalEvent) (at : Contains past (receives m)) where
  may_again : (later : List LocalEvent) → may_resolve count me (later ++ receives m ∷ past) ≡ may_resolve count me (later ++ past)
  may_again later =
      let raised = any_again is_raise later past (receives m) at in
      let greater = any_again (is_greater me) later past (receives m) at in
      let heard : (λ (u : ℕ). u == me || has_heard (later ++ receives m ∷ past) u) ≡ (λ (u : ℕ). u == me || has_heard (later ++ past) u) =
      λ i u. u == me || any_again (is_word_of u) later past (receives m) at i in
      λ i. raised i && (list_all (heard i) (range_with_len 0 count) && not (greater i))

  -- who might resolve at the end of some events has resolved by then
  has_once : (events : List LocalEvent) → may_resolve count me events ≡ true → has_resolved count me events ≡ true
  has_once [] may = absurd (false≢true may)
  has_once (x ∷ events) may = or_left _ _ may

  resolved_again : (later : List LocalEvent) → has_resolved count me (later ++ receives m ∷ past) ≡ has_resolved count me (later ++ past)
  resolved_again [] =
      ap (λ b. b || has_resolved count me past) (may_again []) ∙ absorbed (may_resolve count me past) (has_resolved count me past) (has_once past)
    where
      absorbed : (a b : Bool) → (a ≡ true → b ≡ true) → a || b ≡ b
      absorbed true b h = sym (h refl)
      absorbed false b h = refl
  resolved_again (x ∷ later) =
      let may = may_again (x ∷ later) in let rest = resolved_again later in λ i. may i || rest i

  cover_again : (later : List LocalEvent) → least_cover order (told (later ++ receives m ∷ past)) ≡ least_cover order (told (later ++ past))
  cover_again later =
      least_same order (told (later ++ receives m ∷ past)) (told (later ++ past))
      (λ x. all_same (covers order x) (told (later ++ receives m ∷ past)) (told (later ++ past))
      (λ e. has_again told_at later past (receives m) e at) (λ e. has_still told_at later past (receives m) e))

  resolution_again : (later : List LocalEvent) (x : LocalEvent)
      → resolution order count me (later ++ receives m ∷ past) x ≡ resolution order count me (later ++ past) x
  resolution_again later x =
      let may = may_again (x ∷ later) in
      let before = resolved_again later in
      let cover = cover_again (x ∷ later) in
      λ i. cond (may i && not (before i)) (cover i ∷ []) []

  word_again : (later : List LocalEvent) (x : LocalEvent) → word me (later ++ receives m ∷ past) x ≡ word me (later ++ past) x
  word_again later (raises exception) = refl
  word_again later (receives (Raised from exception)) = ap (λ b. cond b [] (Suspended me ∷ [])) (any_again is_call later past (receives m) at)
  word_again later (receives (Suspended from)) = refl
  word_again later (receives (Resolved from exception)) = refl

  answers_again : (later : List LocalEvent) (x : LocalEvent)
      → answers order count me (later ++ receives m ∷ past) x ≡ answers order count me (later ++ past) x
  answers_again later x =
      let said = word_again later x in
      let resolves = resolution_again later x in
      λ i. said i ++ map (λ e. Resolved me e) (resolves i)

  -- ---- at the second delivery itself

  none_again : resolution order count me past (receives m) ≡ []
  none_again = ap (λ b. cond (b && not (has_resolved count me past)) (least_cover order (told (receives m ∷ past)) ∷ []) []) (may_again [])
      ∙ quiet (may_resolve count me past) (has_resolved count me past) (has_once past)
    where
      quiet : (a b : Bool) → (a ≡ true → b ≡ true) → cond (a && not b) (least_cover order (told (receives m ∷ past)) ∷ []) [] ≡ []
      quiet false b h = refl
      quiet true b h = ap (λ c. cond (not c) (least_cover order (told (receives m ∷ past)) ∷ []) []) (h refl)

  unworded : (n : Message) → Contains past (receives n) → word me past (receives n) ≡ []
  unworded (Raised from exception) there = ap (λ b. cond b [] (Suspended me ∷ [])) (any_from is_call past (receives (Raised from exception)) there refl)
  unworded (Suspended from) there = refl
  unworded (Resolved from exception) there = refl

  -- what a message told that was delivered is decided
  decided_by : (events : List LocalEvent) (x : LocalEvent) (e : ℕ) → Contains events x → Contains (resolved_at x) e
      → Contains (decisions order count me events) e
  decided_by [] x e there h = absurd (nothing_in x there)
  decided_by (y ∷ events) x e there h =
      let here = resolution order count me events y in
      elim (cases_in y events x there) [
        | inl same ↦
            Contains-append_left (here ++ resolved_at y) (decisions order count me events) e
            (Contains-append_right here (resolved_at y) e (subst (λ z. Contains (resolved_at z) e) (sym same) h))
        | inr rest ↦
            Contains-append_right (here ++ resolved_at y) (decisions order count me events) e (decided_by events x e rest h)
      ]

  decides_no_more : (later : List LocalEvent) (e : ℕ) → Contains (decisions order count me (later ++ receives m ∷ past)) e
      → Contains (decisions order count me (later ++ past)) e
  decides_no_more [] e h =
      elim (Contains-append_cases (resolution order count me past (receives m) ++ resolved_at (receives m)) (decisions order count me past) e h) [
        | inl here ↦
            let told_it : Contains (resolved_at (receives m)) e = subst (λ (xs : List ℕ). Contains (xs ++ resolved_at (receives m)) e) none_again here in
            decided_by past (receives m) e at told_it
        | inr there ↦ there
      ]
  decides_no_more (x ∷ later) e h =
      let old = resolution order count me (later ++ receives m ∷ past) x in
      let new = resolution order count me (later ++ past) x in
      elim (Contains-append_cases (old ++ resolved_at x) (decisions order count me (later ++ receives m ∷ past)) e h) [
        | inl here ↦
            Contains-append_left (new ++ resolved_at x) (decisions order count me (later ++ past)) e
            (subst (λ (xs : List ℕ). Contains (xs ++ resolved_at x) e) (resolution_again later x) here)
        | inr there ↦
            Contains-append_right (new ++ resolved_at x) (decisions order count me (later ++ past)) e (decides_no_more later e there)
      ]

  decides_still : (later : List LocalEvent) (e : ℕ) → Contains (decisions order count me (later ++ past)) e
      → Contains (decisions order count me (later ++ receives m ∷ past)) e
  decides_still [] e h =
      Contains-append_right (resolution order count me past (receives m) ++ resolved_at (receives m)) (decisions order count me past) e h
  decides_still (x ∷ later) e h =
      let old = resolution order count me (later ++ receives m ∷ past) x in
      let new = resolution order count me (later ++ past) x in
      elim (Contains-append_cases (new ++ resolved_at x) (decisions order count me (later ++ past)) e h) [
        | inl here ↦
            Contains-append_left (old ++ resolved_at x) (decisions order count me (later ++ receives m ∷ past)) e
            (subst (λ (xs : List ℕ). Contains (xs ++ resolved_at x) e) (sym (resolution_again later x)) here)
        | inr there ↦
            Contains-append_right (old ++ resolved_at x) (decisions order count me (later ++ receives m ∷ past)) e (decides_still later e there)
      ]

  pub changes_nothing : ChangesNothing order count me m past
  changes_nothing = record {
    unanswered =
        let said = unworded m at in let resolves = none_again in
        λ i. said i ++ map (λ e. Resolved me e) (resolves i);
    sends = answers_again;
    decides = λ later e. (decides_no_more later e, decides_still later e);
  }
