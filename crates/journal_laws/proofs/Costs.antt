-- What a journal spends of the bound: each role and each place has its part, and no entry takes anything back.
use Rattle.std.proofs.Common.{◌≡◌, sum_by, ap₂, ℕ, ◌==◌, ◌<◌, ◌≤◌, ◌+◌, ◌*◌, Bool, true, false, not, cond, ◌&&◌, ◌||◌, List, [], ◌∷◌, Some, refl, sym, ap, ◌∙◌, arith, suc, zero, length, inl, inr, slice_get, slice_index_or}
use Rattle.std.proofs.lemmas.List.Sums.{sum_by-cons}
use Rattle.std.proofs.lemmas.Bool.{or_cases, eqb-true, false≢true, cases_eq}
use Rattle.std.proofs.lemmas.Option.{get_or_from_slice_get}
use Rattle.caa_base.specs.declared.written.entry.Entry.{Entry}
use Rattle.caa_base.specs.declared.written.entry.Kind.TheVariants as kind
use Rattle.place_plan.specs.declared.drafts.draft_rows.RoleRow.{RoleRow}
use Rattle.place_plan.specs.declared.drafts.draft_rows.HandlerRow.{HandlerRow}
use Rattle.place_plan.specs.Plans.PlanValue.{Plan, PlaceRow}
use Rattle.caa_base.specs.Written.Lists.{member, index_of}
use Rattle.caa_base.specs.inner.Lists.{one_if}
use Rattle.place_plan.specs.Plans.Places.{roles_of, objects_of, action_at, action_in, place_at, no_role, no_place, handler_in, body_of, handler_of}
use Rattle.place_plan.specs.RulesOfJournals.Entries.{is_in, is_by, has, has_by}
use Rattle.place_plan.specs.RulesOfJournals.Whereabouts.{has_started, has_ended, is_undoing}
use Rattle.place_plan.specs.RulesOfJournals.Raising.{has_handled, halts_in, is_halted}
use Rattle.place_plan.specs.RulesOfJournals.Objects.{is_tried}
use Rattle.place_plan.specs.RulesOfJournals.Roles.{advances, or_idle, has_aborted}
use Rattle.place_plan.specs.Plans.Bound.{longest_body, longest_of, longest_handler, action_bound, row_bound}

-- ---- sums

pub one_if_or : (x b : Bool) → one_if b ≤ one_if (x || b)
one_if_or true true = omega arith
one_if_or true false = omega arith
one_if_or false b = omega arith

pub one_if_up : (x b : Bool) → x ≡ true → b ≡ false → one_if b < one_if (x || b)
one_if_up x b h k = rw (h, k) (omega arith)

one_if_most : (b : Bool) → one_if b ≤ 1
one_if_most true = omega arith
one_if_most false = omega arith

-- of two tests, each may begin to pass
one_if_either : (x l y w : Bool) → one_if (l || w) ≤ one_if ((x || l) || (y || w))
one_if_either true true y w = omega arith
one_if_either true false y true = omega arith
one_if_either true false y false = omega arith
one_if_either false true y w = omega arith
one_if_either false false y w = one_if_or y w

-- the sum over a list
adds : (ℕ → ℕ) → List ℕ → ℕ
adds f [] = 0
adds f (t ∷ ts) = f t + adds f ts

adds_up : (f g : ℕ → ℕ) (ts : List ℕ) → ((t : ℕ) → f t ≤ g t) → adds f ts ≤ adds g ts
unfolding adds
adds_up f g [] h = omega arith
adds_up f g (t ∷ ts) h = omega (arith, h t, adds_up f g ts h)

adds_more : (f g : ℕ → ℕ) (ts : List ℕ) (x : ℕ) → ((t : ℕ) → f t ≤ g t) → member x ts ≡ true → f x < g x → adds f ts < adds g ts
unfolding adds
adds_more f g [] x h m l = absurd (false≢true m)
adds_more f g (t ∷ ts) x h m l =
    elim (or_cases _ _ m) [
      | inl e ↦ let here : f t < g t = rw (eqb-true t x e) l in omega (arith, here, adds_up f g ts h)
      | inr e ↦ omega (arith, h t, adds_more f g ts x h e l)
    ]

adds_within : (f : ℕ → ℕ) (ts : List ℕ) (b : ℕ) → ((t : ℕ) → f t ≤ b) → adds f ts ≤ length ts * b
unfolding adds
adds_within f [] b h = omega arith
adds_within f (t ∷ ts) b h = omega (arith, h t, adds_within f ts b h)

-- the sum of f at each number below n
abbrev pub total : (ℕ → ℕ) → ℕ → ℕ
total f zero = 0
total f (suc n) = f n + total f n

total_first : (f : ℕ → ℕ) (n : ℕ) → total f (suc n) ≡ f 0 + total (λ k. f (suc k)) n
total_first f zero = omega arith
total_first f (suc n) = omega (arith, total_first f n)

-- the sum at the indices of a table is the sum over its rows
pub total_rows : (f : ℕ → ℕ) (g : PlaceRow → ℕ) (rows : List PlaceRow)
    → ((k : ℕ) (r : PlaceRow) → slice_get rows k ≡ Some r → f k ≡ g r) → total f (length rows) ≡ sum_by g rows
total_rows f g [] h = refl
total_rows f g (r ∷ rows) h =
    total_first f (length rows)
    ∙ ap₂ (λ m n. m + n) (h 0 r refl) (total_rows (λ k. f (suc k)) g rows (λ k x e. h (suc k) x e))
    ∙ sym (sum_by-cons g r rows)

pub total_up : (f g : ℕ → ℕ) (n : ℕ) → ((p : ℕ) → f p ≤ g p) → total f n ≤ total g n
total_up f g zero h = omega arith
total_up f g (suc n) h = omega (arith, h n, total_up f g n h)

pub total_more : (f g : ℕ → ℕ) (n p : ℕ) → p < n → ((q : ℕ) → f q ≤ g q) → f p < g p → total f n < total g n
total_more f g zero p l h k = absurd (omega arith)
total_more f g (suc n) p l h k =
    elim (cases_eq p n) [
      | inl e ↦ let here : f n < g n = rw (← e) k in omega (arith, here, total_up f g n h)
      | inr e ↦ omega (arith, h n, total_more f g n p (omega arith) h k)
    ]

-- ---- counters that never fall

-- how many steps t has made in p, in its body and in its handler
abbrev pub walked : Plan → List Entry → ℕ → ℕ → ℕ
walked plan [] p t = 0
walked plan (e ∷ past) p t = one_if (advances plan past p e e.kind && (e.by == t)) + walked plan past p t

-- t gave a verdict in p before p was resolved
abbrev pub has_said_before : List Entry → ℕ → ℕ → Bool
has_said_before [] p t = false
has_said_before (e ∷ past) p t = (is_by kind.Verdict p t e && not (has kind.Resolve past p)) || has_said_before past p t

-- and one after it
abbrev pub has_said_after : List Entry → ℕ → ℕ → Bool
has_said_after [] p t = false
has_said_after (e ∷ past) p t = (is_by kind.Verdict p t e && has kind.Resolve past p) || has_said_after past p t

-- a put of t was refused in its handler in p
abbrev pub was_refused_once : List Entry → ℕ → ℕ → Bool
was_refused_once [] p t = false
was_refused_once (e ∷ past) p t = (is_by kind.PutFault p t e && has_by kind.Handle past p t) || was_refused_once past p t

-- ---- the part of a role

-- t has gone out of p, or away from it
abbrev pub has_gone : List Entry → ℕ → ℕ → Bool
has_gone past p t = has_by kind.Leave past p t || has_by kind.Withdraw past p t

-- what t has spent in p
unfoldable pub role_cost : Plan → List Entry → ℕ → ℕ → ℕ
role_cost plan past p t =
    one_if (has_by kind.Arrive past p t) + one_if (has_gone past p t) + one_if (is_halted plan past p t) + one_if (has_said_before past p t)
    + one_if (has_said_after past p t) + one_if (has_handled past p t) + one_if (was_refused_once past p t) + one_if (has_aborted past p t)
    + walked plan past p t

pub role_up : (plan : Plan) (past : List Entry) (e : Entry) (p t : ℕ) → role_cost plan past p t ≤ role_cost plan (e ∷ past) p t
unfolding role_cost
role_up plan past e p t =
    let came = one_if_or (is_by kind.Arrive p t e) (has_by kind.Arrive past p t) in
    let gone =
    one_if_either (is_by kind.Leave p t e) (has_by kind.Leave past p t) (is_by kind.Withdraw p t e)
    (has_by kind.Withdraw past p t) in
    let halted = one_if_or (halts_in plan past p e e.kind && (e.by == t)) (is_halted plan past p t) in
    let before = one_if_or (is_by kind.Verdict p t e && not (has kind.Resolve past p)) (has_said_before past p t) in
    let after = one_if_or (is_by kind.Verdict p t e && has kind.Resolve past p) (has_said_after past p t) in
    let handled = one_if_or (is_by kind.Handle p t e) (has_handled past p t) in
    let refused = one_if_or (is_by kind.PutFault p t e && has_by kind.Handle past p t) (was_refused_once past p t) in
    let aborted = one_if_or (is_by kind.Abort p t e) (has_aborted past p t) in
    omega arith

-- a role spends no more than its part, where it makes no more steps than a body and a handler have
role_within : (plan : Plan) (past : List Entry) (p t n : ℕ) → walked plan past p t ≤ n → role_cost plan past p t ≤ 8 + n
unfolding role_cost
role_within plan past p t n h =
    omega (
      arith,
      one_if_most (has_by kind.Arrive past p t),
      one_if_most (has_gone past p t),
      one_if_most (is_halted plan past p t),
      one_if_most (has_said_before past p t),
      one_if_most (has_said_after past p t),
      one_if_most (has_handled past p t),
      one_if_most (was_refused_once past p t),
      one_if_most (has_aborted past p t),
    )

longest_at : (rs : List RoleRow) (i : ℕ) → length (slice_index_or rs i no_role).body.steps ≤ longest_body rs
longest_at [] i = omega arith
longest_at (r ∷ rs) zero = omega arith
longest_at (r ∷ rs) (suc i) = omega (arith, longest_at rs i)

longest_found : (x : ℕ) (hs : List HandlerRow) → length (or_idle (handler_in x hs)).steps ≤ longest_of hs
longest_found x [] = omega arith
longest_found x (h ∷ hs) = by_test (h.exception == x) (longest_found x hs)
  where
    by_test : (b : Bool) → length (or_idle (handler_in x hs)).steps ≤ longest_of hs
        → length (or_idle (cond b (Some h.program) (handler_in x hs))).steps ≤ longest_of (h ∷ hs)
    by_test true ih = omega arith
    by_test false ih = omega arith

longest_handler_at : (x : ℕ) (rs : List RoleRow) (i : ℕ)
    → length (or_idle (handler_in x (slice_index_or rs i no_role).handlers)).steps ≤ longest_handler rs
longest_handler_at x [] i = omega arith
longest_handler_at x (r ∷ rs) zero = omega (arith, longest_found x r.handlers)
longest_handler_at x (r ∷ rs) (suc i) = omega (arith, longest_handler_at x rs i)

-- no body is longer than the longest of its place, and no handler
pub body_within : (plan : Plan) (p t : ℕ) → length (body_of plan p t).steps ≤ longest_body (action_at plan p).roles
body_within plan p t = longest_at (action_at plan p).roles (index_of t (roles_of plan p))

pub handler_within : (plan : Plan) (p t x : ℕ) → length (or_idle (handler_of plan p t x)).steps ≤ longest_handler (action_at plan p).roles
handler_within plan p t x = longest_handler_at x (action_at plan p).roles (index_of t (roles_of plan p))

-- ---- the part of a place

-- how many of its stages p has come to
unfoldable pub stages : List Entry → ℕ → ℕ
stages past p = one_if (has_started past p) + one_if (has kind.Resolve past p) + one_if (is_undoing past p) + one_if (has_ended past p)

stages_up : (past : List Entry) (e : Entry) (p : ℕ) → stages past p ≤ stages (e ∷ past) p
unfolding stages
stages_up past e p =
    omega (
      arith,
      one_if_or (is_in kind.Start p e) (has_started past p),
      one_if_or (is_in kind.Resolve p e) (has kind.Resolve past p),
      one_if_or (is_in kind.Undo p e) (is_undoing past p),
      one_if_or (is_in kind.End p e) (has_ended past p),
    )

-- how often an object was tried
abbrev pub tries_of : List Entry → ℕ → ℕ → ℕ
tries_of past p o = one_if (is_tried past p o)

tries_up : (past : List Entry) (e : Entry) (p o : ℕ) → tries_of past p o ≤ tries_of (e ∷ past) p o
tries_up past e p o = one_if_or (is_in kind.Restore p e && (e.arg == o)) (is_tried past p o)

-- what is spent in p
pub place_cost : Plan → List Entry → ℕ → ℕ
place_cost plan past p = stages past p + adds (tries_of past p) (objects_of plan p) + adds (role_cost plan past p) (roles_of plan p)

pub place_up : (plan : Plan) (past : List Entry) (e : Entry) (p : ℕ) → place_cost plan past p ≤ place_cost plan (e ∷ past) p
unfolding place_cost
place_up plan past e p =
    omega (
      arith,
      stages_up past e p,
      adds_up (tries_of past p) (tries_of (e ∷ past) p) (objects_of plan p) (tries_up past e p),
      adds_up (role_cost plan past p) (role_cost plan (e ∷ past) p) (roles_of plan p) (role_up plan past e p),
    )

-- a place spends more where it comes to a stage, tries an object, or one of its roles spends more

pub stage_spent : (plan : Plan) (past : List Entry) (e : Entry) (p : ℕ) → stages past p < stages (e ∷ past) p
    → place_cost plan past p < place_cost plan (e ∷ past) p
unfolding place_cost
stage_spent plan past e p h =
    omega (
      arith,
      adds_up (tries_of past p) (tries_of (e ∷ past) p) (objects_of plan p) (tries_up past e p),
      adds_up (role_cost plan past p) (role_cost plan (e ∷ past) p) (roles_of plan p) (role_up plan past e p),
    )

pub object_spent : (plan : Plan) (past : List Entry) (e : Entry) (p o : ℕ) → member o (objects_of plan p) ≡ true
    → tries_of past p o < tries_of (e ∷ past) p o → place_cost plan past p < place_cost plan (e ∷ past) p
unfolding place_cost
object_spent plan past e p o m h =
    omega (
      arith,
      stages_up past e p,
      adds_more (tries_of past p) (tries_of (e ∷ past) p) (objects_of plan p) o (tries_up past e p) m h,
      adds_up (role_cost plan past p) (role_cost plan (e ∷ past) p) (roles_of plan p) (role_up plan past e p),
    )

pub role_spent : (plan : Plan) (past : List Entry) (e : Entry) (p t : ℕ) → member t (roles_of plan p) ≡ true
    → role_cost plan past p t < role_cost plan (e ∷ past) p t → place_cost plan past p < place_cost plan (e ∷ past) p
unfolding place_cost
role_spent plan past e p t m h =
    omega (
      arith,
      stages_up past e p,
      adds_up (tries_of past p) (tries_of (e ∷ past) p) (objects_of plan p) (tries_up past e p),
      adds_more (role_cost plan past p) (role_cost plan (e ∷ past) p) (roles_of plan p) t (role_up plan past e p) m h,
    )

-- ---- bounds

-- how many entries a place may have
pub place_bound : Plan → ℕ → ℕ
place_bound plan p = action_bound (action_at plan p) (length (roles_of plan p))

stages_within : (past : List Entry) (p : ℕ) → stages past p ≤ 4
unfolding stages
stages_within past p =
    omega (
      arith,
      one_if_most (has_started past p),
      one_if_most (has kind.Resolve past p),
      one_if_most (is_undoing past p),
      one_if_most (has_ended past p),
    )

pub place_within : (plan : Plan) (past : List Entry) (p : ℕ)
    → ((t : ℕ) → walked plan past p t ≤ longest_body (action_at plan p).roles + longest_handler
    (action_at plan p).roles) → place_cost plan past p ≤ place_bound plan p
unfolding place_cost place_bound action_bound
place_within plan past p h =
    omega (
      arith,
      stages_within past p,
      adds_within (tries_of past p) (objects_of plan p) 1 (λ o. one_if_most (is_tried past p o)),
      adds_within (role_cost plan past p) (roles_of plan p)
          (8 + longest_body (action_at plan p).roles + longest_handler (action_at plan p).roles) (λ t. role_fits t),
    )
  where
    role_fits : (t : ℕ) → role_cost plan past p t ≤ 8 + longest_body (action_at plan p).roles + longest_handler (action_at plan p).roles
    role_fits t =
        omega (
          arith,
          role_within plan past p t
              (longest_body (action_at plan p).roles + longest_handler (action_at plan p).roles) (h t),
        )

-- and that is what the bound says of its row
pub place_row : (plan : Plan) (p : ℕ) (r : PlaceRow) → slice_get plan.places p ≡ Some r → place_bound plan p ≡ row_bound plan.actions r
unfolding place_bound
place_row plan p r h =
    let row : place_at plan p ≡ r = get_or_from_slice_get plan.places p r no_place h in
    ap₂ action_bound (ap (action_in plan) h) (ap (λ (x : PlaceRow). length x.roles) row)
