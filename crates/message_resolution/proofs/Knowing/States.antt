-- A state tells whether its member has raised or spoken.
use Rattle.std.proofs.Common.{◌≡◌, ℕ, ◌<◌, ◌==◌, ◌||◌, Bool, true, false, List, [], ◌∷◌, length, slice_index_or, slice_set, inl, inr, refl, sym, ◌∙◌, ap, All}
use Rattle.std.proofs.lemmas.Bool.{eq-eqb, ne_eqb, cases_eq, or_right}
use Rattle.std.proofs.lemmas.List.{get_or-set_same, get_or-set_other}
use Rattle.message_resolution.specs.declared.node.message.Message.TheVariants as message
use Rattle.message_resolution.specs.declared.node.state.State.TheVariants.{Normal, Raised, Suspended}
use Rattle.message_resolution.specs.Members.LocalEvents.{LocalEvent, raises, receives, own, told, told_at, has_raised, has_spoken}
use Rattle.message_resolution.specs.Members.Nodes.{MayMeet, state_with, state_of}
use Rattle.cover_table.specs.Cover.{CoverOrder}
use Rattle.std.proofs.lemmas.List.Elements.{All-nil, All-cons, All-head, All-tail, All-append}

-- who has raised something has raised, and has spoken
pub own_raised : (past : List LocalEvent) (e : ℕ) (earlier : List ℕ) → own past ≡ e ∷ earlier → has_raised past ≡ true
own_raised [] e earlier some = absurd cc
own_raised (raises x ∷ past) e earlier some = refl
own_raised (receives m ∷ past) e earlier some = own_raised past e earlier some

pub own_nothing : (past : List LocalEvent) → own past ≡ [] → has_raised past ≡ false
own_nothing [] none = refl
own_nothing (raises x ∷ past) none = absurd cc
own_nothing (receives m ∷ past) none = own_nothing past none

pub raised_spoken : (past : List LocalEvent) → has_raised past ≡ true → has_spoken past ≡ true
raised_spoken [] holds = absurd cc
raised_spoken (raises x ∷ past) holds = refl
raised_spoken (receives (message.Raised u e) ∷ past) holds = refl
raised_spoken (receives (message.Suspended u) ∷ past) holds = raised_spoken past holds
raised_spoken (receives (message.Resolved u e) ∷ past) holds = raised_spoken past holds

-- the three states, and what each tells
with_normal : (xs : List ℕ) (spoken : Bool) → state_with xs spoken ≡ Normal → (xs ≡ []) × (spoken ≡ false)
with_normal [] true is = absurd cc
with_normal [] false is = (refl, refl)
with_normal (x ∷ xs) spoken is = absurd cc

with_suspended : (xs : List ℕ) (spoken : Bool) → state_with xs spoken ≡ Suspended → (xs ≡ []) × (spoken ≡ true)
with_suspended [] true is = (refl, refl)
with_suspended [] false is = absurd cc
with_suspended (x ∷ xs) spoken is = absurd cc

with_raised : (xs : List ℕ) (spoken : Bool) (e : ℕ) → state_with xs spoken ≡ Raised e → (earlier : List ℕ) × (xs ≡ e ∷ earlier)
with_raised [] true e is = absurd cc
with_raised [] false e is = absurd cc
with_raised (x ∷ xs) spoken e is = let same : x ≡ e = cc in (xs, ap (λ y. y ∷ xs) same)

module _ (past : List LocalEvent) where
  pub normal : state_of past ≡ Normal → (own past ≡ []) × (has_spoken past ≡ false)
  normal is = with_normal (own past) (has_spoken past) is

  pub suspended : state_of past ≡ Suspended → (own past ≡ []) × (has_spoken past ≡ true)
  suspended is = with_suspended (own past) (has_spoken past) is

  pub raised : (e : ℕ) → state_of past ≡ Raised e → (earlier : List ℕ) × (own past ≡ e ∷ earlier)
  raised e is = with_raised (own past) (has_spoken past) e is

-- one more member was heard
pub heard_more : (heard : List Bool) (from me u : ℕ) (before : Bool) → from < length heard
    → slice_index_or heard u false ≡ (u == me || before)
    → slice_index_or (slice_set heard from true) u false ≡ (u == me || (from == u || before))
heard_more heard from me u before fits was = elim (cases_eq from u) [
  | inl same ↦ rw (sym same) (get_or-set_same heard from true false fits
      ∙ sym (or_right (from == me) (from == from || before) (rw (eq-eqb from from refl))))
  | inr other ↦ get_or-set_other heard from u true false (λ same. other (sym same)) ∙ was
      ∙ ap (λ b. u == me || (b || before)) (sym (ne_eqb from u other))
]

-- without the state Raised nothing was raised
own_cases : (past : List LocalEvent) (xs : List ℕ) → own past ≡ xs → ((e : ℕ) → state_of past ≡ Raised e → ⊥) → has_raised past ≡ false
own_cases past [] is other = own_nothing past is
own_cases past (e ∷ xs) is other = absurd (other e (ap (λ ys. state_with ys (has_spoken past)) is))

pub not_raised : (past : List LocalEvent) → ((e : ℕ) → state_of past ≡ Raised e → ⊥) → has_raised past ≡ false
not_raised past other = own_cases past (own past) refl other

-- who has raised was told something
pub raised_told : (past : List LocalEvent) → has_raised past ≡ true → told past ≡ [] → ⊥
raised_told [] holds none = absurd cc
raised_told (raises x ∷ past) holds none = absurd cc
raised_told (receives (message.Raised u e) ∷ past) holds none = absurd cc
raised_told (receives (message.Suspended u) ∷ past) holds none = raised_told past holds none
raised_told (receives (message.Resolved u e) ∷ past) holds none = raised_told past holds none

-- all that a member is told is in range
told_at_in : (order : CoverOrder) (count me : ℕ) (x : LocalEvent) → MayMeet order count me x → All (λ e. e < order.count) (told_at x)
told_at_in order count me (raises e) may = All-cons (λ n. n < order.count) e [] may (All-nil (λ n. n < order.count))
told_at_in order count me (receives (message.Raised u e)) may =
    All-cons (λ n. n < order.count) e [] may.0.1 (All-nil (λ n. n < order.count))
told_at_in order count me (receives (message.Suspended u)) may = All-nil (λ n. n < order.count)
told_at_in order count me (receives (message.Resolved u e)) may = All-nil (λ n. n < order.count)

pub told_in : (order : CoverOrder) (count me : ℕ) (past : List LocalEvent) → All (MayMeet order count me) past
    → All (λ e. e < order.count) (told past)
told_in order count me [] met = All-nil (λ n. n < order.count)
told_in order count me (x ∷ past) met =
    All-append (λ n. n < order.count) (told_at x) (told past)
    (told_at_in order count me x (All-head (MayMeet order count me) x past met))
    (told_in order count me past (All-tail (MayMeet order count me) x past met))
