-- Seats of one manager.
use Rattle.std.proofs.Common.{◌≡◌, sym, ap, subst}
use Rattle.atomic_table.specs.Seated.{TableId}
use Rattle.action_manager.specs.declared.lock_view.Terms.{Terms}
use Rattle.action_manager.specs.declared.seat.Seat.{Seat}
use Rattle.action_manager.specs.Seats.{IsSeatOf, IsBeside}

terms_are : {M : Type 0} (table : TableId) (terms : Terms) (s : Seat M) → IsSeatOf table terms s → s.token.me.0.terms ≡ terms
terms_are table terms s opened = ap (λ m. m.0.terms) opened.rests

-- two seats of a manager are beside each other
pub both_beside : {M : Type 0} (table : TableId) (terms : Terms) (s r : Seat M) → IsSeatOf table terms s
    → IsSeatOf table terms r → IsBeside s r
both_beside table terms s r first second =
    subst (λ (x : TableId × Terms). IsSeatOf x.0 x.1 r)
    (λ i. (sym first.here i, sym (terms_are table terms s first) i)) second

-- what is beside a seat of a manager is one too
pub beside_opened : {M : Type 0} (table : TableId) (terms : Terms) (s r : Seat M) → IsSeatOf table terms s
    → IsBeside s r → IsSeatOf table terms r
beside_opened table terms s r first beside =
    subst (λ (x : TableId × Terms). IsSeatOf x.0 x.1 r) (λ i. (first.here i, terms_are table terms s first i)) beside
