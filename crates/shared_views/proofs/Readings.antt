-- What was read stays right when more is published.
use Rattle.std.proofs.Common.{◌≡◌, ◌∙◌, ℕ, ◌≤◌, ℤ, List, length, take, ap, sym, arith, le_of_eq}
use Rattle.std.proofs.lemmas.List.{take_all, take-append-le}
use Rattle.shared_views.specs.Publications.{Known, Begins, value_after}
use Rattle.shared_views.specs.Committing.{IsReading, WasRead}
use Rattle.shared_views.specs.declared.observed.Reading.{Reading}
use Rattle.shared_views.proofs.Beginnings.{beginning_length}

pub was_read : (initials : List ℤ) (all : Known) (o : ℕ) (r : Reading) → IsReading initials all o r → WasRead initials all o r
was_read initials all o r is =
    let low : length all.list ≤ r.ends = le_of_eq (sym is.ends) in
    record { ends = le_of_eq is.ends; value = is.value ∙ ap (λ l. value_after initials l o) (sym (take_all r.ends all.list low)) }

pub still_read : (initials : List ℤ) (before after : Known) (o : ℕ) (r : Reading) → Begins before after
    → WasRead initials before o r → WasRead initials after o r
still_read initials before after o r begins was =
    let rest = begins.list.0 in
    let all : take r.ends after.list ≡ take r.ends before.list =
    ap (take r.ends) (sym begins.list.1) ∙ take-append-le r.ends before.list rest was.ends in
    record {
      ends = omega (arith, was.ends, beginning_length before.list after.list begins.list);
      value = was.value ∙ ap (λ l. value_after initials l o) (sym all);
    }
