-- How the count of endings goes on.
use Rattle.std.proofs.Common.{◌≡◌, ℕ, ◌+◌, ◌<◌, if◌then◌else◌, List, [], ◌∷◌, ◌++◌, length, take, get_or, sym, ap, ◌∙◌, arith}
use Rattle.std.proofs.lemmas.List.{take_more}
use Rattle.caa_base.specs.declared.written.entry.Entry.{Entry}
use Rattle.cell_workload.specs.Summary.{ends_counted, says_outcome}

ends_counted-push : (mark : ℕ) (entries : List Entry) (e : Entry)
    → ends_counted mark (entries ++ e ∷ []) ≡ ends_counted mark entries + (if says_outcome mark e then 1 else 0)
ends_counted-push mark [] e = omega arith
ends_counted-push mark (first ∷ entries) e = let more = ends_counted-push mark entries e in omega (arith, more)

-- one more entry
pub ends_counted-more : (mark : ℕ) (entries : List Entry) (i : ℕ) (d : Entry) → i < length entries
    → ends_counted mark (take i entries) + (if says_outcome mark (get_or entries i d) then 1 else 0)
    ≡ ends_counted mark (take (i + 1) entries)
ends_counted-more mark entries i d within =
    sym (ap (ends_counted mark) (take_more entries i d within) ∙ ends_counted-push mark (take i entries) (get_or entries i d))
