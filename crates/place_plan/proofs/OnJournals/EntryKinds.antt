-- Entries told apart by their kind, and tests on two of their numbers.
use Rattle.std.proofs.Common.{◌≡◌, ℕ, ◌==◌, true, ◌&&◌}
use Rattle.std.proofs.lemmas.Bool.{and_parts, and_from, eqb-true, eq-eqb}
use Rattle.caa_base.specs.declared.written.entry.Entry.{Entry}
use Rattle.caa_base.specs.declared.written.entry.Kind.{Kind}

-- e, as an entry of this kind: what holds of `of_kind k e` for each k holds of e
abbrev pub of_kind : Kind → Entry → Entry
of_kind k e = record e { kind = k }

-- two numbers each are the same
pub both_same : (a b c d : ℕ) → ((a == b) && (c == d)) ≡ true → (a ≡ b) × (c ≡ d)
both_same a b c d h = let w = and_parts (a == b) (c == d) h in (eqb-true a b w.0, eqb-true c d w.1)

pub from_both : (a b c d : ℕ) → a ≡ b → c ≡ d → ((a == b) && (c == d)) ≡ true
from_both a b c d h k = and_from _ _ (eq-eqb a b h) (eq-eqb c d k)
