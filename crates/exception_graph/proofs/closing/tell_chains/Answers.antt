use Rattle.std.proofs.Common.{◌≡◌, ℕ, List, length, sym, ◌∙◌, subst}
use Rattle.exception_graph.specs.inner.Closing.{StayBelow, TellChains}
use Rattle.exception_graph.proofs.Chained.{added_declared, added_chains, added_within, declared_more, order_told}
use Rattle.exception_graph.proofs.closing.tell_chains.Goals as goal

pub returns-clause-chains : goal.returns-clause-chains
returns-clause-chains c =
    let count : ℕ = length c.args.rows.now in
    let pairs : List (ℕ × ℕ) = c.args.pairs.now in
    let bare : List ℕ = c.make_bare.new.rows in
    let added : List ℕ = c.add_pairs.new.rows in
    let closed : List ℕ = c.close.new.rows in
    let many_bare : length bare ≡ count = c.make_bare.ensures.as_many in
    let many_added : length added ≡ count = c.add_pairs.ensures.as_many ∙ many_bare in
    let many_closed : length closed ≡ count = c.close.ensures.as_many ∙ many_added in
    let declares =
    declared_more count pairs c.requires.in_range added closed many_added
    (added_declared count pairs c.requires.in_range bare added many_bare c.make_bare.ensures.bare
    c.add_pairs.ensures) c.close.ensures.more in
    let before : TellChains count pairs added =
    added_chains count pairs c.requires.in_range bare added many_bare c.make_bare.ensures.bare
    c.add_pairs.ensures in
    let chains : TellChains count pairs closed =
    subst (λ (n : ℕ). TellChains n pairs closed) many_added
    (c.close.ensures.chains pairs (subst (λ (n : ℕ). TellChains n pairs added) (sym many_added) before)) in
    let bare_below : StayBelow count bare =
    subst (λ (n : ℕ). StayBelow n bare) many_bare c.make_bare.ensures.within in
    let within : StayBelow count closed =
    c.close.ensures.within count
    (added_within count pairs c.requires.in_range bare added many_bare bare_below c.add_pairs.ensures) in
    order_told count pairs c.requires.in_range closed many_closed declares c.close.ensures.closed chains within
