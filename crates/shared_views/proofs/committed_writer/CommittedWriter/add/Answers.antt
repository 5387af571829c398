use Rattle.std.proofs.Common.{rules, ◌≡◌, ◌∙◌, ◌<◌, ◌++◌, ◌∷◌, [], false, ℕ, All, length, drop, is_some, ap, sym, subst}
use Rattle.shared_views.specs.Publications.{Changes}
use Rattle.shared_views.specs.inner.Boards.{IsRight, Follows}
use Rattle.shared_views.specs.declared.board.Board.{Board}
use Rattle.shared_views.specs.declared.publications.Publication.{Publication}
use Rattle.shared_views.proofs.committed_writer.CommittedWriter.add.Goals as goal

pub replace_with-requires : goal.replace_with-requires
replace_with-requires g c =
    let w = c.self.inside.writer in let x : Board = w.desk.shown.value in let y : Board = c.append.new.self.desk.shown.value in
    let p : Publication = c.in_ok-publication.publication in
    let is = c.in_ok-publication.ensures in
    let seen = c.self.view_is in
    let same : x ≡ y = ap (λ d. d.shown.value) (sym c.append.ensures.desk) in
    let fresh : is_some c.self.inside.refused ≡ false = ap (λ k. k.is_stale) seen ∙ c.requires.fresh in
    let idle : drop w.behind w.log.items ≡ [] = c.self.invariant.idle fresh in
    let whole = c.self.invariant.whole fresh in
    let wide : length c.args.self.now.initials ≡ length x.given.items = sym (c.self.invariant.wide ∙ ap (λ k. length k.initials) seen) in
    let changes : c.args.changes.now ≡ p.changes.items = search rules in
    let follows : Follows x p = record {
      low = subst (λ (t : ℕ × Changes). All (λ c. c.0 < t.0) t.1) (λ i. (wide i, changes i)) c.requires.objects;
      book = ap (λ k. k.book) is.all ∙ (is.book ∙ ap (λ k. k.book) whole);
      more = ap (λ k. k.list) is.all ∙ (is.more ∙ (λ i. (whole i).list ++ sym is.changes i ∷ []));
    } in (
      subst IsRight same c.self.invariant.right,
      (p, c.in-Ok.ensures.pending ∙ ap (λ l. l ++ p ∷ []) idle, subst (λ b. Follows b p) same follows),
    )
