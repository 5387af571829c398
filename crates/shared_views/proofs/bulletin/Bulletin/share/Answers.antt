use Rattle.std.proofs.Common.{◌≡◌, ◌<◌, ◌∙◌, refl, ap, sym, subst, set, length}
use Rattle.std.proofs.lemmas.List.{get_or_default, set-get_or}
use Rattle.shared_views.specs.Telling.{IsTold, told_at}
use Rattle.shared_views.specs.declared.bulletin.Announcement.TheVariants as told
use Rattle.shared_views.proofs.bulletin.Bulletin.share.Goals as goal

pub returns-clause-same : goal.returns-clause-same
returns-clause-same c =
    let items = c.args.self.now.told.items in let place = c.args.place in let it = c.index_mut.result.now in
    record {
      cells = refl;
      boxes = refl;
      words = ap (set items place) (c.share.ensures.same ∙ c.index_mut.ensures.value) ∙ set-get_or items place it;
    }

pub returns-clause-told : goal.returns-clause-told
returns-clause-told c = λ x there.
    let items = c.args.self.now.told.items in let place = c.args.place in let it = c.index_mut.result.now in
    let low : place < length items =
    subst (λ n. place < n) (sym c.requires.set.long)
    (subst (λ l. place < length l) (sym c.requires.ours) c.requires.place) in
    let same : it ≡ told_at c.args.self.now place = c.index_mut.ensures.value ∙ get_or_default items place it told.Nothing low in
    c.share.ensures.told x (subst (IsTold c.args.cells.now place x) (sym same) there)
