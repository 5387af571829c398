use Rattle.std.proofs.Common.{◌≡◌, ◌↔◌, ℕ, ◌<◌, Bool, true, false, if◌then◌else◌, List, ◌∷◌, length, slice_index_or, sym, ap, ◌∙◌, subst}
use Rattle.std.specs.List.{list_all}
use Rattle.interlock_rules.specs.Interlocks.{Breaks}
use Rattle.interlock_rules.specs.inner.Watched.{fit_after, sure_after, object_of, is_always, no_part}
use Rattle.interlock_rules.specs.declared.rules.Part.{Part}
use Rattle.interlock_rules.proofs.Watching.{entry_breaks, watches_next}
use Rattle.interlock_rules.proofs.watch.Watch.take_in.Goals as goal

pub returns-clause-broken : goal.returns-clause-broken
returns-clause-broken c = λ plan past kept.
    let w = c.args.rule.now.when in
    let parts = c.args.rule.now.parts in
    let e = c.args.entry.now in
    let old = c.args.self.now in
    let new = c.note_fits.new.fits.items in
    let after = watches_next parts (object_of w) plan past e old.fits.items new old.sure c.sure_after-self.result kept
    (c.note_fits.ensures.count ∙ ap length c.as_slice.ensures)
    (subst (λ (ps : List Part). (k : ℕ) → k < length ps
    → slice_index_or new k false ≡ fit_after (slice_index_or ps k no_part) e (slice_index_or old.fits.items k false))
    c.as_slice.ensures c.note_fits.ensures.fits)
    (c.sure_after-self.ensures ∙ ap (λ o. sure_after o e old.sure) c.object_of.ensures) in
    let told = c.is_broken.ensures
    ∙ ap (λ b. if is_always w then b else c.is_asked-was_asked.result) c.all_fit.ensures
    ∙ ap (λ b. if is_always w then list_all (λ fit. fit) new else b) c.is_asked-was_asked.ensures in
    subst (λ (b : Bool). (b ≡ true) ↔ Breaks c.args.rule.now plan (e ∷ past)) (sym told)
    (entry_breaks w parts plan past e old.fits.items new old.sure c.sure_after-self.result kept after)
