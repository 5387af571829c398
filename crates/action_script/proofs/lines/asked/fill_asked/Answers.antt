use Rattle.std.proofs.Common.{◌≡◌, ◌+◌, ◌∷◌, ◌++◌, [], drop, map, get_or, add-one, sym, ap, ◌∙◌}
use Rattle.std.proofs.lemmas.List.{append_assoc}
use Rattle.action_script.specs.Lines.Asked.{Asked}
use Rattle.action_script.specs.Lines.Spelling.{asked_of}
use Rattle.action_script.specs.inner.OneLine.{part_at}
use Rattle.action_script.proofs.OnLines.Steadiness.{asked_from}
use Rattle.action_script.proofs.lines.asked.fill_asked.Goals as goal

pub loop-index-preserved : goal.loop-index-preserved
loop-index-preserved c =
    let parts = c.args.parts.now in
    let words = c.args.words.now in
    let i = c.loop-index.index in
    let word : Asked = record { part = part_at parts i; word = (get_or words i (record { ref_ptr = (0, 0); now = [] })).now } in
    let behind = asked_of (drop (i + 1) parts) (map (λ w. w.now) (drop (i + 1) words)) in
    let own : c.push.new.self.items ≡ c.loop-index.asked.items ++ word ∷ [] =
    c.in_ok-push.ensures.items ∙ ap (λ p. c.loop-index.asked.items ++ record { part = p; word = word.word } ∷ []) c.part_at.ensures in
    let next : word ∷ behind ≡ asked_of (drop i parts) (map (λ w. w.now) (drop i words)) =
    rw add-one (sym (asked_from parts words i (record { ref_ptr = (0, 0); now = [] }) c.loop-index-test.true)) in
    ap (λ l. l ++ behind) own ∙ append_assoc c.loop-index.asked.items (word ∷ []) behind ∙ ap (λ l. c.loop-index.asked.items ++ l) next
    ∙ c.loop-index.invariant
